-- What a node shows at the end of a life makes it one of its plan.
use Rattle.std.proofs.Common.{◌≡◌, ◌∙◌, ◌⊎◌, inl, inr, ℕ, ◌<◌, ◌≤◌, Bool, true, false, List, length, map, refl, sym, ap, subst, arith}
use Rattle.std.specs.Prelude.{All, slice_index_or}
use Rattle.std.specs.List.{range_with_len}
use Rattle.std.proofs.lemmas.List.Elements.{All-contains}
use Rattle.flash_model.specs.Chip.{Chip}
use Rattle.machine_contract.specs.declared.answers.Hand.TheVariants as H
use Rattle.machine_contract.specs.Opening.{EachRecovered}
use Rattle.machine_contract.specs.Standing.{IsLeftBy, past_now}
use Rattle.mesh_types.specs.declared.history.Sent.{Sent}
use Rattle.mesh_types.specs.declared.events.Event.{Event}
use Rattle.mesh_types.specs.declared.report.Opened.TheVariants as W
use Rattle.report_definitions.specs.Record.{Life}
use Rattle.event_definitions.specs.Role.{Role}
use Rattle.run_definitions.specs.Order.{Step, is_cut, is_outside, phases_of}
use Rattle.run_definitions.specs.RunOf.{LifeOf}
use Rattle.seq_word.specs.Rule.{IsEndOf, IsWithin, times}
use Rattle.seq_word.specs.Seen.{DrawerView}
use Rattle.seq_word.specs.declared.looks.Look.TheVariants as saw
use Rattle.store_definitions.specs.Config.{config_of}
use Rattle.locked_node.specs.Node.{NodeView, event_in}
use Rattle.locked_node.specs.Stands.{IsNode}
use Rattle.life_laws.specs.Hands.{HoldsNext, IsNextIn}
use Rattle.life_laws.specs.Pairs.{PairsSo}
use Rattle.life_laws.specs.Phases.{AreOrdered, entries_by}
use Rattle.life_laws.proofs.Drawing.{is_drawn, is_spent}
use Rattle.life_laws.proofs.OneLife.{life_of}
use Rattle.mesh_node.specs.Going.{IsOver}

-- where an event is in hand a bearer stopped
stopped_by : {F : Type 0} (role : Role) (image : List ℕ → Type 0) (chip : F → Chip) (node : NodeView F) → IsNode role image chip node → (event : Event) → node.machine.hand ≡ H.OfEvent event → 0 < node.stops
stopped_by role image chip node h event hand = by_closed node.machine.closed refl where
  by_closed : (b : Bool) → node.machine.closed ≡ b → 0 < node.stops
  by_closed true is = h.stopped is
  by_closed false is = absurd (let bad : H.OfEvent event ≡ H.Nothing = sym hand ∙ h.life.idle is in cc)

-- so it comes where that bearer has it next
pub holds_next : {F : Type 0} (role : Role) (image : List ℕ → Type 0) (chip : F → Chip) (phases : List (List (List Event))) (node : NodeView F) (d : DrawerView) (sends : List (List Sent))
    → IsNode role image chip node → IsOver phases node d sends → HoldsNext phases node.machine.entries sends node.machine
holds_next role image chip phases node d sends h over = λ event hand out. over.hand (stopped_by role image chip node h event hand) event (ap event_in hand) out

module _ {F : Type 0} (role : Role) (image : List ℕ → Type 0) (chip : F → Chip) (plan : List Step) (node : NodeView F) (d : DrawerView) (sends : List (List Sent)) (l : Life)
    (h : IsNode role image chip node) (over : IsOver (phases_of plan) node d sends)
    (entries : l.entries ≡ node.machine.entries) (refills : l.refills ≡ node.machine.fills) (lines : l.sends ≡ sends) (cut : is_cut l.end ≡ node.machine.closed)
    (runs : (config_of h.over).reset ≡ false) (opened : l.opened ≡ W.On (config_of h.over).iv (config_of h.over).mark)
    (next mark : ℕ) (order : next ≤ mark) (marks : mark ≡ node.machine.mark)
    (from : All (λ x. (config_of h.over).mark ≤ x) d.drawn) (below : All (λ x. x < next) d.drawn) (once : (x : ℕ) → times x d.drawn ≤ 1) (seen : All (IsWithin next mark) d.looks) (ends : All (IsEndOf (config_of h.over).mark d.drawn) d.looks) where
  cut_stops : 0 < node.stops → is_cut l.end ≡ true
  cut_stops some = by_closed node.machine.closed refl where
    by_closed : (b : Bool) → node.machine.closed ≡ b → is_cut l.end ≡ true
    by_closed true is = cut ∙ is
    by_closed false is = absurd (let none : node.stops ≡ 0 = h.live is in omega (arith, some, none))

  hand_cut : (node.machine.hand ≡ H.Nothing) ⊎ (is_cut l.end ≡ true)
  hand_cut = by_closed node.machine.closed refl where
    by_closed : (b : Bool) → node.machine.closed ≡ b → (node.machine.hand ≡ H.Nothing) ⊎ (is_cut l.end ≡ true)
    by_closed true is = inr (cut ∙ is)
    by_closed false is = inl (h.life.idle is)

  in_hand : (event : Event) → node.machine.hand ≡ H.OfEvent event → is_outside event ≡ true → IsNextIn (phases_of plan) l.entries event
  in_hand event hand out = subst (λ es. IsNextIn (phases_of plan) es event) (sym entries) (over.next (stopped_by role image chip node h event hand) event (ap event_in hand) out)

  pub each_life : EachRecovered (chip node.flash) (λ after. LifeOf role plan h.over l after)
  each_life content after is_image recovers =
      let left = h.life.left content after is_image recovers in
      let high : mark ≤ (config_of after).mark = subst (λ m. m ≤ (config_of after).mark) (sym marks) left.1 in
      let pairs = subst (λ es. PairsSo es node.machine.moves l.sends d) (sym entries) (subst (λ ss. PairsSo node.machine.entries node.machine.moves ss d) (sym lines) over.pairs) in
      life_of role plan h.over after h.life.told l node.machine.hand over.ends runs opened (h.life.entries ∙ sym entries) h.life.handled
      (λ k. subst (λ es. map (λ e. e.number) (entries_by k es) ≡ range_with_len 1 (length (entries_by k es))) (sym entries) (over.numbers k))
      (subst (λ es. AreOrdered (is_cut l.end) (phases_of plan) es l.sends over.ends) (sym entries) (subst (λ ss. AreOrdered (is_cut l.end) (phases_of plan) node.machine.entries ss over.ends) (sym lines) (over.ordered (is_cut l.end) cut_stops)))
      (subst (λ n. IsLeftBy role (past_now role h.over h.life.told n) node.machine.hand after) (sym refills) left.0) hand_cut in_hand
      (is_drawn h.over after l node.machine.moves d pairs from (λ k x lt. let low : slice_index_or d.drawn k x < next = below k x lt in omega (arith, low, order, high)) once)
      (is_spent h.over after l node.machine.moves d pairs (λ word c. let low : word ≤ next = All-contains (IsWithin next mark) d.looks (saw.Counter word) seen c in omega (arith, low, order, high)) ends)

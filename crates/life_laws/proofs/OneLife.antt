-- A life is one of its plan.
use Rattle.std.proofs.Common.{◌≡◌, ◌∙◌, ◌≢◌, ◌⊎◌, ⊎_elim, ℕ, suc, ◌<◌, ◌≤◌, true, false, true≢false, Bool, List, [], ◌∷◌, length, map, take, refl, sym, ap, subst, arith}
use Rattle.std.specs.Prelude.{◌^◌, All, AllPairs, IsTrue}
use Rattle.std.specs.List.{filter, filter_map, flat_map, range_with_len, slice_get}
use Rattle.std.proofs.lemmas.List.Elements.{All-nil}
use Rattle.mesh_types.specs.declared.events.Event.{Event}
use Rattle.mesh_types.specs.declared.report.Opened.TheVariants as W
use Rattle.record_types.specs.declared.records.StoreRecord.{StoreRecord}
use Rattle.report_definitions.specs.Record.{Life, Shown, list_at, shown, shown_of}
use Rattle.mesh_base.specs.Pairs.{word_of}
use Rattle.mesh_base.specs.declared.pair.Pair.{Pair}
use Rattle.mesh_types.specs.declared.history.Entry.{Entry}
use Rattle.node_phase.proofs.Mine.{kept_no, kept_yes}
use Rattle.store_definitions.specs.Numbers.{fill_of, filled}
use Rattle.event_definitions.specs.Handling.{AreHandled}
use Rattle.event_definitions.specs.History.{Past, Told}
use Rattle.event_definitions.specs.Role.{Role}
use Rattle.run_definitions.specs.Order.{Step, is_cut, is_outside, phases_of}
use Rattle.run_definitions.specs.RunOf.{IsDrawn, IsNumbered, IsSpentRight, Leaves, LifeOf, Opens, cut_at_start, draws, is_on, no_record, of_event, of_refill, opens, past_at_end, plan_events, was_reset, words_told}
use Rattle.store_definitions.specs.Config.{config_of}
use Rattle.machine_contract.specs.declared.answers.Hand.{Hand}
use Rattle.machine_contract.specs.declared.answers.Hand.TheVariants as H
use Rattle.machine_contract.specs.Opening.{IsLeft}
use Rattle.machine_contract.specs.Standing.{IsFrontLeft, IsLeftBy, past_now}
use Rattle.life_laws.specs.Hands.{IsNextIn, outs}
use Rattle.life_laws.specs.Living.{CutLife, ResetLife, RunLife}
use Rattle.life_laws.specs.Phases.{AreOrdered, entries_by}

outs_length : (es : List Entry) → length (outs es) ≡ length (filter (λ e. is_outside e.event) es)
outs_length [] = refl
outs_length (e ∷ es) = by_test (is_outside e.event) refl (outs_length es) where
  by_test : (b : Bool) → is_outside e.event ≡ b → length (outs es) ≡ length (filter (λ x. is_outside x.event) es) → length (outs (e ∷ es)) ≡ length (filter (λ x. is_outside x.event) (e ∷ es))
  by_test true here h =
      ap length (kept_yes is_outside e.event (map (λ (x : Entry). x.event) es) here) ∙ ap suc h ∙ sym (ap length (kept_yes (λ (x : Entry). is_outside x.event) e es here))
  by_test false other h =
      ap length (kept_no is_outside e.event (map (λ (x : Entry). x.event) es) other) ∙ h ∙ sym (ap length (kept_no (λ (x : Entry). is_outside x.event) e es other))

module _ (role : Role) (plan : List Step) (over next : List StoreRecord) (told : List Told) (l : Life) where
  abbrev past : Past
  past = past_at_end role over l told

  plainly : IsLeft past.records [] next → Leaves role plan l past next
  plainly h = record { more = []; outlasts = no_record; ranges = h.ranges; alike = h.alike }

  by_front : (event : Event) → IsTrue (is_on l.opened) → IsTrue (is_cut l.end) → (is_outside event ≡ true → IsNextIn (phases_of plan) l.entries event) → IsFrontLeft role past event next → (b : Bool) → is_outside event ≡ b
      → Leaves role plan l past next
  by_front event on cut next_in h true out =
      let n = next_in out in
      record {
        more = take h.count (role.stores past event h.insight (role.answer past event h.insight));
        outlasts = of_event n.bearer h.count event h.insight on cut (ap (slice_get (plan_events plan n.bearer)) (sym (outs_length (entries_by n.bearer l.entries))) ∙ n.next) h.sees;
        ranges = h.left.ranges;
        alike = h.left.alike;
      }
  by_front event on cut next_in h false inside =
      absurd (true≢false (sym h.outside ∙ inside))

  leaves_by : (hand : Hand) → IsTrue (is_on l.opened) → ((hand ≡ H.Nothing) ⊎ (is_cut l.end ≡ true)) → ((event : Event) → hand ≡ H.OfEvent event → is_outside event ≡ true → IsNextIn (phases_of plan) l.entries event)
      → IsLeftBy role past hand next → Leaves role plan l past next
  leaves_by H.Nothing on cut next_in h = plainly h
  leaves_by (H.OfEvent event) on cut next_in h =
      let is : is_cut l.end ≡ true = ⊎_elim (λ bad. absurd (let no_hand : H.OfEvent event ≡ H.Nothing = bad in cc)) (λ c. c) cut in
      ⊎_elim plainly (λ front. by_front event on is (next_in event refl) front (is_outside event) refl) h
  leaves_by H.OfRefill on cut next_in h =
      let is : is_cut l.end ≡ true = ⊎_elim (λ bad. absurd (let no_hand : H.OfRefill ≡ H.Nothing = bad in cc)) (λ c. c) cut in
      ⊎_elim plainly (λ left. record { more = fill_of (config_of past.records) ∷ []; outlasts = of_refill on is; ranges = left.ranges; alike = left.alike }) h

  pub life_of : (hand : Hand) (ends : List ℕ) → (config_of over).reset ≡ false → l.opened ≡ W.On (config_of over).iv (config_of over).mark
      → map (λ t. t.entry) told ≡ l.entries → AreHandled role over [] told → ((k : ℕ) → IsNumbered l k) → AreOrdered (is_cut l.end) (phases_of plan) l.entries l.sends ends
      → IsLeftBy role (past_now role over told l.refills) hand next → ((hand ≡ H.Nothing) ⊎ (is_cut l.end ≡ true))
      → ((event : Event) → hand ≡ H.OfEvent event → is_outside event ≡ true → IsNextIn (phases_of plan) l.entries event)
      → IsDrawn over next l → All (λ s. IsSpentRight over next l s.outcome) (shown l) → LifeOf role plan over l next
  life_of hand ends runs opened entries handled numbers ordered left cut next_in drawn spent =
      let on : is_on l.opened ≡ true = ap is_on opened in
      record {
        opening = subst (λ o. Opens (config_of over) o l.end) (sym opened) (opens runs);
        idle = λ off. absurd (true≢false (sym on ∙ off));
        told = told;
        entries = entries;
        handled = handled;
        numbers = numbers;
        order = λ is. record { parts = ordered.parts; entries = ordered.fall.entries_are; sends = ordered.fall.sends_are; phases = ordered.parts_are };
        leaves = leaves_by hand on cut next_in left;
        drawn = drawn;
        spent = spent;
      }

module _ (role : Role) (plan : List Step) (over next : List StoreRecord) (l : Life) (off : is_on l.opened ≡ false) (entries : l.entries ≡ []) (refills : l.refills ≡ 0) (sends : l.sends ≡ []) where
  nothing_shown : shown l ≡ []
  nothing_shown = ap (flat_map (filter_map (shown_of l.entries))) sends

  nothing_drawn : IsDrawn over next l
  nothing_drawn =
      let none : draws (shown l) ≡ [] = ap draws nothing_shown in
      record {
        seq = subst (All (λ p. p.seq < 2 ^ 24)) (sym none) (All-nil (λ p. p.seq < 2 ^ 24));
        from = subst (All (λ p. (config_of over).mark ≤ word_of p)) (sym none) (All-nil (λ (p : Pair). (config_of over).mark ≤ word_of p));
        below = subst (All (λ p. word_of p < (config_of next).mark)) (sym none) (All-nil (λ (p : Pair). word_of p < (config_of next).mark));
        once = subst (AllPairs (λ p q. word_of p ≢ word_of q)) (sym none) (λ i j p lt within. absurd (omega (arith, within)));
        rise = λ k. subst (λ ss. AllPairs (λ p q. word_of p < word_of q) (draws (filter_map (shown_of l.entries) (list_at ss k)))) (sym sends) (λ i j p lt within. absurd (omega (arith, within)));
        onward = λ k. subst (λ ss. AllPairs (λ x y. x ≤ y) (words_told (filter_map (shown_of l.entries) (list_at ss k)))) (sym sends) (λ i j x lt within. absurd (omega (arith, within)));
      }

  pub idle_life : Opens (config_of over) l.opened l.end → IsLeft over [] next → LifeOf role plan over l next
  idle_life opening left = record {
    opening = opening;
    idle = λ e. record { entries = entries; refills = refills; sends = λ k. ap (λ ss. list_at ss k) sends };
    told = [];
    entries = sym entries;
    handled = tt;
    numbers = λ k. subst (λ es. map (λ e. e.number) (entries_by k es) ≡ range_with_len 1 (length (entries_by k es))) (sym entries) refl;
    order = λ is. absurd (true≢false (sym is ∙ off));
    leaves = subst (λ n. Leaves role plan l (record { told = []; records = filled n over }) next) (sym refills) (record { more = []; outlasts = no_record; ranges = left.ranges; alike = left.alike });
    drawn = nothing_drawn;
    spent = subst (All (λ s. IsSpentRight over next l s.outcome)) (sym nothing_shown) (All-nil (λ (s : Shown). IsSpentRight over next l s.outcome));
  }

pub run_life : (role : Role) → RunLife role
run_life role plan over next told l hand ends runs opened entries handled numbers ordered left cut next_in drawn spent =
    life_of role plan over next told l hand ends runs opened entries handled numbers ordered left cut next_in drawn spent

pub reset_life : (role : Role) → ResetLife role
reset_life role plan over next reset left = idle_life role plan over next _ refl refl refl refl (was_reset reset) left

pub cut_life : (role : Role) → CutLife role
cut_life role plan over next calls left = idle_life role plan over next _ refl refl refl refl cut_at_start left

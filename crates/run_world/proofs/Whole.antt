-- The lives of a run by steps of all kinds: its messages first, then its numbers and its seals.
use Rattle.std.proofs.Common.{◌≡◌, ◌≢◌, ℕ, ◌+◌, ◌-◌, ◌*◌, ◌^◌, ◌≤◌, List, [], ◌∷◌, ◌++◌, refl, ap, sym, subst, ◌∙◌, arith, append_assoc, append-nil, map, Option, None}
use Rattle.std.specs.List.{All, AllByRecursion, Contains, cons_option, filter, filter_map, flat_map}
use Rattle.std.proofs.lemmas.List.Elements.{All-from_recursion, filter-append, recursion_from_All}
use Rattle.event_definitions.proofs.Each.{every_append, every_front, every_map}
use Rattle.event_definitions.specs.Answers.{accepted}
use Rattle.event_definitions.specs.Handling.{records_left}
use Rattle.event_definitions.specs.History.{Told}
use Rattle.event_definitions.specs.Role.{Role, node_role}
use Rattle.low_power_role.proofs.Safe as low
use Rattle.low_power_role.specs.Role.{low_power_role}
use Rattle.mesh_base.proofs.IvStates.{transmit_known}
use Rattle.mesh_base.specs.IvState.{transmit_of}
use Rattle.mesh_base.specs.Pairs.{word_of}
use Rattle.mesh_base.specs.declared.address.Address.{Address}
use Rattle.mesh_base.specs.declared.pair.Name.{Name}
use Rattle.mesh_base.specs.declared.pair.Pair.{Pair}
use Rattle.mesh_types.specs.declared.history.Entry.{Entry}
use Rattle.mesh_world.proofs.Steps.{steps as good_steps}
use Rattle.mesh_world.specs.Good.{IsGood}
use Rattle.mesh_world.specs.World.{AreAllowed, Sealing, World, WorldStep, after, after_all}
use Rattle.mesh_world.specs.World as world
use Rattle.mesh_world.specs.World.WorldStep.{Accept, Advance, Cut, Deliver, Draw, Expire, Publish, Reserve, Seal}
use Rattle.record_types.specs.declared.records.StoreRecord.{StoreRecord}
use Rattle.record_types.specs.declared.records.StoreRecord.TheVariants as R
use Rattle.report_definitions.specs.Record.{LifeOver, Run, first_over, shown}
use Rattle.run_definitions.specs.Order.{Step}
use Rattle.run_definitions.specs.RunOf.{LifeOf, LivesOf, RunOf, Script, draws, past_at_end}
use Rattle.run_definitions.specs.Uses.{Use, life_delivered, life_seals, node_of}
use Rattle.run_safety.proofs.Enough.{run_by_enough}
use Rattle.run_safety.proofs.Handled.{marked}
use Rattle.run_safety.proofs.LifeLines.{life_lines}
use Rattle.run_safety.proofs.Lists.{apart_from_pairs, apart_sub, every_sub}
use Rattle.run_safety.proofs.Lives.{end_in_range, life_later}
use Rattle.run_safety.proofs.Names.{InRange, filled_is, names}
use Rattle.run_safety.proofs.NodeRole.{node_is_safe}
use Rattle.run_safety.proofs.Nonces.{is_own}
use Rattle.run_safety.proofs.Reuse.{doubled_apart}
use Rattle.run_safety.proofs.Rising.{Later, later_after, later_same}
use Rattle.run_safety.proofs.Walking.{LinesFit, Tag, doubled}
use Rattle.run_safety.specs.Rules.{HasFitNumbers, LifeBy, LivesBy, enough_rules}
use Rattle.run_safety.specs.SafeRole.{IsSafeRole, Marked}
use Rattle.run_world.proofs.Behind.{after_append, allowed_append}
use Rattle.run_world.proofs.Drawing.{Draws, all_in, behind, behind_below, draw_up, each_drawn, from_behind, ready_at}
use Rattle.run_world.proofs.Hears.{Hears, low_power_hears, node_hears}
use Rattle.run_world.proofs.Lives.{both_free, both_held, good_provisioned, in_width, marked_kept, provisioned_mark, up_to}
use Rattle.run_world.proofs.Messages.{Takes, Ties, entries_go, fills_go, outlasting_goes, then_take}
use Rattle.run_world.proofs.Sealing.{IsFree, Seals, lines_sealed, seal_all}
use Rattle.run_world.specs.Steps.{IsOn, after_life, after_lives, first_world, own_seals, with_power}
use Rattle.run_world.specs.Whole.{AreWholeLives, GoesByAllSteps, IsPowered, IsWholeLife, LowPowerRunsGoByAllSteps, RunsGoByAllSteps}
use Rattle.store_definitions.specs.Alike.{IsAlike}
use Rattle.store_definitions.specs.Config.{Config, changed, config_of}
use Rattle.store_definitions.specs.Entries.{entry_of, unexpired}
use Rattle.store_definitions.specs.Numbers.{filled}
use Rattle.store_definitions.specs.Provisioning as node
use Rattle.store_definitions.specs.Provisioning.{Provisioning}
use Rattle.store_definitions.specs.Ranges.{IsInRange}

powered : (s : WorldStep) → IsOn s → IsPowered s
powered Draw h = tt
powered (Seal sealing) h = tt
powered (Reserve current mark) h = tt
powered (Publish mark) h = tt
powered (Advance iv) h = tt
powered (Accept name) h = tt
powered (Expire src) h = tt
powered (Deliver name) h = tt
powered (Cut mark) h = h

-- The messages of a life.

fit_numbers : (r : StoreRecord) → IsInRange r → HasFitNumbers r
fit_numbers (R.Numbers current progress mark hours since) h = (h.0, omega (arith, h.2.word, h.2.most))
fit_numbers (R.Identity unicast elements dev_key) h = tt
fit_numbers _ h = tt

names_map : (ts : List Told) → names ts ≡ filter_map (λ (e : Entry). accepted e.answer) (map (λ t. t.entry) ts)
names_map [] = refl
names_map (t ∷ ts) = ap (cons_option (accepted t.entry.answer)) (names_map ts)

tied_alike : (w : World) (next records : List StoreRecord) → IsAlike next records → Ties w records → Ties w next
tied_alike w next records alike t = record {
  kept = t.kept ∙ sym (ap (λ (c : Config). c.mark) alike.config);
  current = t.current ∙ sym (ap (λ (c : Config). c.iv.current) alike.config);
  entry = λ src. t.entry src ∙ sym (alike.entries src.0);
}

module _ (role : Role) (safe : IsSafeRole role) (hears : Hears role) (plan : List Step) (x : LifeOver) (next : List StoreRecord)
    (h : LifeOf role plan x.over x.life next) where
  abbrev left : List StoreRecord
  left = records_left role x.over [] h.told

  abbrev at_end : List StoreRecord
  at_end = filled x.life.refills left

  range : InRange (at_end ++ h.leaves.more)
  range = every_map IsInRange HasFitNumbers fit_numbers (at_end ++ h.leaves.more) (recursion_from_All IsInRange (at_end ++ h.leaves.more) h.leaves.ranges)

  end_range : InRange at_end
  end_range = every_front HasFitNumbers at_end h.leaves.more range

  left_range : InRange left
  left_range = let (rest, e) = filled_is x.life.refills left in every_front HasFitNumbers left rest (subst InRange e end_range)

  heard : names h.told ≡ life_delivered x.life
  heard = names_map h.told ∙ ap (filter_map (λ (e : Entry). accepted e.answer)) h.entries

  messages : (w : World) → Ties w x.over → Takes w next (life_delivered x.life)
  messages w ties =
      let entries : Takes w left (names h.told) = entries_go role safe hears x.over [] h.told h.handled left_range w ties in
      let fills : Takes (after_all w entries.steps) at_end [] = fills_go x.life.refills (after_all w entries.steps) left entries.ties in
      let filled_up : Takes w at_end (names h.told ++ []) = then_take w left at_end (names h.told) [] entries fills in
      let more : Takes (after_all w filled_up.steps) (at_end ++ h.leaves.more) [] =
      outlasting_goes role safe hears plan x.life (past_at_end role x.over x.life h.told) h.leaves.more h.leaves.outlasts (marked at_end end_range)
      (after_all w filled_up.steps) filled_up.ties in
      let all : Takes w (at_end ++ h.leaves.more) ((names h.told ++ []) ++ []) =
      then_take w at_end (at_end ++ h.leaves.more) (names h.told ++ []) [] filled_up more in
      let as_told : Takes w (at_end ++ h.leaves.more) (life_delivered x.life) =
      subst (Takes w (at_end ++ h.leaves.more)) (append-nil (names h.told ++ []) ∙ append-nil (names h.told) ∙ heard) all in
      record {
        steps = as_told.steps;
        allowed = as_told.allowed;
        on = as_told.on;
        same = as_told.same;
        delivered = as_told.delivered;
        ties = tied_alike (after_all w as_told.steps) next (at_end ++ h.leaves.more) h.leaves.alike as_told.ties;
      }

-- One life.

record Lived (own : Config) (w : World) (x : LifeOver) (next : List StoreRecord) : Type 0 where
  steps : List WorldStep
  is : IsWholeLife own w x next steps
  ties : Ties (after_life w x steps) next

module _ (role : Role) (safe : IsSafeRole role) (hears : Hears role) (own : Config) (plan : List Step) (x : LifeOver) (next : List StoreRecord)
    (k : LifeOf role plan x.over x.life next) (h : LifeBy enough_rules role plan x.over x.life next) (later : Later own (config_of x.over)) (w : World) (g : IsGood w)
    (stands : Ties w x.over) where
  abbrev from : ℕ
  from = (config_of x.over).mark

  abbrev to : ℕ
  to = (config_of next).mark

  abbrev pairs : List Pair
  pairs = draws (shown x.life)

  on_again : Ties (after w (Cut from)) x.over
  on_again = record { kept = refl; current = stands.current; entry = stands.entry }

  took : Takes (after w (Cut from)) next (life_delivered x.life)
  took = messages role safe hears plan x next k (after w (Cut from)) on_again

  -- all messages were taken, and all numbers of the life are published
  abbrev begins : World
  begins = after (after_all (after w (Cut from)) took.steps) (Publish to)

  rises : Later (config_of x.over) (config_of next)
  rises = life_later role safe plan x.over x.life next h

  lines : LinesFit own None (shown x.life)
  lines = life_lines role safe plan x.over x.life next h own later

  width : to ≤ 2 ^ 57
  width =
      let m : Marked (config_of next) =
      marked_kept _ (config_of next) h.leaves.alike.iv h.leaves.alike.mark (marked _ (end_in_range role safe plan x.over x.life next h)) in
      in_width (transmit_of (config_of next).iv) (config_of next).iv.current to m.mark (transmit_known (config_of next).iv) m.current

  starts : AllByRecursion (λ (p : Pair). from ≤ word_of p) pairs
  starts = recursion_from_All _ pairs h.drawn.from

  behind_to : behind from pairs ≤ to
  behind_to = behind_below from to pairs rises.mark (recursion_from_All _ pairs h.drawn.below)

  drawing : Draws begins from (behind from pairs)
  drawing =
      let is : from + (behind from pairs - from) ≡ behind from pairs = up_to from (behind from pairs) (from_behind from pairs) in
      subst (Draws begins from) is
      (subst (λ n. Draws begins n (n + (behind from pairs - from))) took.same.next
      (draw_up (behind from pairs - from) begins.next begins (ready_at begins) (omega (arith, is, behind_to, took.same.next)) (omega (arith, is, behind_to, width, took.same.next))))

  abbrev drew : World
  drew = after_all begins drawing.steps

  held : AllByRecursion (Contains drew.held) pairs
  held = each_drawn begins from (behind from pairs) drawing pairs (all_in from pairs starts (recursion_from_All _ pairs h.drawn.seq))

  free : AllByRecursion (IsFree drew.seals) (doubled pairs)
  free =
      subst (λ (l : List Sealing). AllByRecursion (IsFree l) (doubled pairs)) (sym (drawing.same.seals ∙ took.same.seals))
      (both_free w g from (omega (arith, stands.kept)) pairs starts)

  sealing : Seals own (life_seals x.life) drew
  sealing =
      seal_all own drew (lines_sealed own (shown x.life) lines.shown)
      (every_sub (λ (t : Tag). Contains drew.held t.pair) lines.sub (both_held drew.held pairs held))
      (every_sub (IsFree drew.seals) lines.sub free)
      (apart_sub (λ s t. s ≢ t) lines.sub (doubled_apart pairs (apart_from_pairs (λ p q. word_of p ≢ word_of q) pairs h.drawn.once)))

  abbrev numbers : List WorldStep
  numbers = Publish to ∷ (drawing.steps ++ sealing.steps)

  abbrev life_steps : List WorldStep
  life_steps = took.steps ++ numbers

  at_last : after_life w x life_steps ≡ after_all drew sealing.steps
  at_last = after_append took.steps numbers (after w (Cut from)) ∙ after_append drawing.steps sealing.steps begins

  still_held : (after_life w x life_steps).held ≡ drew.held
  still_held = ap (λ (v : World). v.held) at_last ∙ sealing.held

  mark_now : (after_life w x life_steps).kept ≡ to
  mark_now = ap (λ (v : World). v.kept) at_last ∙ sealing.kept ∙ drawing.same.kept ∙ took.ties.kept

  current_now : (after_life w x life_steps).current ≡ (config_of next).iv.current
  current_now = ap (λ (v : World). v.current) at_last ∙ sealing.current ∙ drawing.same.current ∙ took.ties.current

  on_all : AllByRecursion IsPowered life_steps
  on_all =
      every_append IsPowered took.steps numbers took.on
      (tt, every_append IsPowered drawing.steps sealing.steps (every_map IsOn IsPowered powered drawing.steps drawing.on) (every_map IsOn IsPowered powered sealing.steps sealing.on))

  tied : Ties (after_life w x life_steps) next
  tied = record {
    kept = mark_now;
    current = current_now;
    entry = λ src.
        ap (λ c. unexpired c ((after_life w x life_steps).entry src)) (current_now ∙ sym took.ties.current)
        ∙ ap (λ (e : Address → Option Pair). unexpired (after_all (after w (Cut from)) took.steps).current (e src))
        (ap (λ (v : World). v.entry) at_last ∙ sealing.entry ∙ drawing.same.entry)
        ∙ took.ties.entry src;
  }

  allowed_all : AreAllowed w (with_power x life_steps)
  allowed_all = (
    omega (arith, stands.kept),
    allowed_append took.steps numbers (after w (Cut from)) took.allowed
        ((omega (arith, rises.mark, took.same.mark), omega (arith, took.ties.kept)), allowed_append drawing.steps sealing.steps begins drawing.allowed sealing.allowed),
  )

  lived : Lived own w x next
  lived = record {
    steps = life_steps;
    is = record {
      allowed = allowed_all;
      on = All-from_recursion IsPowered life_steps on_all;
      seals =
          ap (λ (v : World). world.uses v) at_last ∙ sealing.uses
          ∙ ap (λ (l : List Sealing). map (λ (s : Sealing). s.made) l ++ own_seals own x.life) (drawing.same.seals ∙ took.same.seals);
      delivered = ap (λ (v : World). v.delivered) at_last ∙ sealing.delivered ∙ drawing.same.delivered ∙ took.delivered;
      drawn = All-from_recursion (Contains (after_life w x life_steps).held) pairs
          (subst (λ (l : List Pair). AllByRecursion (Contains l) pairs) (sym still_held) held);
      mark = mark_now;
      current = current_now;
      entries = λ src. ap (λ c. unexpired c ((after_life w x life_steps).entry src)) (sym current_now) ∙ tied.entry src;
    };
    ties = tied;
  }

-- All lives.

record Goes (own : Config) (w : World) (lives : List LifeOver) (last : List StoreRecord) : Type 0 where
  steps : List (List WorldStep)
  are : AreWholeLives own w lives last steps
  good : IsGood (after_lives w lives steps)
  seals : world.uses (after_lives w lives steps) ≡ world.uses w ++ filter (is_own own) (flat_map (λ x. life_seals x.life) lives)
  delivered : (after_lives w lives steps).delivered ≡ w.delivered ++ flat_map (λ x. life_delivered x.life) lives

goes_on : (own : Config) (w : World) (x : LifeOver) (xs : List LifeOver) (last : List StoreRecord) (l : Lived own w x (first_over xs last))
    → Goes own (after_life w x l.steps) xs last → Goes own w (x ∷ xs) last
goes_on own w x xs last l rest = record {
  steps = l.steps ∷ rest.steps;
  are = (l.is, rest.are);
  good = rest.good;
  seals =
      let more : List Use = filter (is_own own) (flat_map (λ y. life_seals y.life) xs) in
      rest.seals ∙ ap (λ us. us ++ more) l.is.seals ∙ append_assoc (world.uses w) (own_seals own x.life) more
      ∙ ap (λ us. world.uses w ++ us) (sym (filter-append (is_own own) (life_seals x.life) (flat_map (λ y. life_seals y.life) xs)));
  delivered =
      let more : List Name = flat_map (λ y. life_delivered y.life) xs in
      rest.delivered ∙ ap (λ ns. ns ++ more) l.is.delivered ∙ append_assoc w.delivered (life_delivered x.life) more;
}

lives_go : (role : Role) → IsSafeRole role → Hears role → (own : Config) (plans : List (List Step)) (lives : List LifeOver) (last : List StoreRecord)
    → LivesOf role plans lives last → LivesBy enough_rules role plans lives last → Later own (config_of (first_over lives last)) → (w : World) → IsGood w
    → Ties w (first_over lives last) → Goes own w lives last
lives_go role safe hears own [] [] last k h later w g ties =
    record { steps = []; are = tt; good = g; seals = sym (append-nil (world.uses w)); delivered = sym (append-nil w.delivered) }
lives_go role safe hears own [] (x ∷ xs) last k h later w g ties = absurd h
lives_go role safe hears own (plan ∷ plans) [] last k h later w g ties = absurd h
lives_go role safe hears own (plan ∷ plans) (x ∷ xs) last k h later w g ties =
    let next : List StoreRecord = first_over xs last in
    let l : Lived own w x next = lived role safe hears own plan x next k.0 h.0 later w g ties in
    goes_on own w x xs last l
    (lives_go role safe hears own plans xs last k.1 h.1 (later_after own (config_of x.over) (config_of next) later (life_later role safe plan x.over x.life next h.0))
    (after_life w x l.steps) (good_steps w (with_power x l.steps) g l.is.allowed) l.ties)

-- A run.

no_entry : (made : Provisioning) (src : ℕ) → entry_of (node.provisioned made) src ≡ None
unfolding changed
no_entry made src = refl

run_goes : (role : Role) → IsSafeRole role → Hears role → (s : Script) (r : Run) → RunOf role s r → GoesByAllSteps r
run_goes role safe hears s r h =
    let own : Config = node_of r in
    let mark : own.mark ≡ transmit_of own.iv * 2 ^ 25 =
    subst (λ (l : List StoreRecord). (config_of l).mark ≡ transmit_of (config_of l).iv * 2 ^ 25) (sym h.first) (provisioned_mark s.node) in
    let first : Ties (first_world r) (first_over r.lives r.last) = record {
      kept = sym mark;
      current = refl;
      entry = λ src. sym (subst (λ (l : List StoreRecord). entry_of l src.0 ≡ None) (sym h.first) (no_entry s.node src.0));
    } in
    let goes : Goes own (first_world r) r.lives r.last =
    lives_go role safe hears own s.lives r.lives r.last h.lives (run_by_enough role s r h).lives (later_same own)
    (first_world r) (good_provisioned own.iv.current (transmit_of own.iv)) first in
    record { steps = goes.steps; lives = goes.are; good = goes.good; seals = goes.seals; delivered = goes.delivered }

pub runs_go_whole : RunsGoByAllSteps
runs_go_whole layers safe s r h = run_goes (node_role layers) (node_is_safe layers safe) (node_hears layers safe) s r h

pub low_power_runs_go : LowPowerRunsGoByAllSteps
low_power_runs_go s r h = run_goes low_power_role low.is_safe low_power_hears s r h

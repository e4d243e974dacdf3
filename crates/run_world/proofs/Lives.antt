-- The lives of a run by their steps.
use Rattle.std.proofs.Common.{◌≡◌, ◌≢◌, ℕ, ◌+◌, ◌-◌, ◌*◌, ◌^◌, ◌<◌, ◌≤◌, List, [], ◌∷◌, ◌++◌, refl, ap, sym, subst, ◌∙◌, arith, append_assoc, append-nil, map, None}
use Rattle.std.specs.List.{All, AllByRecursion, Contains, filter, flat_map}
use Rattle.std.proofs.lemmas.List.Elements.{All-contains, All-from_recursion, All-nil, All-weaker, filter-append, recursion_from_All}
use Rattle.event_definitions.specs.Role.{Role, node_role}
use Rattle.mesh_base.proofs.IvStates.{transmit_known}
use Rattle.mesh_base.specs.IvState.{transmit_of}
use Rattle.mesh_base.specs.Pairs.{IsPair, word_of}
use Rattle.mesh_base.specs.declared.pair.Name.{Name}
use Rattle.mesh_base.specs.declared.pair.Pair.{Pair}
use Rattle.mesh_world.proofs.Steps.{steps as good_steps}
use Rattle.mesh_world.specs.Good.{IsGood, IsSpent}
use Rattle.mesh_world.specs.World.{HasNonce, IsOf, Sealing, World, WorldStep, after, after_all, provisioned}
use Rattle.mesh_world.specs.World as world
use Rattle.mesh_world.specs.World.WorldStep.{Cut, Publish, Reserve}
use Rattle.record_types.specs.declared.records.StoreRecord.{StoreRecord}
use Rattle.report_definitions.specs.Record.{LifeOver, first_over, shown}
use Rattle.run_definitions.specs.Order.{Step}
use Rattle.run_definitions.specs.RunOf.{draws}
use Rattle.run_definitions.specs.Uses.{Use, life_seals, node_of}
use Rattle.run_safety.proofs.Enough.{run_by_enough}
use Rattle.run_safety.proofs.Handled.{marked}
use Rattle.run_safety.proofs.LifeLines.{life_lines}
use Rattle.run_safety.proofs.Lists.{apart_from_pairs, apart_sub, every_sub, pairs_from_apart}
use Rattle.run_safety.proofs.Lives.{end_in_range, life_later}
use Rattle.run_safety.proofs.NodeRole.{node_is_safe}
use Rattle.run_safety.proofs.Nonces.{is_own}
use Rattle.run_safety.proofs.Reuse.{doubled_apart}
use Rattle.run_safety.proofs.Rising.{Later, later_after, later_same}
use Rattle.run_safety.proofs.Walking.{LinesFit, Tag, doubled, network_tag, upper_tag}
use Rattle.run_safety.specs.Rules.{LifeBy, LivesBy, enough_rules}
use Rattle.run_safety.specs.SafeRole.{IsSafeRole, Marked}
use Rattle.run_world.proofs.Behind.{after_append, allowed_append}
use Rattle.run_world.proofs.Drawing.{Draws, all_in, behind, behind_below, draw_up, each_drawn, from_behind, ready_at}
use Rattle.run_world.proofs.Sealing.{IsFree, Seals, layer_of, lines_sealed, seal_all}
use Rattle.run_world.specs.Steps.{AreLives, IsLife, IsOn, RunsGoBySteps, after_life, after_lives, first_world, own_seals, with_power}
use Rattle.store_definitions.specs.Config.{Config, changed, config_of}
use Rattle.store_definitions.specs.Provisioning as node
use Rattle.store_definitions.specs.Provisioning.{Provisioning}

-- Steps behind steps.

on_append : (xs ys : List WorldStep) → AllByRecursion IsOn xs → AllByRecursion IsOn ys → AllByRecursion IsOn (xs ++ ys)
on_append [] ys h k = k
on_append (x ∷ xs) ys h k = (h.0, on_append xs ys h.1 k)

-- What the world shows of the records.
record Stands (w : World) (c : Config) : Type 0 where
  kept : w.kept ≡ c.mark
  current : w.current ≡ c.iv.current

-- Pairs from the durable mark on have no seal yet.

pub sealed_below : (w : World) → IsGood w → All (λ (s : Sealing). word_of s.pair < w.kept) w.seals
sealed_below w g =
    All-weaker (λ (s : Sealing). Contains w.drawn s.pair) (λ (s : Sealing). word_of s.pair < w.kept)
    (λ s drawn. omega (arith, All-contains (λ p. word_of p < w.next) w.drawn s.pair g.drawn_below drawn, g.next_marked, g.mark_kept)) w.seals g.seals_drawn

pub free_above : (w : World) → IsGood w → (t : Tag) → w.kept ≤ word_of t.pair → IsFree w.seals t
free_above w g t h =
    All-weaker (λ (s : Sealing). word_of s.pair < w.kept) (λ s. IsOf (layer_of t.upper) t.pair s → ⊥)
    (λ s below is. omega (arith, below, h, ap word_of is.1)) w.seals (sealed_below w g)

pub both_free : (w : World) → IsGood w → (from : ℕ) → w.kept ≤ from → (ps : List Pair) → AllByRecursion (λ (p : Pair). from ≤ word_of p) ps
    → AllByRecursion (IsFree w.seals) (doubled ps)
both_free w g from h [] k = tt
both_free w g from h (p ∷ ps) k = (
  free_above w g (upper_tag p) (omega (arith, h, k.0)),
  (free_above w g (network_tag p) (omega (arith, h, k.0)), both_free w g from h ps k.1),
)

pub both_held : (held ps : List Pair) → AllByRecursion (Contains held) ps → AllByRecursion (λ (t : Tag). Contains held t.pair) (doubled ps)
both_held held [] h = tt
both_held held (p ∷ ps) h = (h.0, (h.0, both_held held ps h.1))

-- One life.

pub marked_kept : (c d : Config) → d.iv ≡ c.iv → d.mark ≡ c.mark → Marked c → Marked d
marked_kept c d e f m = record { mark = rw (e, f) m.mark; current = rw e m.current }

pub in_width : (transmit current mark : ℕ) → mark ≤ transmit * 2 ^ 25 + 2 ^ 24 → transmit ≤ current → current < 2 ^ 32 → mark ≤ 2 ^ 57
in_width transmit current mark h k l = omega arith

pub up_to : (from to : ℕ) → from ≤ to → from + (to - from) ≡ to
up_to from to h = omega arith

record Lived (own : Config) (w : World) (x : LifeOver) (next : List StoreRecord) : Type 0 where
  steps : List WorldStep
  is : IsLife own w x next steps

module _ (role : Role) (safe : IsSafeRole role) (own : Config) (plan : List Step) (x : LifeOver) (next : List StoreRecord)
    (h : LifeBy enough_rules role plan x.over x.life next) (later : Later own (config_of x.over)) (w : World) (g : IsGood w)
    (stands : Stands w (config_of x.over)) where
  abbrev from : ℕ
  from = (config_of x.over).mark

  abbrev to : ℕ
  to = (config_of next).mark

  abbrev pairs : List Pair
  pairs = draws (shown x.life)

  -- power is on, and all numbers of the life are reserved
  abbrev begins : World
  begins = after (after (after w (Cut from)) (Reserve (config_of next).iv.current to)) (Publish to)

  rises : Later (config_of x.over) (config_of next)
  rises = life_later role safe plan x.over x.life next h

  lines : LinesFit own None (shown x.life)
  lines = life_lines role safe plan x.over x.life next h own later

  width : to ≤ 2 ^ 57
  width =
      let m : Marked (config_of next) =
      marked_kept _ (config_of next) h.leaves.alike.iv h.leaves.alike.mark (marked _ (end_in_range role safe plan x.over x.life next h)) in
      in_width (transmit_of (config_of next).iv) (config_of next).iv.current to m.mark (transmit_known (config_of next).iv) m.current

  starts : AllByRecursion (λ (p : Pair). from ≤ word_of p) pairs
  starts = recursion_from_All _ pairs h.drawn.from

  behind_to : behind from pairs ≤ to
  behind_to = behind_below from to pairs rises.mark (recursion_from_All _ pairs h.drawn.below)

  drawing : Draws begins from (behind from pairs)
  drawing =
      let is : from + (behind from pairs - from) ≡ behind from pairs = up_to from (behind from pairs) (from_behind from pairs) in
      subst (Draws begins from) is
      (draw_up (behind from pairs - from) from begins (ready_at begins) (omega (arith, is, behind_to)) (omega (arith, is, behind_to, width)))

  abbrev drew : World
  drew = after_all begins drawing.steps

  held : AllByRecursion (Contains drew.held) pairs
  held = each_drawn begins from (behind from pairs) drawing pairs (all_in from pairs starts (recursion_from_All _ pairs h.drawn.seq))

  free : AllByRecursion (IsFree drew.seals) (doubled pairs)
  free =
      subst (λ (l : List Sealing). AllByRecursion (IsFree l) (doubled pairs)) (sym drawing.same.seals)
      (both_free w g from (omega (arith, stands.kept)) pairs starts)

  sealing : Seals own (life_seals x.life) drew
  sealing =
      seal_all own drew (lines_sealed own (shown x.life) lines.shown)
      (every_sub (λ (t : Tag). Contains drew.held t.pair) lines.sub (both_held drew.held pairs held))
      (every_sub (IsFree drew.seals) lines.sub free)
      (apart_sub (λ s t. s ≢ t) lines.sub (doubled_apart pairs (apart_from_pairs (λ p q. word_of p ≢ word_of q) pairs h.drawn.once)))

  abbrev life_steps : List WorldStep
  life_steps = Reserve (config_of next).iv.current to ∷ Publish to ∷ (drawing.steps ++ sealing.steps)

  at_end : after_life w x life_steps ≡ after_all drew sealing.steps
  at_end = after_append drawing.steps sealing.steps begins

  still_held : (after_life w x life_steps).held ≡ drew.held
  still_held = ap (λ (v : World). v.held) at_end ∙ sealing.held

  lived : Lived own w x next
  lived = record {
    steps = life_steps;
    is = record {
      allowed = (
        omega (arith, stands.kept),
        ((omega (arith, stands.current, rises.current), rises.mark), ((rises.mark, omega arith), allowed_append drawing.steps sealing.steps begins drawing.allowed sealing.allowed)),
      );
      on = All-from_recursion IsOn life_steps (tt, (tt, on_append drawing.steps sealing.steps drawing.on sealing.on));
      seals =
          ap (λ (v : World). world.uses v) at_end ∙ sealing.uses
          ∙ ap (λ (l : List Sealing). map (λ (s : Sealing). s.made) l ++ own_seals own x.life) drawing.same.seals;
      drawn = All-from_recursion (Contains (after_life w x life_steps).held) pairs
          (subst (λ (l : List Pair). AllByRecursion (Contains l) pairs) (sym still_held) held);
      mark = ap (λ (v : World). v.kept) at_end ∙ sealing.kept ∙ drawing.same.kept;
      current = ap (λ (v : World). v.current) at_end ∙ sealing.current ∙ drawing.same.current;
    };
  }

-- All lives.

record Goes (own : Config) (w : World) (lives : List LifeOver) (last : List StoreRecord) : Type 0 where
  steps : List (List WorldStep)
  are : AreLives own w lives last steps
  good : IsGood (after_lives w lives steps)
  seals : world.uses (after_lives w lives steps) ≡ world.uses w ++ filter (is_own own) (flat_map (λ x. life_seals x.life) lives)

goes_on : (own : Config) (w : World) (x : LifeOver) (xs : List LifeOver) (last : List StoreRecord) (l : Lived own w x (first_over xs last))
    → Goes own (after_life w x l.steps) xs last → Goes own w (x ∷ xs) last
goes_on own w x xs last l rest = record {
  steps = l.steps ∷ rest.steps;
  are = (l.is, rest.are);
  good = rest.good;
  seals =
      let more : List Use = filter (is_own own) (flat_map (λ y. life_seals y.life) xs) in
      rest.seals ∙ ap (λ us. us ++ more) l.is.seals ∙ append_assoc (world.uses w) (own_seals own x.life) more
      ∙ ap (λ us. world.uses w ++ us) (sym (filter-append (is_own own) (life_seals x.life) (flat_map (λ y. life_seals y.life) xs)));
}

lives_go : (role : Role) → IsSafeRole role → (own : Config) (plans : List (List Step)) (lives : List LifeOver) (last : List StoreRecord)
    → LivesBy enough_rules role plans lives last → Later own (config_of (first_over lives last)) → (w : World) → IsGood w
    → Stands w (config_of (first_over lives last)) → Goes own w lives last
lives_go role safe own [] [] last h later w g stands = record { steps = []; are = tt; good = g; seals = sym (append-nil (world.uses w)) }
lives_go role safe own [] (x ∷ xs) last h later w g stands = absurd h
lives_go role safe own (plan ∷ plans) [] last h later w g stands = absurd h
lives_go role safe own (plan ∷ plans) (x ∷ xs) last h later w g stands =
    let next : List StoreRecord = first_over xs last in
    let l : Lived own w x next = lived role safe own plan x next h.0 later w g stands in
    goes_on own w x xs last l
    (lives_go role safe own plans xs last h.1 (later_after own (config_of x.over) (config_of next) later (life_later role safe plan x.over x.life next h.0))
    (after_life w x l.steps) (good_steps w (with_power x l.steps) g l.is.allowed) (record { kept = l.is.mark; current = l.is.current }))

-- A run.

pub provisioned_mark : (made : Provisioning) → (config_of (node.provisioned made)).mark ≡ transmit_of (config_of (node.provisioned made)).iv * 2 ^ 25
unfolding changed
provisioned_mark made = refl

pub good_provisioned : (current transmit : ℕ) → IsGood (provisioned current transmit)
good_provisioned current transmit = record {
  next_marked = omega arith;
  mark_kept = omega arith;
  drawn_once = pairs_from_apart (λ p q. p ≢ q) [] tt;
  drawn_pairs = All-nil IsPair;
  drawn_below = All-nil (λ (p : Pair). word_of p < transmit * 2 ^ 25);
  held_drawn = All-nil (Contains []);
  seals_drawn = All-nil (λ (s : Sealing). Contains [] s.pair);
  seals_nonce = All-nil (λ (s : Sealing). HasNonce s.layer s.pair s.made.nonce);
  seals_once = pairs_from_apart (λ (s t : Sealing). IsOf s.layer s.pair t → ⊥) [] tt;
  delivered_once = pairs_from_apart (λ (m n : Name). m ≢ n) [] tt;
  delivered_spent = All-nil (IsSpent (provisioned current transmit));
  pending_spent = tt;
  pending_new = tt;
}

pub runs_go : RunsGoBySteps
runs_go layers safe s r h =
    let own : Config = node_of r in
    let mark : own.mark ≡ transmit_of own.iv * 2 ^ 25 =
    subst (λ (l : List StoreRecord). (config_of l).mark ≡ transmit_of (config_of l).iv * 2 ^ 25) (sym h.first) (provisioned_mark s.node) in
    let goes : Goes own (first_world r) r.lives r.last =
    lives_go (node_role layers) (node_is_safe layers safe) own s.lives r.lives r.last (run_by_enough (node_role layers) s r h).lives (later_same own)
    (first_world r) (good_provisioned own.iv.current (transmit_of own.iv)) (record { kept = sym mark; current = refl }) in
    record { steps = goes.steps; lives = goes.are; good = goes.good; seals = goes.seals }

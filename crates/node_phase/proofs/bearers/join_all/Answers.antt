use Rattle.std.proofs.Common.{◌≡◌, ◌∙◌, ◌++◌, ◌∷◌, [], length, map, ap, sym, subst, arith, append_assoc}
use Rattle.std.specs.Prelude.{All}
use Rattle.std.specs.List.{Contains, flat_map, sum_by}
use Rattle.std.proofs.lemmas.List.Sums.{sum_by-cons}
use Rattle.std.specs.Vec.Iter.{into_iter_items}
use Rattle.std.proofs.lemmas.List.Elements.{All-cons, All-head, All-tail}
use Rattle.turn_lock.specs.Entries.{Holds, IsPrefix, KeptOf}
use Rattle.turn_lock.proofs.Kept.{kept_end, merge_holds_first, merge_holds_second}
use Rattle.turn_lock.proofs.Places.{prefix_trans}
use Rattle.node_bearer.specs.Did.{IsRider}
use Rattle.node_phase.specs.Worked.{done_of, drawn_by, looks_by, own_of, parts_by}
use Rattle.node_phase.proofs.bearers.join_all.Goals as goal

pub loop-bearer-preserved : goal.loop-bearer-preserved
loop-bearer-preserved g c =
    let was = c.loop-bearer in
    let inv = was.invariant in
    let b = c.into_parts-bearer.result.0 in
    let left = into_iter_items c.next.new.self in
    -- the bearer of the next seat
    let items = c.in-Some.ensures.steps.0 ∙ ap (λ x. x ∷ left) (sym c.into_parts-bearer.ensures.bearer) in
    let drew = c.join.ensures in
    let turn = c.join-in-loop-bearer.ensures in
    let mine = c.join-in-loop-bearer.new.p in
    let P = IsRider 1 c.args.shared.now.numbers.now c.args.shared.now.turn.now in
    let riders = subst (All P) items inv.rest in
    record {
      can_next = tt;
      is_finite = tt;
      len = omega (arith, c.in-Some.ensures.steps.1, ap length items, inv.len);
      which = drew.which ∙ inv.which;
      pass = (record { which = ap (λ p. p.which) turn.frame ∙ inv.pass.0.which; first = ap (λ p. p.first) turn.frame ∙ inv.pass.0.first }, ap (λ p. p.inside) turn.frame ∙ inv.pass.1);
      rest = All-tail P b left riders;
      parts = omega (arith, ap (λ p. p.parts) turn.frame, (All-head P b left riders).parts, ap length items, inv.parts);
      drawn = ap (λ x. x ++ flat_map drawn_by left) drew.drawn ∙ append_assoc was.drawer.drawn b.drawer.drawn (flat_map drawn_by left)
          ∙ ap (λ bs. was.drawer.drawn ++ flat_map drawn_by bs) (sym items) ∙ inv.drawn;
      looks = ap (λ x. x ++ flat_map looks_by left) drew.looks ∙ append_assoc was.drawer.looks b.drawer.looks (flat_map looks_by left)
          ∙ ap (λ bs. was.drawer.looks ++ flat_map looks_by bs) (sym items) ∙ inv.looks;
      noted = ap (λ x. x ++ flat_map (λ r. r.drawer.noted) left) drew.noted ∙ append_assoc was.drawer.noted b.drawer.noted (flat_map (λ r. r.drawer.noted) left)
          ∙ ap (λ bs. was.drawer.noted ++ flat_map (λ r. r.drawer.noted) bs) (sym items) ∙ inv.noted;
      free = λ none all.
          let before = inv.free none all in
          let others = subst (All (λ r. r.drawer.owes ≡ 0)) items before.1 in
          (omega (arith, drew.owes, before.0, All-head (λ r. r.drawer.owes ≡ 0) b left others), All-tail (λ r. r.drawer.owes ≡ 0) b left others);
      shares = omega (arith, drew.parts, sum_by-cons parts_by b left, ap (sum_by parts_by) items, inv.shares);
      kept = λ keep ys h.
          let both = subst (λ bs. KeptOf keep (was.pass.own ∷ map own_of bs) ys) items (inv.kept keep ys h) in
          subst (λ x. KeptOf keep (x ∷ map own_of left) ys) (sym turn.own) (c.kept_law.ensures.join keep 0 was.pass.seen was.pass.own b.pass.own ys (map own_of left) turn.stood.0 both);
      seen = λ longer front rest.
          inv.seen longer (prefix_trans was.pass.seen mine.seen longer turn.seen.first front)
          (subst (All (λ r. IsPrefix r.pass.seen longer)) (sym items) (All-cons (λ r. IsPrefix r.pass.seen longer) b left (prefix_trans b.pass.seen mine.seen longer turn.seen.second front) rest));
      holds = λ longer all rest.
          inv.holds longer
          (record { has = λ x h. all.has x (subst (λ o. Contains o x) (sym turn.own) (merge_holds_first was.pass.own b.pass.own x h)) })
          (subst (All (λ r. Holds r.pass.own longer)) (sym items) (All-cons (λ r. Holds r.pass.own longer) b left
          (record { has = λ x h. all.has x (subst (λ o. Contains o x) (sym turn.own) (merge_holds_second was.pass.own b.pass.own x h)) }) rest));
      dones = ap (λ ds. ds ++ map done_of left) c.in_ok-push.ensures.items ∙ append_assoc was.dones.items (done_of b ∷ []) (map done_of left)
          ∙ ap (λ bs. was.dones.items ++ map done_of bs) (sym items) ∙ inv.dones;
    }

pub returns-clause-kept : goal.returns-clause-kept
returns-clause-kept g c = λ keep ys h.
    kept_end keep own_of c.loop-bearer.pass.own (into_iter_items c.loop-bearer.bearer-iterator) ys (sym c.loop-bearer.invariant.len ∙ c.in-None.ensures.steps.0) (c.loop-bearer.invariant.kept keep ys h)

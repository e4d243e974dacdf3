use Rattle.std.proofs.Common.{◌≡◌, false, ◌∷◌, length, sym, ap, ◌∙◌, subst, map, arith}
use Rattle.std.specs.List.{All, Contains, sum_by}
use Rattle.std.specs.Vec.Iter.{into_iter_items}
use Rattle.std.proofs.lemmas.List.Elements.{All-tail, All-cons}
use Rattle.std.proofs.lemmas.List.Sums.{sum_by-cons}
use Rattle.turn_lock.specs.Entries.{KeptOf, Holds, merged}
use Rattle.turn_lock.specs.Views.{IsPassOf}
use Rattle.turn_lock.proofs.Kept.{kept_end, merged_end, merge_holds_first, merge_holds_second}
use Rattle.turn_lock.proofs.gather.join_all.Goals as goal

pub loop-other-preserved : goal.loop-other-preserved
loop-other-preserved g c =
    let before = c.loop-other.invariant in
    let was = c.loop-other.all in
    let other = c.in-Some.other in
    let left = into_iter_items c.next.new.self in
    let items = c.in-Some.ensures.steps.0 in
    let own = c.join.ensures.own in
    let frame = c.join.ensures.frame in
    record {
      can_next = tt;
      is_finite = tt;
      len = omega (arith, c.in-Some.ensures.steps.1, ap length items, before.len);
      pass = (record { which = ap (λ p. p.which) frame ∙ before.pass.0.which; first = ap (λ p. p.first) frame ∙ before.pass.0.first }, ap (λ p. p.inside) frame ∙ before.pass.1);
      rest = All-tail (λ p. IsPassOf c.args.turn.now p × (p.inside ≡ false)) other left (subst (All (λ p. IsPassOf c.args.turn.now p × (p.inside ≡ false))) items before.rest);
      parts = omega (arith, ap (λ p. p.parts) frame, ap (sum_by (λ p. p.parts)) items, sum_by-cons (λ p. p.parts) other left, before.parts);
      own = ap (λ x. merged x (map (λ p. p.own) left)) own ∙ ap (λ l. merged was.own (map (λ p. p.own) l)) (sym items) ∙ before.own;
      holds_first = record { has = λ x h. subst (λ l. Contains l x) (sym own) (merge_holds_first was.own other.own x (before.holds_first.has x h)) };
      holds = λ longer all rest.
          before.holds longer
          (record { has = λ x h. all.has x (subst (λ l. Contains l x) (sym own) (merge_holds_first was.own other.own x h)) })
          (subst (All (λ p. Holds p.own longer)) (sym items) (All-cons (λ p. Holds p.own longer) other left (record { has = λ x h. all.has x (subst (λ l. Contains l x) (sym own) (merge_holds_second was.own other.own x h)) }) rest));
      kept = λ keep ys h.
          let both = subst (λ l. KeptOf keep (was.own ∷ map (λ p. p.own) l) ys) items (before.kept keep ys h) in
          subst (λ x. KeptOf keep (x ∷ map (λ p. p.own) left) ys) (sym own) (c.kept_law.ensures.join keep 0 was.seen was.own other.own ys (map (λ p. p.own) left) c.join.ensures.stood.0 both);
    }

pub returns-clause-kept : goal.returns-clause-kept
returns-clause-kept g c = λ keep ys h. kept_end keep (λ p. p.own) c.loop-other.all.own (into_iter_items c.loop-other.other-iterator) ys (sym c.loop-other.invariant.len ∙ c.in-None.ensures.steps.0) (c.loop-other.invariant.kept keep ys h)

pub returns-clause-own : goal.returns-clause-own
returns-clause-own g c = sym (merged_end (λ p. p.own) c.loop-other.all.own (into_iter_items c.loop-other.other-iterator) (sym c.loop-other.invariant.len ∙ c.in-None.ensures.steps.0)) ∙ c.loop-other.invariant.own

use Rattle.std.proofs.Common.{◌≡◌, ◌∙◌, ◌++◌, ◌∷◌, ◌<◌, List, [], length, map, take, drop, ap, sym, subst, arith}
use Rattle.std.specs.Prelude.{All, slice_index_or}
use Rattle.std.specs.List.{filter, flat_map, sum_by}
use Rattle.std.proofs.lemmas.List.{length-map}
use Rattle.turn_lock.specs.Entries.{Holds, IsPrefix, KeptOf, added, entries_of}
use Rattle.turn_lock.proofs.Places.{prefix_trans}
use Rattle.locked_node.specs.Node.{node_marks}
use Rattle.node_bearer.specs.Did.{BearerOf}
use Rattle.node_phase.specs.Worked.{Worked, done_of, drawn_by, looks_by, own_of, parts_by}
use Rattle.node_phase.proofs.Fresh.{back, sum_ones}
use Rattle.node_phase.proofs.Parting.{first_of, list_at_map}
use Rattle.node_phase.proofs.phase.run_phase.Goals as goal

pub returns-clause-was : goal.returns-clause-was
returns-clause-was g c =
    let d = c.args.drawer.now in
    let plan = c.args.plan.now in
    let made = c.in_ok-bearers.bearers in
    let ys = c.work_all.new.bearers in
    let slice = c.as_mut_slice.result.now in
    let same : slice ≡ made.items = c.as_mut_slice.ensures.value in
    let count = c.work_all.ensures.count in
    let long : length ys ≡ length made.items = count ∙ ap length same in
    let all : List (BearerOf g.row.F.Denot) = take made.len (ys ++ drop (length ys) made.items) in
    let whole : take made.len (ys ++ drop (length ys) made.items) ≡ ys = back made.len made.items ys made.ok.0 long in
    let split = c.in_ok-bearers.ensures in
    let joined = c.in_ok-dones.ensures in
    let entered = c.enter-node.ensures in
    let numbers = ap (map (λ b. b.number)) same ∙ split.numbers in
    let parts : c.join_all.new.pass.parts ≡ 1024 = omega (arith, joined.parts, ap length whole, long, split.parts, c.in_ok-turn.ensures.parts) in
    let first = ap node_marks c.in_ok-turn.ensures.first in
    let places = entered.places parts ∙ ap (λ ms. added ms (node_marks c.enter-node.result)) first in
    record {
      before = slice;
      bearers = ys;
      long = count;
      numbers = numbers;
      noted = subst (All (λ b. b.drawer.noted ≡ d.noted ++ d.drawn)) (sym same) split.noted;
      known = subst (All (λ b. b.drawer.known ≡ d.known ++ d.looks)) (sym same) split.known;
      worked = λ k b lt.
          let within : k < length plan = omega (arith, lt, c.requires.plan, ap length numbers, length-map slice (λ x. x.number)) in
          let p = first_of plan k within in
          subst (λ events. Worked k events (slice_index_or slice k b) (slice_index_or ys k b)) (sym (list_at_map (λ v. v.items) plan k p within)) (c.work_all.ensures.worked k p b lt);
      drawn = joined.drawn ∙ ap (λ x. x ++ flat_map drawn_by all) (ap (λ x. x.drawn) c.split_all.ensures.drawer) ∙ ap (λ bs. d.drawn ++ flat_map drawn_by bs) whole;
      looks = joined.looks ∙ ap (λ x. x ++ flat_map looks_by all) (ap (λ x. x.looks) c.split_all.ensures.drawer) ∙ ap (λ bs. d.looks ++ flat_map looks_by bs) whole;
      same = joined.noted ∙ ap (λ x. x ++ flat_map (λ (b : BearerOf g.row.F.Denot). b.drawer.noted) all) (ap (λ x. x.noted) c.split_all.ensures.drawer) ∙ ap (λ bs. d.noted ++ flat_map (λ (b : BearerOf g.row.F.Denot). b.drawer.noted) bs) whole;
      parts = λ few.
          let enough : length c.args.counts.now < d.parts = omega (arith, few, ap length numbers, length-map slice (λ x. x.number)) in
          let shares = split.shares enough in
          let ones : All (λ (b : BearerOf g.row.F.Denot). b.drawer.parts ≡ 1) ys = λ k b lt.
          let here : k < length slice = omega (arith, lt, count) in
          let within : k < length plan = omega (arith, here, c.requires.plan, ap length numbers, length-map slice (λ x. x.number)) in
          (c.work_all.ensures.worked k (first_of plan k within) b here).parts ∙ subst (All (λ b. b.drawer.parts ≡ 1)) (sym same) shares.1 k b here in
          omega (arith, joined.shares, ap (sum_by parts_by) whole, sum_ones parts_by ys ones, long, shares.0);
      free = λ none.
          let paid : All (λ (b : BearerOf g.row.F.Denot). b.drawer.owes ≡ 0) ys = λ k b lt.
          let here : k < length slice = omega (arith, lt, count) in
          let within : k < length plan = omega (arith, here, c.requires.plan, ap length numbers, length-map slice (λ x. x.number)) in
          (c.work_all.ensures.worked k (first_of plan k within) b here).owes in
          joined.free (ap (λ x. x.owes) c.split_all.ensures.drawer ∙ none) (subst (All (λ (b : BearerOf g.row.F.Denot). b.drawer.owes ≡ 0)) (sym whole) paid);
      front = record { rest = entries_of c.join_all.new.pass.own; is = entered.whole parts ∙ ap (λ ms. ms ++ entries_of c.join_all.new.pass.own) first };
      kept = λ keep zs h.
          ap (filter keep) (sym places)
          ∙ joined.kept keep zs (subst (λ own. KeptOf keep (own ∷ map own_of (take made.len (ys ++ drop (length ys) made.items))) zs) (sym (ap (λ p. p.own) c.split_all.ensures.pass ∙ c.in_ok-turn.ensures.own))
          (subst (λ bs. KeptOf keep ([] ∷ map own_of bs) zs) (sym whole) h));
      seen = λ k b lt.
          prefix_trans _ c.join_all.new.pass.seen (node_marks c.enter-node.result) (subst (All (λ b. IsPrefix b.pass.seen c.join_all.new.pass.seen)) whole joined.seen k b lt) entered.seen;
      holds = subst (λ own. All (λ b. Holds b.pass.own own) ys) places (subst (All (λ b. Holds b.pass.own c.join_all.new.pass.own)) whole joined.holds);
      left = joined.dones ∙ ap (map done_of) whole;
    }

use Rattle.std.proofs.Common.{◌≡◌, ◌∙◌, ◌<◌, ◌-◌, ◌++◌, ap, refl, sym, subst, arith}
use Rattle.std.specs.Prelude.{All}
use Rattle.std.proofs.lemmas.List.Elements.{All-push}
use Rattle.node_bearer.specs.Did.{IsRider}
use Rattle.node_phase.specs.Worked.{IsFresh}
use Rattle.node_phase.proofs.Fresh.{drawer_with, long_more, numbers_more, pass_with}
use Rattle.seq_word.proofs.Sums.{part_of-one}
use Rattle.node_phase.proofs.bearers.split_all.Goals as goal

pub loop-number-preserved : goal.loop-number-preserved
loop-number-preserved g c =
    let l = c.loop-number in
    let inv = l.invariant in
    let seat = c.split-seat.ensures in
    let own = c.split-own.ensures in
    let items = c.in_ok-push.ensures.items in
    let was = l.bearers.items in
    let d = c.args.drawer.now in
    let p = c.args.pass.now in
    let P = IsRider 1 c.args.shared.now.numbers.now c.args.shared.now.turn.now in
    let longer = long_more was c.push.new.self.items _ items in
    record {
      drawer = seat.frame ∙ ap (λ x. drawer_with x (l.drawer.parts - 1)) inv.drawer ∙ ap (drawer_with d) (sym (ap (λ x. x.parts) seat.frame));
      pass = own.frame ∙ ap (λ x. pass_with x (l.pass.parts - 1)) inv.pass ∙ ap (pass_with p) (sym (ap (λ x. x.parts) own.frame));
      parts = omega (arith, ap (λ x. x.parts) own.frame, longer, inv.parts, inv.count, c.requires.parts, c.loop-number-test.true);
      numbers = numbers_more was c.push.new.self.items _ c.args.counts.now l.number-index items inv.numbers refl c.loop-number-test.true;
      count = omega (arith, longer, inv.count);
      riders = subst (All P) (sym items) (All-push P was _ inv.riders (record {
        made = c.requires.made;
        draws = ap (λ x. x.which) seat.value ∙ ap (λ x. x.which) inv.drawer ∙ c.requires.draws;
        pass = record {
          which = ap (λ x. x.which) own.value ∙ ap (λ x. x.which) inv.pass ∙ c.requires.pass.0.which;
          first = ap (λ x. x.first) own.value ∙ ap (λ x. x.first) inv.pass ∙ c.requires.pass.0.first;
        };
        outside = ap (λ x. x.inside) own.value ∙ ap (λ x. x.inside) inv.pass ∙ c.requires.pass.1;
        parts = ap (λ x. x.parts) own.value;
      }));
      fresh = subst (All IsFresh) (sym items) (All-push IsFresh was _ inv.fresh (record {
        own = ap (λ x. x.own) own.value;
        lines = c.in_ok-lines.ensures.items;
        drawn = ap (λ x. x.drawn) seat.value;
        looks = ap (λ x. x.looks) seat.value;
        owes = ap (λ x. x.owes) seat.value;
      }));
      noted = subst (All (λ b. b.drawer.noted ≡ d.noted ++ d.drawn)) (sym items) (All-push (λ b. b.drawer.noted ≡ d.noted ++ d.drawn) was _ inv.noted
          (ap (λ x. x.noted) seat.value ∙ ap (λ x. x.noted ++ x.drawn) inv.drawer));
      known = subst (All (λ b. b.drawer.known ≡ d.known ++ d.looks)) (sym items) (All-push (λ b. b.drawer.known ≡ d.known ++ d.looks) was _ inv.known
          (ap (λ x. x.known) seat.value ∙ ap (λ x. x.known ++ x.looks) inv.drawer));
      shares = λ few.
          let s = inv.shares few in
          let more : 1 < l.drawer.parts = omega (arith, s.0, few, inv.count, c.loop-number-test.true) in (
            omega (arith, ap (λ x. x.parts) seat.frame, longer, s.0, more),
            subst (All (λ b. b.drawer.parts ≡ 1)) (sym items) (All-push (λ b. b.drawer.parts ≡ 1) was _ s.1 (ap (λ x. x.parts) seat.value ∙ part_of-one l.drawer.parts more)),
          );
    }

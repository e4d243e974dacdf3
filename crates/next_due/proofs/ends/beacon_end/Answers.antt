use Rattle.std.proofs.Common.{inl, inr}
use Rattle.next_due.proofs.Nothing.{from_zero}
use Rattle.next_due.proofs.ends.beacon_end.Goals as goal

pub returns : goal.returns
returns c = λ later from time.
    let end = from_zero c.args.now later 1000 c.period_end.result (c.period_end.ensures.end later time) in
    (λ h. elim h [ inl e ↦ absurd (c.has_beacons.ensures.some c.if-not-has_beacons.false e) | inr l ↦ end.0 l ], λ w. inr (end.1 w))

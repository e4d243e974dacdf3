-- A key that is tried opens, or is one more that opens nothing; another one is passed.
use Rattle.std.proofs.Common.{◌+◌, length, refl, sym, subst, ap, arith, take, drop}
use Rattle.std.proofs.lemmas.List.{length_push}
use Rattle.kept_keys.specs.Bound.{fitting_keys}
use Rattle.layer_definitions.specs.Upper.{IsUnopened, Opens}
use Rattle.upper_transport.proofs.Fitting.{fitting_around, one_passed, one_tried, opened_not_unopened, opens_here, unopened_more}
use Rattle.upper_transport.proofs.opening.unseal_bound.Goals as goal
use Rattle.upper_transport.proofs.opening.unseal_bound.Goals.{then-fits+in_default, else-fits}

found : (c : goal.In-Some) → Opens (fitting_keys c.args.net c.args.aid c.args.keys.now) c.args.f.now c.args.upper.now c.loop-key.at c.in-Some.payload
found c =
    let keys = c.args.keys.now in
    let i = c.loop-key.key-index in
    let around = fitting_around c.args.net c.args.aid keys i c.key-item.result c.loop-key-test.true c.key-item.is (sym c.if-fits.ensures.value) in
    subst (λ l. Opens l c.args.f.now c.args.upper.now c.loop-key.at c.in-Some.payload) (sym around)
    (opens_here (fitting_keys c.args.net c.args.aid (take i keys)) (fitting_keys c.args.net c.args.aid (drop (i + 1) keys)) c.key-item.result.key c.args.f.now c.args.upper.now c.in-Some.payload c.loop-key.at
    c.loop-key.invariant.place c.loop-key.invariant.unopened c.in-Some.ensures.some)

pub returns-in-Some-clause-ok : goal.returns-in-Some-clause-ok
returns-in-Some-clause-ok c = found c

pub returns-in-Some-clause-no_key : goal.returns-in-Some-clause-no_key
returns-in-Some-clause-no_key c = (
  (λ e. absurd (cc)),
  (λ u. absurd (opened_not_unopened (fitting_keys c.args.net c.args.aid c.args.keys.now) c.args.f.now c.args.upper.now c.in-Some.payload c.loop-key.at (found c) u)),
)

pub loop-key-preserved : goal.loop-key-preserved
loop-key-preserved c = elim c.if-fits.branch [
  | then-fits+in_default w ↦
      let keys = c.args.keys.now in
      let i = c.loop-key.key-index in
      let more = one_tried c.args.net c.args.aid keys i c.key-item.result c.loop-key-test.true c.key-item.is (sym w.if-fits.ensures.value) in
      let front = fitting_keys c.args.net c.args.aid (take i keys) in
      record {
        place = rw w.at-is (omega (arith, ap length more, length_push front c.key-item.result.key, c.loop-key.invariant.place));
        few = rw w.at-is (omega (arith, c.loop-key.invariant.few));
        unopened = subst (λ l. IsUnopened l c.args.f.now c.args.upper.now) (sym more)
            (unopened_more front c.key-item.result.key c.args.f.now c.args.upper.now c.loop-key.invariant.unopened (w.in_default.ensures.none refl));
      }
  | else-fits w ↦
      let passed = one_passed c.args.net c.args.aid c.args.keys.now c.loop-key.key-index c.key-item.result c.loop-key-test.true c.key-item.is (sym w.if-fits.ensures.value) in
      record {
        place = rw (w.at-is, passed) c.loop-key.invariant.place;
        few = rw w.at-is (omega (arith, c.loop-key.invariant.few));
        unopened = subst (λ l. IsUnopened l c.args.f.now c.args.upper.now) (sym passed) c.loop-key.invariant.unopened;
      }
]

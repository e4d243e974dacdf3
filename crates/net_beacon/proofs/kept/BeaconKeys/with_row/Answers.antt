use Rattle.std.proofs.Common.{◌≡◌, sym, ◌∙◌, arith}
use Rattle.net_beacon.proofs.Rows.{answer_of, changes, IsBehind, row_keys, stays}
use Rattle.net_beacon.proofs.kept.BeaconKeys.with_row.Goals as goal
use Rattle.net_beacon.proofs.kept.BeaconKeys.with_row.Goals.{in_default-via-in-Some+else-first-row, in_default-via-in_default}

pub returns-in-Some : goal.returns-in-Some
returns-in-Some c rows order h = stays c.args.row.now rows c.args.bytes.now c.in-Some.first order (omega (arith, c.if-first-row.true)) (rw c.in-Some.is at h)

pub returns-in_default : goal.returns-in_default
returns-in_default c rows order h =
    let answer : (c.in_default.answer ≡ c.args.answer) × IsBehind c.args.row.now c.args.answer = elim c.in_default.branch [
      | in_default-via-in-Some+else-first-row w ↦ (w.answer-is ∙ sym w.in-Some.is, rw w.in-Some.is w.if-first-row.false)
      | in_default-via-in_default w ↦ (w.answer-is, rw w.in_default.is tt)
    ] in
    let read = answer_of (row_keys c.args.row.now) c.args.bytes.now c.read_row.result c.read_row.ensures.some c.read_row.ensures.none in
    rw (c.or.ensures, answer.0) (changes c.args.row.now rows c.args.bytes.now c.read_row.result c.args.answer answer.1 read h)

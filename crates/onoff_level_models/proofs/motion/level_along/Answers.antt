-- Numbers beyond 64 bits are beyond the levels, too.
use Rattle.std.proofs.Common.{rules, ◌+ℤ◌, FitsSigned, w64}
use Rattle.std.specs.Int.{w16}
use Rattle.std.proofs.lemmas.Int.{to_z-of_z}
use Rattle.model_states.specs.Level.{way_gone}
use Rattle.onoff_level_models.proofs.Ways.{in_range-saturate}
use Rattle.onoff_level_models.proofs.motion.level_along.Goals as goal

pub returns : goal.returns
returns c =
    let start : FitsSigned w16 c.args.start = c.ranges.start in
    let delta : FitsSigned w16 c.args.delta = c.ranges.delta in
    let level : FitsSigned w16 c.in_range.result = search rules in
    let sum : FitsSigned w64 c.saturating_add.result = search rules in
    let from : FitsSigned w64 c.from.result = search rules in
    let moved : FitsSigned w64 c.moved_by-moved.result = search rules in
    let moved_is = simp to_z-of_z at c.moved_by-moved.ensures in
    let from_is = simp to_z-of_z at c.from.ensures in
    let sum_is = simp to_z-of_z at c.saturating_add.ensures in
    let level_is = simp to_z-of_z at c.in_range.ensures in
    simp to_z-of_z (rw (level_is, sum_is, moved_is, from_is) (in_range-saturate (c.args.start +ℤ way_gone c.args.delta c.args.ticks c.args.duration)))

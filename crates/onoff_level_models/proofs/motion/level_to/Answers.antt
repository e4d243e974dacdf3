-- A part of the way from one level to another leads to a level.
use Rattle.std.proofs.Common.{◌≡◌, arith, rules, refl, ◌+ℤ◌, ◌-ℤ◌, FitsSigned, w64, false, leb}
use Rattle.std.specs.Int.{w16}
use Rattle.std.proofs.lemmas.Int.{to_z-of_z}
use Rattle.model_states.specs.Level.{way_gone}
use Rattle.onoff_level_models.proofs.Ways.{part-fits, wider}
use Rattle.onoff_level_models.proofs.motion.level_to.Goals as goal
use Rattle.onoff_level_models.proofs.motion.level_to.Goals.{After-from}

-- where the sum of code leads
sum-is : (c : After-from) → c.from.result +ℤ c.part_of-part.result ≡ c.args.start +ℤ way_gone (c.args.target -ℤ c.args.start) c.args.ticks c.args.duration
sum-is c =
    let start : FitsSigned w16 c.args.start = c.ranges.start in
    let target : FitsSigned w16 c.args.target = c.ranges.target in
    let whole : FitsSigned w64 c.way.result = search rules in
    let way = simp to_z-of_z at c.way.ensures.value in
    let part = simp to_z-of_z at c.part_of-part.ensures in
    let from = simp to_z-of_z at c.from.ensures in
    rw (from, part, way) refl

sum-fits : (c : After-from) → FitsSigned w16 (c.from.result +ℤ c.part_of-part.result)
sum-fits c = rw (sum-is c) (part-fits c.args.start c.args.target c.args.ticks c.args.duration c.ranges.start c.ranges.target c.requires)

pub overflow_cast-result : goal.overflow_cast-result
overflow_cast-result c =
    let from : FitsSigned w64 c.from.result = search rules in
    let part : FitsSigned w64 c.part_of-part.result = search rules in
    let sum : FitsSigned w64 (c.from.result +ℤ c.part_of-part.result) = wider _ (sum-fits c) in
    simp to_z-of_z (sum-fits c)

pub returns : goal.returns
returns c =
    let from : FitsSigned w64 c.from.result = search rules in
    let part : FitsSigned w64 c.part_of-part.result = search rules in
    let sum : FitsSigned w64 (c.from.result +ℤ c.part_of-part.result) = wider _ (sum-fits c) in
    let small : FitsSigned w16 (c.from.result +ℤ c.part_of-part.result) = sum-fits c in
    let before : leb c.args.duration c.args.ticks ≡ false = grind (arith, c.requires) in
    simp to_z-of_z (rw before (sum-is c))

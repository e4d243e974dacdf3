use Rattle.std.proofs.Common.{◌+◌, [], length, refl, sym, ap, ◌∙◌, arith}
use Rattle.std.specs.Option.{option_map_or}
use Rattle.script_definitions.specs.Words.{lines_of}
use Rattle.script_definitions.specs.Reading.{reading}
use Rattle.script_reader.proofs.Steps.{step_ok, step_err, end_some, end_none, rest_shorter}
use Rattle.script_reader.proofs.reading.read.Goals as goal

pub loop-rest-init : goal.loop-rest-init
unfolding reading
loop-rest-init c = record { said = refl; ranges = tt; count = omega arith }

pub returns-in-Ok-Err-clause-cause : goal.returns-in-Ok-Err-clause-cause
returns-in-Ok-Err-clause-cause c =
    step_err _ _ _ _ _ _ _ _ (ap (λ o. option_map_or (λ t. lines_of t.now) o []) c.in-Some.is ∙ c.cut_line.ensures.value)
    (sym (rw c.in-Ok-Err.field-0-is at c.in-Ok-Err.ensures.value)) c.loop-rest.invariant.said

pub loop-rest-preserved : goal.loop-rest-preserved
loop-rest-preserved c = record {
  said = step_ok _ _ _ _ _ _ _ _ (ap (λ o. option_map_or (λ t. lines_of t.now) o []) c.in-Some.is ∙ c.cut_line.ensures.value)
      (sym (rw c.in-Ok-Ok.field-0-is at c.in-Ok-Ok.ensures.value)) c.loop-rest.invariant.said;
  ranges = rw c.in-Ok-Ok.field-0-is at c.in-Ok-Ok.ensures.ranges;
  count =
      let shorter = rest_shorter _ _ c.cut_line.ensures.shorter in
      let here = ap (λ o. option_map_or (λ t. length t.now + 1) o 0) c.in-Some.is in
      omega (arith, shorter, here, c.loop-rest.invariant.count);
}

pub returns-in-Some-above-clause-ok : goal.returns-in-Some-above-clause-ok
returns-in-Some-above-clause-ok c =
    rw c.into_script.ensures.value (end_some _ _ _ _ (rw (c.in_default.is, c.in-Some-above.is) at c.loop-rest.invariant.said))

pub returns-clause-cause : goal.returns-clause-cause
returns-clause-cause c = end_none _ _ _ (rw (c.in_default.is, c.in-None.is) at c.loop-rest.invariant.said)

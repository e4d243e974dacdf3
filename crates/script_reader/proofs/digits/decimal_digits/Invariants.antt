use Rattle.std.proofs.Common.{◌≡◌, ◌^◌, ◌<◌, drop}
use Rattle.script_definitions.specs.Digits.{decimal_from}
use Rattle.script_reader.proofs.digits.decimal_digits.Given as goal

abbrev pub invariant-loop-c : goal.invariant-loop-c
invariant-loop-c l = (decimal_from l.n (drop l.c-index l.word) ≡ decimal_from 0 l.word) × (l.n < 10 ^ l.c-index)

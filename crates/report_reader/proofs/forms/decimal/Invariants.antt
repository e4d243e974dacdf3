use Rattle.std.proofs.Common.{◌≡◌, drop}
use Rattle.report_reader.specs.Forms.{decimal_from}
use Rattle.report_reader.proofs.forms.decimal.Given as goal

abbrev pub invariant-loop-c : goal.invariant-loop-c
invariant-loop-c l = decimal_from l.n (drop l.c-index l.word) ≡ decimal_from 0 l.word

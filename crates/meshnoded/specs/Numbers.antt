-- The number that the program ends with.
use Rattle.std.specs.Prelude.{ℕ, Result, Ok, Err}
use Rattle.live_node.specs.Status.{exit_number}
use Rattle.meshnoded.specs.declared.failure.Failure.{Failure}
use Rattle.meshnoded.specs.declared.failure.Failure.TheVariants as F

-- where not all was done
abbrev pub failure_number : Failure → ℕ
failure_number F.Usage = 2
failure_number F.Read = 4
failure_number F.Write = 5
failure_number F.Memory = 6
failure_number F.Keys = 15
failure_number (F.Open fault) = 16
failure_number (F.Show fault) = 16
failure_number (F.Make fault) = 17
failure_number (F.Clock error) = 18
failure_number (F.Life status) = exit_number status
failure_number (F.LifeAndFlash status) = exit_number status

-- 0 where what was asked for was done
abbrev pub answer_number : {T : Type 0} → Result T Failure → ℕ
answer_number (Ok done) = 0
answer_number (Err failure) = failure_number failure

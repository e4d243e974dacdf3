-- Which stream failed, where something wasn't done: its count of faults rose exactly where that is why, and else is as it was.
use Rattle.std.specs.Prelude.{◌≡◌, ℕ, Result, Ok, Err}
use Rattle.live_node.specs.Ends.{IsErrorsCause, IsSinkCause, IsSourceCause}
use Rattle.mesh_base.specs.Outside.{Rose}
use Rattle.meshnoded.specs.declared.failure.Failure.{Failure}
use Rattle.meshnoded.specs.declared.failure.Failure.TheVariants as F

-- the source
abbrev pub IsSourceFailure : Failure → ℕ → ℕ → Type 0
IsSourceFailure F.Read old new = Rose old new
IsSourceFailure (F.Life status) old new = IsSourceCause status old new
IsSourceFailure (F.LifeAndFlash status) old new = IsSourceCause status old new
IsSourceFailure _ old new = new ≡ old

-- the sink of what was asked for
abbrev pub IsSinkFailure : Failure → ℕ → ℕ → Type 0
IsSinkFailure F.Write old new = Rose old new
IsSinkFailure (F.Life status) old new = IsSinkCause status old new
IsSinkFailure (F.LifeAndFlash status) old new = IsSinkCause status old new
IsSinkFailure _ old new = new ≡ old

-- the sink of wrong lines
abbrev pub IsErrorsFailure : Failure → ℕ → ℕ → Type 0
IsErrorsFailure (F.Life status) old new = IsErrorsCause status old new
IsErrorsFailure (F.LifeAndFlash status) old new = IsErrorsCause status old new
IsErrorsFailure _ old new = new ≡ old

-- No call of a stream failed where all was done; and where it wasn't, as that failure says.
abbrev pub IsAnswerBy : {T : Type 0} → (Failure → ℕ → ℕ → Type 0) → Result T Failure → ℕ → ℕ → Type 0
IsAnswerBy Cause (Ok done) old new = new ≡ old
IsAnswerBy Cause (Err failure) old new = Cause failure old new

-- What follows for Polls and their answers in a life: the Friend Sequence Number counts answers, modulo 2, and each Poll lets one PDU in.
use Rattle.std.specs.Prelude.{◌≡◌, ◌≢◌, ◌↔◌, ℕ, ◌+◌, ◌%◌, ◌≤◌, Bool, true, false, if◌then◌else◌, List, [], ◌∷◌, ◌++◌, fold, Option, Some, None, is_some, Result, Ok, Err}
use Rattle.layer_definitions.specs.Control.{control_text}
use Rattle.low_power_definitions.specs.Calls.{has_seek}
use Rattle.low_power_definitions.specs.State.{LpnCall, LowPowerState, after, hear, heard_as, is_answer, list, list_result, lpn, no_friend, offer, offer_job, poll, poll_job, request_job, seek}
use Rattle.low_power_definitions.specs.declared.lpn.ListFault.{ListFault}
use Rattle.low_power_definitions.specs.declared.lpn.LpnHeard.TheVariants.{Pass}
use Rattle.low_power_definitions.specs.declared.lpn.LpnJob.{LpnJob}
use Rattle.mesh_base.specs.declared.address.Address.{Address}
use Rattle.mesh_base.specs.declared.control.ControlMsg.TheVariants as C
use Rattle.mesh_base.specs.declared.pair.Name.{Name}

-- what a call sends

abbrev pub job_in : Result LpnJob ListFault → Option LpnJob
job_in (Ok job) = Some job
job_in (Err fault) = None

abbrev pub sent : LowPowerState → LpnCall → Option LpnJob
sent st seek = Some (request_job st)
sent st poll = poll_job st
sent st (list a) = job_in (list_result st a)
sent st (hear by_friend n) = None
sent st (offer from friend_counter) = offer_job st from friend_counter

-- by this call the node sends a Poll with this FSN
abbrev pub SendsPoll : LowPowerState → LpnCall → Bool → Type 0
SendsPoll st call fsn = (job : LpnJob) × (sent st call ≡ Some job) × (job.tpdu ≡ control_text (C.Poll fsn))

-- whether a call closes a Poll: it hears a PDU under friendship credentials, which passes
abbrev pub is_closed_by : LowPowerState → LpnCall → Bool
is_closed_by st (hear by_friend n) = is_answer by_friend (heard_as st by_friend n)
is_closed_by st _ = false

-- how many Polls these calls close, from a state on
abbrev pub closings : LowPowerState → List LpnCall → ℕ
closings st [] = 0
closings st (call ∷ calls) = (if is_closed_by st call then 1 else 0) + closings (after st call) calls

-- Two Polls of one friendship have the same FSN exactly where an even number of Polls was closed between them (3.6.6.4.2). A friendship goes
-- on until the next Friend Request.
abbrev pub FsnCountsAnswers : Type 0
FsnCountsAnswers =
    (own : Address) (elements : ℕ) (before between : List LpnCall) (first second : LpnCall) (f g : Bool)
    → SendsPoll (lpn own elements before) first f → has_seek between ≡ false
    → SendsPoll (lpn own elements (before ++ first ∷ between)) second g
    → (f ≡ g) ↔ (closings (lpn own elements (before ++ first ∷ [])) between % 2 ≡ 0)

-- No more PDUs are let in under friendship credentials than Polls were sent.

abbrev pub is_poll : LowPowerState → LpnCall → Bool
is_poll st poll = is_some (poll_job st)
is_poll st (offer from friend_counter) = is_some (offer_job st from friend_counter)
is_poll st _ = false

abbrev pub polls : LowPowerState → List LpnCall → ℕ
polls st [] = 0
polls st (call ∷ calls) = (if is_poll st call then 1 else 0) + polls (after st call) calls

abbrev pub AnswersAreAsked : Type 0
AnswersAreAsked =
    (own : Address) (elements : ℕ) (calls : List LpnCall)
    → closings (no_friend own elements) calls ≤ polls (no_friend own elements) calls

-- A PDU that closed a Poll doesn't pass again, under whichever credentials, until another one closes a Poll of the friendship.
abbrev pub ClosesOnce : Type 0
ClosesOnce =
    (st : LowPowerState) (n : Name) (later : List LpnCall) (by_friend : Bool)
    → is_closed_by st (hear true n) ≡ true → has_seek later ≡ false → closings (after st (hear true n)) later ≡ 0
    → heard_as (fold after (after st (hear true n)) later) by_friend n ≢ Pass

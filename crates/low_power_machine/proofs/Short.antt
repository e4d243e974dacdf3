-- What a Low Power node sends has a text of 1 to 12 octets.
use Rattle.std.proofs.Common.{◌≡◌, Bool, true, false, cond, List, [], ◌∷◌, sym, subst, arith, Option, Some, None, Ok, Err}
use Rattle.std.specs.Prelude.{IfSome, length}
use Rattle.std.specs.List.{AllByRecursion as Every}
use Rattle.std.specs.Option.{option_map, option_to_list}
use Rattle.layer_definitions.specs.Control.{control_text}
use Rattle.low_power_definitions.specs.Polls.{job_in, sent}
use Rattle.low_power_definitions.specs.State.{LpnCall, LowPowerState, after, friend_of, hear, is_full, list, list_job, list_to, offer, offered, poll, request_job, seek, to_friend}
use Rattle.low_power_definitions.specs.declared.lpn.Credentials.{Credentials}
use Rattle.low_power_definitions.specs.declared.lpn.Friend.{Friend}
use Rattle.low_power_definitions.specs.declared.lpn.ListFault.TheVariants as L
use Rattle.low_power_definitions.specs.declared.lpn.LpnJob.{LpnJob}
use Rattle.low_power_machine.specs.Plans.{IsShort}
use Rattle.low_power_role.specs.Role.{sent_by}
use Rattle.mesh_base.proofs.Every.{every_append}
use Rattle.mesh_base.specs.declared.address.Address.{Address}
use Rattle.mesh_base.specs.declared.control.ControlMsg.TheVariants as C

request_short : (st : LowPowerState) → IsShort (request_job st)
unfolding control_text
request_short st = (omega arith, omega arith)

poll_short : (c : Credentials) (fsn : Bool) → IsShort (to_friend c (C.Poll fsn))
unfolding control_text
poll_short c fsn = (omega arith, omega arith)

list_short : (st : LowPowerState) (c : Credentials) (a : Address) → IsShort (list_job st c a)
unfolding control_text
list_short st c a = (omega arith, omega arith)

abbrev IsShortIn : Option LpnJob → Type 0
IsShortIn o = Every IsShort (option_to_list o)

call_short : (st : LowPowerState) (call : LpnCall) → IsShortIn (sent st call)
call_short st seek = (request_short st, tt)
call_short st poll = pick (friend_of st.standing)
  where
    pick : (o : Option Friend) → IsShortIn (option_map (λ (f : Friend). to_friend f.credentials (C.Poll f.fsn)) o)
    pick None = tt
    pick (Some f) = (poll_short f.credentials f.fsn, tt)
call_short st (list a) = pick (friend_of st.standing)
  where
    pick : (o : Option Friend) → IsShortIn (job_in (list_to st a o))
    pick None = tt
    pick (Some f) = full (is_full st.list a)
      where
        full : (b : Bool) → IsShortIn (job_in (cond b (Err (L.TooMany (length st.list))) (Ok (list_job st f.credentials a))))
        full true = tt
        full false = (list_short st f.credentials a, tt)
call_short st (hear by_friend n) = tt
call_short st (offer from friend_counter) = pick (offered st.standing from friend_counter)
  where
    pick : (o : Option Credentials) → IsShortIn (option_map (λ (c : Credentials). to_friend c (C.Poll false)) o)
    pick None = tt
    pick (Some c) = (poll_short c false, tt)

sent_short : (st : LowPowerState) (calls : List LpnCall) → Every IsShort (sent_by st calls)
sent_short st [] = tt
sent_short st (call ∷ calls) = every_append IsShort (option_to_list (sent st call)) (sent_by (after st call) calls) (call_short st call) (sent_short (after st call) calls)

pub job_short : (st : LowPowerState) (calls : List LpnCall) (job : Option LpnJob) → option_to_list job ≡ sent_by st calls → IfSome job IsShort
job_short st calls None is = tt
job_short st calls (Some job) is = (subst (λ l. Every IsShort l) (sym is) (sent_short st calls)).0

-- What the node is told to do, by what its call answers.
use Rattle.std.proofs.Common.{◌≡◌, cond, List, [], ◌∷◌, ◌++◌, refl, sym, subst, Option, Some, None, Result, Ok, Err}
use Rattle.std.specs.Option.{is_some, option_map, option_to_list}
use Rattle.low_power_definitions.specs.Polls.{job_in}
use Rattle.low_power_definitions.specs.State.{LowPowerState, after, friend_of, list, list_result, poll, poll_job, to_friend}
use Rattle.low_power_definitions.specs.declared.lpn.Friend.{Friend}
use Rattle.low_power_definitions.specs.declared.lpn.ListFault.{ListFault}
use Rattle.low_power_definitions.specs.declared.lpn.LpnJob.{LpnJob}
use Rattle.low_power_machine.specs.Telling.{IsToldSo}
use Rattle.low_power_role.specs.Answers.{list_answer}
use Rattle.mesh_base.specs.declared.address.Address.{Address}
use Rattle.mesh_base.specs.declared.control.ControlMsg.TheVariants as C
use Rattle.mesh_types.specs.declared.answers.Answer.{Answer}
use Rattle.mesh_types.specs.declared.answers.Answer.TheVariants as A
use Rattle.mesh_types.specs.declared.low_power.LowPowerAnswer.TheVariants as P
use Rattle.mesh_types.specs.declared.low_power.LowPowerEvent.TheVariants as W

abbrev poll_of : Friend → LpnJob
poll_of f = to_friend f.credentials (C.Poll f.fsn)

abbrev by_friend : Option Friend → Answer
by_friend o = A.LowPower (cond (is_some o) P.Polled P.NoFriend)

abbrev no_jobs : List LpnJob
no_jobs = []

pub poll_told : (st : LowPowerState) (job : LpnJob) → poll_job st ≡ Some job
    → IsToldSo st W.Poll (record { answer = A.LowPower P.Polled; job = Some job }) (after st poll)
poll_told st job e = record {
  answer = pick (friend_of st.standing) e;
  job = subst (λ (o : Option LpnJob). job ∷ [] ≡ option_to_list o ++ []) (sym e) refl;
  state = refl;
}
  where
    pick : (o : Option Friend) → option_map poll_of o ≡ Some job → A.LowPower P.Polled ≡ by_friend o
    pick None e = absurd cc
    pick (Some f) e = refl

pub poll_refused : (st : LowPowerState) → friend_of st.standing ≡ None
    → IsToldSo st W.Poll (record { answer = A.LowPower P.NoFriend; job = None }) (after st poll)
poll_refused st e = record {
  answer = subst (λ (o : Option Friend). A.LowPower P.NoFriend ≡ by_friend o) (sym e) refl;
  job = subst (λ (o : Option Friend). no_jobs ≡ option_to_list (option_map poll_of o) ++ []) (sym e) refl;
  state = refl;
}

pub list_told : (st : LowPowerState) (a : Address) (job : LpnJob) → list_result st a ≡ Ok job
    → IsToldSo st (W.List a) (record { answer = A.LowPower P.Listed; job = Some job }) (after st (list a))
list_told st a job e = record {
  answer = subst (λ (r : Result LpnJob ListFault). A.LowPower P.Listed ≡ A.LowPower (list_answer r)) (sym e) refl;
  job = subst (λ (r : Result LpnJob ListFault). job ∷ [] ≡ option_to_list (job_in r) ++ []) (sym e) refl;
  state = refl;
}

pub list_refused : (st : LowPowerState) (a : Address) (fault : ListFault) → list_result st a ≡ Err fault
    → IsToldSo st (W.List a) (record { answer = A.LowPower (list_answer (Err fault)); job = None }) (after st (list a))
list_refused st a fault e = record {
  answer = subst (λ (r : Result LpnJob ListFault). A.LowPower (list_answer (Err fault)) ≡ A.LowPower (list_answer r)) (sym e) refl;
  job = subst (λ (r : Result LpnJob ListFault). no_jobs ≡ option_to_list (job_in r) ++ []) (sym e) refl;
  state = refl;
}

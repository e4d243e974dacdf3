-- What every run of a Low Power node is: safe; and what FSN says in each of its lives.
use Rattle.std.specs.Prelude.{◌≡◌, ◌↔◌, ℕ, ◌%◌, ◌&&◌, Bool, true, false, List, [], ◌∷◌, ◌++◌, fold, Some, is_some, Contains}
use Rattle.std.specs.List.{count_by, list_any}
use Rattle.layer_definitions.specs.Control.{control_text}
use Rattle.low_power_definitions.specs.State.{after}
use Rattle.mesh_base.specs.declared.address.Address.{Address}
use Rattle.mesh_base.specs.declared.control.ControlMsg.TheVariants as C
use Rattle.mesh_types.specs.declared.answers.Answer.{Answer}
use Rattle.mesh_types.specs.declared.events.Event.{Event}
use Rattle.mesh_types.specs.declared.events.Event.TheVariants as E
use Rattle.mesh_types.specs.declared.jobs.Job.{Job}
use Rattle.mesh_types.specs.declared.jobs.Job.TheVariants as J
use Rattle.mesh_types.specs.declared.low_power.LowPowerEvent.TheVariants as W
use Rattle.record_types.specs.declared.records.StoreRecord.{StoreRecord}
use Rattle.event_definitions.specs.History.{Insight, OfPdu, Told}
use Rattle.low_power_role.specs.Role.{low_power_role}
use Rattle.low_power_role.specs.State.{calls_in, is_passed, life_state}
use Rattle.report_definitions.specs.Record.{Life, Run}
use Rattle.run_definitions.specs.Order.{Step}
use Rattle.run_definitions.specs.RunOf.{LifeOf, RunOf, Script}
use Rattle.run_definitions.specs.Uses.{AtMostOnce, NoReuse, delivered, uses}

-- no run reuses a nonce
abbrev pub RunsReuseNothing : Type 0
RunsReuseNothing = (s : Script) (r : Run) → RunOf low_power_role s r → NoReuse (uses r)

-- none delivers a message twice
abbrev pub RunsDeliverOnce : Type 0
RunsDeliverOnce = (s : Script) (r : Run) → RunOf low_power_role s r → AtMostOnce (delivered r)

-- after an entry more the state is the one before it, after the calls of the entry
abbrev pub StateGoesOn : Type 0
StateGoesOn =
    (own : Address) (elements : ℕ) (told : List Told) (t : Told)
    → life_state own elements (told ++ t ∷ []) ≡ fold after (life_state own elements told) (calls_in t)

-- Polls in a life, and the Friend Sequence Number (3.6.6.4.2).

-- a job is a Poll with this FSN
abbrev pub IsPoll : Bool → Job → Type 0
IsPoll fsn (J.Control material ttl src dst tpdu keep) = tpdu ≡ control_text (C.Poll fsn)
IsPoll fsn _ = ⊥

pub record SendsPoll (t : Told) (fsn : Bool) : Type 0 where
  pub job : Job
  pub is_job : Contains t.entry.jobs job
  pub poll : IsPoll fsn job

-- whether a PDU under friendship credentials passes the friendship: it closes the Poll that is open
abbrev pub is_answer : Insight → Answer → Bool
is_answer (OfPdu (Some r) low opening) answer = is_some r.by.lpn && is_passed answer
is_answer _ answer = false

abbrev pub closes : Told → Bool
closes t = is_answer t.insight t.entry.answer

-- a friendship goes on until the next Friend Request
abbrev pub is_seek : Event → Bool
is_seek (E.LowPower W.Seek) = true
is_seek _ = false

-- In each life two Polls of one friendship have the same FSN exactly where an even number of Polls was closed between them.
abbrev pub FsnCountsAnswers : Type 0
FsnCountsAnswers =
    (plan : List Step) (over : List StoreRecord) (l : Life) (next : List StoreRecord)
    → (life : LifeOf low_power_role plan over l next)
    → (before between rest : List Told) (first second : Told) (f g : Bool)
    → life.told ≡ before ++ first ∷ between ++ second ∷ rest
    → SendsPoll first f → SendsPoll second g → list_any (λ t. is_seek t.entry.event) between ≡ false
    → (f ≡ g) ↔ (count_by closes between % 2 ≡ 0)

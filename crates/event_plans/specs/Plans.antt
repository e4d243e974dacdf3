-- What the plan of an event is, by the definitions of a life.
use Rattle.std.specs.Prelude.{◌≡◌, ℕ, ⊤, false, if◌then◌else◌, All, List, []}
use Rattle.event_plans.specs.Basis as B
use Rattle.event_plans.specs.Basis.{Basis, Plan}
use Rattle.event_plans.specs.Memory.{AreNodeTablesOf, NodeTablesView}
use Rattle.event_plans.specs.declared.plan.BeaconPlan.{BeaconPlan}
use Rattle.event_plans.specs.declared.plan.OwnPlan.{OwnPlan}
use Rattle.event_plans.specs.declared.plan.PduPlan.{PduPlan}
use Rattle.event_plans.specs.declared.plan.TickPlan.{TickPlan}
use Rattle.mesh_hearing.specs.Again.{AreRecorded}
use Rattle.mesh_jobs.specs.Acting.{IsActIn}
use Rattle.mesh_jobs.specs.Phases.{phases_of}
use Rattle.mesh_jobs.specs.Replying.{AreRepliesTo}
use Rattle.mesh_jobs.specs.Ticks.{AreDue, IsSpan}
use Rattle.mesh_jobs.specs.declared.ticks.TimeBasis.{TimeBasis}
use Rattle.mesh_reading.specs.Held.{pdu_insight}
use Rattle.mesh_types.specs.declared.answers.Answer.{Answer}
use Rattle.mesh_types.specs.declared.answers.Answer.TheVariants as A
use Rattle.mesh_types.specs.declared.events.Event.{Event}
use Rattle.mesh_types.specs.declared.events.Event.TheVariants as E
use Rattle.node_layers.specs.Friendship.{is_befriended}
use Rattle.node_layers.specs.NodeLayers.{node_layers}
use Rattle.node_friends.specs.Queues.{IsSendableAct}
use Rattle.node_layers.specs.Steps.{with_entry}
use Rattle.node_records.specs.Meaning.{IsMeaningOf}
use Rattle.node_records.specs.declared.persist.Persist.{Persist}
use Rattle.record_types.specs.declared.records.StoreRecord.{StoreRecord}
use Rattle.event_definitions.specs.Answers.{answer_of, config_before}
use Rattle.event_definitions.specs.History.{Insight, OfBeacon, OfNothing, Past, Told}
use Rattle.event_definitions.specs.Readings.{Sees}
use Rattle.event_definitions.specs.Stores.{stores}
use Rattle.segment_sender.specs.Held.{IsHeldWell}
use Rattle.store_definitions.specs.Config.{Config, config_of}
use Rattle.store_definitions.specs.Node.{IsWhole}
use Rattle.store_definitions.specs.Ranges.{IsInRange}

-- What stands before an event: the store's value says its records, which are in range, and whose node can be run; what is kept in
-- memory is that of its entries; and the messages that were accepted from segments are recorded.
pub record IsStanding (past : Past) (p : Persist) (t : NodeTablesView) : Type 0 where
  pub meaning : IsMeaningOf past.records p
  pub tables : AreNodeTablesOf t past
  pub ranges : All IsInRange past.records
  pub whole : IsWhole (config_of past.records)
  pub recorded : AreRecorded past

abbrev pub IsSomePast : Persist → NodeTablesView → Type 0
IsSomePast p t = (past : Past) × IsStanding past p t

-- The plans by kind: of a network PDU, of a beacon, of time, and of an event that brings neither octets heard nor time.

abbrev pub of_pdu : PduPlan → Plan
of_pdu x = record { answer = x.answer; records = x.records; basis = B.Pdu x.basis }

abbrev pub of_beacon : BeaconPlan → Plan
of_beacon x = record { answer = x.heard.answer; records = x.records; basis = B.Beacon x.heard.reset x.heard.beacon }

abbrev pub of_tick : TickPlan → Plan
of_tick x = record { answer = x.answer; records = x.records; basis = B.Time x.basis }

abbrev pub of_own : OwnPlan → Plan
of_own x = record { answer = x.answer; records = []; basis = B.Own x.befriended }

-- what the octets of an event were read as
abbrev pub insight_in : Basis → Insight
insight_in (B.Pdu b) = pdu_insight b.heard
insight_in (B.Beacon reset beacon) = if reset then OfNothing else OfBeacon beacon
insight_in (B.Time b) = OfNothing
insight_in (B.Own befriended) = OfNothing

-- Where there was no Node Reset, what is due at a tick is due by what was heard, what began, and what is published and sent,
-- as it goes to no address of a friendship; and what sends a round is well formed. What is published is asked of the records
-- after the event, which say the same address.
pub record AreRounds (past : Past) (ticks : ℕ) (b : TimeBasis) : Type 0 where
  pub due : (config_before past).reset ≡ false
      → (c : Config) → c.unicast ≡ (config_before past).unicast → AreDue past ticks c b
  pub held : All IsHeldWell b.rounds.items

-- what the jobs of an event are made of is what stood before it
abbrev pub IsBasisOf : Past → Event → Answer → Basis → Type 0
IsBasisOf past (E.Net octets) answer (B.Pdu b) =
    (b.phases ≡ phases_of (config_before past).nets)
    × AreRepliesTo past (pdu_insight b.heard) answer b.replies
    × IsActIn past (config_before past) (pdu_insight b.heard) answer b.act
    × IsSendableAct b.act
IsBasisOf past (E.Bcn octets) answer (B.Beacon reset beacon) = ⊤
IsBasisOf past (E.Tick ticks) answer (B.Time b) = IsSpan past ticks b.span × AreRounds past ticks b
IsBasisOf past (E.Send element dst ttl key payload) answer (B.Own befriended) = befriended ≡ is_befriended past dst
IsBasisOf past (E.Raw dst ttl tpdu) answer (B.Own befriended) = ⊤
IsBasisOf past (E.Begin m) answer (B.Own befriended) = ⊤
IsBasisOf past (E.Kept lpn fsn name pdu) answer (B.Own befriended) = ⊤
IsBasisOf past (E.LowPower event) answer (B.Own befriended) = ⊤
IsBasisOf past _ answer _ = ⊥

-- After a past, an event was read and answered so, and stores these records; and what is kept in memory stands for the
-- entries with this one, over whatever records with as many elements.
pub record IsPlanned (past : Past) (event : Event) (plan : Plan) (t : NodeTablesView) : Type 0 where
  pub sees : Sees node_layers past event (insight_in plan.basis)
  pub answer : plan.answer ≡ answer_of node_layers past event (insight_in plan.basis)
  pub records : plan.records ≡ stores node_layers past event (insight_in plan.basis) plan.answer
  pub tables : (e : Told) (records : List StoreRecord)
      → e.entry.event ≡ event → e.insight ≡ insight_in plan.basis → e.entry.answer ≡ plan.answer
      → e.records ≡ past.records
      → (config_of records).elements ≡ (config_before past).elements
      → AreNodeTablesOf t (with_entry past.told e records)
  pub basis : IsBasisOf past event plan.answer plan.basis

abbrev pub IsSomePlan : Event → Plan → Type 0
IsSomePlan event plan = (past : Past) × ((t : NodeTablesView) × IsPlanned past event plan t)

-- A control message leaves what the records say, so what it asks to be sent may be asked of the records before it or after it.
abbrev pub LeavesConfig : Answer → Config → Config → Type 0
LeavesConfig (A.Control name dst opcode params) c d = c ≡ d
LeavesConfig _ c d = ⊤

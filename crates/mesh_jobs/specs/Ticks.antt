-- A tick event, as its jobs see it.
use Rattle.std.specs.Prelude.{◌≡◌, ℕ, ◌/◌, ◌||◌, nat_lt, Bool, filter}
use Rattle.layer_states.specs.Reassembly.{acks_due}
use Rattle.mesh_base.specs.declared.iv_state.IvState.{IvState}
use Rattle.mesh_jobs.specs.Publishing.{IsDueSent}
use Rattle.mesh_jobs.specs.declared.ticks.Span.{Span}
use Rattle.event_definitions.specs.Answers.{config_before, later}
use Rattle.event_definitions.specs.History.{Past, now_of}
use Rattle.event_definitions.specs.Jobs.{is_moved}
use Rattle.mesh_jobs.specs.declared.ticks.TimeBasis.{TimeBasis}
use Rattle.node_layers.specs.Reassembly.{messages}
use Rattle.node_layers.specs.Sending as own
use Rattle.segment_sender.specs.Held.{has_round}
use Rattle.store_definitions.specs.Config.{Config}

-- the time and the IV state before a tick event of so many ticks, and the time after it
pub record IsSpan (past : Past) (ticks : ℕ) (s : Span) : Type 0 where
  pub from : s.from ≡ now_of past.told
  pub to : s.to ≡ later past ticks
  pub iv : s.iv ≡ (config_before past).iv

-- What is due at a tick event is due by what was heard, what began, and what is published under these records.
pub record AreDue (past : Past) (ticks : ℕ) (c : Config) (b : TimeBasis) : Type 0 where
  pub acks : b.acks ≡ acks_due (later past ticks) (messages past)
  pub rounds : b.rounds.items ≡ filter (has_round (later past ticks)) (own.messages past)
  pub published : IsDueSent past c (later past ticks) b.due

-- whether beacons are due: a multiple of 1000 ticks was passed, or this is another IV state
abbrev pub is_beacon_due : Span → IvState → Bool
is_beacon_due s iv = nat_lt (s.from / 1000) (s.to / 1000) || is_moved s.iv iv

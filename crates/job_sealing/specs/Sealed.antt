-- What the kinds of lines show, in terms of the values that the code seals from.
use Rattle.std.specs.Prelude.{◌≡◌, ℕ, ◌^◌, ◌<◌, ◌≤◌, false, Option, None, Some, List, length}
use Rattle.std.specs.Option.{option_to_list}
use Rattle.mesh_base.specs.declared.pair.Pair.{Pair}
use Rattle.mesh_types.specs.declared.events.Event.TheVariants as E
use Rattle.mesh_types.specs.declared.jobs.Job.{Job}
use Rattle.mesh_types.specs.declared.jobs.Job.TheVariants as J
use Rattle.run_definitions.specs.Lines.{Shows, after_line, drawn_of}
use Rattle.layer_definitions.specs.Network.{net_text}
use Rattle.mesh_types.specs.declared.events.Event.{Event}
use Rattle.mesh_types.specs.declared.lines.Outcome.{Outcome}
use Rattle.mesh_types.specs.declared.lines.Outcome.TheVariants as O
use Rattle.mesh_types.specs.KeyName.{key_name_of}
use Rattle.run_definitions.specs.Lines.{begin_event}
use Rattle.run_definitions.specs.Seals.{message_fields}
use Rattle.machine_contract.specs.Ranges.{IsUpperKey}
use Rattle.job_sealing.specs.declared.messages.Access.{Access}

-- an access message that can be sealed
pub record IsAccess (a : Access) : Type 0 where
  pub nid : a.material.nid < 2 ^ 7
  pub key : IsUpperKey a.key
  pub seq : a.pair.seq < 2 ^ 24
  pub ttl : a.ttl < 2 ^ 7

-- that of a job, with the pair drawn for it
abbrev pub access_in : Job → Pair → Option Access
access_in (J.Message net material key ttl src dst payload keep) pair =
    Some (record { net = net; material = material; key = key; pair = pair; ttl = ttl; src = src; dst = dst })
access_in (J.Sent net material key ttl src dst) pair =
    Some (record { net = net; material = material; key = key; pair = pair; ttl = ttl; src = src; dst = dst })
access_in _ pair = None

-- the octets of its network PDU where it goes unsegmented
abbrev pub message_text : Access → List ℕ → List ℕ
message_text a payload = net_text a.material (message_fields a.key a.pair a.ttl a.src a.dst payload)

abbrev pub short_outcome : Access → List ℕ → Outcome
short_outcome a payload = O.Msg a.pair a.ttl a.src a.dst (key_name_of a.key) payload (message_text a payload)

abbrev pub long_outcome : Access → List ℕ → Outcome
long_outcome a payload = O.Long a.pair a.ttl a.src a.dst (key_name_of a.key) payload

abbrev pub begins : Access → List ℕ → Event
begins a payload = begin_event a.net a.key a.pair a.ttl a.src a.dst payload

-- an event whose payload is sent
abbrev pub IsPayloadOf : Event → Type 0
IsPayloadOf (E.Send element at hops with payload) = (1 ≤ length payload) × (length payload ≤ 380)
IsPayloadOf _ = ⊥

-- a message that has its payload, and can be sealed
abbrev pub IsMessageJob : Job → Type 0
IsMessageJob (J.Message net material key ttl src dst payload keep) =
    (material.nid < 2 ^ 7) × (ttl < 2 ^ 7) × IsUpperKey key × (1 ≤ length payload)
IsMessageJob _ = ⊥

-- a message whose payload is that of this event, and can be sealed
abbrev pub IsSentJob : Event → Job → Type 0
IsSentJob (E.Send element at hops with payload) (J.Sent net material key ttl src dst) =
    (material.nid < 2 ^ 7) × (ttl < 2 ^ 7) × IsUpperKey key × (1 ≤ length payload) × (length payload ≤ 380)
IsSentJob _ _ = ⊥

-- the line of a message whose payload is that of its event
pub record IsSentLine (event : Event) (a : Access) (outcome : Outcome) (next : Option Event) : Type 0 where
  pub shows : Shows event (J.Sent a.net a.material a.key a.ttl a.src a.dst) outcome
  pub drawn : drawn_of (J.Sent a.net a.material a.key a.ttl a.src a.dst) outcome ≡ Some a.pair
  pub after : option_to_list next ≡ after_line (J.Sent a.net a.material a.key a.ttl a.src a.dst) outcome

-- The ranges of the fields of events and jobs. The Rust types say the others.
use Rattle.std.specs.Prelude.{◌≡◌, ℕ, ◌^◌, ◌<◌, ◌≤◌, IsFalse, length, ⊤}
use Rattle.mesh_base.specs.declared.keys.UpperKey.{UpperKey}
use Rattle.mesh_base.specs.declared.keys.UpperKey.TheVariants as U
use Rattle.layer_definitions.specs.Network.{HasPdu}
use Rattle.mesh_types.specs.declared.events.Event.{Event}
use Rattle.mesh_types.specs.declared.events.Event.TheVariants as E
use Rattle.mesh_types.specs.declared.events.SendKey.{SendKey}
use Rattle.mesh_types.specs.declared.events.SendKey.TheVariants as K
use Rattle.mesh_types.specs.declared.jobs.Job.{Job}
use Rattle.mesh_types.specs.declared.jobs.Job.TheVariants as J
use Rattle.mesh_types.specs.declared.lines.Outcome.{Outcome}
use Rattle.run_definitions.specs.Lines.{after_line}
use Rattle.std.specs.Prelude.{[]}

-- the key of an own message: an application key has an index of 12 bits
abbrev pub IsSendKey : SendKey → Type 0
IsSendKey K.Own = ⊤
IsSendKey (K.Other key) = ⊤
IsSendKey (K.App index) = index < 2 ^ 12

-- An event for a node with so many elements. An own access message goes from one of them, to an address that is neither unassigned nor
-- virtual; a control PDU to one that isn't unassigned; TTL has 7 bits, SEQ 24 and AID 6.
abbrev pub IsEvent : ℕ → Event → Type 0
IsEvent elements (E.Net octets) = ⊤
IsEvent elements (E.Bcn octets) = ⊤
IsEvent elements (E.Send element dst ttl key payload) =
    (element < elements) × (1 ≤ dst.0) × (0x8000 ≤ dst.0 → 0xc000 ≤ dst.0) × (ttl < 2 ^ 7) × IsSendKey key
    × (1 ≤ length payload) × (length payload ≤ 380)
IsEvent elements (E.Raw dst ttl tpdu) = (1 ≤ dst.0) × (ttl < 2 ^ 7) × (1 ≤ length tpdu) × (length tpdu ≤ 12)
IsEvent elements (E.Tick ticks) = ⊤
IsEvent elements (E.Begin m) =
    (m.name.pair.seq < 2 ^ 24) × (m.ttl < 2 ^ 7) × (m.aid < 2 ^ 6) × (IsFalse m.akf → m.aid ≡ 0) × (5 ≤ length m.upper)
    × (length m.upper ≤ 384)
IsEvent elements (E.Kept lpn fsn name octets) = ⊤
IsEvent elements (E.LowPower event) = ⊤

-- the key of an access message: AID has 6 bits
abbrev pub IsUpperKey : UpperKey → Type 0
IsUpperKey (U.Device key) = ⊤
IsUpperKey (U.App index aid key) = aid < 2 ^ 6

-- A job of an event: there is a network PDU of its fields. A job whose payload is that of a Send belongs to one.
abbrev pub IsJob : Event → Job → Type 0
IsJob event (J.Relay material fields) = (material.nid < 2 ^ 7) × HasPdu fields
IsJob event (J.Control material ttl src dst tpdu keep) =
    (material.nid < 2 ^ 7) × (ttl < 2 ^ 7) × (1 ≤ length tpdu) × (length tpdu ≤ 12)
IsJob event (J.Message net material key ttl src dst payload keep) =
    (material.nid < 2 ^ 7) × (ttl < 2 ^ 7) × IsUpperKey key × (1 ≤ length payload)
IsJob (E.Send element at hops with payload) (J.Sent net material key ttl src dst) =
    (material.nid < 2 ^ 7) × (ttl < 2 ^ 7) × IsUpperKey key × (1 ≤ length payload) × (length payload ≤ 380)
IsJob event (J.Sent net material key ttl src dst) = ⊥
IsJob event (J.Segment s) =
    (s.material.nid < 2 ^ 7) × (s.ttl < 2 ^ 7) × (s.name.pair.seq < 2 ^ 24) × (1 ≤ length s.tpdu) × (length s.tpdu ≤ 16)
IsJob event (J.Repeat name octets) = ⊤
IsJob event (J.Beacon octets) = ⊤

-- a job after whose line nothing is handled, whatever becomes of it
abbrev pub IsQuiet : Job → Type 0
IsQuiet job = (outcome : Outcome) → after_line job outcome ≡ []

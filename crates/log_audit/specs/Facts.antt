-- The facts of a line that the lines behind it are compared with: each a key, and what was used under it.
use Rattle.std.specs.Prelude.{ℕ, ◌+◌, ◌==◌, Bool, false, if◌then◌else◌, List, [], Option, Some, None, option_and_then}
use Rattle.std.specs.Option.{option_map, option_map_or}
use Rattle.std.specs.Str.{bytes_eq}
use Rattle.std.specs.Ordering.{nat_cmp, ordering_then, is_eq}
use Rattle.std.specs.declared.cmp.Ordering.{Ordering}
use Rattle.mesh_base.specs.declared.pair.Name.{Name}
use Rattle.mesh_types.specs.declared.answers.KeyName.{KeyName}
use Rattle.mesh_types.specs.declared.answers.KeyName.TheVariants as N
use Rattle.mesh_types.specs.declared.report.ReportLine.{ReportLine}
use Rattle.audit_definitions.specs.Seals.{Message, sealed, message, accepted, own_source}

-- a key in its order: SRC, IV Index and SEQ; DST, and the name of a key
abbrev pub Key : Type 0
Key = (ℕ × (ℕ × ℕ)) × (ℕ × ℕ)

abbrev pub key_cmp : Key → Key → Ordering
key_cmp x y =
    ordering_then
    (ordering_then (nat_cmp x.0.0 y.0.0) (ordering_then (nat_cmp x.0.1.0 y.0.1.0) (nat_cmp x.0.1.1 y.0.1.1)))
    (ordering_then (nat_cmp x.1.0 y.1.0) (nat_cmp x.1.1 y.1.1))

abbrev pub same_key : Key → Key → Bool
same_key x y = is_eq (key_cmp x y)

-- the place of a key's name in their order
abbrev pub name_number : KeyName → ℕ
name_number N.Dev = 0
name_number (N.App index) = index + 1

abbrev pub name_key : Name → (ℕ × ℕ) → Key
name_key n more = ((n.src.0, (n.pair.iv, n.pair.seq)), more)

-- the octets of a network PDU of an own source, under the fields of its nonce
abbrev pub pdu_fact : (ℕ → Bool) → ReportLine → Option (Key × List ℕ)
pdu_fact own line =
    option_and_then (λ s. if own s.name.src.0 then Some (name_key s.name (0, 0), s.octets) else None) (sealed line)

-- a payload, under the fields of its nonce and the name of its key
abbrev pub message_key : Message → Key
message_key m = name_key m.name (m.dst.0, name_number m.key)

abbrev pub message_fact : ReportLine → Option (Key × List ℕ)
message_fact line = option_map (λ m. (message_key m, m.payload)) (message line)

-- an accepted message, under its name
abbrev pub accepted_fact : ReportLine → Option (Key × List ℕ)
accepted_fact line = option_map (λ n. (name_key n (0, 0), [])) (accepted line)

-- whether a line is one of this own source
abbrev pub is_own_source : ℕ → ReportLine → Bool
is_own_source a line = option_map_or (λ src. src.0 == a) (own_source line) false

-- what is known of the key of a fact: the first line with it, and whether that line used the same
abbrev pub known_of : (Key → Option (ℕ × List ℕ)) → Option (Key × List ℕ) → Option (ℕ × Bool)
known_of g None = None
known_of g (Some fact) = option_map (λ u. (u.0, bytes_eq u.1 fact.1)) (g fact.0)

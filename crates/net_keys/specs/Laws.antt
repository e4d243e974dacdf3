-- PDUs are read under the keys that have their NID (Mesh Profile 1.0.1, section 3.4.4.2).
use Rattle.std.specs.Prelude.{ℕ, ◌%◌, ◌^◌, ◌<◌, ◌==◌, List, ◌++◌, filter, slice_index, All}
use Rattle.layer_definitions.specs.KeyRefresh.{heard_keys}
use Rattle.layer_definitions.specs.Network.{IsUnread, Reads}
use Rattle.mesh_base.specs.declared.fields.Heard.{Heard}
use Rattle.mesh_base.specs.declared.fields.NetFields.{NetFields}
use Rattle.mesh_base.specs.declared.keys.NetKeyRow.{NetKeyRow}

-- the keys with the NID that the octets have
abbrev pub with_nid_of : List ℕ → List Heard → List Heard
with_nid_of octets keys = filter (λ (h : Heard). h.material.nid == slice_index octets 0 % 2 ^ 7) keys

-- NID has 7 bits.
abbrev pub HaveNidWidth : List Heard → Type 0
HaveNidWidth keys = All (λ (h : Heard). h.material.nid < 2 ^ 7) keys

-- What octets read as under the keys that have their NID, they read as under all keys, by the same key: those of the network keys, and
-- behind them any others, as those of friendships.
abbrev pub CandidatesRead : Type 0
CandidatesRead =
    (rows : List NetKeyRow) (more : List Heard) → HaveNidWidth more
    → (current : ℕ) (octets : List ℕ) (f : NetFields) (place : ℕ) (by : Heard)
    → Reads (with_nid_of octets (heard_keys rows) ++ with_nid_of octets more) current octets f place by
    → (at : ℕ) × Reads (heard_keys rows ++ more) current octets f at by

-- What is unread under the keys that have the octets' NID is unread under all of them.
abbrev pub OthersDoNotRead : Type 0
OthersDoNotRead =
    (rows : List NetKeyRow) (more : List Heard) → HaveNidWidth more → (current : ℕ) (octets : List ℕ)
    → IsUnread (with_nid_of octets (heard_keys rows) ++ with_nid_of octets more) current octets
    → IsUnread (heard_keys rows ++ more) current octets

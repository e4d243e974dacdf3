-- What the reading of a network PDU depends on (Mesh Profile 1.0.1, sections 3.4.4 and 3.10.5), and what octets read as by it.
use Rattle.std.specs.Prelude.{◌≡◌, ℕ, List, Option, Some, None, ◌++◌}
use Rattle.layer_definitions.specs.KeyRefresh.{heard_keys}
use Rattle.layer_definitions.specs.Network.{IsUnread, Reads}
use Rattle.early_reading.specs.declared.view.KeyView.{KeyView}
use Rattle.mesh_base.specs.declared.fields.Heard.{Heard}
use Rattle.mesh_base.specs.declared.keys.NetKeyRow.{NetKeyRow}
use Rattle.network_layer.specs.declared.reading.NetReading.{NetReading}

-- the view of a node with these network keys, these credentials of friendships, and this known IV Index
abbrev pub view_of : List NetKeyRow → List Heard → ℕ → KeyView
view_of nets friends current = record { nets = heard_keys nets; friends = friends; current = current }

-- what octets read as by a view, or that they read as nothing
abbrev pub IsReadBy : KeyView → List ℕ → Option NetReading → Type 0
IsReadBy v octets (Some r) = (place : ℕ) × Reads (v.nets ++ v.friends) v.current octets r.fields place r.by
IsReadBy v octets None = IsUnread (v.nets ++ v.friends) v.current octets

-- octets that were read before, by which view, and as what
pub record EarlyReading : Type 0 where
  pub view : KeyView
  pub octets : List ℕ
  pub reading : Option NetReading

-- octets that were read before, and as what
pub record ReadOctets : Type 0 where
  pub octets : List ℕ
  pub reading : Option NetReading

-- what a reading of a reader with this view has: nothing, where the reader took no view, or where nothing was read
abbrev pub read_before : Option KeyView → Option ReadOctets → Option EarlyReading
read_before (Some view) (Some r) = Some (record { view = view; octets = r.octets; reading = r.reading })
read_before _ _ = None

-- It reads as its octets do by its view.
abbrev pub IsRead : EarlyReading → Type 0
IsRead e = IsReadBy e.view e.octets e.reading

-- Values of application keys with what they are bound to, and which of them an access message is tried under (Mesh Profile 1.0.1,
-- sections 3.6.4.2 and 3.10.4).
use Rattle.std.specs.Prelude.{ℕ, ◌==◌, ◌&&◌, Bool, false, List, map, filter}
use Rattle.std.specs.List.{flat_map}
use Rattle.layer_definitions.specs.KeyRefresh.{app_key, keys_of}
use Rattle.mesh_base.specs.declared.keys.AppKeyRow.{AppKeyRow}
use Rattle.mesh_base.specs.declared.keys.UpperKey.{UpperKey}
use Rattle.mesh_base.specs.declared.keys.UpperKey.TheVariants.{Device, App}
use Rattle.kept_keys.specs.declared.upper.BoundSchedule.{BoundSchedule}

-- an application key with this AID
abbrev pub has_aid : ℕ → UpperKey → Bool
has_aid id (Device key) = false
has_aid id (App index aid key) = aid == id

-- a value that is bound to this network key and has this AID
abbrev pub fits : ℕ → ℕ → BoundSchedule → Bool
fits net id b = (b.net == net) && has_aid id b.key

-- the values that do, in their order
abbrev pub fitting_keys : ℕ → ℕ → List BoundSchedule → List UpperKey
fitting_keys net id bound = map (λ (b : BoundSchedule). b.key) (filter (λ (b : BoundSchedule). fits net id b) bound)

-- a value of an application key, bound to its network key
abbrev pub bound_key : ℕ → ℕ → Bool → List ℕ → BoundSchedule
bound_key net index fresh key = record { net = net; index = index; fresh = fresh; key = app_key index key }

-- the values of all rows, the old one of a row before the new
abbrev pub bound_keys : List AppKeyRow → List BoundSchedule
bound_keys rows = flat_map (λ r. keys_of (bound_key r.net r.index) r.key r.next) rows

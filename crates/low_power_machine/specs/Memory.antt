-- What a Low Power node keeps in memory, by what the store says.
use Rattle.std.specs.Prelude.{◌≡◌, Bool, true, false, if◌then◌else◌, List, [], ◌∷◌}
use Rattle.layer_states.specs.Names.{is_unicast}
use Rattle.low_power_machine.specs.declared.memory.Memory.{Memory}
use Rattle.low_power_role.specs.Readings.{friend_keys, own_nets}
use Rattle.mesh_base.specs.declared.address.Address.{Address}
use Rattle.mesh_base.specs.declared.keys.UpperKey.{UpperKey}
use Rattle.mesh_base.specs.declared.keys.UpperKey.TheVariants as U
use Rattle.node_records.specs.Tables.{config_in}
use Rattle.node_records.specs.declared.persist.Persist.{Persist}

-- It reads and opens by the keys that the store says, and by the friendship that it knows of.
pub record IsFitFor (memory : Memory) (p : Persist) : Type 0 where
  pub nets : memory.nets ≡ own_nets (config_in p)
  pub friend : memory.friend ≡ friend_keys (config_in p) memory.lpn
  pub device : memory.device ≡ U.Device p.dev_key

-- the keys that are tried to open a message to this address
abbrev pub keys_under : UpperKey → Address → Bool → List UpperKey
keys_under device dst true = []
keys_under device dst false = if is_unicast dst then device ∷ [] else []

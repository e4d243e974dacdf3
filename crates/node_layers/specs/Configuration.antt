-- The Configuration Server of a life: which messages it takes, and what each asks for (Mesh Profile 1.0.1, section 4.4.1).
use Rattle.std.specs.Prelude.{ℕ, ◌==◌, ◌&&◌, Bool, true, false, if◌then◌else◌, List, [], Option, None}
use Rattle.std.specs.Option.{option_map_or}
use Rattle.config_definitions.specs.Answers.{config_answer}
use Rattle.config_definitions.specs.declared.acts.ConfigAct.{ConfigAct}
use Rattle.mesh_base.specs.declared.address.Address.{Address}
use Rattle.mesh_base.specs.declared.keys.UpperKey.{UpperKey}
use Rattle.mesh_base.specs.declared.keys.UpperKey.TheVariants as U
use Rattle.model_states.specs.Publication.{no_heartbeat}
use Rattle.model_states.specs.declared.publication.HeartbeatRow.{HeartbeatRow}
use Rattle.event_definitions.specs.Layers.{AccessMessage}
use Rattle.store_definitions.specs.Config.{Config}

abbrev pub is_device_key : UpperKey → Bool
is_device_key (U.Device key) = true
is_device_key (U.App index aid key) = false

-- it takes what is sealed with the device key and goes to the first element
abbrev pub is_for_server : Config → AccessMessage → Bool
is_for_server c m = is_device_key m.key && m.dst.0 == c.unicast.0

-- What a message asks for in a node of which its records say `c`; None where it isn't one for the server, or has no row.
abbrev pub config_act : Config → List (Address × ℕ) → HeartbeatRow → AccessMessage → Option ConfigAct
config_act c polls beat m = if is_for_server c m then config_answer c m.net polls beat m.payload else None

-- whether friendships and offers end; that doesn't depend on what a Status would show
abbrev pub ends_in : Option ConfigAct → Bool
ends_in act = option_map_or (λ (a : ConfigAct). a.ends_friendships) act false

abbrev pub ends_friendships : Config → AccessMessage → Bool
ends_friendships c m = ends_in (config_act c [] no_heartbeat m)

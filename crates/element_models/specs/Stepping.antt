-- What a message does to the servers of an element, where the records say `c` and the moment is `now`: the definitions of a life, over states
-- that are at hand.
use Rattle.std.specs.Prelude.{ℕ, ◌==◌, if◌then◌else◌, List, [], ◌∷◌, ◌++◌, map, Option, None}
use Rattle.std.specs.Int.{cast_unsigned, w16}
use Rattle.std.specs.Option.{option_to_list}
use Rattle.element_models.specs.Places.{flat_from, map_from}
use Rattle.element_models.specs.declared.servers.Servers.{Servers}
use Rattle.model_states.specs.Level.{level_after_payload, level_kept, level_reply}
use Rattle.model_states.specs.OnOff.{onoff_after, onoff_kept, onoff_octet, onoff_reply}
use Rattle.model_states.specs.declared.models.LevelState.{LevelState}
use Rattle.model_states.specs.declared.models.OnOffState.{OnOffState}
use Rattle.node_layers.specs.Models.{level_first, level_server, onoff_first, onoff_server, takes}
use Rattle.record_types.specs.declared.records.StoreRecord.{StoreRecord}
use Rattle.record_types.specs.declared.records.StoreRecord.TheVariants as R
use Rattle.event_definitions.specs.Layers.{AccessMessage}
use Rattle.store_definitions.specs.Config.{Config}

-- One server of an element.

-- the record of a value to be kept, where it changes
abbrev pub value_record : ℕ → ℕ → ℕ → ℕ → List StoreRecord
value_record element model before after = if before == after then [] else R.Model element model after ∷ []

abbrev pub onoff_change : ℕ → OnOffState → OnOffState → List StoreRecord
onoff_change element before after =
    value_record element onoff_server (onoff_octet (onoff_kept before)) (onoff_octet (onoff_kept after))

abbrev pub level_change : ℕ → LevelState → LevelState → List StoreRecord
level_change element before after =
    value_record element level_server (cast_unsigned w16 (level_kept before)) (cast_unsigned w16 (level_kept after))

-- the state after a message
abbrev pub onoff_step : Config → ℕ → AccessMessage → ℕ → OnOffState → OnOffState
onoff_step c now m element s =
    if takes c element onoff_server m then onoff_after s now m.name.src m.dst m.payload else s

abbrev pub level_step : Config → ℕ → AccessMessage → ℕ → LevelState → LevelState
level_step c now m element s =
    if takes c element level_server m then level_after_payload s now m.name.src m.dst m.payload else s

-- what it stores
abbrev pub onoff_stored : Config → ℕ → AccessMessage → ℕ → OnOffState → List StoreRecord
onoff_stored c now m element s =
    if takes c element onoff_server m
    then onoff_change element s (onoff_after s now m.name.src m.dst m.payload)
    else []

abbrev pub level_stored : Config → ℕ → AccessMessage → ℕ → LevelState → List StoreRecord
level_stored c now m element s =
    if takes c element level_server m
    then level_change element s (level_after_payload s now m.name.src m.dst m.payload)
    else []

-- what is replied
abbrev pub onoff_replied : Config → ℕ → AccessMessage → ℕ → OnOffState → Option (List ℕ)
onoff_replied c now m element s =
    if takes c element onoff_server m then onoff_reply s now m.name.src m.dst m.payload else None

abbrev pub level_replied : Config → ℕ → AccessMessage → ℕ → LevelState → Option (List ℕ)
level_replied c now m element s =
    if takes c element level_server m then level_reply s now m.name.src m.dst m.payload else None

-- Both servers of an element.

abbrev pub servers_first : Config → ℕ → Servers
servers_first c element = record { onoff = onoff_first c element; level = level_first c element }

abbrev pub servers_step : Config → ℕ → AccessMessage → ℕ → Servers → Servers
servers_step c now m element s =
    record { onoff = onoff_step c now m element s.onoff; level = level_step c now m element s.level }

abbrev pub servers_stored : Config → ℕ → AccessMessage → ℕ → Servers → List StoreRecord
servers_stored c now m element s = onoff_stored c now m element s.onoff ++ level_stored c now m element s.level

-- a reply, if there is one, with the place of its element
abbrev pub placed : ℕ → Option (List ℕ) → List (ℕ × List ℕ)
placed element reply = map (λ payload. (element, payload)) (option_to_list reply)

abbrev pub servers_replied : Config → ℕ → AccessMessage → ℕ → Servers → List (ℕ × List ℕ)
servers_replied c now m element s =
    placed element (onoff_replied c now m element s.onoff) ++ placed element (level_replied c now m element s.level)

-- The servers of all elements, in their order.

abbrev pub all_step : Config → ℕ → AccessMessage → List Servers → List Servers
all_step c now m servers = map_from (servers_step c now m) 0 servers

abbrev pub all_stored : Config → ℕ → AccessMessage → List Servers → List StoreRecord
all_stored c now m servers = flat_from (servers_stored c now m) 0 servers

abbrev pub all_replied : Config → ℕ → AccessMessage → List Servers → List (ℕ × List ℕ)
all_replied c now m servers = flat_from (servers_replied c now m) 0 servers

-- What a message to the Configuration Server does to what is published.
use Rattle.std.specs.Prelude.{◌≡◌, IfSome, List, [], Option, Some, None}
use Rattle.std.specs.Option.{option_map_or, option_to_list}
use Rattle.config_definitions.specs.declared.acts.ConfigAct.{ConfigAct}
use Rattle.model_publish.specs.Own.{IsOwnRow}
use Rattle.node_layers.specs.Publishing.{stored_row}
use Rattle.node_records.specs.Steps.{IsShortTtl}
use Rattle.node_records.specs.declared.persist.Persist.{Persist}
use Rattle.record_types.specs.declared.records.PublishRow.{PublishRow}
use Rattle.record_types.specs.declared.records.StoreRecord.{StoreRecord}

-- the row of a publication that is stored
abbrev pub row_in : Option ConfigAct → Option PublishRow
row_in None = None
row_in (Some act) = stored_row act.change

-- the record that is stored, as a list
abbrev pub change_in : Option ConfigAct → List StoreRecord
change_in act = option_map_or (λ (a : ConfigAct). option_to_list a.change) act []

-- A row that is stored is of one of the node's own models.
abbrev pub StoresOwn : Persist → Option ConfigAct → Type 0
StoresOwn p act = (row : PublishRow) → row_in act ≡ Some row → IsOwnRow p.unicast.0 p.elements row

-- a Default TTL that is asked for has 7 bits
abbrev pub AsksShort : Option ConfigAct → Type 0
AsksShort act = IfSome act (λ (a : ConfigAct). IfSome a.change IsShortTtl)

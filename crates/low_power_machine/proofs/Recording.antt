-- The record of an accepted message.
use Rattle.std.proofs.Common.{◌≡◌, ℕ, List, [], ◌∷◌, refl, ◌∙◌, Option, Some, None, fold}
use Rattle.std.specs.Option.{option_map_or}
use Rattle.event_definitions.specs.Answers.{accepted}
use Rattle.event_definitions.specs.History.{Insight, OfNothing, Past}
use Rattle.event_definitions.specs.Layers.{Layers, quiet_layers}
use Rattle.event_definitions.specs.Stores.{stores as layers_store}
use Rattle.event_records.specs.Asked.{AreAskedFor}
use Rattle.event_records.specs.Putting.{ArePuttable}
use Rattle.low_power_machine.specs.Plans.{records_by}
use Rattle.machine_standing.proofs.Fronts.{puttable_kept}
use Rattle.machine_standing.specs.Kept.{AreKept, KeepWhole}
use Rattle.mesh_base.specs.declared.pair.Name.{Name}
use Rattle.mesh_types.specs.declared.answers.Answer.{Answer}
use Rattle.mesh_types.specs.declared.answers.Answer.TheVariants as A
use Rattle.mesh_types.specs.declared.events.Event.TheVariants as E
use Rattle.node_records.specs.Tables.{config_in}
use Rattle.node_records.specs.declared.persist.Persist.{Persist}
use Rattle.record_types.specs.declared.records.StoreRecord.{StoreRecord}
use Rattle.record_types.specs.declared.records.StoreRecord.TheVariants as R
use Rattle.store_definitions.specs.Config.{Config, changed}

-- A node with layers that ask for nothing stores the same.

abbrev no_past : Past
no_past = record { told = []; records = [] }

nothing_asked : (answer : Answer) → AreAskedFor quiet_layers no_past OfNothing answer []
nothing_asked (A.Delivered name dst key payload) = refl
nothing_asked _ = tt

quiet_stores : (answer : Answer) → layers_store quiet_layers no_past (E.Net []) OfNothing answer ≡ records_by answer
unfolding layers_store
quiet_stores (A.Delivered name dst key payload) = refl
quiet_stores (A.Control name dst opcode params) = refl
quiet_stores _ = refl

pub records_are : (answer : Answer) (records : List StoreRecord)
    → ((layers : Layers) (past : Past) (octets : List ℕ) (insight : Insight) → AreAskedFor layers past insight answer []
    → records ≡ layers_store layers past (E.Net octets) insight answer)
    → records ≡ records_by answer
records_are answer records h = h quiet_layers no_past [] OfNothing (nothing_asked answer) ∙ quiet_stores answer

-- It says nothing of a node but that message.

named_changes : (c : Config) (o : Option Name) → fold changed c (option_map_or (λ name. R.Replay name None ∷ []) o []) ≡ c
unfolding changed
named_changes c None = refl
named_changes c (Some n) = refl

pub record_changes : (c : Config) (answer : Answer) → fold changed c (records_by answer) ≡ c
record_changes c answer = named_changes c (accepted answer)

named_keeps : (c : Config) (o : Option Name) → KeepWhole c (option_map_or (λ name. R.Replay name None ∷ []) o [])
unfolding changed
named_keeps c None = tt
named_keeps c (Some n) = (tt, tt, tt)

pub record_kept : (p : Persist) (answer : Answer) → ArePuttable p (records_by answer) → AreKept (config_in p) (records_by answer)
record_kept p answer may = puttable_kept p (records_by answer) may (named_keeps (config_in p) (accepted answer))

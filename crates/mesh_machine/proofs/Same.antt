-- Records that leave the keys as they are.
use Rattle.std.proofs.Common.{◌≡◌, Bool, false, List, [], ◌∷◌, refl, ap, sym, ◌∙◌}
use Rattle.std.proofs.lemmas.Bool.{or_parts}
use Rattle.std.specs.Prelude.{fold, if◌then◌else◌, map}
use Rattle.std.specs.List.{list_any}
use Rattle.event_plans.specs.Memory.{NodeTablesView}
use Rattle.mesh_machine.specs.Keys.{HadKeys, changes_keys}
use Rattle.mesh_reading.specs.Held.{held_in}
use Rattle.node_records.specs.Tables.{config_in}
use Rattle.node_records.specs.declared.persist.Persist.{Persist}
use Rattle.record_types.specs.declared.records.StoreRecord.{StoreRecord}
use Rattle.record_types.specs.declared.records.StoreRecord.TheVariants as R
use Rattle.store_definitions.specs.Config.{Config, changed, labels_without}
use Rattle.store_definitions.specs.Numbers.{fill_of}

pub one_same : (c : Config) (item : StoreRecord) → changes_keys item ≡ false → held_in (changed c item) ≡ held_in c
unfolding changed
one_same c (R.Identity unicast elements dev_key) h = absurd cc
one_same c (R.NetKey op index key) h = absurd cc
one_same c (R.AppKey op net index key) h = absurd cc
one_same c (R.Label op element model label) h = absurd cc
one_same c (R.Subscribe op element model address) h =
    ap (λ (b : Bool). record (held_in c) { labels = map (λ l. l.2) (if b then labels_without element model c.labels else c.labels) }) h
one_same c _ h = refl

all_same : (c : Config) (items : List StoreRecord) → list_any changes_keys items ≡ false → held_in (fold changed c items) ≡ held_in c
all_same c [] h = refl
all_same c (item ∷ items) h =
    let (one, rest) = or_parts (changes_keys item) (list_any changes_keys items) h in
    all_same (changed c item) items rest ∙ one_same c item one

pub still_fit : (t : NodeTablesView) (p : Persist) (items : List StoreRecord) → HadKeys t p items → list_any changes_keys items ≡ false → t.hearing.keys ≡ held_in (config_in p)
still_fit t p items h all = h.keys ∙ sym (all_same h.before items all) ∙ ap held_in (sym h.now)

-- A refill changes neither the keys nor the elements.

pub fill_keys : (c : Config) → held_in (changed c (fill_of c)) ≡ held_in c
fill_keys c = one_same c (fill_of c) refl

pub fill_elements : (c : Config) → (changed c (fill_of c)).elements ≡ c.elements
unfolding changed
fill_elements c = refl

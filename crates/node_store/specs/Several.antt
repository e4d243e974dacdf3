-- Several records that are put one after another: whether they may be, and how many calls that makes.
use Rattle.std.specs.Prelude.{◌≡◌, ◌⊎◌, ⊤, ℕ, ◌+◌, ◌<◌, List, [], ◌∷◌, ◌++◌, length, take}
use Rattle.flash_model.specs.Arming.{Begins, BeginsAtMost, Erases, ErasesAtMost, Programs, ProgramsAtMost}
use Rattle.flash_model.specs.Chip.{CallCount, Chip}
use Rattle.record_types.specs.declared.records.StoreRecord.{StoreRecord}
use Rattle.store_definitions.specs.Config.{changed}
use Rattle.store_definitions.specs.Ranges.{IsInRange}
use Rattle.node_records.specs.declared.persist.Persist.{Persist}
use Rattle.node_records.specs.Full.{IsFull}
use Rattle.node_records.specs.Meaning.{IsMeaningOf, IsSaid}
use Rattle.node_records.specs.Tables.{config_in}
use Rattle.node_store.specs.Calls.{calls_of, only_slots, used_with_room}
use Rattle.node_store.specs.Tie.{Holds, IsNotBelow, IsStoreOf}
use Rattle.node_store.specs.View.{StoreView}

-- a value after one record more
pub record IsAfter (old : Persist) (item : StoreRecord) (new : Persist) : Type 0 where
  pub config : config_in new ≡ changed (config_in old) item
  pub value : (records : List StoreRecord) → IsMeaningOf records old → IsMeaningOf (records ++ item ∷ []) new
  pub said : IsSaid new

-- Each record may be put behind those before it: it is in range, lowers neither the known IV Index nor the mark, and its table has a place.
abbrev pub MayPut : Persist → List StoreRecord → Type 0
MayPut p [] = ⊤
MayPut p (item ∷ items) =
    IsInRange item × IsNotBelow p item × (IsFull p item → ⊥) × ((q : Persist) → IsAfter p item q → MayPut q items)

-- a store after one record more
pub record IsNext (old : StoreView) (item : StoreRecord) (new : StoreView) : Type 0 where
  pub persist : IsAfter old.persist item new.persist
  pub used : new.journal.used ≡ used_with_room old + 1

-- the calls of both
abbrev pub and_then : CallCount → CallCount → CallCount
and_then one two = record { calls = one.calls + two.calls; erases = one.erases + two.erases; octets = one.octets + two.octets }

-- What puts of these records make together, from one store to another: each makes what a put makes on a store such as those before it leave
-- (`IsNext`), so it compacts where that has no room.
pub data IsSumOf (first : StoreView) : List StoreRecord → StoreView → CallCount → Type 0 where
  none_put : IsSumOf first [] first (only_slots 0)
  one_more : {items : List StoreRecord} {item : StoreRecord} {store : StoreView} {next : StoreView} {n : CallCount}
      → IsSumOf first items store n
      → IsNext store item next
      → IsSumOf first (items ++ item ∷ []) next (and_then n (calls_of store))

-- These calls are begun: those of a put of each record.
pub record CostsEach (items : List StoreRecord) (old new : Chip) (first last : StoreView) : Type 0 where
  pub n : CallCount
  pub sum : IsSumOf first items last n
  pub calls : Begins n.calls old new
  pub erases : Erases n.erases old new
  pub octets : Programs n.octets old new

-- Where the put of one failed: at most these are begun, those of the puts of the first few, which were put, and those of the one that failed. The
-- store says what those few left. Of a store of this flash, each image holds those few behind the others, or these with the one that failed.
pub record CostsSome (items : List StoreRecord) (old new : Chip) (first last : StoreView) : Type 0 where
  pub few : ℕ
  pub below : few < length items
  pub left : StoreView
  pub says : last.persist ≡ left.persist
  pub n : CallCount
  pub sum : IsSumOf first (take few items) left n
  pub most_calls : BeginsAtMost (n.calls + (calls_of left).calls) old new
  pub most_erases : ErasesAtMost (n.erases + (calls_of left).erases) old new
  pub most_octets : ProgramsAtMost (n.octets + (calls_of left).octets) old new
  pub held : (records : List StoreRecord) → IsStoreOf old first records → (c : List ℕ) → new.images c
      → Holds c (records ++ take few items) ⊎ Holds c (records ++ take (few + 1) items)

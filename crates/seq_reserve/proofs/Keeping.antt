-- The mark is durable, and the record of a refill is the one that the records say.
use Rattle.std.proofs.Common.{◌≡◌, ℕ, ◌≤◌, List, [], ◌∷◌, ◌++◌, refl, ap, subst, ◌∙◌, arith}
use Rattle.flash_model.specs.Chip.{Chip, LeavesOnly}
use Rattle.flash_model.proofs.Leaves.{IsOnlyNow, leaves_none}
use Rattle.node_records.specs.declared.persist.Persist.{Persist}
use Rattle.node_records.specs.Meaning.{IsMeaningOf}
use Rattle.node_records.specs.Tables.{config_in}
use Rattle.node_store.specs.Tie.{HasMarkFrom, IsPut, IsStoreOf}
use Rattle.node_store.specs.View.{StoreView}
use Rattle.node_store.proofs.Holding.{held_unchanged, holds_mark, store_images, store_meaning}
use Rattle.node_store.proofs.Puts.{room_moment}
use Rattle.record_types.specs.declared.records.StoreRecord.{StoreRecord}
use Rattle.seq_reserve.specs.Reserving.{IsDurable}
use Rattle.store_definitions.specs.Config.{Config, config_of}
use Rattle.store_definitions.specs.Numbers.{fill_of}

-- of a store of this flash the mark that it says is durable
module _ (chip : Chip) (store : StoreView) (records : List StoreRecord) (tie : IsStoreOf chip store records) where
  mark_is : store.persist.mark ≡ (config_of records).mark
  mark_is = ap (λ (c : Config). c.mark) (store_meaning chip store records tie).config

  pub durable_of : IsDurable chip store.persist.mark
  durable_of c image found held =
      let same : (config_of found).mark ≡ (config_of records).mark = holds_mark c records (store_images chip store records tie c image).holds found held in
      omega (arith, mark_is, same)

  -- where nothing is written
  pub put_none : IsOnlyNow chip → (item : StoreRecord) → LeavesOnly chip chip (IsPut records item)
  put_none only item = room_moment chip chip records item (held_unchanged chip store records tie only)

  pub mark_none : IsOnlyNow chip → LeavesOnly chip chip (HasMarkFrom store.persist.mark)
  mark_none only = leaves_none chip (HasMarkFrom store.persist.mark) only durable_of

-- what holds at each moment since holds of each image
pub durable_by : (old new : Chip) (mark : ℕ) → ((c : List ℕ) → old.moment ≤ new.moment → new.images c → new.since old.moment c)
    → LeavesOnly old new (HasMarkFrom mark) → IsDurable new mark
durable_by old new mark counts leaves c image = leaves.each c (counts c leaves.later image)

-- the record of a refill, by the records
pub fill_said : (records : List StoreRecord) (p : Persist) (item : StoreRecord) → item ≡ fill_of (config_in p) → IsMeaningOf records p → item ≡ fill_of (config_of records)
fill_said records p item is h = is ∙ ap (λ (c : Config). fill_of c) h.config

-- so the records say with it what the value says after it
pub fill_meaning : (records : List StoreRecord) (p q : Persist) → IsMeaningOf records p
    → ((l : List StoreRecord) → IsMeaningOf l p → IsMeaningOf (l ++ fill_of (config_in p) ∷ []) q) → IsMeaningOf (records ++ fill_of (config_of records) ∷ []) q
fill_meaning records p q h value =
    subst (λ (item : StoreRecord). IsMeaningOf (records ++ item ∷ []) q) (fill_said records p (fill_of (config_in p)) refl h) (value records h)

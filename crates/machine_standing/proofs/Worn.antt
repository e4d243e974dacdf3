-- What the records of a life cost its flash.
use Rattle.std.proofs.Common.{◌≡◌, ℕ, ◌+◌, List, ◌++◌, length, length-append, subst, arith}
use Rattle.flash_model.specs.Chip.{CallCount}
use Rattle.record_types.specs.declared.records.StoreRecord.{StoreRecord}
use Rattle.store_definitions.proofs.Wear.{at_most_of}
use Rattle.store_definitions.specs.Wear.{CostsAndUses, CostsAtMost}

-- with none in hand
pub none_in_hand : (used stored : ℕ) (before after : CallCount) (left : ℕ) → CostsAndUses used stored before after left → CostsAtMost used (stored + 0) before after
none_in_hand used stored before after left h =
    let same : stored ≡ stored + 0 = omega arith in
    subst (λ n. CostsAtMost used n before after) same (at_most_of used stored before after left h)

-- these records behind others that were stored
pub stored_more : (over records items : List StoreRecord) (stored : ℕ) → length records ≡ length over + stored → length (records ++ items) ≡ length over + (stored + length items)
stored_more over records items stored is = omega (arith, is, length-append records items)

-- What the images of a flash recover.
use Rattle.std.proofs.Common.{◌≡◌, ℕ, ◌≤◌, List, [], ◌++◌, append-nil, take, ap, sym, subst, ◌∙◌, arith}
use Rattle.std.specs.Prelude.{All}
use Rattle.flash_model.specs.Chip.{Chip}
use Rattle.machine_contract.specs.Opening.{EachRecovered, IsLeft, IsNodeFlash}
use Rattle.machine_standing.proofs.Fronts.{front_ranges, front_whole}
use Rattle.machine_standing.proofs.Lists.{all_nothing}
use Rattle.machine_standing.specs.Kept.{AreKept, KeptLaw}
use Rattle.node_store.proofs.Holding.{alike_sym, held_node, holds_recovered, store_images, store_meaning}
use Rattle.node_store.specs.Tie.{Holds, IsFront, IsHeld, IsNode, IsStoreOf}
use Rattle.node_store.specs.View.{StoreView}
use Rattle.record_types.specs.declared.records.StoreRecord.{StoreRecord}
use Rattle.store_definitions.specs.Alike.{IsAlike}
use Rattle.store_definitions.specs.Config.{Config, config_of}
use Rattle.store_definitions.specs.Node.{IsWhole}
use Rattle.store_definitions.specs.Ranges.{IsInRange}
use Rattle.store_definitions.specs.Recovered.{IsRecovered}

-- of an image that holds records
pub held_left : (c : List ℕ) (before more next : List StoreRecord) → All IsInRange (before ++ more) → Holds c (before ++ more) → IsRecovered c next → IsLeft before more next
held_left c before more next ranges h is = record { ranges = ranges; alike = alike_sym (before ++ more) next (holds_recovered c (before ++ more) next h is) }

-- Of the flash of a store: each image recovers its records, and their mark, and the node.

pub store_left : (chip : Chip) (store : StoreView) (records : List StoreRecord) → IsStoreOf chip store records → All IsInRange records
    → EachRecovered chip (λ next. IsLeft records [] next)
store_left chip store records tie ranges image next is found =
    held_left image records [] next (all_nothing IsInRange records ranges)
    (subst (λ l. Holds image l) (sym (append-nil records)) (store_images chip store records tie image is).holds) found

pub store_mark : (chip : Chip) (store : StoreView) (records : List StoreRecord) (mark : ℕ) → IsStoreOf chip store records → mark ≡ store.persist.mark
    → EachRecovered chip (λ next. mark ≤ (config_of next).mark)
store_mark chip store records mark tie is image next held found =
    let alike : IsAlike records next = holds_recovered image records next (store_images chip store records tie image held).holds found in
    let same : mark ≡ (config_of next).mark =
    is ∙ ap (λ (c : Config). c.mark) ((store_meaning chip store records tie).config ∙ alike.config) in
    omega (arith, same)

pub store_node : (chip : Chip) (store : StoreView) (records : List StoreRecord) → IsStoreOf chip store records → IsWhole (config_of records) → IsNodeFlash IsNode chip
store_node chip store records tie whole = record {
  honest = tie.exact.journal.fresh.honest;
  each = λ image is. let h : IsHeld records image = store_images chip store records tie image is in held_node image records h.tidy h.holds (λ run. whole);
}

-- Of a front of records that keep the node whole.

pub front_node : KeptLaw → (c : List ℕ) (records items : List StoreRecord) → IsFront records items c → AreKept (config_of records) items → IsWhole (config_of records) → IsNode c
front_node law c records items h kept whole = held_node c (records ++ take h.n items) h.tidy h.holds (λ run. front_whole law records items h.n kept whole)

pub front_left : (c : List ℕ) (records items next : List StoreRecord) (h : IsFront records items c) → AreKept (config_of records) items → All IsInRange records
    → IsRecovered c next → IsLeft records (take h.n items) next
front_left c records items next h kept ranges is = held_left c records (take h.n items) next (front_ranges records items h.n kept ranges) h.holds is

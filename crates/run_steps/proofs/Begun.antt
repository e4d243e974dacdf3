-- A flash on which a node was just provisioned.
use Rattle.std.proofs.Common.{◌≡◌, ◌∙◌, ℕ, List, Option, Some, ap, sym, subst, option_map}
use Rattle.std.specs.Prelude.{All, IsTrue, OnOk, Result, Ok, Err}
use Rattle.flash_model.specs.Chip.{Chip, IsFresh}
use Rattle.node_store.proofs.Provisions.{provisioned_whole}
use Rattle.node_store.specs.Mounted.{IsOldNode, IsRead}
use Rattle.node_store.specs.Provisioning.{IsProvision, provisioning}
use Rattle.node_store.specs.Tie.{IsExactly}
use Rattle.node_store.specs.View.{StoreView}
use Rattle.node_store.specs.declared.provision.Provision.{Provision}
use Rattle.record_types.specs.declared.records.StoreRecord.{StoreRecord}
use Rattle.slot_definitions.specs.Slots.{HasFormat, Held, held_by}
use Rattle.slot_journal.specs.Headers.{IsTidy}
use Rattle.slot_journal.specs.Tie.{IsMounted}
use Rattle.slot_journal.specs.View.{JournalView}
use Rattle.store_definitions.specs.Config.{config_of}
use Rattle.store_definitions.specs.Node.{IsWhole}
use Rattle.store_definitions.specs.Provisioning.{provisioned}
use Rattle.store_definitions.specs.Ranges.{IsInRange}
use Rattle.store_definitions.specs.Recovered.{IsRecovered}
use Rattle.run_steps.specs.Provisioned.{IsInFormat, IsProvisioned}

abbrev pub OneList : Type 0
OneList = (image : List ℕ) (rs ss : List StoreRecord) → IsRecovered image rs → IsRecovered image ss → rs ≡ ss

-- in range, the records are those of a node that can be run
abbrev AreWhole : List StoreRecord → Type 0
AreWhole rs = All IsInRange rs → IsWhole (config_of rs)

-- each image is tidy and recovers these records
of_images : OneList → (rs : List StoreRecord) (chip : Chip) → AreWhole rs → IsTrue chip.honest → ((c : List ℕ) → chip.images c → IsTidy c)
    → ((c : List ℕ) → chip.images c → IsRead c rs) → IsProvisioned chip rs
of_images once rs chip whole honest tidy read = record {
  node = record {
    honest = honest;
    each = λ c is. record { tidy = tidy c is; records = rs; read = read c is; whole = λ stands. whole (read c is).held.ranges };
  };
  exactly = λ c found is recovers. once c found rs recovers (read c is).held;
}

now_begun : OneList → (rs : List StoreRecord) (chip : Chip) (store : StoreView) → AreWhole rs → IsExactly chip store rs → IsProvisioned chip rs
now_begun once rs chip store whole exact =
    let fresh = exact.journal.fresh in
    of_images once rs chip whole fresh.honest (λ c is. subst IsTidy (sym (fresh.only c is)) exact.journal.tidy)
    (λ c is. subst (λ d. IsRead d rs) (sym (fresh.only c is)) exact.read)

old_begun : {T E : Type 0} → OneList → (rs : List StoreRecord) (chip : Chip) (r : Result T E) → AreWhole rs → OnOk r (IsFresh chip)
    → OnOk r ((c : List ℕ) → chip.images c → IsOldNode rs c) → OnOk r (IsProvisioned chip rs)
old_begun once rs chip (Ok x) whole fresh each = of_images once rs chip whole fresh.honest (λ c is. (each c is).tidy) (λ c is. (each c is).read)
old_begun once rs chip (Err e) whole fresh each = tt

pub now_provisioned : OneList → (p : Provision) (chip : Chip) (store : StoreView) → IsProvision p → IsExactly chip store (provisioned (provisioning p))
    → IsProvisioned chip (provisioned (provisioning p))
now_provisioned once p chip store h exact = now_begun once (provisioned (provisioning p)) chip store (provisioned_whole p h) exact

pub old_provisioned_where : {T E : Type 0} → OneList → (p : Provision) (chip : Chip) (r : Result T E) → IsProvision p → OnOk r (IsFresh chip)
    → OnOk r ((c : List ℕ) → chip.images c → IsOldNode (provisioned (provisioning p)) c) → OnOk r (IsProvisioned chip (provisioned (provisioning p)))
old_provisioned_where once p chip r h fresh each = old_begun once (provisioned (provisioning p)) chip r (provisioned_whole p h) fresh each

-- the format of the bank that counts
mounted_format : (content : List ℕ) (journal : JournalView) → IsMounted content journal → HasFormat journal.version content
mounted_format content journal m =
    subst (λ (o : Option ℕ). option_map (λ (h : Held). h.format) (option_map (held_by content) o) ≡ Some journal.version) (sym m.bank) (ap Some m.version)

pub now_format : (chip : Chip) (store : StoreView) (rs : List StoreRecord) (format : ℕ) → store.journal.version ≡ format → IsExactly chip store rs → IsInFormat format chip
now_format chip store rs format is exact =
    let fresh = exact.journal.fresh in
    λ image among. subst (HasFormat format) (sym (fresh.only image among)) (subst (λ n. HasFormat n chip.now) is (mounted_format chip.now store.journal exact.journal.mounted))

pub old_format : {T E : Type 0} (rs : List StoreRecord) (chip : Chip) (r : Result T E) → OnOk r ((c : List ℕ) → chip.images c → IsOldNode rs c) → OnOk r (IsInFormat 1 chip)
old_format rs chip (Ok x) each = λ image among. (each image among).format
old_format rs chip (Err e) each = tt

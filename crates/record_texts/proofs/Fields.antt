-- A text read back.
use Rattle.std.proofs.Common.{◌≡◌, ℕ, zero, suc, ◌+◌, ◌<◌, ◌≤◌, List, length, take, drop, refl, sym, ap, ◌∙◌, arith, drop-cons}
use Rattle.std.proofs.lemmas.List.{length-take-le, length-drop}
use Rattle.byteorder.specs.Endian.{big_from}
use Rattle.cipher_definitions.specs.Octets.{number_of}
use Rattle.record_types.specs.declared.records.StoreRecord.TheVariants as R
use Rattle.mesh_base.specs.declared.slot.Slot.{Slot}
use Rattle.record_types.specs.declared.records.StoreRecord.{StoreRecord}
use Rattle.store_definitions.specs.Ranges.{IsInRange}
use Rattle.store_definitions.specs.Recovered.{record_text}
use Rattle.store_definitions.proofs.Texts.{read_back, text_back}

-- the record in range whose text a slot is, if there is one, is what the slot is read back as
pub back : (s : Slot) (item r : StoreRecord) → item ≡ read_back s → IsInRange r → record_text r ≡ s → item ≡ r
back s item r e h t = e ∙ ap read_back (sym t) ∙ text_back r h

-- the number of n octets from a place on, as the list of these octets says it
pub number_from : (n i : ℕ) (xs : List ℕ) → i + n ≤ length xs → big_from i n xs ≡ number_of (take n (drop i xs))
unfolding number_of
number_from zero i xs h = refl
number_from (suc n) i xs h =
    let lt : i < length xs = omega arith in
    let size : length (take n (drop (suc i) xs)) ≡ n = length-take-le n (drop (suc i) xs) (simp length-drop (omega arith)) in
    let rest : big_from (suc i) n xs ≡ number_of (take n (drop (suc i) xs)) = number_from n (suc i) xs (omega arith) in
    rw (drop-cons xs i 0 lt, size, rest) refl

-- every text has a kind from 1 to 13
pub kind_range : (r : StoreRecord) → (1 ≤ (record_text r).kind) × ((record_text r).kind ≤ 13)
unfolding record_text
kind_range (R.Identity unicast elements dev_key) = (omega arith, omega arith)
kind_range (R.Numbers current progress mark hours since) = (omega arith, omega arith)
kind_range (R.Hour hours since) = (omega arith, omega arith)
kind_range (R.Replay first second) = (omega arith, omega arith)
kind_range (R.NetKey op index key) = (omega arith, omega arith)
kind_range (R.AppKey op net index key) = (omega arith, omega arith)
kind_range (R.Bind op element model app) = (omega arith, omega arith)
kind_range (R.Subscribe op element model address) = (omega arith, omega arith)
kind_range (R.Feature which value) = (omega arith, omega arith)
kind_range (R.Model element model value) = (omega arith, omega arith)
kind_range (R.Label op element model label) = (omega arith, omega arith)
kind_range (R.Publish row) = (omega arith, omega arith)
kind_range R.Reset = (omega arith, omega arith)

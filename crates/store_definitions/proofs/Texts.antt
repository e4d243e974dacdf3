-- A record in range is read back from its text, so no two records in range have one text.
use Rattle.std.proofs.Common.{◌≡◌, ℕ, zero, suc, ◌+◌, ◌*◌, ◌/◌, ◌%◌, ◌^◌, ◌<◌, ◌≤◌, Bool, true, false, List, [], ◌∷◌, ◌++◌, length, take, drop, map, refl, ap, ◌∙◌, sym, arith, lit<, ◌⊎◌, Option, None}
use Rattle.std.specs.Prelude.{◌==◌, if◌then◌else◌, slice_index, Some, All, IsTrue}
use Rattle.std.proofs.lemmas.Bool.Decides.{nat_tests}
use Rattle.std.proofs.lemmas.List.{take-append-le, take_all}
use Rattle.std.proofs.lemmas.List.Elements.{All-head, All-tail}
use Rattle.std.proofs.Math.Arith.{mod-mul}
use Rattle.std.proofs.Math.Nat.{pow-succ', one-le-pow, mod-eq_of_lt}
use Rattle.cipher_definitions.proofs.Octets.{bit_back, four_back, number_of-octets_of, three_back, two_back}
use Rattle.cipher_definitions.specs.Octets.{four_at, number_of, octets_of, three_at, two_at}
use Rattle.mesh_base.proofs.IvStates.{transmit_known}
use Rattle.mesh_base.specs.declared.address.Address.{Address}
use Rattle.mesh_base.specs.IvState.{transmit_of}
use Rattle.mesh_base.specs.declared.iv_state.IvState.{IvState}
use Rattle.mesh_base.specs.declared.pair.Name.{Name}
use Rattle.mesh_base.specs.declared.slot.Slot.{Slot}
use Rattle.record_types.specs.declared.records.PublishRow.{PublishRow}
use Rattle.record_types.specs.declared.records.StoreRecord.{StoreRecord}
use Rattle.record_types.specs.declared.records.StoreRecord.TheVariants as R
use Rattle.slot_definitions.specs.Slots.{Held}
use Rattle.store_definitions.specs.Ranges.{IsKeyOf, IsMark, is_feature, is_zeros, IsInRange}
use Rattle.store_definitions.specs.Recovered.{record_text, IsRecovered}

abbrev pub sixteen_at : List ℕ → ℕ → List ℕ
sixteen_at b i = take 16 (drop i b)

abbrev pub address_at : List ℕ → ℕ → Address
address_at b i = record { 0 = two_at b i }

abbrev pub name_at : List ℕ → ℕ → Name
name_at b i = record { src = address_at b i; pair = record { iv = four_at b (i + 2); seq = three_at b (i + 6) } }

abbrev pub row_at : List ℕ → PublishRow
row_at b = record {
  element = address_at b 0;
  model = two_at b 2;
  address = address_at b 4;
  app = two_at b 6;
  ttl = slice_index b 8;
  period = slice_index b 9;
  retransmit = slice_index b 10;
}

-- the record that a slot was written from
abbrev pub read_back : Slot → StoreRecord
read_back s =
    if s.kind == 1 then R.Identity (address_at s.body 0) (slice_index s.body 2) (sixteen_at s.body 3)
    else if s.kind == 2 then R.Numbers (four_at s.body 0) (slice_index s.body 4 == 1) (number_of (take 8 (drop 5 s.body))) (two_at s.body 13) (two_at s.body 15)
    else if s.kind == 3 then R.Hour (two_at s.body 0) (two_at s.body 2)
    else if s.kind == 4 then R.Replay (name_at s.body 0) (if is_zeros (name_at s.body 9) then None else Some (name_at s.body 9))
    else if s.kind == 5 then R.NetKey (slice_index s.body 0) (two_at s.body 1) (sixteen_at s.body 3)
    else if s.kind == 6 then R.AppKey (slice_index s.body 0) (two_at s.body 1) (two_at s.body 3) (sixteen_at s.body 5)
    else if s.kind == 7 then R.Bind (slice_index s.body 0) (address_at s.body 1) (two_at s.body 3) (two_at s.body 5)
    else if s.kind == 8 then R.Subscribe (slice_index s.body 0) (address_at s.body 1) (two_at s.body 3) (address_at s.body 5)
    else if s.kind == 9 then R.Feature (slice_index s.body 0) (two_at s.body 1)
    else if s.kind == 11 then R.Model (slice_index s.body 0) (two_at s.body 1) (two_at s.body 3)
    else if s.kind == 12 then R.Label (slice_index s.body 0) (address_at s.body 1) (two_at s.body 3) (sixteen_at s.body 5)
    else if s.kind == 13 then R.Publish (row_at s.body)
    else R.Reset

key_back : (key zeros : List ℕ) → length key ≡ 16 → take 16 (key ++ zeros) ≡ key
key_back key zeros h =
    let most : 16 ≤ length key = omega arith in
    take-append-le 16 key zeros most ∙ take_all 16 key (omega arith)

key_size : (needed : Bool) (key : List ℕ) → IsKeyOf needed key → length key ≡ 16
key_size true key k = k.size
key_size false key k = ap length k

wide : (n : ℕ) → n ≤ 0xfff → n < 2 ^ 16
wide n h = omega arith

mark_back : (s : IvState) (mark : ℕ) → s.current < 2 ^ 32 → IsMark s mark → number_of (octets_of 8 mark) ≡ mark
mark_back s mark c m =
    let t : transmit_of s ≤ s.current = transmit_known s in
    let w : mark < 256 ^ 8 = omega (arith, m.word, m.most) in
    number_of-octets_of 8 mark ∙ mod-eq_of_lt w

numbers_back : (current mark hours since : ℕ) (progress : Bool)
    → current < 2 ^ 32 → number_of (octets_of 8 mark) ≡ mark → hours < 2 ^ 16 → since < 2 ^ 16
    → read_back (record_text (R.Numbers current progress mark hours since)) ≡ R.Numbers current progress mark hours since
unfolding record_text octets_of
numbers_back current mark hours since progress c m h s =
    rw (four_back current c, bit_back progress, m, two_back hours h, two_back since s) refl

feature_width : (which value : ℕ) → IsTrue (is_feature which value) → value < 2 ^ 16
feature_width which value f = grind (arith, nat_tests)

model_width : (model value : ℕ) → ((model ≡ 0x1000) × (value < 2)) ⊎ ((model ≡ 0x1002) × (value < 2 ^ 16)) → model < 2 ^ 16
model_width model value h = grind arith

value_width : (model value : ℕ) → ((model ≡ 0x1000) × (value < 2)) ⊎ ((model ≡ 0x1002) × (value < 2 ^ 16)) → value < 2 ^ 16
value_width model value h = grind arith

-- what the text of a record in range is read back as is that record
pub text_back : (r : StoreRecord) → IsInRange r → read_back (record_text r) ≡ r
unfolding record_text
text_back (R.Identity unicast elements dev_key) (_, _, _, most, key) =
    let w : unicast.0 < 2 ^ 16 = omega arith in
    rw (two_back unicast.0 w, key_back dev_key _ key.size) refl
text_back (R.Numbers current progress mark hours since) (c, t, m, h, s) =
    numbers_back current mark hours since progress c (mark_back (record { current = current; progress = progress; hours = hours; since = since }) mark c m) h s
text_back (R.Hour hours since) (h, s) = rw (two_back hours h, two_back since s) refl
text_back (R.Replay first None) (h, _) = rw (two_back first.src.0 h.src, four_back first.pair.iv h.iv, three_back first.pair.seq h.seq) refl
text_back (R.Replay first (Some second)) (h, (k, e)) =
    rw (
      two_back first.src.0 h.src,
      four_back first.pair.iv h.iv,
      three_back first.pair.seq h.seq,
      two_back second.src.0 k.src,
      four_back second.pair.iv k.iv,
      three_back second.pair.seq k.seq,
      e,
    ) refl
text_back (R.NetKey op index key) (_, _, i, k) = rw (two_back index (wide index i), key_back key _ (key_size _ key k)) refl
text_back (R.AppKey op net index key) (_, _, n, i, k) =
    rw (two_back net (wide net n), two_back index (wide index i), key_back key _ (key_size _ key k)) refl
text_back (R.Bind op element model app) (_, _, e, m, a) = rw (two_back element.0 e, two_back model m, two_back app (wide app a)) refl
text_back (R.Subscribe op element model address) (_, _, e, m, a) = rw (two_back element.0 e, two_back model m, two_back address.0 a) refl
text_back (R.Feature which value) f = rw (two_back value (feature_width which value f)) refl
text_back R.Reset _ = refl
text_back (R.Model element model value) (_, k) = rw (two_back model (model_width model value k), two_back value (value_width model value k)) refl
text_back (R.Label op element model label) (_, e, m, k) = rw (two_back element.0 e, two_back model m, key_back label _ k.size) refl
text_back (R.Publish row) (e, m, a, p, _, _, _) =
    rw (two_back row.element.0 e, two_back row.model m, two_back row.address.0 a, two_back row.app (wide row.app p)) refl

-- no two records in range have one text
pub text_once : (r s : StoreRecord) → IsInRange r → IsInRange s → record_text r ≡ record_text s → r ≡ s
text_once r s h k e = sym (text_back r h) ∙ ap read_back e ∙ text_back s k

texts_once : (rs ss : List StoreRecord) → All IsInRange rs → All IsInRange ss → map record_text rs ≡ map record_text ss → rs ≡ ss
texts_once [] [] h k e = refl
texts_once [] (s ∷ ss) h k e = cc
texts_once (r ∷ rs) [] h k e = cc
texts_once (r ∷ rs) (s ∷ ss) h k e =
    let p : record_text r ≡ record_text s = cc in
    let q : map record_text rs ≡ map record_text ss = cc in
    let a : r ≡ s = text_once r s (All-head IsInRange r rs h) (All-head IsInRange s ss k) p in
    let b : rs ≡ ss = texts_once rs ss (All-tail IsInRange r rs h) (All-tail IsInRange s ss k) q in
    rw (a, b) refl

-- an image recovers at most one list of records
pub recovered_once : (image : List ℕ) (rs ss : List StoreRecord) → IsRecovered image rs → IsRecovered image ss → rs ≡ ss
recovered_once image rs ss h k =
    texts_once rs ss h.ranges k.ranges (slots_once _ _ (sym h.texts ∙ k.texts))
  where
    slots_once : (a b : Held) → Some a ≡ Some b → a.slots ≡ b.slots
    slots_once a b e = cc

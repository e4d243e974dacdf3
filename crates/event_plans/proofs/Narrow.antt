-- What the ranges of records say of the widths of what they leave.
use Rattle.std.proofs.Common.{◌≡◌, ℕ, ◌≤◌, ◌<◌, ◌^◌, Bool, true, false, cond, not, ltb, eqb, List, [], ◌∷◌, refl, subst, sym, arith}
use Rattle.std.specs.Prelude.{IsTrue, All, fold, filter, Some, None, ◌==◌, if◌then◌else◌}
use Rattle.std.specs.List.{AllByRecursion as Every}
use Rattle.std.proofs.lemmas.Bool.Decides.{nat_tests}
use Rattle.std.proofs.lemmas.List.Elements.{recursion_from_All}
use Rattle.layer_definitions.specs.KeyRefresh.{net_index}
use Rattle.layer_definitions.specs.Order.{put_by}
use Rattle.mesh_base.specs.declared.keys.NetKeyRow.{NetKeyRow}
use Rattle.record_types.specs.declared.records.StoreRecord.{StoreRecord}
use Rattle.record_types.specs.declared.records.StoreRecord.TheVariants as R
use Rattle.store_definitions.specs.Config.{Config, change_net, changed, config_of, finished_net, nets_after, no_config}
use Rattle.store_definitions.specs.Ranges.{IsInRange, is_feature}

-- the index of a network key has 12 bits
abbrev pub IsIndexed : NetKeyRow → Type 0
IsIndexed row = row.index ≤ 0xfff

-- the Default TTL has 7 bits, and so many the indexes of network keys
pub record IsNarrow (c : Config) : Type 0 where
  pub ttl : c.ttl < 2 ^ 7
  pub nets : Every IsIndexed c.nets

put_indexed : (row : NetKeyRow) (rows : List NetKeyRow) → IsIndexed row → Every IsIndexed rows → Every IsIndexed (put_by net_index row rows)
put_indexed row [] h k = (h, tt)
put_indexed row (x ∷ xs) h k = pick (ltb row.index x.index) (eqb row.index x.index) (put_indexed row xs h k.1)
  where
    pick : (a b : Bool) → Every IsIndexed (put_by net_index row xs) → Every IsIndexed (cond a (row ∷ x ∷ xs) (cond b (row ∷ xs) (x ∷ put_by net_index row xs)))
    pick true b rest = (h, (k.0, k.1))
    pick false true rest = (h, k.1)
    pick false false rest = (k.0, rest)

change_indexed : (index : ℕ) (change : NetKeyRow → NetKeyRow) → ((r : NetKeyRow) → (change r).index ≡ r.index) → (rows : List NetKeyRow)
    → Every IsIndexed rows → Every IsIndexed (change_net index change rows)
change_indexed index change same [] h = tt
change_indexed index change same (x ∷ xs) h = (pick (eqb x.index index), change_indexed index change same xs h.1)
  where
    pick : (b : Bool) → IsIndexed (cond b (change x) x)
    pick true = subst (λ n. n ≤ 0xfff) (sym (same x)) h.0
    pick false = h.0

left_indexed : (index : ℕ) (rows : List NetKeyRow) → Every IsIndexed rows → Every IsIndexed (filter (λ (r : NetKeyRow). not (eqb r.index index)) rows)
left_indexed index [] h = tt
left_indexed index (x ∷ xs) h = pick (not (eqb x.index index)) _ (left_indexed index xs h.1)
  where
    pick : (b : Bool) (rest : List NetKeyRow) → Every IsIndexed rest → Every IsIndexed (cond b (x ∷ rest) rest)
    pick true rest k = (h.0, k)
    pick false rest k = k

nets_indexed : (op index : ℕ) (key : List ℕ) (rows : List NetKeyRow) → index ≤ 0xfff → Every IsIndexed rows → Every IsIndexed (nets_after op index key rows)
nets_indexed op index key rows h k =
    pick (eqb op 1) (eqb op 2) (eqb op 3) (eqb op 4) (eqb op 5) _ _ _ _ _
    (put_indexed (record { index = index; phase = 0; key = key; next = None }) rows h k)
    (change_indexed index (λ r. record r { phase = 1; next = Some key }) (λ r. refl) rows k)
    (change_indexed index (λ r. record r { phase = 2 }) (λ r. refl) rows k)
    (change_indexed index finished_net (λ r. refl) rows k)
    (left_indexed index rows k)
  where
    pick : (a b c d e : Bool) (v w x y z : List NetKeyRow) → Every IsIndexed v → Every IsIndexed w → Every IsIndexed x → Every IsIndexed y → Every IsIndexed z
        → Every IsIndexed (cond a v (cond b w (cond c x (cond d y (cond e z rows)))))
    pick true b c d e v w x y z hv hw hx hy hz = hv
    pick false true c d e v w x y z hv hw hx hy hz = hw
    pick false false true d e v w x y z hv hw hx hy hz = hx
    pick false false false true e v w x y z hv hw hx hy hz = hy
    pick false false false false true v w x y z hv hw hx hy hz = hz
    pick false false false false false v w x y z hv hw hx hy hz = k

ttl_value : (value : ℕ) → IsTrue (is_feature 2 value) → value < 2 ^ 7
ttl_value value h = grind (arith, nat_tests, h)

ttl_changed : (which value ttl : ℕ) → IsTrue (is_feature which value) → ttl < 2 ^ 7 → (if which == 2 then value else ttl) < 2 ^ 7
ttl_changed which value ttl h k = pick (eqb which 2) refl
  where
    is_two : eqb which 2 ≡ true → which ≡ 2
    is_two e = grind (arith, nat_tests)

    pick : (b : Bool) → eqb which 2 ≡ b → (if b then value else ttl) < 2 ^ 7
    pick true e = ttl_value value (subst (λ n. IsTrue (is_feature n value)) (is_two e) h)
    pick false e = k

narrow_changed : (c : Config) (r : StoreRecord) → IsInRange r → IsNarrow c → IsNarrow (changed c r)
unfolding changed
narrow_changed c (R.NetKey op index key) h k = record { ttl = k.ttl; nets = nets_indexed op index key c.nets h.2 k.nets }
narrow_changed c (R.Feature which value) h k = record { ttl = ttl_changed which value c.ttl h k.ttl; nets = k.nets }
narrow_changed c _ h k = record { ttl = k.ttl; nets = k.nets }

narrow_all : (c : Config) (records : List StoreRecord) → Every IsInRange records → IsNarrow c → IsNarrow (fold changed c records)
narrow_all c [] h k = k
narrow_all c (r ∷ rs) h k = narrow_all (changed c r) rs h.1 (narrow_changed c r h.0 k)

pub narrow_of : (records : List StoreRecord) → All IsInRange records → IsNarrow (config_of records)
narrow_of records h = narrow_all no_config records (recursion_from_All IsInRange records h) (record { ttl = omega arith; nets = tt })

-- What is heard and sent under the keys of rows.
use Rattle.std.proofs.Common.{◌≡◌, ℕ, ◌+◌, ◌<◌, ◌^◌, Bool, true, false, cond, List, [], ◌∷◌, ◌++◌, length, take, get_or, Option, Some, None, refl, sym, ap, ◌∙◌, arith, append-nil}
use Rattle.std.specs.Prelude.{◌==◌, ◌&&◌, ◌↔◌, ◌≢◌, is_some, IsNone, IfSome, filter, All}
use Rattle.std.specs.List.{AllByRecursion as ByRecursion, find}
use Rattle.std.specs.Option.{option_map}
use Rattle.std.proofs.lemmas.List.{take_more}
use Rattle.std.proofs.lemmas.Grind.{flat_map-append}
use Rattle.std.proofs.lemmas.List.Elements.{All-filter, All-from_recursion, filter-append, recursion_from_All}
use Rattle.std.proofs.lemmas.Bool.Decides.{nat_tests}
use Rattle.mesh_base.specs.declared.fields.Heard.{Heard}
use Rattle.mesh_base.specs.declared.fields.NetMaterial.{NetMaterial}
use Rattle.mesh_base.specs.declared.keys.NetKeyRow.{NetKeyRow}
use Rattle.layer_definitions.specs.KeyRefresh.{heard_key, heard_keys, keys_of, master_material, net_index, net_row, transmit_key, transmit_material}
use Rattle.layer_definitions.specs.Order.{LacksIndex}
use Rattle.layer_definitions.proofs.KeyLaws.{nid_width}
use Rattle.kept_keys.proofs.Finding.{and_false, and_true, both_false, every_behind, new_sent, old_sent, row_first, row_new, row_passed, some_once}
use Rattle.net_keys.specs.Held.{sends_new}

-- the keys of one row more
pub keys_more : (rows : List NetKeyRow) (i : ℕ) (d : NetKeyRow) → i < length rows
    → heard_keys (take i rows) ++ keys_of (heard_key (get_or rows i d).index) (get_or rows i d).key (get_or rows i d).next ≡ heard_keys (take (i + 1) rows)
keys_more rows i d l =
    let keys = λ (r : NetKeyRow). keys_of (heard_key r.index) r.key r.next in
    rw (take_more rows i d l, flat_map-append keys (take i rows) (get_or rows i d ∷ []), append-nil (keys (get_or rows i d))) refl

-- one key more that is tried
pub filter_more : (p : Heard → Bool) (keys : List Heard) (i : ℕ) (d : Heard) → i < length keys
    → filter p (take i keys) ++ filter p (get_or keys i d ∷ []) ≡ filter p (take (i + 1) keys)
filter_more p keys i d l = rw (take_more keys i d l) (sym (filter-append p (take i keys) (get_or keys i d ∷ [])))

-- Under which key is sent.

abbrev material : Heard → NetMaterial
material h = h.material

abbrev is_of : ℕ → Heard → Bool
is_of index h = h.index == index

abbrev is_new_of : ℕ → Heard → Bool
is_new_of index h = (h.index == index) && h.fresh

-- the first key of an index is the old one of its row
old_found : (rows : List NetKeyRow) (index : ℕ) → option_map material (find (is_of index) (heard_keys rows)) ≡ option_map (λ r. master_material r.key) (net_row rows index)
old_found [] index = refl
old_found (r ∷ rows) index = row (old_found rows index) (r.index == index) refl
  where
    row : option_map material (find (is_of index) (heard_keys rows)) ≡ option_map (λ x. master_material x.key) (net_row rows index) → (t : Bool) → (r.index == index) ≡ t
        → option_map material (find (is_of index) (keys_of (heard_key r.index) r.key r.next ++ heard_keys rows)) ≡ option_map (λ x. master_material x.key) (cond t (Some r) (net_row rows index))
    row i true e = ap (λ o. option_map material o) (row_first (is_of index) (heard_key r.index) r.key r.next (heard_keys rows) e)
    row i false e = ap (λ o. option_map material o) (row_passed (is_of index) (heard_key r.index) r.key r.next (heard_keys rows) (λ fresh k. e)) ∙ i

-- and the first new one is that of its row, if it has one
new_found : (rows : List NetKeyRow) (index : ℕ) (r : NetKeyRow) (k : List ℕ) → net_row rows index ≡ Some r → r.next ≡ Some k
    → option_map material (find (is_new_of index) (heard_keys rows)) ≡ Some (master_material k)
new_found [] index r k e n = absurd (cc)
new_found (x ∷ rows) index r k e n = row (λ f. new_found rows index r k f n) (x.index == index) refl e
  where
    row : (net_row rows index ≡ Some r → option_map material (find (is_new_of index) (heard_keys rows)) ≡ Some (master_material k)) → (t : Bool) → (x.index == index) ≡ t
        → cond t (Some x) (net_row rows index) ≡ Some r
        → option_map material (find (is_new_of index) (keys_of (heard_key x.index) x.key x.next ++ heard_keys rows)) ≡ Some (master_material k)
    row i true t f =
        let next : x.next ≡ Some k = ap (λ (y : NetKeyRow). y.next) (some_once x r f) ∙ n in
        ap (λ o. option_map material (find (is_new_of index) (keys_of (heard_key x.index) x.key o ++ heard_keys rows))) next
        ∙ ap (λ o. option_map material o) (row_new (is_new_of index) (heard_key x.index) x.key k (heard_keys rows) (and_false (x.index == index)) (and_true (x.index == index) ∙ t))
    row i false t f =
        ap (λ o. option_map material o) (row_passed (is_new_of index) (heard_key x.index) x.key x.next (heard_keys rows) (λ fresh y. both_false (x.index == index) fresh t)) ∙ i f

old_key : (r : NetKeyRow) → sends_new r ≡ false → transmit_key r ≡ r.key
old_key r e = old_sent (r.phase == 2) r.next r.key e

new_key : (r : NetKeyRow) → sends_new r ≡ true → (k : List ℕ) × (r.next ≡ Some k) × (transmit_key r ≡ k)
new_key r e = new_sent (r.phase == 2) r.next r.key e

sent_of : (rows : List NetKeyRow) (index : ℕ) (r : NetKeyRow) (k : List ℕ) → net_row rows index ≡ Some r → transmit_key r ≡ k → Some (master_material k) ≡ transmit_material rows index
sent_of rows index r k e t =
    ap (λ key. Some (master_material key)) (sym t) ∙ sym (ap (λ o. option_map (λ x. master_material (transmit_key x)) o) e)

pub sent_old : (rows : List NetKeyRow) (index : ℕ) (r : NetKeyRow) → net_row rows index ≡ Some r → sends_new r ≡ false
    → option_map material (find (is_of index) (heard_keys rows)) ≡ transmit_material rows index
sent_old rows index r e old =
    old_found rows index ∙ ap (λ o. option_map (λ x. master_material x.key) o) e ∙ sent_of rows index r r.key e (old_key r old)

pub sent_new : (rows : List NetKeyRow) (index : ℕ) (r : NetKeyRow) → net_row rows index ≡ Some r → sends_new r ≡ true
    → option_map material (find (is_new_of index) (heard_keys rows)) ≡ transmit_material rows index
sent_new rows index r e new =
    let k = new_key r new in
    new_found rows index r k.0 e k.1 ∙ sent_of rows index r k.0 e k.2

pub sent_none : (rows : List NetKeyRow) (index : ℕ) → net_row rows index ≡ None → None ≡ transmit_material rows index
sent_none rows index e = sym (ap (λ o. option_map (λ r. master_material (transmit_key r)) o) e)

-- under no key where no row has the index
none_found : (rows : List NetKeyRow) (index : ℕ) → ByRecursion (λ r. net_index r ≢ index) rows → transmit_material rows index ≡ None
none_found [] index a = refl
none_found (r ∷ rows) index (n, a) = either (none_found rows index a) (r.index == index) refl
  where
    either : transmit_material rows index ≡ None → (t : Bool) → (r.index == index) ≡ t → option_map (λ x. master_material (transmit_key x)) (cond t (Some r) (net_row rows index)) ≡ None
    either next true e = absurd (n (grind (arith, nat_tests)))
    either next false e = next

lacking : (rows : List NetKeyRow) (index : ℕ) → IsNone (transmit_material rows index) → ByRecursion (λ r. net_index r ≢ index) rows
lacking [] index e = tt
lacking (r ∷ rows) index e = either (lacking rows index) (r.index == index) refl e
  where
    either : (IsNone (transmit_material rows index) → ByRecursion (λ x. net_index x ≢ index) rows) → (t : Bool) → (r.index == index) ≡ t
        → IsNone (option_map (λ x. master_material (transmit_key x)) (cond t (Some r) (net_row rows index))) → ByRecursion (λ x. net_index x ≢ index) (r ∷ rows)
    either next true f e = absurd (cc)
    either next false f e = ((λ same. grind (arith, nat_tests)), next e)

pub none_sent : (rows : List NetKeyRow) (index : ℕ) → IsNone (transmit_material rows index) ↔ LacksIndex net_index rows index
none_sent rows index =
    ((λ e. All-from_recursion (λ r. net_index r ≢ index) rows (lacking rows index e)), (λ a. ap (λ o. is_some o) (none_found rows index (recursion_from_All (λ r. net_index r ≢ index) rows a))))

-- NID has 7 bits.

pub nid_sent : (rows : List NetKeyRow) (index : ℕ) → IfSome (transmit_material rows index) (λ m. m.nid < 2 ^ 7)
nid_sent rows index = either (net_row rows index)
  where
    either : (o : Option NetKeyRow) → IfSome (option_map (λ r. master_material (transmit_key r)) o) (λ m. m.nid < 2 ^ 7)
    either None = tt
    either (Some r) = nid_width (transmit_key r)

-- a fact of what is heard under any key
abbrev pub IsOfKeys : (Heard → Type 0) → Type 0
IsOfKeys P = (index : ℕ) (fresh : Bool) (key : List ℕ) → P (heard_key index fresh key)

of_row : (P : Heard → Type 0) → IsOfKeys P → (index : ℕ) (key : List ℕ) (next : Option (List ℕ)) → ByRecursion P (keys_of (heard_key index) key next)
of_row P p index key None = (p index false key, tt)
of_row P p index key (Some k) = (p index false key, (p index true k, tt))

pub of_rows : (P : Heard → Type 0) → IsOfKeys P → (rows : List NetKeyRow) → ByRecursion P (heard_keys rows)
of_rows P p [] = tt
of_rows P p (r ∷ rows) = every_behind P _ _ (of_row P p r.index r.key r.next) (of_rows P p rows)

pub all_candidates : (P : Heard → Type 0) → IsOfKeys P → (rows : List NetKeyRow) (test : Heard → Bool) → All P (filter test (heard_keys rows))
all_candidates P p rows test = All-filter test P (heard_keys rows) (All-from_recursion P (heard_keys rows) (of_rows P p rows))

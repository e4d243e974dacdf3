-- What is opened and sent under the values of rows.
use Rattle.std.proofs.Common.{◌≡◌, ℕ, ◌+◌, ◌<◌, Bool, true, false, cond, List, [], ◌∷◌, ◌++◌, length, take, get_or, map, Option, Some, None, refl, sym, ap, ◌∙◌, arith, append-nil}
use Rattle.std.specs.Prelude.{◌==◌, ◌&&◌, ◌↔◌, ◌≢◌, is_some, IsNone, IsSome, IfSome, filter, All}
use Rattle.std.specs.List.{AllByRecursion as ByRecursion, find, flat_map}
use Rattle.std.specs.Option.{option_and_then, option_map}
use Rattle.std.proofs.lemmas.List.{take_more}
use Rattle.std.proofs.lemmas.Grind.{flat_map-append}
use Rattle.std.proofs.lemmas.List.Elements.{All-from_recursion, recursion_from_All}
use Rattle.std.proofs.lemmas.Bool.Decides.{nat_tests}
use Rattle.cipher_definitions.specs.Kdf.{aid}
use Rattle.mesh_base.specs.declared.keys.AppKeyRow.{AppKeyRow}
use Rattle.mesh_base.specs.declared.keys.NetKeyRow.{NetKeyRow}
use Rattle.mesh_base.specs.declared.keys.UpperKey.{UpperKey}
use Rattle.layer_definitions.specs.KeyRefresh.{app_index, app_key, app_keys, app_row, AreBound, keys_of, net_row, transmit_app, transmit_value}
use Rattle.layer_definitions.specs.Order.{by_index, LacksIndex}
use Rattle.layer_definitions.proofs.KeyLaws.{aid_width}
use Rattle.layer_definitions.proofs.OrderLaws.{All-by_index}
use Rattle.kept_keys.specs.declared.upper.BoundSchedule.{BoundSchedule}
use Rattle.kept_keys.specs.Bound.{bound_key, bound_keys, fitting_keys}
use Rattle.kept_keys.proofs.Finding.{and_false, and_true, both_false, every_behind, new_sent, old_sent, row_first, row_new, row_passed, some_once}
use Rattle.kept_keys.proofs.Fitting.{fitting-append}
use Rattle.app_keys.specs.AppRows.{HasAidWidth, HasOwnAid}
use Rattle.app_keys.specs.Held.{pair_of, sends_new}

-- the values of one row more
pub values_more : (rows : List AppKeyRow) (i : ℕ) (d : AppKeyRow) → i < length rows
    → bound_keys (take i rows) ++ keys_of (bound_key (get_or rows i d).net (get_or rows i d).index) (get_or rows i d).key (get_or rows i d).next ≡ bound_keys (take (i + 1) rows)
values_more rows i d l =
    let values = λ (r : AppKeyRow). keys_of (bound_key r.net r.index) r.key r.next in
    rw (take_more rows i d l, flat_map-append values (take i rows) (get_or rows i d ∷ []), append-nil (values (get_or rows i d))) refl

-- one value more that is tried
pub fitting_more : (net id : ℕ) (values : List BoundSchedule) (i : ℕ) (d : BoundSchedule) → i < length values
    → fitting_keys net id (take i values) ++ fitting_keys net id (get_or values i d ∷ []) ≡ fitting_keys net id (take (i + 1) values)
fitting_more net id values i d l = rw (take_more values i d l) (sym (fitting-append net id (take i values) (get_or values i d ∷ [])))

pub stay_bound : (rows : List AppKeyRow) (nets : List NetKeyRow) → AreBound rows nets → AreBound (by_index app_index rows) nets
stay_bound rows nets b = All-by_index (λ r. IsSome (net_row nets r.net)) app_index rows b

-- AIDs have 6 bits.

abbrev values_of : ℕ → AppKeyRow → List UpperKey
values_of id r = map (app_key r.index) (filter (λ key. aid key == id) (keys_of (λ fresh key. key) r.key r.next))

made_in_width : (index : ℕ) (keys : List (List ℕ)) → ByRecursion HasAidWidth (map (app_key index) keys)
made_in_width index [] = tt
made_in_width index (k ∷ keys) = (aid_width k, made_in_width index keys)

rows_in_width : (id : ℕ) (rows : List AppKeyRow) → ByRecursion HasAidWidth (flat_map (values_of id) rows)
rows_in_width id [] = tt
rows_in_width id (r ∷ rows) = every_behind HasAidWidth _ _ (made_in_width r.index (filter (λ key. aid key == id) (keys_of (λ fresh key. key) r.key r.next))) (rows_in_width id rows)

pub all_in_width : (rows : List AppKeyRow) (net id : ℕ) → All HasAidWidth (app_keys rows net id)
all_in_width rows net id = All-from_recursion HasAidWidth (app_keys rows net id) (rows_in_width id (filter (λ r. r.net == net) rows))

-- A value has the AID that is derived of it.

own_of : (r : AppKeyRow) (next : Option (List ℕ)) → ByRecursion (λ (b : BoundSchedule). HasOwnAid b.key) (keys_of (bound_key r.net r.index) r.key next)
own_of r None = (refl, tt)
own_of r (Some k) = (refl, (refl, tt))

rows_own : (rows : List AppKeyRow) → ByRecursion (λ (b : BoundSchedule). HasOwnAid b.key) (bound_keys rows)
rows_own [] = tt
rows_own (r ∷ rows) = every_behind (λ (b : BoundSchedule). HasOwnAid b.key) _ _ (own_of r r.next) (rows_own rows)

pub all_own : (rows : List AppKeyRow) → All (λ (b : BoundSchedule). HasOwnAid b.key) (bound_keys rows)
all_own rows = All-from_recursion (λ (b : BoundSchedule). HasOwnAid b.key) (bound_keys rows) (rows_own rows)

-- What is sent with.

abbrev Sent : Type 0
Sent = ℕ × UpperKey

abbrev is_of : ℕ → BoundSchedule → Bool
is_of index b = b.index == index

abbrev is_new_of : ℕ → BoundSchedule → Bool
is_new_of index b = (b.index == index) && b.fresh

abbrev old_value : ℕ → AppKeyRow → Sent
old_value index r = (r.net, app_key index r.key)

same_index : (index : ℕ) (r : AppKeyRow) → (r.index == index) ≡ true → r.index ≡ index
same_index index r e = grind (arith, nat_tests)

-- the first value of an index is the old one of its row
old_found : (rows : List AppKeyRow) (index : ℕ) → option_map pair_of (find (is_of index) (bound_keys rows)) ≡ option_map (old_value index) (app_row rows index)
old_found [] index = refl
old_found (r ∷ rows) index = row (old_found rows index) (r.index == index) refl
  where
    row : option_map pair_of (find (is_of index) (bound_keys rows)) ≡ option_map (old_value index) (app_row rows index) → (t : Bool) → (r.index == index) ≡ t
        → option_map pair_of (find (is_of index) (keys_of (bound_key r.net r.index) r.key r.next ++ bound_keys rows)) ≡ option_map (old_value index) (cond t (Some r) (app_row rows index))
    row i true e =
        ap (λ o. option_map pair_of o) (row_first (is_of index) (bound_key r.net r.index) r.key r.next (bound_keys rows) e)
        ∙ ap (λ n. Some (old_value n r)) (same_index index r e)
    row i false e = ap (λ o. option_map pair_of o) (row_passed (is_of index) (bound_key r.net r.index) r.key r.next (bound_keys rows) (λ fresh k. e)) ∙ i

abbrev new_value : ℕ → ℕ → List ℕ → Sent
new_value index net k = (net, app_key index k)

-- and the first new one is that of its row, if it has one
new_found : (rows : List AppKeyRow) (index : ℕ) (r : AppKeyRow) (k : List ℕ) → app_row rows index ≡ Some r → r.next ≡ Some k
    → option_map pair_of (find (is_new_of index) (bound_keys rows)) ≡ Some (new_value index r.net k)
new_found [] index r k e n = absurd (cc)
new_found (x ∷ rows) index r k e n = row (λ f. new_found rows index r k f n) (x.index == index) refl e
  where
    row : (app_row rows index ≡ Some r → option_map pair_of (find (is_new_of index) (bound_keys rows)) ≡ Some (new_value index r.net k)) → (t : Bool) → (x.index == index) ≡ t
        → cond t (Some x) (app_row rows index) ≡ Some r
        → option_map pair_of (find (is_new_of index) (keys_of (bound_key x.net x.index) x.key x.next ++ bound_keys rows)) ≡ Some (new_value index r.net k)
    row i true t f =
        let same = some_once x r f in
        let next : x.next ≡ Some k = ap (λ (y : AppKeyRow). y.next) same ∙ n in
        ap (λ o. option_map pair_of (find (is_new_of index) (keys_of (bound_key x.net x.index) x.key o ++ bound_keys rows))) next
        ∙ ap (λ o. option_map pair_of o) (row_new (is_new_of index) (bound_key x.net x.index) x.key k (bound_keys rows) (and_false (x.index == index)) (and_true (x.index == index) ∙ t))
        ∙ ap (λ j. Some (new_value j x.net k)) (same_index index x t)
        ∙ ap (λ (y : AppKeyRow). Some (new_value index y.net k)) same
    row i false t f =
        ap (λ o. option_map pair_of o) (row_passed (is_new_of index) (bound_key x.net x.index) x.key x.next (bound_keys rows) (λ fresh y. both_false (x.index == index) fresh t)) ∙ i f

old_key : (r : AppKeyRow) (net : NetKeyRow) → sends_new r net ≡ false → transmit_value r net ≡ r.key
old_key r net e = old_sent (net.phase == 2) r.next r.key e

new_key : (r : AppKeyRow) (net : NetKeyRow) → sends_new r net ≡ true → (k : List ℕ) × (r.next ≡ Some k) × (transmit_value r net ≡ k)
new_key r net e = new_sent (net.phase == 2) r.next r.key e

-- what is sent with under a row and its network key
abbrev sent_with : List NetKeyRow → ℕ → AppKeyRow → Option Sent
sent_with nets index r = option_map (λ net. (r.net, app_key index (transmit_value r net))) (net_row nets r.net)

sent_of : (rows : List AppKeyRow) (nets : List NetKeyRow) (index : ℕ) (r : AppKeyRow) (net : NetKeyRow) (k : List ℕ) → app_row rows index ≡ Some r
    → net_row nets r.net ≡ Some net → transmit_value r net ≡ k → Some (new_value index r.net k) ≡ transmit_app rows nets index
sent_of rows nets index r net k e f t =
    ap (λ key. Some (new_value index r.net key)) (sym t)
    ∙ sym (ap (λ o. option_map {U = Sent} (λ n. (r.net, app_key index (transmit_value r n))) o) f)
    ∙ sym (ap (λ o. option_and_then (sent_with nets index) o) e)

pub sent_old : (rows : List AppKeyRow) (nets : List NetKeyRow) (index : ℕ) (r : AppKeyRow) (net : NetKeyRow) → app_row rows index ≡ Some r → net_row nets r.net ≡ Some net
    → sends_new r net ≡ false → option_map pair_of (find (is_of index) (bound_keys rows)) ≡ transmit_app rows nets index
sent_old rows nets index r net e f old =
    old_found rows index ∙ ap (λ o. option_map (old_value index) o) e ∙ sent_of rows nets index r net r.key e f (old_key r net old)

pub sent_new : (rows : List AppKeyRow) (nets : List NetKeyRow) (index : ℕ) (r : AppKeyRow) (net : NetKeyRow) → app_row rows index ≡ Some r → net_row nets r.net ≡ Some net
    → sends_new r net ≡ true → option_map pair_of (find (is_new_of index) (bound_keys rows)) ≡ transmit_app rows nets index
sent_new rows nets index r net e f new =
    let k = new_key r net new in
    new_found rows index r k.0 e k.1 ∙ sent_of rows nets index r net k.0 e f k.2

pub sent_in_width : (rows : List AppKeyRow) (nets : List NetKeyRow) (index : ℕ) → IfSome {T = ℕ × UpperKey} (transmit_app rows nets index) (λ sent. HasAidWidth sent.1)
sent_in_width rows nets index = row (app_row rows index)
  where
    net : (r : AppKeyRow) (o : Option NetKeyRow) → IfSome {T = ℕ × UpperKey} (option_map {U = ℕ × UpperKey} (λ n. (r.net, app_key index (transmit_value r n))) o) (λ sent. HasAidWidth sent.1)
    net r None = tt
    net r (Some n) = aid_width (transmit_value r n)

    row : (o : Option AppKeyRow) → IfSome {T = ℕ × UpperKey} (option_and_then (sent_with nets index) o) (λ sent. HasAidWidth sent.1)
    row None = tt
    row (Some r) = net r (net_row nets r.net)

none_found : (rows : List AppKeyRow) (nets : List NetKeyRow) (index : ℕ) → ByRecursion (λ r. app_index r ≢ index) rows → transmit_app rows nets index ≡ None
none_found [] nets index a = refl
none_found (r ∷ rows) nets index (n, a) = either (none_found rows nets index a) (r.index == index) refl
  where
    either : transmit_app rows nets index ≡ None → (t : Bool) → (r.index == index) ≡ t → option_and_then (sent_with nets index) (cond t (Some r) (app_row rows index)) ≡ None
    either next true e = absurd (n (grind (arith, nat_tests)))
    either next false e = next

not_none : {A B : Type 0} (f : A → B) (o : Option A) → IsSome o → IsNone (option_map f o) → ⊥
not_none f None s n = cc
not_none f (Some x) s n = cc

lacking : (rows : List AppKeyRow) (nets : List NetKeyRow) (index : ℕ) → ByRecursion (λ r. IsSome (net_row nets r.net)) rows → IsNone (transmit_app rows nets index)
    → ByRecursion (λ r. app_index r ≢ index) rows
lacking [] nets index b e = tt
lacking (r ∷ rows) nets index (s, b) e = either (λ f. lacking rows nets index b f) (r.index == index) refl e
  where
    either : (IsNone (transmit_app rows nets index) → ByRecursion (λ x. app_index x ≢ index) rows) → (t : Bool) → (r.index == index) ≡ t
        → IsNone (option_and_then (sent_with nets index) (cond t (Some r) (app_row rows index))) → ByRecursion (λ x. app_index x ≢ index) (r ∷ rows)
    either next true f e = absurd (not_none {B = ℕ × UpperKey} (λ n. (r.net, app_key index (transmit_value r n))) (net_row nets r.net) s e)
    either next false f e = ((λ same. grind (arith, nat_tests)), next e)

pub none_sent : (rows : List AppKeyRow) (nets : List NetKeyRow) (index : ℕ) → AreBound rows nets → IsNone (transmit_app rows nets index) ↔ LacksIndex app_index rows index
none_sent rows nets index b = (
  (λ e. All-from_recursion (λ r. app_index r ≢ index) rows (lacking rows nets index (recursion_from_All (λ r. IsSome (net_row nets r.net)) rows b) e)),
  (λ a. ap (λ o. is_some o) (none_found rows nets index (recursion_from_All (λ r. app_index r ≢ index) rows a))),
)

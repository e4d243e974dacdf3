-- When a record makes a table grow past its size.
use Rattle.std.proofs.Common.{◌≡◌, ◌↔◌, ℕ, ◌+◌, ◌<◌, ◌≤◌, List, [], ◌∷◌, ◌++◌, length, get_or, drop, map, Bool, true, false, refl, sym, subst, arith, true≢false, length-append, add-one, drop-cons}
use Rattle.std.specs.Prelude.{◌==◌, ◌&&◌, ◌||◌, not, if◌then◌else◌, IsTrue, filter, count_by, None}
use Rattle.std.specs.List.{list_any}
use Rattle.std.proofs.lemmas.Bool.{eq-eqb, eqb-true}
use Rattle.std.proofs.lemmas.Bool.Decides.{nat_tests}
use Rattle.std.proofs.lemmas.List.{length-map}
use Rattle.std.proofs.lemmas.List.Sums.{length-filter}
use Rattle.node_limits.specs.declared.TheConstants.{NETWORK_KEYS, APPLICATION_KEYS, BINDINGS, GROUP_SUBSCRIPTIONS, LABEL_SUBSCRIPTIONS}
use Rattle.layer_definitions.specs.KeyRefresh.{net_index, app_index}
use Rattle.layer_definitions.specs.Order.{put_by}
use Rattle.mesh_base.specs.declared.address.Address.{Address}
use Rattle.mesh_base.specs.declared.keys.NetKeyRow.{NetKeyRow}
use Rattle.mesh_base.specs.declared.keys.AppKeyRow.{AppKeyRow}
use Rattle.store_definitions.specs.Config.{apps_after, binds_after, is_bind, is_label, is_sub, labels_after, nets_after, subs_after}
use Rattle.node_records.proofs.Changes.{filter_few}
use Rattle.node_records.specs.Growth.{is_new, passes_keyed, passes_pushed, passes_list}

length_if : {A : Type 0} (b : Bool) (xs ys : List A) → length (if b then xs else ys) ≡ (if b then length xs else length ys)
length_if true xs ys = refl
length_if false xs ys = refl

-- a table that grows only by this op, and then by one row that is new
passes : (is_op new : Bool) (n max grown other : ℕ) → n ≤ max → grown ≡ (if new then n + 1 else n) → other ≤ n → IsTrue (is_op && (n == max && new)) ↔ (max < (if is_op then grown else other))
passes true true n max grown other few is rest = (λ h. grind (arith, nat_tests), λ h. grind (arith, nat_tests))
passes true false n max grown other few is rest = (λ h. grind (arith, nat_tests), λ h. grind (arith, nat_tests))
passes false new n max grown other few is rest = (λ h. absurd (true≢false (sym h)), λ h. absurd (omega arith))

put_length : {A : Type 0} (key : A → ℕ) (r : A) (rows : List A) → length (put_by key r rows) ≡ (if is_new key (key r) rows then length rows + 1 else length rows)
put_length key r [] = refl
put_length key r (x ∷ rows) = let rest = put_length key r rows in grind (arith, nat_tests, rest)

map_most : {A B : Type 0} (f : A → B) (xs : List A) → length (map f xs) ≤ length xs
map_most f xs = omega (arith, length-map xs f)

len_if_most : {A : Type 0} (b : Bool) (xs ys : List A) (n : ℕ) → length xs ≤ n → length ys ≤ n → length (if b then xs else ys) ≤ n
len_if_most true xs ys n h k = h
len_if_most false xs ys n h k = k

-- the same of lists
passes_rows : {A : Type 0} (is_op new : Bool) (rows grown other : List A) (max : ℕ) → length rows ≤ max → length grown ≡ (if new then length rows + 1 else length rows) → length other ≤ length rows
    → IsTrue (is_op && (length rows == max && new)) ↔ (max < length (if is_op then grown else other))
passes_rows is_op new rows grown other max few is rest =
    subst (λ (n : ℕ). IsTrue (is_op && (length rows == max && new)) ↔ (max < n)) (sym (length_if is_op grown other)) (passes is_op new (length rows) max (length grown) (length other) few is rest)

pub nets_pass : (op index : ℕ) (key : List ℕ) (rows : List NetKeyRow) → length rows ≤ NETWORK_KEYS → IsTrue (op == 1 && passes_keyed net_index NETWORK_KEYS index rows) ↔ (NETWORK_KEYS < length (nets_after op index key rows))
nets_pass op index key rows few =
    passes_rows (op == 1) (is_new net_index index rows) rows _ _ NETWORK_KEYS few
    (put_length net_index (record { index = index; phase = 0; key = key; next = None }) rows)
    (len_if_most (op == 2) _ _ (length rows) (map_most _ rows)
    (len_if_most (op == 3) _ _ (length rows) (map_most _ rows)
    (len_if_most (op == 4) _ _ (length rows) (map_most _ rows)
    (len_if_most (op == 5) _ _ (length rows) (filter_few _ rows) (omega arith)))))

pub apps_pass : (op net index : ℕ) (key : List ℕ) (rows : List AppKeyRow) → length rows ≤ APPLICATION_KEYS → IsTrue (op == 1 && passes_keyed app_index APPLICATION_KEYS index rows) ↔ (APPLICATION_KEYS < length (apps_after op net index key rows))
apps_pass op net index key rows few =
    passes_rows (op == 1) (is_new app_index index rows) rows _ _ APPLICATION_KEYS few
    (put_length app_index (record { net = net; index = index; key = key; next = None }) rows)
    (len_if_most (op == 2) _ _ (length rows) (map_most _ rows)
    (len_if_most (op == 3) _ _ (length rows) (filter_few _ rows) (omega arith)))

-- a row that always comes
pub keyed_pass : {A : Type 0} (key : A → ℕ) (r : A) (rows : List A) (max : ℕ) → length rows ≤ max → IsTrue (passes_keyed key max (key r) rows) ↔ (max < length (put_by key r rows))
keyed_pass key r rows max few = passes_rows true (is_new key (key r) rows) rows (put_by key r rows) rows max few (put_length key r rows) (omega arith)

-- a row that is put behind the others, unless it is there
pushed_length : {A : Type 0} (there : Bool) (rows : List A) (x : A) → length (if there then rows else rows ++ x ∷ []) ≡ (if not there then length rows + 1 else length rows)
pushed_length true rows x = refl
pushed_length false rows x = length-append rows (x ∷ [])

pub binds_pass : (op : ℕ) (element : Address) (model app : ℕ) (rows : List (Address × ℕ × ℕ)) → length rows ≤ BINDINGS
    → IsTrue (op == 1 && passes_pushed BINDINGS (is_bind element model app) rows) ↔ (BINDINGS < length (binds_after op element model app rows))
binds_pass op element model app rows few =
    passes_rows (op == 1) (not (list_any (is_bind element model app) rows)) rows _ _ BINDINGS few
    (pushed_length (list_any (is_bind element model app) rows) rows (element, model, app))
    (len_if_most (op == 2) _ _ (length rows) (filter_few _ rows) (omega arith))

or_false : (b : Bool) → (b || false) ≡ b
or_false true = refl
or_false false = refl

-- lists of which all rows of a model may go
module _ {A : Type 0} (here own : A → Bool) (x : A) (rows : List A) (max : ℕ) (few : length rows ≤ max) where
  abbrev Passes : ℕ → List A → Type 0
  Passes op grown = IsTrue (passes_list max here own op rows) ↔ (max < length grown)

  list_add : Passes 1 (if list_any here rows then rows else rows ++ x ∷ [])
  list_add =
      let there = list_any here rows in
      let both = passes true (not there) (length rows) max (length (if there then rows else rows ++ x ∷ [])) (length rows) few (pushed_length there rows x) (omega arith) in
      subst (λ (b : Bool). IsTrue b ↔ (max < length (if there then rows else rows ++ x ∷ []))) (sym (or_false (length rows == max && not there))) both

  list_overwrite : Passes 4 (filter (λ row. not (own row)) rows ++ x ∷ [])
  list_overwrite =
      let rest = filter (λ row. not (own row)) rows in
      let most : length rest ≤ length rows = filter_few (λ row. not (own row)) rows in
      let count : length rest ≡ count_by (λ row. not (own row)) rows = length-filter (λ row. not (own row)) rows in
      let long : length (rest ++ x ∷ []) ≡ length rest + 1 = length-append rest (x ∷ []) in (
        (λ h. let e : count_by (λ row. not (own row)) rows ≡ max = eqb-true (count_by (λ row. not (own row)) rows) max h in omega (arith, e, count, long)),
        (λ h. eq-eqb (count_by (λ row. not (own row)) rows) max (omega (arith, h, count, long, most, few))),
      )

  no_pass : (a b : Bool) (m : ℕ) → a ≡ false → b ≡ false → m ≤ max → IsTrue ((a && passes_pushed max here rows) || (b && count_by (λ row. not (own row)) rows == max)) ↔ (max < m)
  no_pass true b m h k le = absurd (true≢false h)
  no_pass false true m h k le = absurd (true≢false k)
  no_pass false false m h k le = (λ t. absurd (true≢false (sym t)), λ t. absurd (omega arith))

  -- `after` is the list after each op
  by_four : (after : ℕ → List A) → Passes 4 (after 4) → ((op : ℕ) → (op == 1) ≡ false → (op == 4) ≡ false → length (after op) ≤ max)
      → (op : ℕ) (b : Bool) → (op == 4) ≡ b → (op == 1) ≡ false → Passes op (after op)
  by_four after four rest op true e a = subst (λ (o : ℕ). Passes o (after o)) (sym (eqb-true op 4 e)) four
  by_four after four rest op false e a = no_pass (op == 1) (op == 4) (length (after op)) a e (rest op a e)

  by_one : (after : ℕ → List A) → Passes 1 (after 1) → Passes 4 (after 4) → ((op : ℕ) → (op == 1) ≡ false → (op == 4) ≡ false → length (after op) ≤ max)
      → (op : ℕ) (b : Bool) → (op == 1) ≡ b → Passes op (after op)
  by_one after one four rest op true e = subst (λ (o : ℕ). Passes o (after o)) (sym (eqb-true op 1 e)) one
  by_one after one four rest op false e = by_four after four rest op (op == 4) refl e

  rest_of : (b1 b2 b3 b4 : Bool) (grown other none last : List A) → b1 ≡ false → b4 ≡ false → length other ≤ length rows → length none ≤ length rows
      → length (if b1 then grown else (if b2 then other else (if b3 then none else (if b4 then last else rows)))) ≤ max
  rest_of true b2 b3 b4 grown other none last h k p q = absurd (true≢false h)
  rest_of false true b3 b4 grown other none last h k p q = omega arith
  rest_of false false true b4 grown other none last h k p q = omega arith
  rest_of false false false true grown other none last h k p q = absurd (true≢false k)
  rest_of false false false false grown other none last h k p q = few

pub subs_pass : (op : ℕ) (element : Address) (model : ℕ) (address : Address) (rows : List (Address × ℕ × Address)) → length rows ≤ GROUP_SUBSCRIPTIONS
    → IsTrue (passes_list GROUP_SUBSCRIPTIONS (is_sub element model address) (λ s. s.0.0 == element.0 && s.1 == model) op rows) ↔ (GROUP_SUBSCRIPTIONS < length (subs_after op element model address rows))
subs_pass op element model address rows few =
    let own : Address × ℕ × Address → Bool = λ s. s.0.0 == element.0 && s.1 == model in
    let x : Address × ℕ × Address = (element, model, address) in
    by_one (is_sub element model address) own x rows GROUP_SUBSCRIPTIONS few (λ o. subs_after o element model address rows)
    (list_add (is_sub element model address) own x rows GROUP_SUBSCRIPTIONS few)
    (list_overwrite (is_sub element model address) own x rows GROUP_SUBSCRIPTIONS few)
    (λ o a b. rest_of (is_sub element model address) own x rows GROUP_SUBSCRIPTIONS few (o == 1) (o == 2) (o == 3) (o == 4) _ _ _ _ a b (filter_few _ rows) (filter_few _ rows))
    op (op == 1) refl

pub labels_pass : (op : ℕ) (element : Address) (model : ℕ) (label : List ℕ) (rows : List (Address × ℕ × List ℕ)) → length rows ≤ LABEL_SUBSCRIPTIONS
    → IsTrue (passes_list LABEL_SUBSCRIPTIONS (is_label element model label) (λ l. l.0.0 == element.0 && l.1 == model) op rows) ↔ (LABEL_SUBSCRIPTIONS < length (labels_after op element model label rows))
labels_pass op element model label rows few =
    let own : Address × ℕ × List ℕ → Bool = λ l. l.0.0 == element.0 && l.1 == model in
    let x : Address × ℕ × List ℕ = (element, model, label) in
    by_one (is_label element model label) own x rows LABEL_SUBSCRIPTIONS few (λ o. labels_after o element model label rows)
    (list_add (is_label element model label) own x rows LABEL_SUBSCRIPTIONS few)
    (list_overwrite (is_label element model label) own x rows LABEL_SUBSCRIPTIONS few)
    (λ o a b. rest_of (is_label element model label) own x rows LABEL_SUBSCRIPTIONS few (o == 1) (o == 2) false (o == 4) _ _ rows _ a b (filter_few _ rows) (omega arith))
    op (op == 1) refl

-- The rows stand by number: those below the number are passed over.
pub new_below : {A : Type 0} (key : A → ℕ) (number : ℕ) (rows : List A) (i : ℕ) (d : A) → i < length rows → key (get_or rows i d) < number → is_new key number (drop (i + 1) rows) ≡ is_new key number (drop i rows)
new_below key number rows i d lt below = rw (add-one, drop-cons rows i d) (grind (arith, nat_tests))

pub new_there : {A : Type 0} (key : A → ℕ) (number : ℕ) (rows : List A) (i : ℕ) (d : A) → i < length rows → number ≤ key (get_or rows i d) → not (key (get_or rows i d) == number) ≡ is_new key number (drop i rows)
new_there key number rows i d lt le = rw (drop-cons rows i d) (grind (arith, nat_tests))

-- what is answered where a table is full
pub held_full : {B P : Type 0} (full passes : Bool) → B ↔ IsTrue full → full ≡ passes → IsTrue passes ↔ P → B ↔ P
held_full {B} full passes answer same h =
    let tested : B ↔ IsTrue passes = subst (λ (b : Bool). B ↔ IsTrue b) same answer in
    ((λ b. h.0 (tested.0 b)), (λ p. tested.1 (h.1 p)))

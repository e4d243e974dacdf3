-- Going through keys of which some are tried: those tried so far open nothing.
use Rattle.std.proofs.Common.{◌≡◌, ℕ, zero, suc, ◌+◌, ◌<◌, ◌≤◌, true, false, cond, List, [], ◌∷◌, ◌++◌, length, get_or, take, drop, map, Some, slice_get, refl, sym, ap, ◌∙◌, arith, add-one, append-nil, drop-cons}
use Rattle.std.specs.Prelude.{filter}
use Rattle.std.proofs.lemmas.List.{take_more, take_all, take-append-drop}
use Rattle.mesh_base.specs.declared.keys.UpperKey.{UpperKey}
use Rattle.mesh_base.specs.declared.upper.UpperFields.{UpperFields}
use Rattle.kept_keys.specs.declared.upper.BoundSchedule.{BoundSchedule}
use Rattle.kept_keys.specs.Bound.{fits, fitting_keys}
use Rattle.kept_keys.proofs.Fitting.{fitting-append}
use Rattle.layer_definitions.specs.Upper.{IsUnopened, Opens, OpensUnder}

-- the key behind so many others
at_place : (front back : List UpperKey) (key : UpperKey) → slice_get (front ++ key ∷ back) (length front) ≡ Some key
at_place [] back key = refl
at_place (x ∷ front) back key = at_place front back key

before : (front rest : List UpperKey) (k : ℕ) (e : UpperKey) → k < length front → slice_get (front ++ rest) k ≡ Some e → slice_get front k ≡ Some e
before [] rest k e l s = absurd (omega arith)
before (x ∷ front) rest zero e l s = s
before (x ∷ front) rest (suc k) e l s = before front rest k e (omega arith) s

some_once : (a b : UpperKey) → Some a ≡ Some b → a ≡ b
some_once a b e = cc

-- the first that opens
pub opens_here : (front back : List UpperKey) (key : UpperKey) (f : UpperFields) (upper payload : List ℕ) (place : ℕ) → place ≡ length front
    → IsUnopened front f upper → OpensUnder key f upper payload → Opens (front ++ key ∷ back) f upper place payload
opens_here front back key f upper payload place at unopened opens = record {
  key = key;
  key_is = rw at (at_place front back key);
  opens = opens;
  first = λ k earlier other l s. unopened k earlier other (before front (key ∷ back) k earlier (omega (arith, l, at)) s);
}

-- what opens is opened
pub opened_not_unopened : (keys : List UpperKey) (f : UpperFields) (upper payload : List ℕ) (place : ℕ) → Opens keys f upper place payload → IsUnopened keys f upper → ⊥
opened_not_unopened keys f upper payload place o u = u place o.key payload o.key_is o.opens

-- one more that doesn't
pub unopened_more : (front : List UpperKey) (key : UpperKey) (f : UpperFields) (upper : List ℕ) → IsUnopened front f upper
    → ((other : List ℕ) → OpensUnder key f upper other → ⊥) → IsUnopened (front ++ key ∷ []) f upper
unopened_more [] key f upper u v = one
  where
    one : IsUnopened (key ∷ []) f upper
    one zero e other s o = v other (rw (some_once key e s) o)
    one (suc k) e other s o = absurd (cc)
unopened_more (x ∷ front) key f upper u v = more (unopened_more front key f upper (λ i y p t. u (suc i) y p t) v)
  where
    more : IsUnopened (front ++ key ∷ []) f upper → IsUnopened (x ∷ front ++ key ∷ []) f upper
    more rest zero e other s o = u zero e other s o
    more rest (suc k) e other s o = rest k e other s o

-- Which of the keys are tried.

fitting_first : (net id : ℕ) (b : BoundSchedule) (xs : List BoundSchedule) → fits net id b ≡ true → fitting_keys net id (b ∷ xs) ≡ b.key ∷ fitting_keys net id xs
fitting_first net id b xs e =
    ap (λ t. map (λ (c : BoundSchedule). c.key) (cond t (b ∷ filter (λ (c : BoundSchedule). fits net id c) xs) (filter (λ (c : BoundSchedule). fits net id c) xs))) e

not_fitting : (net id : ℕ) (b : BoundSchedule) (xs : List BoundSchedule) → fits net id b ≡ false → fitting_keys net id (b ∷ xs) ≡ fitting_keys net id xs
not_fitting net id b xs e =
    ap (λ t. map (λ (c : BoundSchedule). c.key) (cond t (b ∷ filter (λ (c : BoundSchedule). fits net id c) xs) (filter (λ (c : BoundSchedule). fits net id c) xs))) e

-- all of them, around one that is tried
pub fitting_around : (net id : ℕ) (keys : List BoundSchedule) (i : ℕ) (b : BoundSchedule) → i < length keys → b ≡ get_or keys i b → fits net id b ≡ true
    → fitting_keys net id keys ≡ fitting_keys net id (take i keys) ++ b.key ∷ fitting_keys net id (drop (i + 1) keys)
fitting_around net id keys i b l is e =
    let behind : drop i keys ≡ b ∷ drop (i + 1) keys = rw (add-one, drop-cons keys i b l) (ap (λ c. c ∷ drop (suc i) keys) (sym is)) in
    ap (λ ks. fitting_keys net id ks) (sym (take-append-drop i keys))
    ∙ fitting-append net id (take i keys) (drop i keys)
    ∙ ap (λ ks. fitting_keys net id (take i keys) ++ fitting_keys net id ks) behind
    ∙ ap (λ l. fitting_keys net id (take i keys) ++ l) (fitting_first net id b (drop (i + 1) keys) e)

pub one_tried : (net id : ℕ) (keys : List BoundSchedule) (i : ℕ) (b : BoundSchedule) → i < length keys → b ≡ get_or keys i b → fits net id b ≡ true
    → fitting_keys net id (take (i + 1) keys) ≡ fitting_keys net id (take i keys) ++ b.key ∷ []
one_tried net id keys i b l is e =
    ap (λ ks. fitting_keys net id ks) (take_more keys i b l)
    ∙ fitting-append net id (take i keys) (get_or keys i b ∷ [])
    ∙ ap (λ (c : BoundSchedule). fitting_keys net id (take i keys) ++ fitting_keys net id (c ∷ [])) (sym is)
    ∙ ap (λ l. fitting_keys net id (take i keys) ++ l) (fitting_first net id b [] e)

pub one_passed : (net id : ℕ) (keys : List BoundSchedule) (i : ℕ) (b : BoundSchedule) → i < length keys → b ≡ get_or keys i b → fits net id b ≡ false
    → fitting_keys net id (take (i + 1) keys) ≡ fitting_keys net id (take i keys)
one_passed net id keys i b l is e =
    ap (λ ks. fitting_keys net id ks) (take_more keys i b l)
    ∙ fitting-append net id (take i keys) (get_or keys i b ∷ [])
    ∙ ap (λ (c : BoundSchedule). fitting_keys net id (take i keys) ++ fitting_keys net id (c ∷ [])) (sym is)
    ∙ ap (λ l. fitting_keys net id (take i keys) ++ l) (not_fitting net id b [] e)
    ∙ append-nil (fitting_keys net id (take i keys))

pub all_tried : (net id : ℕ) (keys : List BoundSchedule) (i : ℕ) → length keys ≤ i → fitting_keys net id (take i keys) ≡ fitting_keys net id keys
all_tried net id keys i l = ap (λ ks. fitting_keys net id ks) (take_all i keys l)

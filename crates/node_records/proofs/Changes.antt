-- A table changed row by row, and the sizes of tables that are changed or thinned.
use Rattle.std.proofs.Common.{◌≡◌, ℕ, zero, suc, ◌+◌, ◌<◌, ◌≤◌, Bool, List, [], ◌∷◌, ◌++◌, length, get_or, take, drop, map, refl, ap, ◌∙◌, arith, add-one, set, filter}
use Rattle.std.specs.Prelude.{Result, Ok, Err, IsOk, OnOk}
use Rattle.std.proofs.lemmas.Bool.Decides.{nat_tests}
use Rattle.mesh_base.specs.declared.keys.NetKeyRow.{NetKeyRow}
use Rattle.store_definitions.specs.Config.{nets_after}
use Rattle.node_records.specs.Rows.{net_after}

-- a table whose first i rows are changed
abbrev pub changed_to : {A : Type 0} → (A → A) → List A → ℕ → List A
changed_to f xs i = map f (take i xs) ++ drop i xs

changed_next : {A : Type 0} (f : A → A) (xs : List A) (i : ℕ) (d : A) → i < length xs
    → set (changed_to f xs i) i (f (get_or xs i d)) ≡ changed_to f xs (suc i)
changed_next f [] i d lt = absurd (omega arith)
changed_next f (x ∷ xs) zero d lt = refl
changed_next f (x ∷ xs) (suc i) d lt = ap (λ l. f x ∷ l) (changed_next f xs i d (omega arith))

pub changed_read : {A : Type 0} (f : A → A) (xs : List A) (i : ℕ) (d : A) → get_or (changed_to f xs i) i d ≡ get_or xs i d
changed_read f [] zero d = refl
changed_read f [] (suc i) d = refl
changed_read f (x ∷ xs) zero d = refl
changed_read f (x ∷ xs) (suc i) d = changed_read f xs i d

-- the row at i is read where it stood, changed, and put back
pub changed_more : {A : Type 0} (f : A → A) (xs seen ys : List A) (i : ℕ) (d : A) → i < length xs → ys ≡ changed_to f xs i → seen ≡ ys
    → set ys i (f (get_or seen i d)) ≡ changed_to f xs (i + 1)
changed_more f xs seen ys i d lt e s =
    let read : get_or seen i d ≡ get_or xs i d = ap (λ zs. get_or zs i d) (s ∙ e) ∙ changed_read f xs i d in
    rw (e, read, add-one) (changed_next f xs i d lt)

pub changed_size : {A : Type 0} (f : A → A) (xs : List A) (i : ℕ) → length (changed_to f xs i) ≡ length xs
changed_size f [] zero = refl
changed_size f [] (suc i) = refl
changed_size f (x ∷ xs) zero = refl
changed_size f (x ∷ xs) (suc i) = ap (λ n. suc n) (changed_size f xs i)

pub changed_all : {A : Type 0} (f : A → A) (xs : List A) → changed_to f xs (length xs) ≡ map f xs
changed_all f [] = refl
changed_all f (x ∷ xs) = ap (λ l. f x ∷ l) (changed_all f xs)

pub filter_few : {A : Type 0} (p : A → Bool) (xs : List A) → length (filter p xs) ≤ length xs
filter_few p [] = omega arith
filter_few p (x ∷ xs) = let rest = filter_few p xs in grind (arith, nat_tests)

-- the ops that change rows in their places
pub nets_changed : (op index : ℕ) (key : List ℕ) (rows : List NetKeyRow) → 2 ≤ op → op ≤ 4
    → map (net_after op index key) rows ≡ nets_after op index key rows
nets_changed zero index key rows least most = absurd (omega arith)
nets_changed (suc zero) index key rows least most = absurd (omega arith)
nets_changed (suc (suc zero)) index key rows least most = refl
nets_changed (suc (suc (suc zero))) index key rows least most = refl
nets_changed (suc (suc (suc (suc zero)))) index key rows least most = refl
nets_changed (suc (suc (suc (suc (suc op))))) index key rows least most = absurd (omega arith)

-- what holds where a row was taken, of a row that was
pub taken : {T E : Type 0} (r : Result T E) (P : Type 0) → IsOk r → OnOk r P → P
taken (Ok x) P ok h = h
taken (Err e) P ok h = absurd (cc)

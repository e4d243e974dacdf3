-- The last of a list.
use Rattle.std.proofs.Common.{◌≡◌, ℕ, ◌+◌, ◌-◌, ◌≤◌, List, ◌++◌, length, drop, sym, ap, ◌∙◌, arith, length-append, length-drop, drop-drop}
use Rattle.std.proofs.lemmas.List.{drop-append-le}
use Rattle.layer_states.specs.Cache.{last_of}

-- the last n of a list are so many
pub length-last_of : {A : Type 0} (n : ℕ) (xs : List A) → length (last_of n xs) ≤ n
length-last_of n xs = omega (arith, length-drop (length xs - n) xs)

-- the last of what was kept with what comes behind it are the last of all
pub last_more : {A : Type 0} (n : ℕ) (xs ys : List A) → last_of n (last_of n xs ++ ys) ≡ last_of n (xs ++ ys)
last_more n xs ys =
    let k = length xs - n in
    let kept : drop k xs ++ ys ≡ drop k (xs ++ ys) = sym (drop-append-le k xs ys (omega arith)) in
    let many : k + (length (drop k (xs ++ ys)) - n) ≡ length (xs ++ ys) - n =
    omega (arith, length-drop k (xs ++ ys), length-append xs ys) in
    ap (λ l. drop (length l - n) l) kept
    ∙ drop-drop (length (drop k (xs ++ ys)) - n) k (xs ++ ys)
    ∙ ap (λ m. drop m (xs ++ ys)) many

-- Parts of a buffer, and octets put where there is room.
use Rattle.std.proofs.Common.{◌≡◌, ℕ, zero, suc, ◌+◌, ◌-◌, ◌<◌, ◌≤◌, min, List, [], ◌∷◌, ◌++◌, length, get_or, take, drop, sym, ap, ◌∙◌, arith}
use Rattle.std.proofs.lemmas.List.{drop-drop, drop-take, drop_more, take-append-drop, take_min}

-- what is behind the first octets of a range
pub range_behind : (xs : List ℕ) (from to k : ℕ) → from + k ≤ to
    → take (to - (from + k)) (drop (from + k) xs) ≡ drop k (take (to - from) (drop from xs))
range_behind xs from to k h =
    let m : ℕ = to - (from + k) in
    let e : to - from ≡ k + m = omega arith in
    ap (take m) (sym (drop-drop k from xs)) ∙ sym (drop-take k m (drop from xs)) ∙ ap (λ (n : ℕ). drop k (take n (drop from xs))) (sym e)

-- a list by one of its elements
pub parts_at : (xs : List ℕ) (i x : ℕ) → i < length xs → get_or xs i 0 ≡ x → xs ≡ take i xs ++ x ∷ drop (i + 1) xs
parts_at xs i x h is =
    sym (take-append-drop i xs) ∙ ap (λ (ys : List ℕ). take i xs ++ ys) (drop_more xs i 0 h)
    ∙ ap (λ (y : ℕ). take i xs ++ y ∷ drop (i + 1) xs) is

take_behind : (n : ℕ) (xs ys : List ℕ) → length xs ≤ n → take n (xs ++ ys) ≡ xs ++ take (n - length xs) ys
take_behind n [] ys h = ap (λ (m : ℕ). take m ys) (omega arith)
take_behind zero (x ∷ xs) ys h = absurd (omega arith)
take_behind (suc n) (x ∷ xs) ys h =
    ap (λ (zs : List ℕ). x ∷ zs) (take_behind n xs ys (omega arith) ∙ ap (λ (m : ℕ). xs ++ take m ys) (omega arith))

-- as much as there is room for is put behind
pub room_taken : (n count : ℕ) (xs ys : List ℕ) → length xs ≤ n → count ≡ min (length ys) (n - length xs) → xs ++ take count ys ≡ take n (xs ++ ys)
room_taken n count xs ys h is =
    ap (λ (m : ℕ). xs ++ take m ys) (is ∙ omega arith) ∙ ap (λ (zs : List ℕ). xs ++ zs) (take_min (n - length xs) ys) ∙ sym (take_behind n xs ys h)

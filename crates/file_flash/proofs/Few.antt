-- How many writes wait at a place that notes them.
use Rattle.std.proofs.Common.{◌≡◌, ◌∙◌, ℕ, zero, suc, ◌+◌, ◌-◌, ◌≤◌, List, [], ◌∷◌, ◌++◌, length, take, drop, min, Option, Some, None, refl, sym, subst, arith}
use Rattle.std.specs.Prelude.{slice_range}
use Rattle.file_flash.specs.Noted.{AreFew, AreLean, Put, and_put, erase_put, given_for, octets_given}
use Rattle.file_flash.proofs.Tying.{none_some, some_is}

length_more : (puts : List Put) (put : Put) → length (puts ++ put ∷ []) ≡ length puts + 1
length_more [] put = refl
length_more (p ∷ puts) put = omega (arith, length_more puts put)

-- a call of which one write more was noted
pub few_put : (put : Put) (old new : Option (List Put)) (called n m : ℕ) → new ≡ and_put put old → m ≡ min (n + 1) 4294967295
    → AreFew old called n → AreFew new called m
few_put put None new called n m is counted h puts some less = absurd (none_some puts (sym is ∙ some))
few_put put (Some before) new called n m is counted h puts some less =
    let all = some_is (before ++ put ∷ []) puts (sym is ∙ some) in
    let few = h before refl (omega (arith, counted, less)) in
    subst (λ (l : List Put). called + length l ≤ m) all (omega (arith, length_more before put, few, counted, less))

-- a call of which none was
pub few_called : (old new : Option (List Put)) (called n m : ℕ) → new ≡ old → m ≡ min (n + 1) 4294967295 → AreFew old called n → AreFew new called m
few_called old new called n m is counted h puts some less =
    let few = h puts (sym is ∙ some) (omega (arith, counted, less)) in
    omega (arith, few, counted, less)

-- none waits, and what was counted is noted
pub few_none : (waiting : Option (List Put)) (called n : ℕ) → ((puts : List Put) → waiting ≡ Some puts → puts ≡ []) → called ≡ n → AreFew waiting called n
few_none waiting called n none noted puts some less = subst (λ (l : List Put). called + length l ≤ n) (sym (none puts some)) (omega (arith, noted))

given_more : (puts : List Put) (put : Put) → octets_given (puts ++ put ∷ []) ≡ octets_given puts + given_for put
given_more [] put = omega arith
given_more (p ∷ puts) put = omega (arith, given_more puts put)

-- a call that was given as many octets as this write more has, or more
pub lean_put : (put : Put) (old new : Option (List Put)) (programmed n m k : ℕ) → new ≡ and_put put old → given_for put ≤ k → m ≡ min (n + k) 4294967295
    → AreLean old programmed n → AreLean new programmed m
lean_put put None new programmed n m k is fits counted h puts some less = absurd (none_some puts (sym is ∙ some))
lean_put put (Some before) new programmed n m k is fits counted h puts some less =
    let all = some_is (before ++ put ∷ []) puts (sym is ∙ some) in
    let few = h before refl (omega (arith, counted, less)) in
    subst (λ (l : List Put). programmed + octets_given l ≤ m) all (omega (arith, given_more before put, few, fits, counted, less))

-- a call of which none was noted
pub lean_called : (old new : Option (List Put)) (programmed n m k : ℕ) → new ≡ old → m ≡ min (n + k) 4294967295 → AreLean old programmed n → AreLean new programmed m
lean_called old new programmed n m k is counted h puts some less =
    let few = h puts (sym is ∙ some) (omega (arith, counted, less)) in
    omega (arith, few, counted, less)

-- and which was given none
pub lean_same : (old new : Option (List Put)) (programmed n m : ℕ) → new ≡ old → m ≡ n → AreLean old programmed n → AreLean new programmed m
lean_same old new programmed n m is counted h puts some less =
    let few = h puts (sym is ∙ some) (omega (arith, counted, less)) in
    omega (arith, few, counted)

-- an erase, which is given none
pub lean_erase : (sector : ℕ) (old new : Option (List Put)) (programmed n m : ℕ) → new ≡ and_put (erase_put sector) old → m ≡ n
    → AreLean old programmed n → AreLean new programmed m
lean_erase sector None new programmed n m is counted h puts some less = absurd (none_some puts (sym is ∙ some))
lean_erase sector (Some before) new programmed n m is counted h puts some less =
    let put = erase_put sector in
    let none : given_for put ≡ 0 = refl in
    let all = some_is (before ++ put ∷ []) puts (sym is ∙ some) in
    let few = h before refl (omega (arith, counted, less)) in
    subst (λ (l : List Put). programmed + octets_given l ≤ m) all (omega (arith, given_more before put, few, none, counted))

-- none waits, and what was counted is noted
pub lean_none : (waiting : Option (List Put)) (programmed n : ℕ) → ((puts : List Put) → waiting ≡ Some puts → puts ≡ []) → programmed ≡ n → AreLean waiting programmed n
lean_none waiting programmed n none noted puts some less = subst (λ (l : List Put). programmed + octets_given l ≤ n) (sym (none puts some)) (omega (arith, noted))

take_few : (n : ℕ) (xs : List ℕ) → length (take n xs) ≤ n
take_few zero xs = omega arith
take_few (suc n) [] = omega arith
take_few (suc n) (x ∷ xs) = omega (arith, take_few n xs)

-- a range of so many octets has at most so many
pub length_range : (at n : ℕ) (xs : List ℕ) → length (slice_range xs at (at + n)) ≤ n
length_range at n xs =
    let few : length (slice_range xs at (at + n)) ≤ at + n - at = take_few (at + n - at) (drop at xs) in
    omega (arith, few)

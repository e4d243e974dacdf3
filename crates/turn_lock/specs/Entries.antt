-- Lists of entries, and entries with the places at which they stand in such a list. Places are counted from 0.
use Rattle.std.specs.Prelude.{◌≡◌, ℕ, ◌+◌, ◌≤◌, Bool, if◌then◌else◌, nat_lt, ◌==◌, List, [], ◌∷◌, ◌++◌, map, length, drop, Some, slice_get, ⊤, ◌⊎◌}
use Rattle.std.specs.List.{All, Contains, count_by, enumerate_from, filter}

module _ {E : Type 0} where
  -- the list begins with these entries
  pub record IsPrefix (front list : List E) : Type 0 where
    pub rest : List E
    pub is : list ≡ front ++ rest

  -- the longer of two lists, which begins with the other
  pub record IsLongerOf (xs ys longer : List E) : Type 0 where
    pub first : IsPrefix xs longer
    pub second : IsPrefix ys longer
    pub either : (longer ≡ xs) ⊎ (longer ≡ ys)

  -- The entries stand in the list, each at its place; each place is above the one before, and none is below `from`.
  -- So each of them stands there once, and in this order.
  abbrev pub StandFrom : ℕ → List E → List (ℕ × E) → Type 0
  StandFrom from list [] = ⊤
  StandFrom from list (x ∷ xs) = (from ≤ x.0) × (slice_get list x.0 ≡ Some x.1) × StandFrom (x.0 + 1) list xs

  -- the entries of a list behind those that were seen of it, with their places
  abbrev pub added : List E → List E → List (ℕ × E)
  added seen list = enumerate_from (length seen) (drop (length seen) list)

  abbrev pub entries_of : List (ℕ × E) → List E
  entries_of own = map (λ x. x.1) own

  -- each entry of the one list is an entry of the other, at the same place
  pub record Holds (own all : List (ℕ × E)) : Type 0 where
    pub has : (x : ℕ × E) → Contains own x → Contains all x

  -- how many of the entries have this place
  abbrev pub times_at : ℕ → List (ℕ × E) → ℕ
  times_at place own = count_by (λ x. x.0 == place) own

  -- one entry more, before the first that has a higher place
  abbrev pub put_in : ℕ × E → List (ℕ × E) → List (ℕ × E)
  put_in x [] = x ∷ []
  put_in x (y ∷ ys) = if nat_lt x.0 y.0 then x ∷ y ∷ ys else y ∷ put_in x ys

  -- the entries of both, in the order of their places
  abbrev pub merge : List (ℕ × E) → List (ℕ × E) → List (ℕ × E)
  merge [] ys = ys
  merge (x ∷ xs) ys = put_in x (merge xs ys)

-- the entries of any number of lists, in the order of their places
abbrev pub merged : {E : Type 0} → List (ℕ × E) → List (List (ℕ × E)) → List (ℕ × E)
merged xs [] = xs
merged xs (ys ∷ rest) = merged (merge xs ys) rest

-- Of these lists a test keeps something in one at most, and in that one it keeps `ys`. A test that tells which thread wrote an
-- entry keeps something of the own entries of one pass alone.
abbrev pub KeptOf : {A : Type 0} → (A → Bool) → List (List A) → List A → Type 0
KeptOf keep [] ys = ys ≡ []
KeptOf keep (x ∷ xs) ys =
    ((filter keep x ≡ ys) × All (λ z. filter keep z ≡ []) xs) ⊎ ((filter keep x ≡ []) × KeptOf keep xs ys)

-- 1 where the number is below the bound, else 0
abbrev pub one_below : ℕ → ℕ → ℕ
one_below n bound = if nat_lt n bound then 1 else 0

-- What a source gives, what a sink holds, and counts of faults.
use Rattle.std.specs.Prelude.{◌≡◌, ℕ, ◌+◌, ◌-◌, ◌^◌, ◌≤◌, min, List, ◌++◌, ⊤, Option, Some, None}

-- one more, in a count that is kept in a u64: it stays at 2 ^ 64 - 1 once it is there
abbrev pub one_more : ℕ → ℕ
one_more n = min (n + 1) (2 ^ 64 - 1)

-- The count rose. At 2 ^ 64 - 1, where it can't grow any more, it counts as risen.
abbrev pub Rose : ℕ → ℕ → Type 0
Rose before now = one_more before ≤ now

-- What is told grows by bs: the octets that a sink holds, or the pieces that it was offered. A sink may stop telling, and then never
-- tells again: so where it tells in the end, it told all along.
abbrev pub Grows : {X : Type 0} → Option (List X) → Option (List X) → List X → Type 0
Grows told None bs = ⊤
Grows None (Some ys) bs = ⊥
Grows (Some xs) (Some ys) bs = ys ≡ xs ++ bs

-- Laws of what a sink tells and of counts of faults, for loops that write or read in turns.
use Rattle.std.proofs.Common.{ℕ, ◌≤◌, ◌++◌, List, [], Option, Some, None, sym, ◌∙◌, ap, append_assoc, append-nil, arith}
use Rattle.mesh_base.specs.Outside.{Grows, Rose}

-- what is told in two turns is told in one
pub Grows-append : {X : Type 0} (a b c : Option (List X)) (xs ys : List X) → Grows a b xs → Grows b c ys → Grows a c (xs ++ ys)
Grows-append a b None xs ys first second = tt
Grows-append a None (Some zs) xs ys first second = absurd second
Grows-append None (Some bs) (Some zs) xs ys first second = absurd first
Grows-append (Some held) (Some bs) (Some zs) xs ys first second = second ∙ ap (λ t. t ++ ys) first ∙ append_assoc held xs ys

-- where nothing is added, nothing changes
pub Grows-nil : {X : Type 0} (a : Option (List X)) → Grows a a []
Grows-nil None = tt
Grows-nil (Some xs) = sym (append-nil xs)

-- a count that rose has risen whatever it did before
pub Rose-before : (a b c : ℕ) → a ≤ b → Rose b c → Rose a c
Rose-before a b c first second = omega arith

-- a count that rose has risen whatever it does after
pub Rose-after : (a b c : ℕ) → Rose a b → b ≤ c → Rose a c
Rose-after a b c first second = omega arith

-- Lists by places: a function of the place and the item.
use Rattle.std.specs.Prelude.{ℕ, ◌+◌, List, [], ◌∷◌, ◌++◌}

-- the list from a place on, item by item
abbrev pub map_from : {X Y : Type 0} → (ℕ → X → Y) → ℕ → List X → List Y
map_from f place [] = []
map_from f place (x ∷ xs) = f place x ∷ map_from f (place + 1) xs

-- and of lists, one behind the other
abbrev pub flat_from : {X Y : Type 0} → (ℕ → X → List Y) → ℕ → List X → List Y
flat_from f place [] = []
flat_from f place (x ∷ xs) = f place x ++ flat_from f (place + 1) xs

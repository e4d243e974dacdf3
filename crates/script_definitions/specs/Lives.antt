-- Lists of lives, each a list of lines.
use Rattle.std.specs.Prelude.{◌-◌, List, [], ◌∷◌, ◌++◌, length, slice_index_or, slice_set}

-- the lines of the life that began last; none before the first one
abbrev pub last_life : {A : Type 0} → List (List A) → List A
last_life lives = slice_index_or lives (length lives - 1) []

-- a line more in the life that began last
abbrev pub in_last_life : {A : Type 0} → List (List A) → A → List (List A)
in_last_life lives line = slice_set lives (length lives - 1) (last_life lives ++ line ∷ [])

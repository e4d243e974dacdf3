-- Texts that stand one behind another in one text.
use Rattle.std.specs.Prelude.{◌≡◌, ℕ, ◌≤◌, List, [], ◌∷◌, length, take, drop}

-- pieces of a text that have these lengths
unfoldable pub pieces : List ℕ → List ℕ → List (List ℕ)
pieces [] text = []
pieces (n ∷ ns) text = take n text ∷ pieces ns (drop n text)

-- and nothing of it is left
unfoldable pub IsCut : List ℕ → List ℕ → Type 0
IsCut [] text = text ≡ []
IsCut (n ∷ ns) text = (n ≤ length text) × IsCut ns (drop n text)

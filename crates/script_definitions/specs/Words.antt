-- A text cut into lines, and a line into words.
use Rattle.std.specs.Prelude.{ℕ, ◌-◌, ◌==◌, ◌&&◌, not, if◌then◌else◌, Bool, List, [], ◌∷◌, ◌++◌, length, take, filter, slice_index, slice_index_or}
use Rattle.std.specs.List.{slice_split}

-- the pieces of a text that the octets c part: one more than there are such octets, any of them may be empty
abbrev pub pieces : ℕ → List ℕ → List (List ℕ)
pieces c text = slice_split (λ b. b == c) text

-- whether a text begins, and whether it ends, with an octet c that isn't 0
abbrev pub begins_with : ℕ → List ℕ → Bool
begins_with c text = slice_index text 0 == c

abbrev pub ends_with : ℕ → List ℕ → Bool
ends_with c text = slice_index text (length text - 1) == c

-- what stands before an LF, without a CR (0d) directly before it
abbrev pub without_cr : List ℕ → List ℕ
without_cr piece = if ends_with 13 piece then take (length piece - 1) piece else piece

-- each piece but the last one stands before an LF
unfoldable pub before_lf : List (List ℕ) → List (List ℕ)
before_lf [] = []
before_lf (last ∷ []) = last ∷ []
before_lf (piece ∷ next ∷ more) = without_cr piece ∷ before_lf (next ∷ more)

-- The lines of a text: each LF (0a) ends one, and what stands behind the last LF is one more, which may be empty. So a text has one line
-- more than it has LFs.
abbrev pub lines_of : List ℕ → List (List ℕ)
lines_of text = before_lf (pieces 10 text)

-- the pieces of a line that its spaces (20) part, but the empty ones
abbrev pub whole_words : List ℕ → List (List ℕ)
whole_words line = filter (λ w. not (length w == 0)) (pieces 32 line)

-- The words of a line: one or more spaces part two words; spaces before the first word or behind the last one make an empty word there,
-- and a line of spaces alone is one empty word.
unfoldable pub words_of : List ℕ → List (List ℕ)
words_of line =
    (if begins_with 32 line then [] ∷ [] else [])
    ++ whole_words line
    ++ (if ends_with 32 line && not (length (whole_words line) == 0) then [] ∷ [] else [])

-- the word at a place, counted from 0; the empty one past the end
abbrev pub word_at : List (List ℕ) → ℕ → List ℕ
word_at ws i = slice_index_or ws i []

-- What is told of a line that is wrong, by its number and rule, and of octets behind the last LF.
use Rattle.std.specs.Prelude.{ℕ, ◌==◌, ◌&&◌, not, nat_le, List, [], ◌∷◌, ◌++◌, take, filter, codes}
use Rattle.std.specs.Fmt.{decimal}
use Rattle.std.specs.List.{take_while}

-- the first word of a line, up to 40 octets, of which those are shown that are printable
abbrev pub shown : List ℕ → List ℕ
shown line = filter (λ b. nat_le 32 b && nat_le b 126) (take_while (λ b. not (b == 32)) (take 40 line))

-- `line N: rule R: WORD`
unfoldable pub wrong_text : ℕ → ℕ → List ℕ → List ℕ
wrong_text number rule line =
    codes "line " ++ decimal number ++ codes ": rule " ++ decimal rule ++ codes ": " ++ shown line ++ 10 ∷ []

-- `line N: not ended`
unfoldable pub unended_text : ℕ → List ℕ
unended_text number = codes "line " ++ decimal number ++ codes ": not ended" ++ 10 ∷ []

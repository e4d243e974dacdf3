-- What a sink tells after lines of a report were written to it.
use Rattle.std.specs.Prelude.{◌≡◌, ℕ, ◌<◌, ◌≤◌, List, [], ◌∷◌, ◌++◌, length, drop, Option}
use Rattle.std.specs.List.{flat_map}
use Rattle.mesh_base.specs.Outside.{Grows}
use Rattle.mesh_types.specs.declared.report.ReportLine.{ReportLine}
use Rattle.report_definitions.specs.Report.{line_text}

-- the octets that it took, and the pieces that it was offered, where it tells them
pub record SinkView : Type 0 where
  pub held : Option (List ℕ)
  pub pieces : Option (List (List ℕ))

abbrev pub view_of : {K : Type 0} → (K → Option (List ℕ)) → (K → Option (List (List ℕ))) → K → SinkView
view_of held pieces sink = record { held = held sink; pieces = pieces sink }

-- These pieces hand a text to a sink: the whole text first, and then, as long as something is left, the piece of before without the octets at
-- its front that the sink took, at least one.
abbrev pub HandsOver : List ℕ → List (List ℕ) → Type 0
HandsOver text [] = text ≡ []
HandsOver text (piece ∷ more) = (piece ≡ text) × ((n : ℕ) × (0 < n) × (n ≤ length text) × HandsOver (drop n text) more)

-- these pieces hand the texts of lines over, one line after another
abbrev pub HandsLines : List ReportLine → List (List ℕ) → Type 0
HandsLines [] pieces = pieces ≡ []
HandsLines (line ∷ lines) pieces =
    (first : List (List ℕ))
    × ((rest : List (List ℕ)) × (pieces ≡ first ++ rest) × HandsOver (line_text line) first × HandsLines lines rest)

-- of a text a front was written, and this rest wasn't
abbrev pub WritesUpTo : Option (List ℕ) → Option (List ℕ) → List ℕ → List ℕ → Type 0
WritesUpTo old new text rest = (front : List ℕ) × (text ≡ front ++ rest) × Grows old new front

-- what was written is a front of a text
abbrev pub WritesFront : Option (List ℕ) → Option (List ℕ) → List ℕ → Type 0
WritesFront old new text = (rest : List ℕ) × WritesUpTo old new text rest

-- Lines were written: the sink holds their text, and each was handed over as one piece, with what the sink left of it before the next.
pub record Written (lines : List ReportLine) (old new : SinkView) : Type 0 where
  pub text : Grows old.held new.held (flat_map line_text lines)
  pub pieces : List (List ℕ)
  pub offered : Grows old.pieces new.pieces pieces
  pub handed : HandsLines lines pieces

-- A front of the text of lines was written, by a front of the pieces that hand them over.
pub record WrittenFront (lines : List ReportLine) (old new : SinkView) : Type 0 where
  pub front : WritesFront old.held new.held (flat_map line_text lines)
  pub pieces : List (List ℕ)
  pub offered : Grows old.pieces new.pieces pieces
  pub rest : List (List ℕ)
  pub handed : HandsLines lines (pieces ++ rest)

-- of lines the first were written, and these weren't
abbrev pub WrittenUpTo : List ReportLine → List ReportLine → SinkView → SinkView → Type 0
WrittenUpTo lines left old new = (front : List ReportLine) × (lines ≡ front ++ left) × Written front old new

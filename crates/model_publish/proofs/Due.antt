-- The rows that are due, one row more.
use Rattle.std.proofs.Common.{◌≡◌, ℕ, ◌+◌, ◌<◌, ◌≤◌, Bool, List, [], ◌∷◌, ◌++◌, length, take, get_or, map, filter, ap, sym, ◌∙◌, arith}
use Rattle.std.proofs.lemmas.List.{map-append, length-map, length-take}
use Rattle.std.proofs.lemmas.List.Elements.{filter_more}
use Rattle.record_types.specs.declared.records.PublishRow.{PublishRow}
use Rattle.model_states.specs.declared.publication.Publication.{Publication}

-- the rows of those that pass a test
abbrev pub passed : (Publication → Bool) → List Publication → List PublishRow
passed test rows = map (λ p. p.row) (filter test rows)

pub due_more : (test : Publication → Bool) (rows : List Publication) (i : ℕ) (d : Publication) → i < length rows
    → passed test (take (i + 1) rows) ≡ passed test (take i rows) ++ passed test (get_or rows i d ∷ [])
due_more test rows i d h =
    ap (map (λ (p : Publication). p.row)) (filter_more test rows i d h)
    ∙ map-append (λ (p : Publication). p.row) (filter test (take i rows)) (filter test (get_or rows i d ∷ []))

-- no more pass than there are
fewer : (test : Publication → Bool) (rows : List Publication) → length (filter test rows) ≤ length rows
fewer test [] = omega arith
fewer test (r ∷ rows) = let rest = fewer test rows in grind arith

pub few_due : (test : Publication → Bool) (rows : List Publication) (i : ℕ) → length (passed test (take i rows)) ≤ i
few_due test rows i =
    omega (arith, length-map (filter test (take i rows)) (λ (p : Publication). p.row), fewer test (take i rows), length-take i rows)

pub next_due : (test : Publication → Bool) (rows : List Publication) (i : ℕ) (d : Publication) {list new : List PublishRow}
    → list ≡ passed test (take i rows) → new ≡ list ++ passed test (get_or rows i d ∷ []) → i < length rows → new ≡ passed test (take (i + 1) rows)
next_due test rows i d e more h = more ∙ ap (λ l. l ++ passed test (get_or rows i d ∷ [])) e ∙ sym (due_more test rows i d h)

-- The application keys of one network key, one row more.
use Rattle.std.proofs.Common.{◌≡◌, ℕ, ◌+◌, ◌<◌, ◌≤◌, Bool, List, [], ◌∷◌, ◌++◌, length, take, get_or, map, filter, refl, ap, sym, ◌∙◌, arith}
use Rattle.std.proofs.lemmas.List.{map-append, length-map, length-take}
use Rattle.std.proofs.lemmas.List.Elements.{filter_more}
use Rattle.mesh_base.specs.declared.keys.AppKeyRow.{AppKeyRow}

abbrev pub passed : (AppKeyRow → Bool) → List AppKeyRow → List ℕ
passed test rows = map (λ r. r.index) (filter test rows)

due_more : (test : AppKeyRow → Bool) (rows : List AppKeyRow) (i : ℕ) (d : AppKeyRow) → i < length rows
    → passed test (take (i + 1) rows) ≡ passed test (take i rows) ++ passed test (get_or rows i d ∷ [])
due_more test rows i d h =
    ap (map (λ (r : AppKeyRow). r.index)) (filter_more test rows i d h)
    ∙ map-append (λ (r : AppKeyRow). r.index) (filter test (take i rows)) (filter test (get_or rows i d ∷ []))

fewer : (test : AppKeyRow → Bool) (rows : List AppKeyRow) → length (filter test rows) ≤ length rows
fewer test [] = omega arith
fewer test (r ∷ rows) = let rest = fewer test rows in grind arith

pub few_passed : (test : AppKeyRow → Bool) (rows : List AppKeyRow) (i : ℕ) → length (passed test (take i rows)) ≤ i
few_passed test rows i =
    omega (arith, length-map (filter test (take i rows)) (λ (r : AppKeyRow). r.index), fewer test (take i rows), length-take i rows)

pub next_passed : (test : AppKeyRow → Bool) (rows : List AppKeyRow) (i : ℕ) (d : AppKeyRow) {list new : List ℕ}
    → list ≡ passed test (take i rows) → new ≡ list ++ passed test (get_or rows i d ∷ []) → i < length rows → new ≡ passed test (take (i + 1) rows)
next_passed test rows i d e more h = more ∙ ap (λ l. l ++ passed test (get_or rows i d ∷ [])) e ∙ sym (due_more test rows i d h)

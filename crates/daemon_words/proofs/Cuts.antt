-- The words of a text, piece by piece.
use Rattle.std.proofs.Common.{◌≡◌, ℕ, ◌+◌, ◌<◌, Bool, ◌==◌, List, [], ◌∷◌, ◌++◌, length, get_or, take, sym, ap, ◌∙◌, not, map, filter, if◌then◌else◌, Bor}
use Rattle.std.proofs.lemmas.List.{take_more, take-map, map-append}
use Rattle.std.proofs.lemmas.List.Elements.{filter-append}

-- one more piece: a word, unless it is empty
pub word_more : (items : List (Bor (List ℕ))) (i : ℕ) (d : Bor (List ℕ)) (old : List (List ℕ)) → i < length items
    → old ≡ filter (λ w. not (length w == 0)) (take i (map (λ p. p.now) items))
    → old ++ (if not (length (get_or items i d).now == 0) then (get_or items i d).now ∷ [] else [])
    ≡ filter (λ w. not (length w == 0)) (take (i + 1) (map (λ p. p.now) items))
word_more items i d old lt f =
    let p : List ℕ → Bool = λ w. not (length w == 0) in
    let now : Bor (List ℕ) → List ℕ = λ b. b.now in
    let piece : Bor (List ℕ) = get_or items i d in
    let more : take (i + 1) (map now items) ≡ take i (map now items) ++ piece.now ∷ [] =
    take-map now (i + 1) items ∙ ap (map now) (take_more items i d lt)
    ∙ map-append now (take i items) (piece ∷ []) ∙ ap (λ ws. ws ++ piece.now ∷ []) (sym (take-map now i items)) in
    ap (λ ws. ws ++ (if p piece.now then piece.now ∷ [] else [])) f ∙ sym (ap (filter p) more ∙ filter-append p (take i (map now items)) (piece.now ∷ []))

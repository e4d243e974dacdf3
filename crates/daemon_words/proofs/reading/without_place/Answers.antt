use Rattle.std.proofs.Common.{◌≡◌, ℕ, ◌+◌, List, ◌++◌, map, take, drop, ap, ap₂, sym, ◌∙◌, Bor}
use Rattle.std.proofs.lemmas.List.{drop-map, map-append, take-map}
use Rattle.daemon_words.proofs.reading.without_place.Goals as goal

pub returns : goal.returns
returns c =
    let now : Bor (List ℕ) → List ℕ = λ b. b.now in
    let words = c.args.words.now in
    let place = c.args.place in
    let first = c.in_ok-extend_from_slice.ensures.items ∙ ap (λ (ws : List (Bor (List ℕ))). ws ++ c.split_at.result.0.now) c.new-rest.ensures.items in
    let all = c.in_ok-extend_from_slice-2.ensures.items ∙ ap (λ (ws : List (Bor (List ℕ))). ws ++ c.split_at-2.result.1.now) first in
    record {
      value =
          ap (map now) (all ∙ ap₂ ◌++◌ c.split_at.ensures.front c.split_at-2.ensures.back)
          ∙ map-append now (take place words) (drop (place + 1) words)
          ∙ ap₂ ◌++◌ (sym (take-map now place words)) (sym (drop-map now (place + 1) words));
    }

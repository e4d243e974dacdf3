-- The place of `--clock`, word by word.
use Rattle.std.proofs.Common.{◌≡◌, ℕ, ◌+◌, ◌<◌, Bool, true, false, List, ◌∷◌, length, get_or, drop, map, codes, if◌then◌else◌, sym, ap, ◌∙◌, arith, Bor}
use Rattle.std.proofs.lemmas.List.{drop-map, drop_more}
use Rattle.std.specs.Str.{bytes_eq}
use Rattle.daemon_words.specs.Commands.{clock_place}

abbrev now : Bor (List ℕ) → List ℕ
now b = b.now

module _ (words : List (Bor (List ℕ))) (i : ℕ) (d : Bor (List ℕ)) (within : i < length words) where
  cut : drop i (map now words) ≡ (get_or words i d).now ∷ drop (i + 1) (map now words)
  cut =
      drop-map now i words ∙ ap (map now) (drop_more words i d within)
      ∙ ap (λ (ws : List (List ℕ)). (get_or words i d).now ∷ ws) (sym (drop-map now (i + 1) words))

  place : clock_place (drop i (map now words))
      ≡ (if bytes_eq (get_or words i d).now (codes "--clock") then 0 else clock_place (drop (i + 1) (map now words)) + 1)
  place = ap clock_place cut

  abbrev So : ℕ → Type 0
  So n = n + clock_place (drop n (map now words)) ≡ clock_place (map now words)

  pub here : bytes_eq (get_or words i d).now (codes "--clock") ≡ true → So i → i ≡ clock_place (map now words)
  here e so =
      let none : clock_place (drop i (map now words)) ≡ 0 =
      place ∙ ap (λ (b : Bool). if b then 0 else clock_place (drop (i + 1) (map now words)) + 1) e in
      omega (arith, none, so)

  pub behind : bytes_eq (get_or words i d).now (codes "--clock") ≡ false → So i → So (i + 1)
  behind e so =
      let more : clock_place (drop i (map now words)) ≡ clock_place (drop (i + 1) (map now words)) + 1 =
      place ∙ ap (λ (b : Bool). if b then 0 else clock_place (drop (i + 1) (map now words)) + 1) e in
      omega (arith, more, so)

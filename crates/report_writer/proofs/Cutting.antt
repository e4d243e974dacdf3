-- Texts that stand one behind another in one text.
use Rattle.std.proofs.Common.{◌≡◌, ℕ, zero, suc, ◌+◌, ◌-◌, ◌≤◌, ◌<◌, List, [], ◌∷◌, ◌++◌, length, get_or, take, drop, Result, Ok, Err, OnOk, OnErr, refl, ap, ◌∙◌, length-append, arith}
use Rattle.std.proofs.lemmas.List.{drop_more, take_all, drop_all}
use Rattle.report_writer.specs.Texts.{IsCut, pieces}

take_front : (n : ℕ) (xs ys : List ℕ) → n ≤ length xs → take n (xs ++ ys) ≡ take n xs
take_front zero xs ys h = refl
take_front (suc n) [] ys h = absurd (omega arith)
take_front (suc n) (x ∷ xs) ys h = ap (λ (v : List ℕ). x ∷ v) (take_front n xs ys (omega arith))

drop_front : (n : ℕ) (xs ys : List ℕ) → n ≤ length xs → drop n (xs ++ ys) ≡ drop n xs ++ ys
drop_front zero xs ys h = refl
drop_front (suc n) [] ys h = absurd (omega arith)
drop_front (suc n) (x ∷ xs) ys h = drop_front n xs ys (omega arith)

-- a text more behind the others
cut_behind : (ns text more : List ℕ) → IsCut ns text → IsCut (ns ++ length more ∷ []) (text ++ more)
unfolding IsCut
cut_behind [] text more h =
    rw h (let e : length more ≤ length more = omega arith in e, drop_all (length more) more (omega arith))
cut_behind (n ∷ ns) text more (h, k) = (
  rw (length-append text more) (omega arith),
  rw (drop_front n text more h) (cut_behind ns (drop n text) more k),
)

pieces_behind : (ns text more : List ℕ) → IsCut ns text → pieces (ns ++ length more ∷ []) (text ++ more) ≡ pieces ns text ++ more ∷ []
unfolding IsCut pieces
pieces_behind [] text more h = rw h (ap (λ (v : List ℕ). v ∷ []) (take_all (length more) more (omega arith)))
pieces_behind (n ∷ ns) text more (h, k) =
    rw (take_front n text more h, drop_front n text more h) (ap (λ (v : List (List ℕ)). take n text ∷ v) (pieces_behind ns (drop n text) more k))

-- what a text that was put behind `from` octets has
module _ (ns text more new : List ℕ) (from : ℕ) (h : IsCut ns text) (at : from ≡ length text) (is : new ≡ text ++ more) where
  more_length : length new - from ≡ length more
  more_length = let e : length new ≡ length text + length more = ap length is ∙ length-append text more in omega (arith, e, at)

  pub more_cut : IsCut (ns ++ (length new - from) ∷ []) new
  more_cut = rw (more_length, is) (cut_behind ns text more h)

  pub more_pieces : pieces (ns ++ (length new - from) ∷ []) new ≡ pieces ns text ++ more ∷ []
  more_pieces = rw (more_length, is) (pieces_behind ns text more h)

-- A text is ended: it was made whole, or no text is left.

pub closed_cut : {U E : Type 0} (u : U) (r made : Result U E) (ns lens old mid new line : List ℕ) (from : ℕ) → IsCut ns old → from ≡ length old
    → OnOk made (mid ≡ old ++ line) → OnOk r (made ≡ Ok u) → OnOk r (new ≡ mid) → OnOk r (lens ≡ ns ++ (length mid - from) ∷ [])
    → OnErr r ((new ≡ []) × (lens ≡ [])) → IsCut lens new
unfolding IsCut
closed_cut u (Ok v) made ns lens old mid new line from cut at ok whole text long none =
    let is : mid ≡ old ++ line = rw whole at ok in
    rw (long, text) (more_cut ns old line mid from cut at is)
closed_cut u (Err e) made ns lens old mid new line from cut at ok whole text long none = rw (none.1, none.0) refl

pub closed_pieces : {U E : Type 0} (u : U) (r made : Result U E) (ns lens old mid new line : List ℕ) (from : ℕ) → IsCut ns old → from ≡ length old
    → OnOk made (mid ≡ old ++ line) → OnOk r (made ≡ Ok u) → OnOk r (new ≡ mid) → OnOk r (lens ≡ ns ++ (length mid - from) ∷ [])
    → OnOk r (pieces lens new ≡ pieces ns old ++ line ∷ [])
closed_pieces u (Ok v) made ns lens old mid new line from cut at ok whole text long =
    let is : mid ≡ old ++ line = rw whole at ok in
    rw (long, text) (more_pieces ns old line mid from cut at is)
closed_pieces u (Err e) made ns lens old mid new line from cut at ok whole text long = tt

pub closed_none : {U E : Type 0} (r : Result U E) (lens new : List ℕ) → OnErr r ((new ≡ []) × (lens ≡ [])) → OnErr r (pieces lens new ≡ [])
unfolding pieces
closed_none (Ok v) lens new none = tt
closed_none (Err e) lens new none = rw none.1 refl

-- the piece at place i, and those behind it
module _ (ns text : List ℕ) (i : ℕ) (h : i < length ns) where
  next_cut : IsCut (drop i ns) text → (get_or ns i 0 ≤ length text) × IsCut (drop (i + 1) ns) (drop (get_or ns i 0) text)
  unfolding IsCut
  next_cut cut = rw (drop_more ns i 0 h) at cut

  pub next_fits : IsCut (drop i ns) text → get_or ns i 0 ≤ length text
  next_fits cut = (next_cut cut).0

  pub cut_left : IsCut (drop i ns) text → IsCut (drop (i + 1) ns) (drop (get_or ns i 0) text)
  cut_left cut = (next_cut cut).1

  pub next_pieces : pieces (drop i ns) text ≡ take (get_or ns i 0) text ∷ pieces (drop (i + 1) ns) (drop (get_or ns i 0) text)
  unfolding pieces
  next_pieces = rw (drop_more ns i 0 h) refl

-- none is left
pub no_pieces : (ns text : List ℕ) (i : ℕ) → length ns ≤ i → pieces (drop i ns) text ≡ []
unfolding pieces
no_pieces ns text i h = rw (drop_all i ns h) refl

-- A text cut at its first LF.
use Rattle.std.proofs.Common.{◌≡◌, ℕ, zero, suc, ◌+◌, ◌<◌, ◌≤◌, arith, Bool, true, false, ◌==◌, List, [], ◌∷◌, ◌++◌, length, get_or, take, drop, All, refl, sym, ap, subst, ◌∙◌, inl, inr, take-append-drop, append_assoc, append-nil, not, filter, if◌then◌else◌}
use Rattle.std.specs.List.{slice_split, onto_first}
use Rattle.std.proofs.lemmas.Bool.{cases_Bool, cond-true, cond-false}
use Rattle.std.proofs.lemmas.List.{drop_more, take_more}
use Rattle.std.proofs.lemmas.List.Elements.{All-head, All-tail, All-push, filter-append}
use Rattle.memchr.specs.Find.{Nowhere, Passes, is_byte}
use Rattle.script_definitions.specs.Words.{pieces, without_cr, before_lf, lines_of}

module _ {X : Type 0} (p : X → Bool) where
  split-yes : (x : X) (xs : List X) → p x ≡ true → slice_split p (x ∷ xs) ≡ [] ∷ slice_split p xs
  split-yes x xs e = cond-true (p x) _ _ e

  split-no : (x : X) (xs : List X) → p x ≡ false → slice_split p (x ∷ xs) ≡ onto_first x (slice_split p xs)
  split-no x xs e = cond-false (p x) _ _ e

  -- nothing parts the list
  pub split_none : (xs : List X) → All (λ x. p x ≡ false) xs → slice_split p xs ≡ xs ∷ []
  split_none [] h = refl
  split_none (x ∷ xs) h = split-no x xs (All-head (λ y. p y ≡ false) x xs h) ∙ ap (onto_first x) (split_none xs (All-tail (λ y. p y ≡ false) x xs h))

  split_at : (xs : List X) (y : X) (ys : List X) → All (λ x. p x ≡ false) xs → p y ≡ true → slice_split p (xs ++ y ∷ ys) ≡ xs ∷ slice_split p ys
  split_at [] y ys h e = split-yes y ys e
  split_at (x ∷ xs) y ys h e =
      split-no x (xs ++ y ∷ ys) (All-head (λ z. p z ≡ false) x xs h) ∙ ap (onto_first x) (split_at xs y ys (All-tail (λ z. p z ≡ false) x xs h) e)

  -- there is a first piece
  pub split_cons : (xs : List X) → (first : List X) × (rest : List (List X)) × (slice_split p xs ≡ first ∷ rest)
  split_cons [] = ([], [], refl)
  split_cons (x ∷ xs) =
      let more = split_cons xs in
      elim (cases_Bool (p x)) [
        | inl e ↦ ([], slice_split p xs, split-yes x xs e)
        | inr e ↦ (x ∷ more.0, more.1, split-no x xs e ∙ ap (onto_first x) more.2)
      ]

-- the first piece ends where an octet parts
pub split_read : (p : ℕ → Bool) (xs : List ℕ) (i : ℕ) → i < length xs → p (get_or xs i 0) ≡ true → All (λ x. p x ≡ false) (take i xs)
    → slice_split p xs ≡ take i xs ∷ slice_split p (drop (i + 1) xs)
split_read p xs i lt e h =
    let parts : xs ≡ take i xs ++ get_or xs i 0 ∷ drop (i + 1) xs = sym (take-append-drop i xs) ∙ ap (λ zs. take i xs ++ zs) (drop_more xs i 0 lt) in
    ap (slice_split p) parts ∙ split_at p (take i xs) (get_or xs i 0) (drop (i + 1) xs) h e

-- one more octet that doesn't part
pub no_more : (p : ℕ → Bool) (xs : List ℕ) (i : ℕ) → i < length xs → p (get_or xs i 0) ≡ false → All (λ x. p x ≡ false) (take i xs)
    → All (λ x. p x ≡ false) (take (i + 1) xs)
no_more p xs i lt e h = rw (take_more xs i 0 lt) (All-push (λ x. p x ≡ false) (take i xs) (get_or xs i 0) h e)

-- one more piece: a word, unless it is empty
pub word_more : (old new : List (List ℕ)) (piece : List ℕ) (more pieces all : List (List ℕ)) → pieces ≡ piece ∷ more
    → new ≡ old ++ (if not (length piece == 0) then piece ∷ [] else [])
    → old ++ filter (λ w. not (length w == 0)) pieces ≡ all → new ++ filter (λ w. not (length w == 0)) more ≡ all
word_more old new piece more pieces all e f h =
    let p : List ℕ → Bool = λ w. not (length w == 0) in
    rw (f, append_assoc) (ap (λ (v : List (List ℕ)). old ++ v) (sym (filter-append p (piece ∷ []) more) ∙ ap (filter p) (sym e)) ∙ h)

-- no piece is left
pub words_end : (old all : List (List ℕ)) → old ++ [] ≡ all → old ≡ all
words_end old all h = sym (append-nil old) ∙ h

-- a piece before another one
before_more : (piece : List ℕ) (ps : List (List ℕ)) (first : List ℕ) (rest : List (List ℕ)) → ps ≡ first ∷ rest
    → before_lf (piece ∷ ps) ≡ without_cr piece ∷ before_lf ps
unfolding before_lf
before_more piece ps first rest e = rw e refl

-- the first line ends at the first LF
pub line_read : (text : List ℕ) (i : ℕ) → i < length text → (get_or text i 0 == 10) ≡ true → All (λ b. (b == 10) ≡ false) (take i text)
    → lines_of text ≡ without_cr (take i text) ∷ lines_of (drop (i + 1) text)
line_read text i lt e h =
    let more = split_cons (λ b. b == 10) (drop (i + 1) text) in
    ap before_lf (split_read (λ b. b == 10) text i lt e h) ∙ before_more (take i text) (pieces 10 (drop (i + 1) text)) more.0 more.1 more.2

-- a text without an LF is one line
pub line_last : (text : List ℕ) → All (λ b. (b == 10) ≡ false) text → lines_of text ≡ text ∷ []
unfolding before_lf
line_last text h = ap before_lf (split_none (λ b. b == 10) text h)

-- What a search for an octet says of those that it passes.

not_true : (b : Bool) → (b ≡ true → ⊥) → b ≡ false
not_true b h =
    elim (cases_Bool b) [
      | inl e ↦ absurd (h e)
      | inr e ↦ e
    ]

pub none_before : (c : ℕ) (xs : List ℕ) (n : ℕ) → n ≤ length xs → Nowhere (Passes (is_byte c) xs) 0 n → All (λ b. (b == c) ≡ false) (take n xs)
none_before c xs zero le h = λ k d l. absurd (omega (arith, l))
none_before c xs (suc n) le h =
    let more : n + 1 ≡ suc n = omega arith in
    subst (λ m. All (λ b. (b == c) ≡ false) (take m xs)) more
    (no_more (λ b. b == c) xs n (omega (arith, le)) (not_true (get_or xs n 0 == c) (h n (omega arith) (omega arith)))
    (none_before c xs n (omega (arith, le)) (λ k low high. h k low (omega (arith, high)))))

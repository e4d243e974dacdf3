-- What is left to be taken.
use Rattle.std.proofs.Common.{◌≡◌, ◌∙◌, ℕ, ◌+◌, ◌<◌, Bool, List, [], ◌∷◌, length, map, get_or, sym, ap, arith, Bor, Option, Some, None}
use Rattle.std.specs.Prelude.{drop, IfSome, MatchOption}
use Rattle.std.specs.Slice.{IsItemAt}
use Rattle.std.proofs.lemmas.List.{drop-drop, drop_all, drop_more, get_or-map, length-drop, length-map}
use Rattle.file_flash.specs.Noted.{Put, put_of}
use Rattle.file_flash.specs.declared.noted.Write.{Write}
use Rattle.called_node.specs.Called.{CalledView, IsTaken, is_erase}
use Rattle.mesh_node.specs.Held.{HeldView}

left_more : (xs : List Write) (i : ℕ) (d : Write) → i < length xs → drop i (map put_of xs) ≡ put_of (get_or xs i d) ∷ drop (i + 1) (map put_of xs)
left_more xs i d less =
    drop_more (map put_of xs) i (put_of d) (omega (arith, less, length-map xs put_of))
    ∙ ap (λ (p : Put). p ∷ drop (i + 1) (map put_of xs)) (get_or-map put_of xs i d (put_of d) less)

pub next_left : (xs : List Write) (i : ℕ) (r : Option (Bor Write)) (now : List Put) → drop i (map put_of xs) ≡ now → IsItemAt xs i r
    → MatchOption r (now ≡ []) (λ w. (rest : List Put) × (now ≡ put_of w.now ∷ rest))
next_left xs i None now is at = sym is ∙ drop_all i (map put_of xs) (omega (arith, at.3, length-map xs put_of))
next_left xs i (Some w) now is at =
    (drop (i + 1) (map put_of xs), sym is ∙ left_more xs i w.now at.3.0 ∙ ap (λ (p : Write). put_of p ∷ drop (i + 1) (map put_of xs)) (sym at.1))

-- whether the next one is an erase
kind_more : (xs : List Write) (i : ℕ) (d : Write) → i < length xs
    → drop i (map is_erase xs) ≡ is_erase (get_or xs i d) ∷ drop (i + 1) (map is_erase xs)
kind_more xs i d less =
    drop_more (map is_erase xs) i (is_erase d) (omega (arith, less, length-map xs is_erase))
    ∙ ap (λ (b : Bool). b ∷ drop (i + 1) (map is_erase xs)) (get_or-map is_erase xs i d (is_erase d) less)

pub next_kind : (xs : List Write) (i : ℕ) (r : Option (Bor Write)) (now : List Bool) → drop i (map is_erase xs) ≡ now → IsItemAt xs i r
    → IfSome r (λ w. (rest : List Bool) × (now ≡ is_erase w.now ∷ rest))
next_kind xs i None now is at = tt
next_kind xs i (Some w) now is at =
    (drop (i + 1) (map is_erase xs), sym is ∙ kind_more xs i w.now at.3.0 ∙ ap (λ (p : Write). is_erase p ∷ drop (i + 1) (map is_erase xs)) (sym at.1))

-- where no write is left, no kind is
none_left : (xs : List Write) (i : ℕ) → drop i (map put_of xs) ≡ [] → drop i (map is_erase xs) ≡ []
none_left xs i none =
    let gone : length (drop i (map put_of xs)) ≡ 0 = ap (λ (ws : List Put). length ws) none in
    drop_all i (map is_erase xs) (omega (arith, gone, length-drop i (map put_of xs), length-map xs put_of, length-map xs is_erase))

module _ {F : Type 0} where
  abbrev lost : Option (HeldView F) → List Put → List Bool → List ℕ → CalledView F
  lost life writes erases report = record { life = life; writes = writes; erases = erases; report = report }

  -- a node whose life is lost, where all of the phases before was taken
  pub lost_is : (now new : CalledView F) (life : Option (HeldView F)) (xs : List Write) (i : ℕ) (report : List ℕ) → life ≡ None
      → drop i (map put_of xs) ≡ now.writes → report ≡ now.report → IsTaken now
      → new ≡ record { life = life; writes = drop i (map put_of xs); erases = drop i (map is_erase xs); report = report }
      → new ≡ record { life = None; writes = []; erases = []; report = [] }
  lost_is now new life xs i report gone writes told taken is =
      let none : drop i (map put_of xs) ≡ [] = writes ∙ taken.writes in
      is
      ∙ ap (λ (l : Option (HeldView F)). lost l (drop i (map put_of xs)) (drop i (map is_erase xs)) report) gone
      ∙ ap (λ (ws : List Put). lost None ws (drop i (map is_erase xs)) report) none
      ∙ ap (λ (es : List Bool). lost None [] es report) (none_left xs i none)
      ∙ ap (λ (r : List ℕ). lost None [] [] r) (told ∙ taken.report)

pub passed : {A : Type 0} (i : ℕ) (all left rest : List A) → drop i all ≡ left → drop 1 left ≡ rest → drop (i + 1) all ≡ rest
passed i all left rest is more = sym (drop-drop 1 i all) ∙ ap (drop 1) is ∙ more

apart : {A : Type 0} (put : Put) (rest : List Put) → put ∷ rest ≡ [] → A
apart put rest e = absurd cc

pub is_left : {A : Type 0} (now : List Put) (put : Put) (rest : List Put) → now ≡ put ∷ rest → now ≡ [] → A
is_left now put rest some none = apart put rest (sym some ∙ none)

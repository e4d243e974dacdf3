-- Lists with one item more, and what stands at a place of a longer list.
use Rattle.std.proofs.Common.{◌≡◌, ◌∙◌, ℕ, zero, suc, ◌+◌, ◌<◌, ◌≤◌, List, [], ◌∷◌, ◌++◌, length, drop, take, map, Option, Some, None, refl, sym, ap, subst, arith, append-nil, append_assoc, length-append}
use Rattle.std.specs.Prelude.{◌==◌, cond, slice_get, slice_index_or, slice_set, AllPairs, All, option_and_then}
use Rattle.std.specs.List.{enumerate_from, range_with_len}
use Rattle.std.proofs.Math.Seq.{drop-append_seam}
use Rattle.std.proofs.lemmas.List.{drop-append-le, length-drop, map-append, take-append-drop}
use Rattle.std.proofs.lemmas.List.Elements.{All-cons, All-head, All-nil, All-push, All-tail}
use Rattle.std.proofs.lemmas.List.Kept.{AllPairs-cons}
use Rattle.std.proofs.lemmas.List.Sums.{sum_by-append}
use Rattle.seq_word.specs.Rule.{times}
use Rattle.mesh_types.specs.declared.history.Sent.{Sent}
use Rattle.report_definitions.specs.Record.{Shown}
use Rattle.turn_lock.specs.Entries.{IsPrefix, added}
use Rattle.locked_node.specs.declared.marks.Behind.{Behind}
use Rattle.locked_node.specs.declared.marks.Mark.{Mark}
use Rattle.locked_node.specs.declared.marks.Mark.TheVariants as M
use Rattle.mesh_types.specs.declared.history.Entry.{Entry}
use Rattle.run_definitions.specs.Order.{Placed}
use Rattle.run_definitions.specs.RunOf.{word_told}
use Rattle.node_bearer.specs.Did.{AreMarksAt}
use Rattle.node_bearer.specs.Marked.{IsFrom, counter_of, move_of, shown_at, shown_in}

-- how often a word stands in two lists
pub times_append : (x : ℕ) (xs ys : List ℕ) → times x (xs ++ ys) ≡ times x xs + times x ys
times_append x xs ys = sum_by-append (λ (y : ℕ). cond (y == x) 1 0) xs ys

pub get_longer : {A : Type 0} (xs rest : List A) (i : ℕ) (e : A) → slice_get xs i ≡ Some e → slice_get (xs ++ rest) i ≡ Some e
get_longer [] rest i e h = cc
get_longer (x ∷ xs) rest zero e h = h
get_longer (x ∷ xs) rest (suc i) e h = get_longer xs rest i e h

pub get_last : {A : Type 0} (xs : List A) (x : A) → slice_get (xs ++ x ∷ []) (length xs) ≡ Some x
get_last [] x = refl
get_last (y ∷ xs) x = get_last xs x

pub range_more : (a n : ℕ) → range_with_len a (suc n) ≡ range_with_len a n ++ (a + n) ∷ []
range_more a zero = ap (λ k. k ∷ []) (omega arith)
range_more a (suc n) = ap (λ l. a ∷ l) (range_more (a + 1) n ∙ ap (λ k. range_with_len (a + 1) n ++ k ∷ []) (omega arith))

pub added_one : {E : Type 0} (ms : List E) (x : E) → added ms (ms ++ x ∷ []) ≡ (length ms, x) ∷ []
added_one ms x = ap (λ l. enumerate_from (length ms) l) (drop-append_seam ms (x ∷ []))

pub added_none : {E : Type 0} (ms : List E) → added ms ms ≡ []
added_none ms = ap (λ l. enumerate_from (length ms) l) (ap (drop (length ms)) (sym (append-nil ms)) ∙ drop-append_seam ms [])

enumerate_append : {E : Type 0} (n : ℕ) (xs ys : List E) → enumerate_from n (xs ++ ys) ≡ enumerate_from n xs ++ enumerate_from (n + length xs) ys
enumerate_append n [] ys = ap (λ k. enumerate_from k ys) (omega arith)
enumerate_append n (x ∷ xs) ys =
    ap (λ l. (n, x) ∷ l) (enumerate_append (n + 1) xs ys ∙ ap (λ k. enumerate_from (n + 1) xs ++ enumerate_from k ys) (omega arith))

behind_front : {E : Type 0} (front rest : List E) (x : E) → added front ((front ++ rest) ++ x ∷ []) ≡ added front (front ++ rest) ++ (length (front ++ rest), x) ∷ []
behind_front front rest x =
    ap (enumerate_from (length front)) (ap (drop (length front)) (append_assoc front rest (x ∷ [])) ∙ drop-append_seam front (rest ++ x ∷ []))
    ∙ enumerate_append (length front) rest (x ∷ [])
    ∙ ap (λ l. l ++ (length front + length rest, x) ∷ []) (ap (enumerate_from (length front)) (sym (drop-append_seam front rest)))
    ∙ ap (λ n. added front (front ++ rest) ++ (n, x) ∷ []) (sym (length-append front rest))

-- one item more behind a list that begins with what was seen
pub added_more : {E : Type 0} (front ms : List E) (x : E) → IsPrefix front ms → added front (ms ++ x ∷ []) ≡ added front ms ++ (length ms, x) ∷ []
added_more front ms x p = subst (λ l. added front (l ++ x ∷ []) ≡ added front l ++ (length l, x) ∷ []) (sym p.is) (behind_front front p.rest x)

-- what holds of the items at each place of two lists, and of a new item and the other list's at the next place, holds up to that place
pub set_each : {R E : Type 0} (P : R → E → Type 0) (rs : List R) (es : List E) (i : ℕ) (x : R) (y : E) → i < length rs → i < length es
    → ((j : ℕ) (r : R) (e : E) → j < i → P (slice_index_or rs j r) (slice_index_or es j e)) → y ≡ slice_index_or es i y → P x y
    → (j : ℕ) (r : R) (e : E) → j < i + 1 → P (slice_index_or (slice_set rs i x) j r) (slice_index_or es j e)
set_each P [] es i x y here there before is new j r e lt = absurd (omega (arith, here))
set_each P (r0 ∷ rs) [] i x y here there before is new j r e lt = absurd (omega (arith, there))
set_each P (r0 ∷ rs) (e0 ∷ es) zero x y here there before is new zero r e lt = subst (P x) is new
set_each P (r0 ∷ rs) (e0 ∷ es) zero x y here there before is new (suc j) r e lt = absurd (omega (arith, lt))
set_each P (r0 ∷ rs) (e0 ∷ es) (suc i) x y here there before is new zero r e lt = before 0 r e (omega arith)
set_each P (r0 ∷ rs) (e0 ∷ es) (suc i) x y here there before is new (suc j) r e lt =
    set_each P rs es i x y (omega (arith, here)) (omega (arith, there)) (λ k s f le. before (suc k) s f (omega (arith, le))) is new j r e (omega (arith, lt))

-- what is left of the first items and all behind these are what is left of all
pub drop_front : {A B : Type 0} (f : A → B) (xs : List A) (n c : ℕ) → n ≤ length (take c xs) → map f (drop n (take c xs)) ++ map f (drop c xs) ≡ map f (drop n xs)
drop_front f xs n c le =
    sym (map-append f (drop n (take c xs)) (drop c xs)) ∙ ap (map f) (sym (drop-append-le n (take c xs) (drop c xs) le) ∙ ap (drop n) (take-append-drop c xs))

pub take_front : {A B : Type 0} (f : A → B) (xs : List A) (c : ℕ) → map f (take c xs) ++ map f (drop c xs) ≡ map f xs
take_front f xs c = sym (map-append f (take c xs) (drop c xs)) ∙ ap (map f) (take-append-drop c xs)

-- some of the first of those that are left are no more than these
pub few_left : {A : Type 0} (n m d : ℕ) (xs : List A) → n ≤ length (take m (drop d xs)) → d ≤ length xs → d + n ≤ length xs
few_left n m d xs le within =
    omega (arith, le, within, ap length (take-append-drop m (drop d xs)), length-append (take m (drop d xs)) (drop m (drop d xs)), length-drop d xs)

-- each item is below the new one
pub pairs_more : (xs : List ℕ) (x : ℕ) → AllPairs (λ a b. a < b) xs → All (λ a. a < x) xs → AllPairs (λ a b. a < b) (xs ++ x ∷ [])
pairs_more [] x rise below i zero d lt within = absurd (omega (arith, lt))
pairs_more [] x rise below i (suc j) d lt within = absurd (omega (arith, within))
pairs_more (y ∷ xs) x rise below i j d lt within =
    AllPairs-cons (λ a b. a < b) y (xs ++ x ∷ []) (All-push (λ b. y < b) xs x (λ k d lt. rise 0 (suc k) d (omega arith) (omega (arith, lt))) (All-head (λ a. a < x) y xs below))
    (pairs_more xs x (λ i j d lt within. rise (suc i) (suc j) d (omega (arith, lt)) (omega (arith, within))) (All-tail (λ a. a < x) y xs below)) i j d lt within

-- no item is above the new one
pub no_lower : (xs : List ℕ) (x : ℕ) → AllPairs (λ a b. a ≤ b) xs → All (λ a. a ≤ x) xs → AllPairs (λ a b. a ≤ b) (xs ++ x ∷ [])
no_lower [] x rise below i zero d lt within = absurd (omega (arith, lt))
no_lower [] x rise below i (suc j) d lt within = absurd (omega (arith, within))
no_lower (y ∷ xs) x rise below i j d lt within =
    AllPairs-cons (λ a b. a ≤ b) y (xs ++ x ∷ []) (All-push (λ b. y ≤ b) xs x (λ k d lt. rise 0 (suc k) d (omega arith) (omega (arith, lt))) (All-head (λ a. a ≤ x) y xs below))
    (no_lower xs x (λ i j d lt within. rise (suc i) (suc j) d (omega (arith, lt)) (omega (arith, within))) (All-tail (λ a. a ≤ x) y xs below)) i j d lt within

pub shown_longer : (marks rest : List Mark) (s : Sent) (y : Shown) (o : Option Mark) → slice_get marks s.entry ≡ o → option_and_then (λ m. shown_at m s) o ≡ Some y
    → shown_in (marks ++ rest) s ≡ Some y
shown_longer marks rest s y None e h = cc
shown_longer marks rest s y (Some m) e h = rw (get_longer marks rest s.entry m e) h

pub found_longer : (marks rest : List Mark) (lines : List Sent) (shows : List Shown) → map (shown_in marks) lines ≡ map Some shows
    → map (shown_in (marks ++ rest)) lines ≡ map Some shows
found_longer marks rest [] shows h = h
found_longer marks rest (s ∷ lines) [] h = cc
found_longer marks rest (s ∷ lines) (y ∷ shows) h =
    let head : shown_in marks s ≡ Some y = cc in
    let tail : map (shown_in marks) lines ≡ map Some shows = cc in
    let one = shown_longer marks rest s y (slice_get marks s.entry) refl head in
    let more = found_longer marks rest lines shows tail in
    cc

-- a line of an entry that is there tells no word below where the counter was behind that when more is seen
from_longer : (marks rest : List Mark) (s : Sent) (y : Shown) → shown_in marks s ≡ Some y → IsFrom marks s → IsFrom (marks ++ rest) s
from_longer marks rest s y here h = λ line mark word shows at told. by_mark line mark word shows at told (slice_get marks s.entry) refl here
  where
    by_mark : (line : Shown) (mark : Mark) (word : ℕ) → shown_in (marks ++ rest) s ≡ Some line → slice_get (marks ++ rest) s.entry ≡ Some mark → word_told line.job line.outcome ≡ Some word
        → (o : Option Mark) → slice_get marks s.entry ≡ o → option_and_then (λ m. shown_at m s) o ≡ Some y → (move_of mark ≤ word) × (counter_of mark ≤ word)
    by_mark line mark word shows at told None e none = cc
    by_mark line mark word shows at told (Some m) e there =
        let both : Some m ≡ Some mark = sym (get_longer marks rest s.entry m e) ∙ at in
        let same : m ≡ mark = cc in
        subst (λ x. (move_of x ≤ word) × (counter_of x ≤ word)) same (h line m word (here ∙ sym (shown_longer marks rest s y (Some m) e there) ∙ shows) e told)

pub from_more : (marks rest : List Mark) (lines : List Sent) (shows : List Shown) → map (shown_in marks) lines ≡ map Some shows → All (IsFrom marks) lines → All (IsFrom (marks ++ rest)) lines
from_more marks rest [] shows h from = All-nil (IsFrom (marks ++ rest))
from_more marks rest (s ∷ lines) [] h from = cc
from_more marks rest (s ∷ lines) (y ∷ shows) h from =
    let head : shown_in marks s ≡ Some y = cc in
    let tail : map (shown_in marks) lines ≡ map Some shows = cc in
    All-cons (IsFrom (marks ++ rest)) s lines (from_longer marks rest s y head (All-head (IsFrom marks) s lines from)) (from_more marks rest lines shows tail (All-tail (IsFrom marks) s lines from))

-- an entry more, at its place
pub marks_at_more : (own : List (ℕ × Mark)) (entries : List Placed) (at : ℕ) (e : Entry) (behind : Behind) → AreMarksAt own entries
    → AreMarksAt (own ++ (at, M.Handled e behind) ∷ []) (entries ++ record { at = at; entry = e } ∷ [])
marks_at_more [] [] at e behind h = (behind, refl, tt)
marks_at_more [] (p ∷ entries) at e behind h = absurd h
marks_at_more (x ∷ own) [] at e behind h = absurd h
marks_at_more (x ∷ own) (p ∷ entries) at e behind h = (h.0, h.1, marks_at_more own entries at e behind h.2)

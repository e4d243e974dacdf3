-- The entries of a history among the marks of a node, and with their places.
use Rattle.std.proofs.Common.{◌≡◌, ◌∙◌, ◌⊎◌, inl, inr, ⊎_elim, ℕ, zero, suc, ◌+◌, ◌<◌, ◌≤◌, Bool, true, false, List, [], ◌∷◌, ◌++◌, length, map, drop, Option, Some, None, refl, sym, ap, arith, append-nil}
use Rattle.std.specs.Prelude.{◌==◌, replicate}
use Rattle.std.specs.List.{enumerate_from, range_with_len, slice_get}
use Rattle.std.specs.Option.{option_map_or}
use Rattle.std.proofs.Math.Seq.{drop-append_seam}
use Rattle.mesh_types.specs.declared.events.Event.{Event}
use Rattle.mesh_types.specs.declared.history.Entry.{Entry}
use Rattle.report_definitions.specs.Record.{list_at}
use Rattle.run_definitions.specs.Order.{Placed, of_bearer, placed_from}
use Rattle.turn_lock.specs.Entries.{IsPrefix, added}
use Rattle.locked_node.specs.declared.marks.Behind.{Behind}
use Rattle.locked_node.specs.declared.marks.Mark.{Mark}
use Rattle.locked_node.specs.declared.marks.Mark.TheVariants as M
use Rattle.locked_node.specs.Node.{NodeView, event_in, first_word, handled_marks, marks_of, node_marks, rest_words, stop_marks}
use Rattle.node_bearer.proofs.Lists.{get_longer}
use Rattle.node_phase.specs.Part.{number_at, placed_of}
use Rattle.node_phase.proofs.Mine.{kept_no, kept_yes}
use Rattle.life_laws.specs.Phases.{both_of, entries_by}

no_entry : (n k : ℕ) → placed_of (enumerate_from n (replicate k (M.Stopped None))) ≡ []
no_entry n zero = refl
no_entry n (suc k) = no_entry (n + 1) k

no_entries : (n k : ℕ) (event : Option Event) → placed_of (enumerate_from n (stop_marks k event)) ≡ []
no_entries n zero event = refl
no_entries n (suc k) event = no_entry (n + 1) k

pub placed_marks_from : (n : ℕ) (es : List Entry) (ms cs : List ℕ) (k : ℕ) (event : Option Event) → placed_of (enumerate_from n (handled_marks es ms cs ++ stop_marks k event)) ≡ placed_from n es
placed_marks_from n [] ms cs k event = no_entries n k event
placed_marks_from n (e ∷ es) ms cs k event = ap (λ l. record { at = n; entry = e } ∷ l) (placed_marks_from (n + 1) es (rest_words ms) (rest_words cs) k event)

pub placed_append : (n : ℕ) (xs ys : List Entry) → placed_from n (xs ++ ys) ≡ placed_from n xs ++ placed_from (n + length xs) ys
placed_append n [] ys = ap (λ k. placed_from k ys) (omega arith)
placed_append n (x ∷ xs) ys =
    ap (λ l. record { at = n; entry = x } ∷ l) (placed_append (n + 1) xs ys ∙ ap (λ k. placed_from (n + 1) xs ++ placed_from k ys) (omega arith))

handled_long : (es : List Entry) (ms cs : List ℕ) → length (handled_marks es ms cs) ≡ length es
handled_long [] ms cs = refl
handled_long (e ∷ es) ms cs = ap suc (handled_long es (rest_words ms) (rest_words cs))

-- where the counter was behind the first of entries
abbrev first_behind : List ℕ → List ℕ → Behind
first_behind ms cs = record { moved = first_word ms; counter = first_word cs }

cons_same : {A : Type 0} (x y : A) (xs ys : List A) → x ∷ xs ≡ y ∷ ys → (x ≡ y) × (xs ≡ ys)
cons_same x y xs ys h = (cc, cc)

handled_same : (x y : Entry) (b c : Behind) → M.Handled x b ≡ M.Handled y c → (x ≡ y) × (b ≡ c)
handled_same x y b c h = (cc, cc)

no_mark : (x : Entry) (old : List Entry) (ms cs : List ℕ) (rest : List Mark) (k : ℕ) (event : Option Event) → stop_marks k event ≡ handled_marks (x ∷ old) ms cs ++ rest → ⊥
no_mark x old ms cs rest zero event h =
    let bad : [] ≡ M.Handled x (first_behind ms cs) ∷ (handled_marks old (rest_words ms) (rest_words cs) ++ rest) = h in
    cc
no_mark x old ms cs rest (suc k) event h =
    let bad : M.Stopped event ∷ replicate k (M.Stopped None) ≡ M.Handled x (first_behind ms cs) ∷ (handled_marks old (rest_words ms) (rest_words cs) ++ rest) = h in
    cc

-- what stands behind the entries of before
pub record Grown (old new : List Entry) (rest stops : List Mark) : Type 0 where
  pub more : List Entry
  pub moves : List ℕ
  pub counters : List ℕ
  pub is : new ≡ old ++ more
  pub rest_is : rest ≡ handled_marks more moves counters ++ stops

pub grown : (old new : List Entry) (ms cs ns bs : List ℕ) (rest : List Mark) (k : ℕ) (event : Option Event) → handled_marks new ns bs ++ stop_marks k event ≡ handled_marks old ms cs ++ rest
    → Grown old new rest (stop_marks k event)
grown [] new ms cs ns bs rest k event h = record { more = new; moves = ns; counters = bs; is = refl; rest_is = sym h }
grown (x ∷ old) [] ms cs ns bs rest k event h = absurd (no_mark x old ms cs rest k event h)
grown (x ∷ old) (y ∷ new) ms cs ns bs rest k event h =
    let both = cons_same (M.Handled y (first_behind ns bs)) (M.Handled x (first_behind ms cs)) (handled_marks new (rest_words ns) (rest_words bs) ++ stop_marks k event) (handled_marks old (rest_words ms) (rest_words cs) ++ rest) h in
    let one = (handled_same y x (first_behind ns bs) (first_behind ms cs) both.0).0 in
    let g = grown old new (rest_words ms) (rest_words cs) (rest_words ns) (rest_words bs) rest k event both.1 in
    record { more = g.more; moves = g.moves; counters = g.counters; is = ap (λ z. z ∷ new) one ∙ ap (λ l. x ∷ l) g.is; rest_is = g.rest_is }

pub no_item : {A : Type 0} (i : ℕ) (x : A) → slice_get [] i ≡ Some x → ⊥
no_item i x h = cc

-- the word at a place, 0 where there is none
first_at : (ws : List ℕ) → first_word ws ≡ number_at ws zero
first_at [] = refl
first_at (w ∷ ws) = refl

rest_at : (ws : List ℕ) (i : ℕ) → number_at (rest_words ws) i ≡ number_at ws (suc i)
rest_at [] i = refl
rest_at (w ∷ ws) i = refl

pub word_at : (ws : List ℕ) (i word : ℕ) → slice_get ws i ≡ Some word → number_at ws i ≡ word
word_at ws i word h = ap (λ o. option_map_or (λ n. n) o 0) h

-- what a list has at a place where its word is this one
item_or : (ws : List ℕ) (i word : ℕ) → number_at ws i ≡ word → (o : Option ℕ) → slice_get ws i ≡ o → (word ≡ 0) ⊎ (slice_get ws i ≡ Some word)
item_or ws i word is None e = inl (sym is ∙ ap (λ o. option_map_or (λ n. n) o 0) e)
item_or ws i word is (Some x) e = inr (e ∙ ap Some (sym (word_at ws i x e) ∙ is))

abbrev pub behind_at : List ℕ → List ℕ → ℕ → Behind
behind_at ms cs i = record { moved = number_at ms i; counter = number_at cs i }

-- the mark of an entry, wherever it stands
pub mark_there : (es : List Entry) (ms cs : List ℕ) (rest : List Mark) (i : ℕ) (e : Entry) → slice_get es i ≡ Some e → slice_get (handled_marks es ms cs ++ rest) i ≡ Some (M.Handled e (behind_at ms cs i))
mark_there [] ms cs rest i e here = absurd (no_item i e here)
mark_there (x ∷ es) ms cs rest zero e here =
    let is : Some x ≡ Some e = here in
    let same : x ≡ e = cc in
    ap (λ z. Some (M.Handled z (first_behind ms cs))) same ∙ ap (λ m. Some (M.Handled e (record { moved = m; counter = first_word cs }))) (first_at ms)
    ∙ ap (λ c. Some (M.Handled e (record { moved = number_at ms zero; counter = c }))) (first_at cs)
mark_there (x ∷ es) ms cs rest (suc i) e here =
    mark_there es (rest_words ms) (rest_words cs) rest i e here ∙ ap (λ m. Some (M.Handled e (record { moved = m; counter = number_at (rest_words cs) i }))) (rest_at ms i)
    ∙ ap (λ c. Some (M.Handled e (record { moved = number_at ms (suc i); counter = c }))) (rest_at cs i)

-- A word that stands behind an entry of before is the one that stood there, or none.
abbrev pub IsWordOf : List ℕ → ℕ → ℕ → Type 0
IsWordOf ws i word = (word ≡ 0) ⊎ (slice_get ws i ≡ Some word)

-- what stands behind an entry of before stood there then
behind_kept : (old new : List Entry) (ms cs ns bs : List ℕ) (rest stops : List Mark) → handled_marks new ns bs ++ stops ≡ handled_marks old ms cs ++ rest
    → (i : ℕ) (e : Entry) → slice_get old i ≡ Some e → slice_get new i ≡ Some e → behind_at ns bs i ≡ behind_at ms cs i
behind_kept old new ms cs ns bs rest stops h i e here there =
    let both : Some (M.Handled e (behind_at ns bs i)) ≡ Some (M.Handled e (behind_at ms cs i)) = sym (mark_there new ns bs stops i e there) ∙ ap (λ l. slice_get l i) h ∙ mark_there old ms cs rest i e here in
    let same : M.Handled e (behind_at ns bs i) ≡ M.Handled e (behind_at ms cs i) = cc in
    (handled_same e e (behind_at ns bs i) (behind_at ms cs i) same).1

-- the part of a phase over nodes: the entries that came to those of before
pub record CameTo {F : Type 0} (old new : NodeView F) : Type 0 where
  pub more : List Entry
  pub moves : List ℕ
  pub counters : List ℕ
  pub is : new.machine.entries ≡ old.machine.entries ++ more
  pub marks : added (node_marks old) (node_marks new) ≡ enumerate_from (length old.machine.entries) (handled_marks more moves counters ++ stop_marks new.stops (event_in new.machine.hand))
  pub placed : placed_of (added (node_marks old) (node_marks new)) ≡ placed_from (length old.machine.entries) more
  -- what stands behind an entry of before stood there then
  pub behind : (i : ℕ) (e : Entry) → slice_get old.machine.entries i ≡ Some e → behind_at new.machine.moves new.counters i ≡ behind_at old.machine.moves old.counters i
  pub moved : (i move : ℕ) (e : Entry) → slice_get old.machine.entries i ≡ Some e → slice_get new.machine.moves i ≡ Some move → IsWordOf old.machine.moves i move
  pub counted : (i counter : ℕ) (e : Entry) → slice_get old.machine.entries i ≡ Some e → slice_get new.counters i ≡ Some counter → IsWordOf old.counters i counter

pub came_to : {F : Type 0} (old new : NodeView F) → old.stops ≡ 0 → IsPrefix (node_marks old) (node_marks new) → CameTo old new
came_to old new none front =
    let es = old.machine.entries in
    let ms = old.machine.moves in
    let cs = old.counters in
    let ns = new.machine.moves in
    let bs = new.counters in
    let stops = stop_marks new.stops (event_in new.machine.hand) in
    let plain : node_marks old ≡ handled_marks es ms cs = ap (λ k. marks_of es ms cs k old.machine.hand) none ∙ append-nil (handled_marks es ms cs) in
    let whole : node_marks new ≡ handled_marks es ms cs ++ front.rest = front.is ∙ ap (λ l. l ++ front.rest) plain in
    let g = grown es new.machine.entries ms cs ns bs front.rest new.stops (event_in new.machine.hand) whole in
    let long : length (node_marks old) ≡ length es = ap length plain ∙ handled_long es ms cs in
    let marks : added (node_marks old) (node_marks new) ≡ enumerate_from (length es) (handled_marks g.more g.moves g.counters ++ stops) =
    ap (λ l. enumerate_from (length (node_marks old)) (drop (length (node_marks old)) l)) front.is
    ∙ ap (enumerate_from (length (node_marks old))) (drop-append_seam (node_marks old) front.rest)
    ∙ ap (λ n. enumerate_from n front.rest) long ∙ ap (enumerate_from (length es)) g.rest_is in
    let same : (i : ℕ) (e : Entry) → slice_get es i ≡ Some e → behind_at ns bs i ≡ behind_at ms cs i =
    λ i e here. behind_kept es new.machine.entries ms cs ns bs front.rest stops whole i e here (ap (λ l. slice_get l i) g.is ∙ get_longer es g.more i e here) in
    record {
      more = g.more;
      moves = g.moves;
      counters = g.counters;
      is = g.is;
      marks = marks;
      placed = ap placed_of marks ∙ placed_marks_from (length es) g.more g.moves g.counters new.stops (event_in new.machine.hand);
      behind = same;
      moved = λ i move e here has. item_or ms i move (sym (ap (λ (b : Behind). b.moved) (same i e here)) ∙ word_at ns i move has) (slice_get ms i) refl;
      counted = λ i counter e here has. item_or cs i counter (sym (ap (λ (b : Behind). b.counter) (same i e here)) ∙ word_at bs i counter has) (slice_get cs i) refl;
    }

-- a bearer's entries, with their places or without
pub of_bearer_from : (k n : ℕ) (es : List Entry) → map (λ (p : Placed). p.entry) (of_bearer k (placed_from n es)) ≡ entries_by k es
of_bearer_from k n [] = refl
of_bearer_from k n (e ∷ es) = by_test (of_bearer_from k (n + 1) es) (e.bearer == k) refl where
  by_test : map (λ (p : Placed). p.entry) (of_bearer k (placed_from (n + 1) es)) ≡ entries_by k es → (b : Bool) → (e.bearer == k) ≡ b
      → map (λ (p : Placed). p.entry) (of_bearer k (placed_from n (e ∷ es))) ≡ entries_by k (e ∷ es)
  by_test rest true here =
      ap (map (λ (p : Placed). p.entry)) (kept_yes (λ (p : Placed). p.entry.bearer == k) (record { at = n; entry = e }) (placed_from (n + 1) es) here) ∙ ap (λ l. e ∷ l) rest
      ∙ sym (kept_yes (λ (x : Entry). x.bearer == k) e es here)
  by_test rest false other =
      ap (map (λ (p : Placed). p.entry)) (kept_no (λ (p : Placed). p.entry.bearer == k) (record { at = n; entry = e }) (placed_from (n + 1) es) other) ∙ rest
      ∙ sym (kept_no (λ (x : Entry). x.bearer == k) e es other)

pub numbers_of : (ps : List Placed) → map (λ (p : Placed). p.entry.number) ps ≡ map (λ (e : Entry). e.number) (map (λ (p : Placed). p.entry) ps)
numbers_of [] = refl
numbers_of (p ∷ ps) = ap (λ l. p.entry.number ∷ l) (numbers_of ps)

pub range_append : (a m n : ℕ) → range_with_len a (m + n) ≡ range_with_len a m ++ range_with_len (a + m) n
range_append a zero n =
    let nothing : 0 + n ≡ n = omega arith in
    let same : a ≡ a + 0 = omega arith in
    ap (range_with_len a) nothing ∙ ap (λ k. range_with_len k n) same
range_append a (suc m) n =
    let one : suc m + n ≡ suc (m + n) = omega arith in
    ap (range_with_len a) one ∙ ap (λ l. a ∷ l) (range_append (a + 1) m n ∙ ap (λ k. range_with_len (a + 1) m ++ range_with_len k n) (omega arith))

pub list_at_both : {A : Type 0} (xs ys : List (List A)) (k : ℕ) → list_at (both_of xs ys) k ≡ list_at xs k ++ list_at ys k
list_at_both [] ys k = refl
list_at_both (x ∷ xs) [] zero = sym (append-nil x)
list_at_both (x ∷ xs) [] (suc k) = sym (append-nil (list_at xs k))
list_at_both (x ∷ xs) (y ∷ ys) zero = refl
list_at_both (x ∷ xs) (y ∷ ys) (suc k) = list_at_both xs ys k

pub less_or : (j n : ℕ) → (j < n) ⊎ (n ≤ j)
less_or j zero = inr (omega arith)
less_or zero (suc n) = inl (omega arith)
less_or (suc j) (suc n) = ⊎_elim (λ lt. inl (omega (arith, lt))) (λ le. inr (omega (arith, le))) (less_or j n)

-- Lines draw below what the counter came to with a later event from outside.
use Rattle.std.proofs.Common.{◌≡◌, ◌≢◌, ◌⊎◌, ◌∙◌, ℕ, zero, suc, ◌+◌, ◌<◌, ◌≤◌, true, false, true≢false, List, [], ◌∷◌, ◌++◌, length, map, take, Option, Some, None, inl, inr, refl, sym, ap, subst, arith, append-nil, length-append}
use Rattle.std.specs.Prelude.{⊤, ◌*◌, ◌^◌, All, IfSome, replicate, slice_get, slice_index_or}
use Rattle.std.specs.Option.{option_to_list}
use Rattle.std.proofs.lemmas.List.{length-map, map-append, take-append-le, take_all}
use Rattle.std.proofs.lemmas.List.Elements.{All-cons, All-contains, All-head, All-nil, All-push, All-tail}
use Rattle.mesh_base.specs.Pairs.{word_of}
use Rattle.mesh_base.specs.declared.pair.Pair.{Pair}
use Rattle.mesh_types.specs.declared.events.Event.{Event}
use Rattle.mesh_types.specs.declared.history.Entry.{Entry}
use Rattle.mesh_types.specs.declared.history.Sent.{Sent}
use Rattle.mesh_types.specs.declared.jobs.Job.{Job}
use Rattle.mesh_types.specs.declared.lines.Outcome.{Outcome}
use Rattle.mesh_types.specs.declared.lines.Outcome.TheVariants as O
use Rattle.report_definitions.specs.Record.{Shown}
use Rattle.run_definitions.specs.Lines.{drawn_of}
use Rattle.run_definitions.specs.Order.{Placed, Task, follow, handle, is_outside, write, write_tasks}
use Rattle.run_definitions.specs.RunOf.{draws}
use Rattle.seq_word.specs.Rule.{IsPast}
use Rattle.seq_word.specs.Seen.{DrawerView, IsAbove, last_word}
use Rattle.seq_word.specs.declared.looks.Look.{Look}
use Rattle.seq_word.specs.declared.looks.Look.TheVariants as saw
use Rattle.locked_node.specs.declared.marks.Behind.{Behind}
use Rattle.locked_node.specs.declared.marks.Mark.{Mark}
use Rattle.locked_node.specs.declared.marks.Mark.TheVariants as M
use Rattle.locked_node.specs.Node.{NodeView, event_in, first_word, handled_marks, node_marks, rest_words, stop_marks}
use Rattle.node_bearer.specs.Did.{AreHandles, AreOfLast, IsFor, IsMovedOver}
use Rattle.node_bearer.specs.Marked.{AreShown, IsBehind, IsReachedAt, IsRiseAt, IsSpentSeen, IsToldBelow, IsUntil, counter_of, end_told, move_of, shown_in}
use Rattle.node_bearer.proofs.Lists.{get_last, shown_longer}

-- what stands at a place of the front
get_front : {A : Type 0} (xs ys : List A) (i : ℕ) (x : A) → i < length xs → slice_get (xs ++ ys) i ≡ Some x → slice_get xs i ≡ Some x
get_front [] ys i x h e = absurd (omega (arith, h))
get_front (z ∷ zs) ys zero x h e = e
get_front (z ∷ zs) ys (suc i) x h e = get_front zs ys i x (omega (arith, h)) e

moves_append : (marks rest : List Mark) → map move_of (marks ++ rest) ≡ map move_of marks ++ map move_of rest
moves_append marks rest = map-append move_of marks rest

-- a place of the front is one where the counter was moved, if it is so of the whole
rise_front : (marks rest : List Mark) (at word : ℕ) → at < length marks → IsRiseAt (map move_of (marks ++ rest)) at word → IsRiseAt (map move_of marks) at word
rise_front marks rest at word within h =
    let long : length (map move_of marks) ≡ length marks = length-map marks move_of in
    record {
      here = get_front (map move_of marks) (map move_of rest) at word (omega (arith, within, long)) (subst (λ ms. slice_get ms at ≡ Some word) (moves_append marks rest) h.here);
      rises = λ same. h.rises (ap (λ ms. last_word (take at ms)) (moves_append marks rest)
          ∙ ap last_word (take-append-le at (map move_of marks) (map move_of rest) (omega (arith, within, long))) ∙ same);
    }

-- and so it is of the last
rise_last : (marks : List Mark) (mark : Mark) (word : ℕ) → IsRiseAt (map move_of (marks ++ mark ∷ [])) (length marks) word → (word ≡ move_of mark) × (last_word (map move_of marks) ≢ word)
rise_last marks mark word h =
    let moves = map move_of marks in
    let long : length moves ≡ length marks = length-map marks move_of in
    let here : Some word ≡ Some (move_of mark) =
    sym h.here ∙ ap (λ ms. slice_get ms (length marks)) (moves_append marks (mark ∷ [])) ∙ ap (slice_get (moves ++ move_of mark ∷ [])) (sym long) ∙ get_last moves (move_of mark) in
    let front : take (length marks) (map move_of (marks ++ mark ∷ [])) ≡ moves =
    ap (take (length marks)) (moves_append marks (mark ∷ [])) ∙ take-append-le (length marks) moves (move_of mark ∷ []) (omega (arith, long)) ∙ take_all (length marks) moves (omega (arith, long)) in
    ((let is : word ≡ move_of mark = cc in is), λ same. h.rises (ap last_word front ∙ same))

-- a place of the front is one where the counter came to this word, if it is so of the whole
reached_front : (marks rest : List Mark) (at word : ℕ) → at < length marks → IsReachedAt (marks ++ rest) at word → IsReachedAt marks at word
reached_front marks rest at word within (inl rise) = inl (rise_front marks rest at word within rise)
reached_front marks rest at word within (inr here) =
    let long : length (map counter_of marks) ≡ length marks = length-map marks counter_of in
    inr (get_front (map counter_of marks) (map counter_of rest) at word (omega (arith, within, long)) (subst (λ cs. slice_get cs at ≡ Some word) (map-append counter_of marks rest) here))

-- and so it is of the last
counter_last : (marks : List Mark) (mark : Mark) (word : ℕ) → slice_get (map counter_of (marks ++ mark ∷ [])) (length marks) ≡ Some word → word ≡ counter_of mark
counter_last marks mark word h =
    let counters = map counter_of marks in
    let here : Some word ≡ Some (counter_of mark) =
    sym h ∙ ap (λ cs. slice_get cs (length marks)) (map-append counter_of marks (mark ∷ [])) ∙ ap (slice_get (counters ++ counter_of mark ∷ [])) (sym (length-map marks counter_of)) ∙ get_last counters (counter_of mark) in
    cc

-- with an entry behind which the counter hadn't been moved, or to a word above all that a seat drew and saw, and was found at such a word, it came to one
reached_above : (marks : List Mark) (e : Entry) (behind : Behind) (d : DrawerView) (word : ℕ) → (behind.moved ≡ last_word (map move_of marks)) ⊎ IsAbove d behind.moved → IsAbove d behind.counter
    → IsReachedAt (marks ++ M.Handled e behind ∷ []) (length marks) word → IsAbove d word
reached_above marks e behind d word (inl same) above (inl rise) = let r = rise_last marks (M.Handled e behind) word rise in absurd (r.1 (sym same ∙ sym r.0))
reached_above marks e behind d word (inr moved) above (inl rise) = let r = rise_last marks (M.Handled e behind) word rise in subst (IsAbove d) (sym r.0) moved
reached_above marks e behind d word until above (inr here) = subst (IsAbove d) (sym (counter_last marks (M.Handled e behind) word here)) above

-- a line of an entry that is there tells the same when more is seen
until_longer : (marks rest : List Mark) (at word : ℕ) (s : Sent) (y : Shown) → shown_in marks s ≡ Some y → IsUntil marks at word s → IsUntil (marks ++ rest) at word s
until_longer marks rest at word s y here h = λ line before shows. h line before (here ∙ sym (shown_longer marks rest s y (slice_get marks s.entry) refl here) ∙ shows)

until_more : (marks rest : List Mark) (at word : ℕ) (lines : List Sent) (shows : List Shown) → map (shown_in marks) lines ≡ map Some shows → All (IsUntil marks at word) lines
    → All (IsUntil (marks ++ rest) at word) lines
until_more marks rest at word [] shows h until = All-nil (IsUntil (marks ++ rest) at word)
until_more marks rest at word (s ∷ lines) [] h until = cc
until_more marks rest at word (s ∷ lines) (y ∷ shows) h until =
    let head : shown_in marks s ≡ Some y = cc in
    let tail : map (shown_in marks) lines ≡ map Some shows = cc in
    All-cons (IsUntil (marks ++ rest) at word) s lines (until_longer marks rest at word s y head (All-head (IsUntil marks at word) s lines until))
    (until_more marks rest at word lines shows tail (All-tail (IsUntil marks at word) s lines until))

-- where a line says that no number was left the counter was seen at the end that it tells
end_seen : (looks : List Look) (word : ℕ) (o : Outcome) (end : ℕ) → All (IsPast word) looks → IsSpentSeen looks o → end_told o ≡ Some end → end ≤ word
end_seen looks word (O.Spent iv) end past here told =
    let both : Some (iv * 2 ^ 25 + 2 ^ 24) ≡ Some end = told in
    let is : iv * 2 ^ 25 + 2 ^ 24 ≡ end = cc in
    subst (λ x. x ≤ word) is (All-contains (IsPast word) looks (saw.Counter (iv * 2 ^ 25 + 2 ^ 24)) past here)
end_seen looks word _ end past here told = cc

-- lines whose words are below another draw below that, and the ends that they tell aren't above it if no look was
until_drawn : (marks : List Mark) (at word : ℕ) (looks : List Look) (lines : List Sent) (shows : List Shown) → map (shown_in marks) lines ≡ map Some shows → All (λ x. x < word) (map word_of (draws shows))
    → All (IsPast word) looks → All (λ s. IsSpentSeen looks s.outcome) shows → All (IsUntil marks at word) lines
until_drawn marks at word looks [] shows h below past spent = All-nil (IsUntil marks at word)
until_drawn marks at word looks (s ∷ lines) [] h below past spent = cc
until_drawn marks at word looks (s ∷ lines) (y ∷ shows) h below past spent =
    let head : shown_in marks s ≡ Some y = cc in
    let tail : map (shown_in marks) lines ≡ map Some shows = cc in
    let ends = end_seen looks word y.outcome in
    let here = All-head (λ (x : Shown). IsSpentSeen looks x.outcome) y shows spent in
    by_pair head (λ end told. ends end past here told) (λ more. until_drawn marks at word looks lines shows tail more past (All-tail (λ (x : Shown). IsSpentSeen looks x.outcome) y shows spent))
    (drawn_of y.job y.outcome) refl
  where
    line_is : shown_in marks s ≡ Some y → IsToldBelow word y → IsUntil marks at word s
    line_is head told = λ line before shown.
        let both : Some line ≡ Some y = sym shown ∙ head in
        let same : line ≡ y = cc in
        subst (IsToldBelow word) (sym same) told

    by_pair : shown_in marks s ≡ Some y → ((end : ℕ) → end_told y.outcome ≡ Some end → end ≤ word) → (All (λ x. x < word) (map word_of (draws shows)) → All (IsUntil marks at word) lines)
        → (o : Option Pair) → drawn_of y.job y.outcome ≡ o → All (IsUntil marks at word) (s ∷ lines)
    by_pair head ends rest None e =
        All-cons (IsUntil marks at word) s lines (line_is head (record { draws = λ p drawn. let none : Some p ≡ None = sym drawn ∙ e in cc; ends = ends })) (rest (rw e at below))
    by_pair head ends rest (Some q) e =
        let all : All (λ x. x < word) (word_of q ∷ map word_of (draws shows)) = rw e at below in
        All-cons (IsUntil marks at word) s lines
        (line_is head (record {
          draws = λ p drawn.
              let one : Some p ≡ Some q = sym drawn ∙ e in
              let is : p ≡ q = cc in
              subst (λ x. word_of x < word) (sym is) (All-head (λ x. x < word) (word_of q) (map word_of (draws shows)) all);
          ends = ends;
        }))
        (rest (All-tail (λ x. x < word) (word_of q) (map word_of (draws shows)) all))

-- a word stays behind what was known at first
pub behind_still : (d e : DrawerView) → e.noted ≡ d.noted → e.known ≡ d.known → (x : ℕ) → IsBehind d x → IsBehind e x
behind_still d e noted known x h = record {
  noted = subst (All (λ y. y < x)) (sym noted) h.noted;
  known = subst (All (IsPast x)) (sym known) h.known;
}

-- more is seen of the marks
moved_longer : (marks rest : List Mark) (lines : List Sent) (d : DrawerView) (p : Placed) → AreShown marks lines d → p.at < length marks → IsMovedOver marks lines d p
    → IsMovedOver (marks ++ rest) lines d p
moved_longer marks rest lines d p shown within h = record {
  lines_are = λ word outside reached. until_more marks rest p.at word lines shown.shows shown.found (h.lines_are word outside (reached_front marks rest p.at word within reached));
  before = λ word reached. h.before word (reached_front marks rest p.at word within reached);
}

pub moved_more : (marks rest : List Mark) (lines : List Sent) (d : DrawerView) (entries : List Placed) → AreShown marks lines d → All (λ p. p.at < length marks) entries
    → All (IsMovedOver marks lines d) entries → All (IsMovedOver (marks ++ rest) lines d) entries
moved_more marks rest lines d entries shown last h = λ i p lt. moved_longer marks rest lines d (slice_index_or entries i p) shown (last i p lt) (h i p lt)

pub last_more : (marks rest : List Mark) (entries : List Placed) → All (λ p. p.at < length marks) entries → All (λ p. p.at < length (marks ++ rest)) entries
last_more marks rest entries last = λ i p lt. let below : (slice_index_or entries i p).at < length marks = last i p lt in omega (arith, below, length-append marks rest)

-- the seat is another, with the same words and looks of before
pub moved_still : (marks : List Mark) (lines : List Sent) (d e : DrawerView) (entries : List Placed) → e.noted ≡ d.noted → e.known ≡ d.known → All (IsMovedOver marks lines d) entries
    → All (IsMovedOver marks lines e) entries
moved_still marks lines d e entries noted known h = λ i p lt. record {
  lines_are = (h i p lt).lines_are;
  before = λ word reached. behind_still d e noted known word ((h i p lt).before word reached);
}

-- a line more, of an entry that isn't before any from outside
pub moved_line : (marks : List Mark) (lines : List Sent) (d e : DrawerView) (entries : List Placed) (line : Sent) → e.noted ≡ d.noted → e.known ≡ d.known
    → All (λ p. is_outside p.entry.event ≡ true → p.at ≤ line.entry) entries → All (IsMovedOver marks lines d) entries → All (IsMovedOver marks (lines ++ line ∷ []) e) entries
moved_line marks lines d e entries line noted known over h = λ i p lt.
    let q = slice_index_or entries i p in
    record {
      lines_are = λ word outside reached. All-push (IsUntil marks q.at word) lines line ((h i p lt).lines_are word outside reached)
          (λ shown before shows. let behind : q.at ≤ line.entry = over i p lt outside in absurd (omega (arith, before, behind)));
      before = λ word reached. behind_still d e noted known word ((h i p lt).before word reached);
    }

-- an entry more: the counter wasn't moved, or to a word above all that was drawn and seen, and it is at such a word
pub moved_here : (marks : List Mark) (lines : List Sent) (d : DrawerView) (e : Entry) (behind : Behind) → AreShown marks lines d
    → (behind.moved ≡ last_word (map move_of marks)) ⊎ IsAbove d behind.moved → IsAbove d behind.counter
    → IsMovedOver (marks ++ M.Handled e behind ∷ []) lines d (record { at = length marks; entry = e })
moved_here marks lines d e behind shown until above = record {
  lines_are = λ word outside reached.
      let over = reached_above marks e behind d word until above reached in
      let under : All (λ x. x < word) (map word_of (draws shown.shows)) = subst (All (λ x. x < word)) (sym shown.drawing) over.drawn in
      until_more marks (M.Handled e behind ∷ []) (length marks) word lines shown.shows shown.found
      (until_drawn marks (length marks) word d.looks lines shown.shows shown.found under over.looks shown.spent);
  before = λ word reached. let over = reached_above marks e behind d word until above reached in record { noted = over.noted; known = over.known };
}

-- what is left, where only events from outside are
over_handles : (entries : List Placed) (tasks : List Task) → AreHandles tasks → AreOfLast entries tasks
over_handles entries [] h = tt
over_handles entries (handle e ∷ tasks) h = h
over_handles entries (follow e ∷ tasks) h = absurd h
over_handles entries (write i j e job ∷ tasks) h = absurd h

-- the jobs of the last entry are to be done
over_writes : (entries : List Placed) (at j : ℕ) (event : Event) (jobs : List Job) (rest : List Task) → All (λ p. p.at ≤ at) entries → AreOfLast entries rest
    → AreOfLast entries (write_tasks at j event jobs ++ rest)
over_writes entries at j event [] rest before h = h
over_writes entries at j event (job ∷ jobs) rest before h = ((λ i p lt outside. before i p lt), over_writes entries at (j + 1) event jobs rest before h)

-- an entry more, of an event that isn't from outside
over_inside : (entries : List Placed) (p : Placed) (tasks : List Task) → is_outside p.entry.event ≡ false → AreOfLast entries tasks → AreOfLast (entries ++ p ∷ []) tasks
over_inside entries p [] inside h = tt
over_inside entries p (handle e ∷ tasks) inside h = h
over_inside entries p (follow e ∷ tasks) inside h = (h.0, over_inside entries p tasks inside h.1)
over_inside entries p (write at j e job ∷ tasks) inside h =
    (All-push (λ q. is_outside q.entry.event ≡ true → q.at ≤ at) entries p h.0 (λ outside. absurd (true≢false (sym outside ∙ inside))), over_inside entries p tasks inside h.1)

over_next : (entries : List Placed) (p : Placed) (event : Event) (task : Task) (rest : List Task) → IsFor event task → p.entry.event ≡ event → AreOfLast entries (task ∷ rest)
    → AreOfLast (entries ++ p ∷ []) rest
over_next entries p event (handle e) rest is same h = over_handles (entries ++ p ∷ []) rest h
over_next entries p event (follow e) rest is same h = over_inside entries p rest (ap is_outside (same ∙ sym is) ∙ h.0) h.1
over_next entries p event (write i j e job) rest is same h = absurd is

-- an event was handled, whose entry stands behind all others
pub over_acted : (entries : List Placed) (p : Placed) (event : Event) (task : Task) (rest : List Task) → IsFor event task → p.entry.event ≡ event → All (λ q. q.at < p.at) entries
    → AreOfLast entries (task ∷ rest) → AreOfLast (entries ++ p ∷ []) (write_tasks p.at 0 event p.entry.jobs ++ rest)
over_acted entries p event task rest is same last h =
    over_writes (entries ++ p ∷ []) p.at 0 event p.entry.jobs rest
    (All-push (λ q. q.at ≤ p.at) entries p (λ i q lt. let below : (slice_index_or entries i q).at < p.at = last i q lt in omega (arith, below)) (let itself : p.at ≤ p.at = omega arith in itself))
    (over_next entries p event task rest is same h)

-- what follows a line is to be handled
pub over_follows : (entries : List Placed) (after : List Event) (rest : List Task) → All (λ e. is_outside e ≡ false) after → AreOfLast entries rest
    → AreOfLast entries (map follow after ++ rest)
over_follows entries [] rest inside h = h
over_follows entries (e ∷ after) rest inside h =
    (All-head (λ x. is_outside x ≡ false) e after inside, over_follows entries after rest (All-tail (λ x. is_outside x ≡ false) e after inside) h)

pub inside_next : (next : Option Event) → IfSome next (λ e. is_outside e ≡ false) → All (λ e. is_outside e ≡ false) (option_to_list next)
inside_next None h = All-nil (λ (e : Event). is_outside e ≡ false)
inside_next (Some e) h = All-cons (λ x. is_outside x ≡ false) e [] h (All-nil (λ x. is_outside x ≡ false))

-- a mark is an entry's
abbrev IsEntry : Mark → Type 0
IsEntry (M.Handled e behind) = ⊤
IsEntry (M.Stopped hand) = ⊥

-- no entry stands behind the mark of a bearer that stopped
no_entry : (n : ℕ) (xs : List Mark) (e : Entry) (behind : Behind) → replicate n (M.Stopped None) ≢ xs ++ M.Handled e behind ∷ []
no_entry zero [] e behind h = cc
no_entry zero (x ∷ xs) e behind h = cc
no_entry (suc n) [] e behind h = cc
no_entry (suc n) (x ∷ xs) e behind h = no_entry n xs e behind (let tail : replicate n (M.Stopped None) ≡ xs ++ M.Handled e behind ∷ [] = cc in tail)

-- the mark of an entry, behind which the counter was so
abbrev handled_here : Entry → List ℕ → List ℕ → Mark
handled_here e moves counters = M.Handled e (record { moved = first_word moves; counter = first_word counters })

each_entry : (entries : List Entry) (moves counters : List ℕ) (stops : ℕ) (hand : Option Event) (xs : List Mark) (e : Entry) (behind : Behind)
    → handled_marks entries moves counters ++ stop_marks stops hand ≡ xs ++ M.Handled e behind ∷ [] → All IsEntry xs
each_entry entries moves counters stops hand [] e behind h = All-nil IsEntry
each_entry [] moves counters zero hand (x ∷ xs) e behind h = cc
each_entry [] moves counters (suc n) hand (x ∷ xs) e behind h = absurd (no_entry n xs e behind (let tail : replicate n (M.Stopped None) ≡ xs ++ M.Handled e behind ∷ [] = cc in tail))
each_entry (f ∷ entries) moves counters stops hand (x ∷ xs) e behind h =
    let head : handled_here f moves counters ≡ x = cc in
    let tail : handled_marks entries (rest_words moves) (rest_words counters) ++ stop_marks stops hand ≡ xs ++ M.Handled e behind ∷ [] = cc in
    All-cons IsEntry x xs (subst IsEntry head tt) (each_entry entries (rest_words moves) (rest_words counters) stops hand xs e behind tail)

none_stopped : (entries : List Entry) (moves counters : List ℕ) (stops : ℕ) (hand : Option Event) → All IsEntry (handled_marks entries moves counters ++ stop_marks stops hand) → stops ≡ 0
none_stopped entries moves counters zero hand h = refl
none_stopped [] moves counters (suc n) hand h = absurd (All-head IsEntry (M.Stopped hand) (replicate n (M.Stopped None)) h)
none_stopped (e ∷ entries) moves counters (suc n) hand h =
    none_stopped entries (rest_words moves) (rest_words counters) (suc n) hand
    (All-tail IsEntry (handled_here e moves counters) (handled_marks entries (rest_words moves) (rest_words counters) ++ stop_marks (suc n) hand) h)

moves_handled : (entries : List Entry) (moves counters : List ℕ) → length moves ≡ length entries → map move_of (handled_marks entries moves counters) ≡ moves
moves_handled [] [] counters long = refl
moves_handled [] (m ∷ moves) counters long = absurd (omega (arith, long))
moves_handled (e ∷ entries) [] counters long = absurd (omega (arith, long))
moves_handled (e ∷ entries) (m ∷ moves) counters long = ap (λ l. m ∷ l) (moves_handled entries moves (rest_words counters) (omega (arith, long)))

-- a node to which an entry was added had marks of entries alone, which tell where its machine moved the counter to
pub last_told : {F : Type 0} (old new : NodeView F) (e : Entry) (behind : Behind) → length old.machine.moves ≡ length old.machine.entries → node_marks new ≡ node_marks old ++ M.Handled e behind ∷ []
    → last_word (map move_of (node_marks old)) ≡ last_word old.machine.moves
last_told old new e behind long grew =
    let m = old.machine in
    let entries = each_entry new.machine.entries new.machine.moves new.counters new.stops (event_in new.machine.hand) (node_marks old) e behind grew in
    let none = none_stopped m.entries m.moves old.counters old.stops (event_in m.hand) entries in
    ap (λ n. last_word (map move_of (handled_marks m.entries m.moves old.counters ++ stop_marks n (event_in m.hand)))) none
    ∙ ap (λ ms. last_word (map move_of ms)) (append-nil (handled_marks m.entries m.moves old.counters)) ∙ ap last_word (moves_handled m.entries m.moves old.counters long)

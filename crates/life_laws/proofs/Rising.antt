-- What lines draw is below each word that the counter came to with a later event from outside of the same bearer, and with an entry of a later phase.
use Rattle.std.proofs.Common.{◌≡◌, ◌≢◌, ◌∙◌, ◌⊎◌, inl, inr, ℕ, zero, suc, ◌+◌, ◌<◌, ◌≤◌, Bool, true, false, List, [], ◌∷◌, ◌++◌, length, map, take, Option, Some, None, refl, sym, ap, subst, arith, append-nil}
use Rattle.std.specs.Prelude.{◌==◌, ◌*◌, ◌^◌, All, replicate, slice_index_or, ⊤}
use Rattle.std.specs.List.{Contains, filter, slice_get}
use Rattle.std.proofs.lemmas.Bool.Decides.{nat_tests}
use Rattle.std.proofs.lemmas.List.{length-map, map-append, take-append-le}
use Rattle.std.proofs.lemmas.List.Elements.{All-append, All-cons, All-contains, All-filter, All-head, All-nil, All-tail, Contains-append_left, Contains-append_right}
use Rattle.mesh_base.specs.Pairs.{word_of}
use Rattle.mesh_base.specs.declared.pair.Pair.{Pair}
use Rattle.machine_contract.specs.declared.answers.Stop.{Stop}
use Rattle.machine_contract.specs.declared.answers.Stop.TheVariants as S
use Rattle.mesh_types.specs.declared.events.Event.{Event}
use Rattle.mesh_types.specs.declared.history.Entry.{Entry}
use Rattle.mesh_types.specs.declared.history.Sent.{Sent}
use Rattle.mesh_types.specs.declared.jobs.Job.{Job}
use Rattle.mesh_types.specs.declared.lines.Outcome.{Outcome}
use Rattle.mesh_types.specs.declared.lines.Outcome.TheVariants as O
use Rattle.report_definitions.specs.Record.{Shown, list_at, shown_of}
use Rattle.run_definitions.specs.Lines.{after_line, drawn_of}
use Rattle.run_definitions.specs.Order.{Placed, Task, Walks, follow, follows, handle, handles, is_outside, of_bearer, placed_from, stops, write, write_tasks, writes}
use Rattle.run_definitions.specs.RunOf.{draws}
use Rattle.seq_word.specs.Rule.{IsPast}
use Rattle.seq_word.specs.Seen.{DrawerView, last_word}
use Rattle.seq_word.specs.declared.looks.Look.{Look}
use Rattle.seq_word.specs.declared.looks.Look.TheVariants as saw
use Rattle.turn_lock.specs.Entries.{added}
use Rattle.turn_lock.proofs.Kept.{kept_at}
use Rattle.locked_node.specs.declared.marks.Mark.{Mark}
use Rattle.locked_node.specs.Node.{NodeView, event_in, handled_marks, marks_of, node_marks, rest_words, stop_marks}
use Rattle.node_bearer.specs.Did.{AreMarksAt, BearerOf, Did, IsMovedOver}
use Rattle.node_bearer.specs.Marked.{AreShown, IsReachedAt, IsRiseAt, IsSpentSeen, IsToldBelow, counter_of, end_told, move_of, shown_in}
use Rattle.node_bearer.proofs.Lists.{found_longer, get_longer}
use Rattle.node_phase.specs.declared.bearers.Done.{Done}
use Rattle.node_phase.specs.Part.{HadMemory, lines_of}
use Rattle.node_phase.specs.Worked.{WasPhase, Worked, done_of, own_of}
use Rattle.node_phase.proofs.Mine.{drop_mine, entries_of_bearer, is_by, keep_mine, kept_no, kept_yes, stop_dropped}
use Rattle.node_phase.proofs.Parting.{first_of, index_map, list_at_map, list_at_past}
use Rattle.life_laws.specs.Pairs.{AreShownBy, IsUntilMove, PairsSo, ShowsIn, all_of}
use Rattle.life_laws.specs.Phases.{both_of}
use Rattle.life_laws.proofs.Placing.{CameTo, came_to, less_or, list_at_both, no_item}
use Rattle.life_laws.proofs.Showing.{found_entries, found_more, no_more}

-- what stands at a place of a list
get_before : {A : Type 0} (xs rest : List A) (i : ℕ) → i < length xs → slice_get (xs ++ rest) i ≡ slice_get xs i
get_before [] rest i lt = absurd (omega (arith, lt))
get_before (x ∷ xs) rest zero lt = refl
get_before (x ∷ xs) rest (suc i) lt = get_before xs rest i (omega (arith, lt))

pub get_there : {A : Type 0} (xs : List A) (i : ℕ) → i < length xs → (x : A) × (slice_get xs i ≡ Some x)
get_there [] i lt = absurd (omega (arith, lt))
get_there (x ∷ xs) zero lt = (x, refl)
get_there (x ∷ xs) (suc i) lt = get_there xs i (omega (arith, lt))

pub within_get : {A : Type 0} (xs : List A) (i : ℕ) (x : A) → slice_get xs i ≡ Some x → i < length xs
within_get [] i x h = absurd (no_item i x h)
within_get (y ∷ xs) zero x h = omega arith
within_get (y ∷ xs) (suc i) x h = omega (arith, within_get xs i x h)

get_past : {A : Type 0} (xs ys : List A) (i : ℕ) (x : A) → slice_get (xs ++ ys) i ≡ Some x → length xs ≤ i → (j : ℕ) × (length xs + j ≡ i) × (slice_get ys j ≡ Some x)
get_past [] ys i x h le = (i, omega arith, h)
get_past (y ∷ xs) ys zero x h le = absurd (omega (arith, le))
get_past (y ∷ xs) ys (suc i) x h le = let r = get_past xs ys i x h (omega (arith, le)) in (r.0, omega (arith, r.1), r.2)

-- moves, and those of the marks of entries; and so the counters
get_move : (es : List Entry) (ms cs : List ℕ) (rest : List Mark) (i : ℕ) (e : Entry) (move : ℕ) → slice_get es i ≡ Some e → slice_get ms i ≡ Some move
    → slice_get (map move_of (handled_marks es ms cs ++ rest)) i ≡ Some move
get_move [] ms cs rest i e move here has = absurd (no_item i e here)
get_move (x ∷ es) [] cs rest i e move here has = absurd (no_item i move has)
get_move (x ∷ es) (m ∷ ms) cs rest zero e move here has = has
get_move (x ∷ es) (m ∷ ms) cs rest (suc i) e move here has = get_move es ms (rest_words cs) rest i e move here has

get_counter : (es : List Entry) (ms cs : List ℕ) (rest : List Mark) (i : ℕ) (e : Entry) (counter : ℕ) → slice_get es i ≡ Some e → slice_get cs i ≡ Some counter
    → slice_get (map counter_of (handled_marks es ms cs ++ rest)) i ≡ Some counter
get_counter [] ms cs rest i e counter here has = absurd (no_item i e here)
get_counter (x ∷ es) ms [] rest i e counter here has = absurd (no_item i counter has)
get_counter (x ∷ es) ms (c ∷ cs) rest zero e counter here has = has
get_counter (x ∷ es) ms (c ∷ cs) rest (suc i) e counter here has = get_counter es (rest_words ms) cs rest i e counter here has

take_moves : (es : List Entry) (ms cs : List ℕ) (rest : List Mark) (i : ℕ) (e : Entry) (move : ℕ) → slice_get es i ≡ Some e → slice_get ms i ≡ Some move
    → take i (map move_of (handled_marks es ms cs ++ rest)) ≡ take i ms
take_moves [] ms cs rest i e move here has = absurd (no_item i e here)
take_moves (x ∷ es) [] cs rest i e move here has = absurd (no_item i move has)
take_moves (x ∷ es) (m ∷ ms) cs rest zero e move here has = refl
take_moves (x ∷ es) (m ∷ ms) cs rest (suc i) e move here has = ap (λ l. m ∷ l) (take_moves es ms (rest_words cs) rest i e move here has)

rise_marked : (es : List Entry) (ms cs : List ℕ) (rest : List Mark) (i : ℕ) (e : Entry) (word : ℕ) → slice_get es i ≡ Some e → IsRiseAt ms i word → IsRiseAt (map move_of (handled_marks es ms cs ++ rest)) i word
rise_marked es ms cs rest i e word here r = record {
  here = get_move es ms cs rest i e word here r.here;
  rises = λ same. r.rises (ap last_word (sym (take_moves es ms cs rest i e word here r.here)) ∙ same);
}

rise_unmarked : (es : List Entry) (ms cs : List ℕ) (rest : List Mark) (i : ℕ) (e : Entry) (m word : ℕ) → slice_get es i ≡ Some e → slice_get ms i ≡ Some m → IsRiseAt (map move_of (handled_marks es ms cs ++ rest)) i word
    → IsRiseAt ms i word
rise_unmarked es ms cs rest i e m word here has r = record {
  here = has ∙ sym (get_move es ms cs rest i e m here has) ∙ r.here;
  rises = λ same. r.rises (ap last_word (take_moves es ms cs rest i e m here has) ∙ same);
}

rise_front : (marks rest : List Mark) (i word : ℕ) → i < length marks → IsRiseAt (map move_of (marks ++ rest)) i word → IsRiseAt (map move_of marks) i word
rise_front marks rest i word lt r =
    let long = length-map marks move_of in
    let both : map move_of (marks ++ rest) ≡ map move_of marks ++ map move_of rest = map-append move_of marks rest in
    record {
      here = sym (get_before (map move_of marks) (map move_of rest) i (omega (arith, lt, long))) ∙ ap (λ l. slice_get l i) (sym both) ∙ r.here;
      rises = λ same. r.rises (ap (λ l. last_word (take i l)) both ∙ ap last_word (take-append-le i (map move_of marks) (map move_of rest) (omega (arith, lt, long))) ∙ same);
    }

count_front : (marks rest : List Mark) (i word : ℕ) → i < length marks → slice_get (map counter_of (marks ++ rest)) i ≡ Some word → slice_get (map counter_of marks) i ≡ Some word
count_front marks rest i word lt h =
    sym (get_before (map counter_of marks) (map counter_of rest) i (omega (arith, lt, length-map marks counter_of))) ∙ ap (λ l. slice_get l i) (sym (map-append counter_of marks rest)) ∙ h

-- the lines that tasks are to write are of entries from this place on
abbrev WriteFrom : ℕ → List Task → Type 0
WriteFrom n [] = ⊤
WriteFrom n (handle event ∷ tasks) = WriteFrom n tasks
WriteFrom n (follow event ∷ tasks) = WriteFrom n tasks
WriteFrom n (write i j event job ∷ tasks) = (n ≤ i) × WriteFrom n tasks

from_writes : (n i j : ℕ) (event : Event) (jobs : List Job) (tasks : List Task) → n ≤ i → WriteFrom n tasks → WriteFrom n (write_tasks i j event jobs ++ tasks)
from_writes n i j event [] tasks le h = h
from_writes n i j event (job ∷ jobs) tasks le h = (le, from_writes n i (j + 1) event jobs tasks le h)

from_follows : (n : ℕ) (events : List Event) (tasks : List Task) → WriteFrom n tasks → WriteFrom n (map (λ e. follow e) events ++ tasks)
from_follows n [] tasks h = h
from_follows n (e ∷ events) tasks h = from_follows n events tasks h

from_handles : (n : ℕ) (events : List Event) → WriteFrom n (map (λ e. handle e) events)
from_handles n [] = tt
from_handles n (e ∷ events) = from_handles n events

-- lines are of the entries that were made with them
lines_from : (n : ℕ) {tasks : List Task} {es : List Placed} {ls : List Sent} {left : List Task} → Walks tasks es ls left → All (λ p. n ≤ p.at) es → WriteFrom n tasks → All (λ s. n ≤ s.entry) ls
lines_from n stops each h = All-nil (λ (s : Sent). n ≤ s.entry)
lines_from n (handles {tasks = ts} {es = es} p outside w) each h =
    lines_from n w (All-tail (λ (q : Placed). n ≤ q.at) p es each) (from_writes n p.at 0 p.entry.event p.entry.jobs ts (All-head (λ (q : Placed). n ≤ q.at) p es each) h)
lines_from n (follows {tasks = ts} {es = es} p w) each h =
    lines_from n w (All-tail (λ (q : Placed). n ≤ q.at) p es each) (from_writes n p.at 0 p.entry.event p.entry.jobs ts (All-head (λ (q : Placed). n ≤ q.at) p es each) h)
lines_from n (writes {i = i} {j = j} {job = job} {outcome = o} {tasks = ts} {ls = ls} shows w) each h =
    All-cons (λ (s : Sent). n ≤ s.entry) (record { entry = i; job = j; outcome = o }) ls h.0 (lines_from n w each (from_follows n (after_line job o) ts h.1))

placed_above : (n m : ℕ) (es : List Entry) → n ≤ m → All (λ p. n ≤ p.at) (placed_from m es)
placed_above n m [] le = All-nil (λ (p : Placed). n ≤ p.at)
placed_above n m (e ∷ es) le = All-cons (λ (p : Placed). n ≤ p.at) (record { at = m; entry = e }) (placed_from (m + 1) es) le (placed_above n (m + 1) es (omega (arith, le)))

placed_there : (n : ℕ) (es : List Entry) (j : ℕ) (e : Entry) → slice_get es j ≡ Some e → Contains (placed_from n es) (record { at = n + j; entry = e })
placed_there n [] j e h = absurd (no_item j e h)
placed_there n (x ∷ es) zero e h =
    let is : Some x ≡ Some e = h in
    let same : x ≡ e = cc in
    let place : n ≡ n + 0 = omega arith in
    (0, omega arith, ap (λ m. record { at = m; entry = x }) place ∙ ap (λ z. record { at = n + 0; entry = z }) same)
placed_there n (x ∷ es) (suc j) e h =
    let c = placed_there (n + 1) es j e h in
    let place : n + 1 + j ≡ n + suc j = omega arith in
    subst (λ m. Contains (placed_from n (x ∷ es)) (record { at = m; entry = e })) place (suc c.0, omega (arith, c.1), c.2)

kept_there : {A : Type 0} (f : A → Bool) (xs : List A) (x : A) → f x ≡ true → Contains xs x → Contains (filter f xs) x
kept_there f [] x is (k, lt, e) = absurd (omega (arith, lt))
kept_there f (y ∷ xs) x is (zero, lt, e) = subst (λ l. Contains l x) (sym (kept_yes f y xs (ap f e ∙ is))) (0, omega arith, e)
kept_there f (y ∷ xs) x is (suc k, lt, e) = by_test (f y) refl (kept_there f xs x is (k, omega (arith, lt), e)) where
  by_test : (b : Bool) → f y ≡ b → Contains (filter f xs) x → Contains (filter f (y ∷ xs)) x
  by_test true here c = subst (λ l. Contains l x) (sym (kept_yes f y xs here)) (suc c.0, omega (arith, c.1), c.2)
  by_test false other c = subst (λ l. Contains l x) (sym (kept_no f y xs other)) c

is_bearer : (a k : ℕ) → a ≡ k → (a == k) ≡ true
is_bearer a k e = grind (arith, nat_tests)

-- the word of a line is one of those that the lines draw
draws_first : (y : Shown) (shows : List Shown) (p : Pair) → drawn_of y.job y.outcome ≡ Some p → Contains (map word_of (draws (y ∷ shows))) (word_of p)
draws_first y shows p here = rw here (0, omega arith, refl)

draws_later : (y : Shown) (shows : List Shown) (x : ℕ) (o : Option Pair) → drawn_of y.job y.outcome ≡ o → Contains (map word_of (draws shows)) x → Contains (map word_of (draws (y ∷ shows))) x
draws_later y shows x None here c = rw here c
draws_later y shows x (Some p) here c = rw here (suc c.0, omega (arith, c.1), c.2)

drawn_here : (f : Sent → Option Shown) (lines : List Sent) (shows : List Shown) → map f lines ≡ map Some shows → (j : ℕ) (s : Sent) → j < length lines → (line : Shown) (p : Pair) → f (slice_index_or lines j s) ≡ Some line
    → drawn_of line.job line.outcome ≡ Some p → Contains (map word_of (draws shows)) (word_of p)
drawn_here f [] shows found j s lt line p is draws = absurd (omega (arith, lt))
drawn_here f (x ∷ lines) [] found j s lt line p is draws = absurd (no_more (f x) (map f lines) found)
drawn_here f (x ∷ lines) (y ∷ shows) found zero s lt line p is draws =
    let head : f x ≡ Some y = cc in
    let both : Some y ≡ Some line = sym head ∙ is in
    let same : y ≡ line = cc in
    draws_first y shows p (ap (λ (z : Shown). drawn_of z.job z.outcome) same ∙ draws)
drawn_here f (x ∷ lines) (y ∷ shows) found (suc j) s lt line p is draws =
    let tail : map f lines ≡ map Some shows = cc in
    draws_later y shows (word_of p) (drawn_of y.job y.outcome) refl (drawn_here f lines shows tail j s (omega (arith, lt)) line p is draws)

-- what is shown in two ways is the same
same_each : (f g : Sent → Option Shown) (lines : List Sent) (shows : List Shown) → map f lines ≡ map Some shows → map g lines ≡ map Some shows → (j : ℕ) (s : Sent) → j < length lines
    → f (slice_index_or lines j s) ≡ g (slice_index_or lines j s)
same_each f g lines shows one other j s lt =
    sym (index_map f lines j s None lt) ∙ ap (λ l. slice_index_or l j None) (one ∙ sym other) ∙ index_map g lines j s None lt

-- the lines of a bearer, and what they draw
shows_at : (entries : List Entry) (ms : List ℕ) (sends : List (List Sent)) (drawns : List (List ℕ)) (looks : List Look) → AreShownBy entries ms sends drawns looks → (k j : ℕ) → j < length (list_at sends k)
    → ShowsIn entries ms (list_at sends k) (list_at drawns k) looks
shows_at entries ms [] drawns looks h k j lt = absurd (omega (arith, lt))
shows_at entries ms (s ∷ sends) [] looks h k j lt = absurd h
shows_at entries ms (s ∷ sends) (w ∷ drawns) looks h zero j lt = h.0
shows_at entries ms (s ∷ sends) (w ∷ drawns) looks h (suc k) j lt = shows_at entries ms sends drawns looks h.2 k j lt

all_at : (drawns : List (List ℕ)) (k x : ℕ) → Contains (list_at drawns k) x → Contains (all_of drawns) x
all_at [] k x (j, lt, e) = absurd (omega (arith, lt))
all_at (w ∷ drawns) zero x c = Contains-append_left w (all_of drawns) x c
all_at (w ∷ drawns) (suc k) x c = Contains-append_right w (all_of drawns) x (all_at drawns k x c)

-- a line is among what the lines show
shown_there : (f : Sent → Option Shown) (lines : List Sent) (shows : List Shown) → map f lines ≡ map Some shows → (j : ℕ) (s : Sent) → j < length lines → (line : Shown) → f (slice_index_or lines j s) ≡ Some line → Contains shows line
shown_there f [] shows found j s lt line is = absurd (omega (arith, lt))
shown_there f (x ∷ lines) [] found j s lt line is = absurd (no_more (f x) (map f lines) found)
shown_there f (x ∷ lines) (y ∷ shows) found zero s lt line is =
    let head : f x ≡ Some y = cc in
    let both : Some y ≡ Some line = sym head ∙ is in
    let same : y ≡ line = cc in
    (0, omega arith, same)
shown_there f (x ∷ lines) (y ∷ shows) found (suc j) s lt line is =
    let tail : map f lines ≡ map Some shows = cc in
    let c = shown_there f lines shows tail j s (omega (arith, lt)) line is in
    (suc c.0, omega (arith, c.1), c.2)

-- the end that a line tells was seen in the counter
end_seen : (looks : List Look) (o : Outcome) (end : ℕ) → IsSpentSeen looks o → end_told o ≡ Some end → Contains looks (saw.Counter end)
end_seen looks (O.Spent iv) end seen told =
    let is : Some (iv * 2 ^ 25 + 2 ^ 24) ≡ Some end = told in
    let same : iv * 2 ^ 25 + 2 ^ 24 ≡ end = cc in
    subst (λ x. Contains looks (saw.Counter x)) same seen
end_seen looks _ end seen told = cc

-- what one bearer did in the phase, whether it stopped or not
record Own {F : Type 0} (k : ℕ) (events : List Event) (b : BearerOf F) : Type 0 where
  pub entries : List Placed
  pub left : List Task
  pub kept : AreMarksAt (filter (is_by k) b.pass.own) entries
  pub other : (j : ℕ) → j ≢ k → filter (is_by j) b.pass.own ≡ []
  pub walks : Walks (map (λ e. handle e) events) entries b.lines.items left
  pub shown : AreShown b.pass.seen b.lines.items b.drawer
  pub until : All (IsMovedOver b.pass.seen b.lines.items b.drawer) entries
  pub last : All (λ p. p.at < length b.pass.seen) entries

module _ {F : Type 0} (k : ℕ) (events : List Event) (old b : BearerOf F) where
  own_did : (left : List Task) (own : List (ℕ × Mark)) → ((j : ℕ) → filter (is_by j) b.pass.own ≡ filter (is_by j) own)
      → Did k old.number (map handle events) left own b.pass.seen b.lines.items b.number b.drawer → Own k events b
  own_did left own same h = record {
    entries = h.entries;
    left = left;
    kept = subst (λ l. AreMarksAt l h.entries) (sym (same k ∙ keep_mine k own h.entries h.own_are h.bearer)) h.own_are;
    other = λ j n. same j ∙ drop_mine k j own h.entries n h.own_are h.bearer;
    walks = h.walks;
    shown = h.shown;
    until = h.until;
    last = h.last;
  }

  own_by : (s : Option Stop) → b.stop ≡ s → s ≢ Some S.Memory → Worked k events old b → Own k events b
  own_by None is m w = own_did [] b.pass.own (λ j. refl) (w.did is)
  own_by (Some S.Closed) is m w = let x = w.broke S.Closed is in own_did x.left x.is.before (λ j. ap (filter (is_by j)) x.is.own ∙ stop_dropped j x.is.at x.is.hand x.is.before) x.is.did
  own_by (Some S.Memory) is m w = absurd (m refl)
  own_by (Some S.Flash) is m w = let x = w.broke S.Flash is in own_did x.left x.is.before (λ j. ap (filter (is_by j)) x.is.own ∙ stop_dropped j x.is.at x.is.hand x.is.before) x.is.did

module _ {F : Type 0} (old new : NodeView F) (d e : DrawerView) (events : List (List Event)) (counts : List ℕ) (dones : List Done) (sends : List (List Sent))
    (h : PairsSo old.machine.entries old.machine.moves sends d) (w : WasPhase old new d e events counts dones) (memory : HadMemory dones) (none : old.stops ≡ 0) (many : length sends ≡ length counts)
    (within : (x : ℕ) → Contains (all_of h.drawns) x → Contains d.drawn x) where
  abbrev came : CameTo old new
  came = came_to old new none w.front

  same_count : length sends ≡ length w.bearers
  same_count = omega (arith, many, ap length w.numbers, length-map w.before (λ b. b.number), w.long)

  dones_long : length dones ≡ length w.bearers
  dones_long = ap length w.left ∙ length-map w.bearers done_of

  pub done_at : (k : ℕ) (b : BearerOf F) → k < length w.bearers → slice_index_or dones k (done_of b) ≡ done_of (slice_index_or w.bearers k b)
  done_at k b lt = ap (λ xs. slice_index_or xs k (done_of b)) w.left ∙ index_map done_of w.bearers k b (done_of b) lt

  own_at : (k : ℕ) (b : BearerOf F) → k < length w.bearers → Own k (list_at events k) (slice_index_or w.bearers k b)
  own_at k b lt =
      let mine = slice_index_or w.bearers k b in
      own_by k (list_at events k) (slice_index_or w.before k b) mine mine.stop refl (λ is. memory k (done_of b) (omega (arith, lt, dones_long)) (ap (λ x. x.stop) (done_at k b lt) ∙ is))
      (w.worked k b (omega (arith, lt, w.long)))

  abbrev lists : List (List (ℕ × Mark))
  lists = [] ∷ map own_of w.bearers

  lists_long : length lists ≡ suc (length w.bearers)
  lists_long = ap suc (length-map w.bearers own_of)

  others : (k : ℕ) (b : BearerOf F) (j : ℕ) → j < length lists → j ≢ suc k → filter (is_by k) (slice_index_or lists j []) ≡ []
  others k b zero lt n = refl
  others k b (suc j) lt n =
      let here : j < length w.bearers = omega (arith, lt, lists_long) in
      ap (filter (is_by k)) (index_map own_of w.bearers j b [] here) ∙ (own_at j b here).other k (λ same. n (ap suc (sym same)))

  -- the entries of a bearer among those that came are its own
  entries_of : (k : ℕ) (b : BearerOf F) (lt : k < length w.bearers) → of_bearer k (placed_from (length old.machine.entries) came.more) ≡ (own_at k b lt).entries
  entries_of k b lt =
      let own = own_at k b lt in
      let mine = filter (is_by k) (own_of (slice_index_or w.bearers k b)) in
      let all : filter (is_by k) (added (node_marks old) (node_marks new)) ≡ mine =
      w.kept (is_by k) mine (kept_at (is_by k) (suc k) lists [] mine (omega (arith, lt, lists_long)) (ap (filter (is_by k)) (index_map own_of w.bearers k b [] lt)) (others k b)) in
      ap (of_bearer k) (sym came.placed) ∙ entries_of_bearer k (added (node_marks old) (node_marks new)) own.entries (subst (λ l. AreMarksAt l own.entries) (sym all) own.kept)

  placed_here : (at : ℕ) (entry : Entry) → slice_get new.machine.entries at ≡ Some entry → length old.machine.entries ≤ at
      → Contains (of_bearer entry.bearer (placed_from (length old.machine.entries) came.more)) (record { at = at; entry = entry })
  placed_here at entry here behind =
      let past = get_past old.machine.entries came.more at entry (ap (λ l. slice_get l at) (sym came.is) ∙ here) behind in
      let placed = subst (λ n. Contains (placed_from (length old.machine.entries) came.more) (record { at = n; entry = entry })) past.1 (placed_there (length old.machine.entries) came.more past.0 entry past.2) in
      kept_there (λ (p : Placed). p.entry.bearer == entry.bearer) (placed_from (length old.machine.entries) came.more) (record { at = at; entry = entry }) (is_bearer entry.bearer entry.bearer refl) placed

  own_here : (k : ℕ) (b : BearerOf F) (lt : k < length w.bearers) (at : ℕ) (entry : Entry) → slice_get new.machine.entries at ≡ Some entry → entry.bearer ≡ k → length old.machine.entries ≤ at
      → Contains (own_at k b lt).entries (record { at = at; entry = entry })
  own_here k b lt at entry here by behind =
      subst (λ l. Contains l (record { at = at; entry = entry })) (entries_of k b lt)
      (subst (λ m. Contains (of_bearer m (placed_from (length old.machine.entries) came.more)) (record { at = at; entry = entry })) by (placed_here at entry here behind))

  -- past the last bearer there are none
  entries_past : (k : ℕ) → length w.bearers ≤ k → of_bearer k (placed_from (length old.machine.entries) came.more) ≡ []
  entries_past k le =
      let all : filter (is_by k) (added (node_marks old) (node_marks new)) ≡ [] = w.kept (is_by k) [] (kept_at (is_by k) 0 lists [] [] (omega (arith, lists_long)) refl none_there) in
      ap (of_bearer k) (sym came.placed) ∙ entries_of_bearer k (added (node_marks old) (node_marks new)) [] (subst (λ l. AreMarksAt l []) (sym all) tt)
    where
      none_there : (j : ℕ) → j < length lists → j ≢ 0 → filter (is_by k) (slice_index_or lists j []) ≡ []
      none_there zero lt n = absurd (n refl)
      none_there (suc j) lt n =
          let here : j < length w.bearers = omega (arith, lt, lists_long) in
          let b = first_of w.bearers j here in
          ap (filter (is_by k)) (index_map own_of w.bearers j b [] here) ∙ (own_at j b here).other k (λ same. let one : k ≡ j = same in omega (arith, one, here, le))

  -- so an entry that came is of one of them
  pub bearer_within : (at : ℕ) (entry : Entry) → slice_get new.machine.entries at ≡ Some entry → length old.machine.entries ≤ at → entry.bearer < length w.bearers
  bearer_within at entry here behind = by_count (less_or entry.bearer (length w.bearers)) where
    by_count : (entry.bearer < length w.bearers) ⊎ (length w.bearers ≤ entry.bearer) → entry.bearer < length w.bearers
    by_count (inl lt) = lt
    by_count (inr le) =
        let c : Contains [] (record { at = at; entry = entry }) = subst (λ l. Contains l (record { at = at; entry = entry })) (entries_past entry.bearer le) (placed_here at entry here behind) in
        absurd (omega (arith, c.1))

  -- its lines are of these entries
  pub lines_behind : (k : ℕ) (b : BearerOf F) (lt : k < length w.bearers) → All (λ s. length old.machine.entries ≤ s.entry) (slice_index_or w.bearers k b).lines.items
  lines_behind k b lt =
      let n = length old.machine.entries in
      lines_from n (own_at k b lt).walks
      (subst (All (λ (p : Placed). n ≤ p.at)) (entries_of k b lt) (All-filter (λ (p : Placed). p.entry.bearer == k) (λ (p : Placed). n ≤ p.at) (placed_from n came.more) (placed_above n n came.more (omega arith))))
      (from_handles n (list_at events k))

  -- what the counter came to with one of these, that bearer saw
  moved_here : (k : ℕ) (b : BearerOf F) (lt : k < length w.bearers) (at : ℕ) (entry : Entry) → slice_get new.machine.entries at ≡ Some entry → entry.bearer ≡ k → length old.machine.entries ≤ at
      → IsMovedOver (slice_index_or w.bearers k b).pass.seen (slice_index_or w.bearers k b).lines.items (slice_index_or w.bearers k b).drawer (record { at = at; entry = entry })
  moved_here k b lt at entry here by behind =
      let mine = slice_index_or w.bearers k b in
      All-contains (IsMovedOver mine.pass.seen mine.lines.items mine.drawer) (own_at k b lt).entries (record { at = at; entry = entry }) (own_at k b lt).until (own_here k b lt at entry here by behind)

  near_here : (k : ℕ) (b : BearerOf F) (lt : k < length w.bearers) (at : ℕ) (entry : Entry) → slice_get new.machine.entries at ≡ Some entry → entry.bearer ≡ k → length old.machine.entries ≤ at
      → at < length (slice_index_or w.bearers k b).pass.seen
  near_here k b lt at entry here by behind =
      let mine = slice_index_or w.bearers k b in
      All-contains (λ (p : Placed). p.at < length mine.pass.seen) (own_at k b lt).entries (record { at = at; entry = entry }) (own_at k b lt).last (own_here k b lt at entry here by behind)

  rise_seen : (k : ℕ) (b : BearerOf F) (lt : k < length w.bearers) (at : ℕ) (entry : Entry) (move : ℕ) → slice_get new.machine.entries at ≡ Some entry → entry.bearer ≡ k → length old.machine.entries ≤ at
      → IsRiseAt new.machine.moves at move → IsReachedAt (slice_index_or w.bearers k b).pass.seen at move
  rise_seen k b lt at entry move here by behind rise =
      let mine = slice_index_or w.bearers k b in
      inl (rise_front mine.pass.seen (w.seen k b lt).rest at move (near_here k b lt at entry here by behind)
      (subst (λ l. IsRiseAt (map move_of l) at move) (w.seen k b lt).is (rise_marked new.machine.entries new.machine.moves new.counters (stop_marks new.stops (event_in new.machine.hand)) at entry move here rise)))

  pub count_seen : (k : ℕ) (b : BearerOf F) (lt : k < length w.bearers) (at : ℕ) (entry : Entry) (counter : ℕ) → slice_get new.machine.entries at ≡ Some entry → entry.bearer ≡ k → length old.machine.entries ≤ at
      → slice_get new.counters at ≡ Some counter → IsReachedAt (slice_index_or w.bearers k b).pass.seen at counter
  count_seen k b lt at entry counter here by behind has =
      let mine = slice_index_or w.bearers k b in
      inr (count_front mine.pass.seen (w.seen k b lt).rest at counter (near_here k b lt at entry here by behind)
      (subst (λ l. slice_get (map counter_of l) at ≡ Some counter) (w.seen k b lt).is (get_counter new.machine.entries new.machine.moves new.counters (stop_marks new.stops (event_in new.machine.hand)) at entry counter here has)))

  -- where it was moved before, the moves of before say so
  rise_before : (at : ℕ) (entry : Entry) (move : ℕ) → slice_get old.machine.entries at ≡ Some entry → IsRiseAt new.machine.moves at move → IsRiseAt old.machine.moves at move
  rise_before at entry move here rise =
      let es = old.machine.entries in
      let ms = old.machine.moves in
      let cs = old.counters in
      let plain : node_marks old ≡ handled_marks es ms cs = ap (λ n. marks_of es ms cs n old.machine.hand) none ∙ append-nil (handled_marks es ms cs) in
      let whole : node_marks new ≡ handled_marks es ms cs ++ w.front.rest = w.front.is ∙ ap (λ l. l ++ w.front.rest) plain in
      let now : slice_get new.machine.entries at ≡ Some entry = ap (λ l. slice_get l at) came.is ∙ get_longer es came.more at entry here in
      let there = get_there ms at (omega (arith, within_get es at entry here, h.long)) in
      rise_unmarked es ms cs w.front.rest at entry there.0 move here there.1
      (subst (λ l. IsRiseAt (map move_of l) at move) whole (rise_marked new.machine.entries new.machine.moves new.counters (stop_marks new.stops (event_in new.machine.hand)) at entry move now rise))

  -- lines of this phase, and what the counter came to with a later entry of an event from outside of the same bearer
  pub below_now : (k : ℕ) (b : BearerOf F) (lt : k < length w.bearers) (j : ℕ) (s : Sent) → j < length (slice_index_or w.bearers k b).lines.items → (line : Shown) (at : ℕ) (entry : Entry) (word : ℕ)
      → shown_of new.machine.entries (slice_index_or (slice_index_or w.bearers k b).lines.items j s) ≡ Some line → slice_get new.machine.entries at ≡ Some entry → entry.bearer ≡ k → is_outside entry.event ≡ true
      → (slice_index_or (slice_index_or w.bearers k b).lines.items j s).entry < at → (length old.machine.entries ≤ at → IsReachedAt (slice_index_or w.bearers k b).pass.seen at word) → IsToldBelow word line
  below_now k b lt j s in_lines line at entry word shown here by out before reached =
      let mine = slice_index_or w.bearers k b in
      let behind : length old.machine.entries ≤ at = omega (arith, lines_behind k b lt j s in_lines, before) in
      let own = (own_at k b lt).shown in
      let all = subst (λ ms. map (shown_in ms) mine.lines.items ≡ map Some own.shows) (sym (w.seen k b lt).is) (found_longer mine.pass.seen (w.seen k b lt).rest mine.lines.items own.shows own.found) in
      let found = found_entries new.machine.entries new.machine.moves new.counters new.stops (event_in new.machine.hand) mine.lines.items own.shows all in
      let same = same_each (shown_in mine.pass.seen) (shown_of new.machine.entries) mine.lines.items own.shows own.found found j s in_lines in
      (moved_here k b lt at entry here by behind).lines_are word out (reached behind) j s in_lines line before (same ∙ shown)

  until_now : (k : ℕ) (b : BearerOf F) (lt : k < length w.bearers) → All (IsUntilMove k new.machine.entries new.machine.moves) (slice_index_or w.bearers k b).lines.items
  until_now k b lt j s in_lines = λ line at entry move shown here by out before rise.
      below_now k b lt j s in_lines line at entry move shown here by out before (λ behind. rise_seen k b lt at entry move here by behind rise)

  -- what a line of before shows
  had_at : (k j : ℕ) → j < length (list_at sends k) → ShowsIn old.machine.entries old.machine.moves (list_at sends k) (list_at h.drawns k) d.looks
  had_at k j in_lines = shows_at old.machine.entries old.machine.moves sends h.drawns d.looks h.shown k j in_lines

  had_now : (k j : ℕ) (in_lines : j < length (list_at sends k)) → map (shown_of new.machine.entries) (list_at sends k) ≡ map Some (had_at k j in_lines).shows
  had_now k j in_lines =
      let had = had_at k j in_lines in
      subst (λ l. map (shown_of l) (list_at sends k) ≡ map Some had.shows) (sym came.is) (found_more old.machine.entries came.more (list_at sends k) had.shows had.found)

  pub shown_before : (k j : ℕ) (s : Sent) → j < length (list_at sends k) → shown_of old.machine.entries (slice_index_or (list_at sends k) j s) ≡ shown_of new.machine.entries (slice_index_or (list_at sends k) j s)
  shown_before k j s in_lines =
      let had = had_at k j in_lines in
      same_each (shown_of old.machine.entries) (shown_of new.machine.entries) (list_at sends k) had.shows had.found (had_now k j in_lines) j s in_lines

  pub entry_before : (at : ℕ) (entry : Entry) → slice_get new.machine.entries at ≡ Some entry → at < length old.machine.entries → slice_get old.machine.entries at ≡ Some entry
  entry_before at entry here early = sym (get_before old.machine.entries came.more at early) ∙ ap (λ l. slice_get l at) (sym came.is) ∙ here

  -- lines of before, and what the counter came to with an entry of this phase, whoever's: their words are among those that each bearer of this phase
  -- notes, and the ends that they tell among what it knows
  pub below_before : (k j : ℕ) (s : Sent) → j < length (list_at sends k) → (line : Shown) → shown_of new.machine.entries (slice_index_or (list_at sends k) j s) ≡ Some line
      → (m : ℕ) (b : BearerOf F) (lt : m < length w.bearers) (at : ℕ) (entry : Entry) (word : ℕ) → slice_get new.machine.entries at ≡ Some entry → entry.bearer ≡ m → length old.machine.entries ≤ at
      → IsReachedAt (slice_index_or w.bearers m b).pass.seen at word → IsToldBelow word line
  below_before k j s in_lines line shown m b lt at entry word here by late reached =
      let had = had_at k j in_lines in
      let now = had_now k j in_lines in
      let mine = (slice_index_or w.bearers m b).drawer in
      let worked = w.worked m b (omega (arith, lt, w.long)) in
      let noted : mine.noted ≡ d.noted ++ d.drawn = worked.noted ∙ w.noted m b (omega (arith, lt, w.long)) in
      let known : mine.known ≡ d.known ++ d.looks = worked.known ∙ w.known m b (omega (arith, lt, w.long)) in
      let over = (moved_here m b lt at entry here by late).before word reached in
      let spent = All-contains (λ (x : Shown). IsSpentSeen d.looks x.outcome) had.shows line had.spent (shown_there (shown_of new.machine.entries) (list_at sends k) had.shows now j s in_lines line shown) in
      record {
        draws = λ p draws.
            let drawn = subst (λ l. Contains l (word_of p)) had.drawing (drawn_here (shown_of new.machine.entries) (list_at sends k) had.shows now j s in_lines line p shown draws) in
            All-contains (λ x. x < word) mine.noted (word_of p) over.noted
            (subst (λ l. Contains l (word_of p)) (sym noted) (Contains-append_right d.noted d.drawn (word_of p) (within (word_of p) (all_at h.drawns k (word_of p) drawn))));
        ends = λ end told.
            let seen = end_seen d.looks line.outcome end spent told in
            All-contains (IsPast word) mine.known (saw.Counter end) over.known (subst (λ l. Contains l (saw.Counter end)) (sym known) (Contains-append_right d.known d.looks (saw.Counter end) seen));
      }

  until_before : (k : ℕ) (b : BearerOf F) → k < length w.bearers → All (IsUntilMove k new.machine.entries new.machine.moves) (list_at sends k)
  until_before k b lt j s in_lines = λ line at entry move shown here by out before rise. by_place line at entry move shown here by out before rise (less_or at (length old.machine.entries)) where
    by_place : (line : Shown) (at : ℕ) (entry : Entry) (move : ℕ) → shown_of new.machine.entries (slice_index_or (list_at sends k) j s) ≡ Some line
        → slice_get new.machine.entries at ≡ Some entry → entry.bearer ≡ k → is_outside entry.event ≡ true → (slice_index_or (list_at sends k) j s).entry < at → IsRiseAt new.machine.moves at move
        → (at < length old.machine.entries) ⊎ (length old.machine.entries ≤ at) → IsToldBelow move line
    by_place line at entry move shown here by out before rise (inl early) =
        let there = entry_before at entry here early in
        h.until k j s in_lines line at entry move (shown_before k j s in_lines ∙ shown) there by out before (rise_before at entry move there rise)
    by_place line at entry move shown here by out before rise (inr late) =
        below_before k j s in_lines line shown k b lt at entry move here by late (rise_seen k b lt at entry move here by late rise)

  pub until_more : (k : ℕ) → All (IsUntilMove k new.machine.entries new.machine.moves) (list_at (both_of sends (map lines_of dones)) k)
  until_more k = subst (All (IsUntilMove k new.machine.entries new.machine.moves)) (sym (list_at_both sends (map lines_of dones) k)) (by_bearer (less_or k (length w.bearers))) where
    by_bearer : (k < length w.bearers) ⊎ (length w.bearers ≤ k) → All (IsUntilMove k new.machine.entries new.machine.moves) (list_at sends k ++ list_at (map lines_of dones) k)
    by_bearer (inl lt) =
        let b = first_of w.bearers k lt in
        let mine : list_at (map lines_of dones) k ≡ (slice_index_or w.bearers k b).lines.items = list_at_map lines_of dones k (done_of b) (omega (arith, lt, dones_long)) ∙ ap lines_of (done_at k b lt) in
        All-append (IsUntilMove k new.machine.entries new.machine.moves) (list_at sends k) (list_at (map lines_of dones) k) (until_before k b lt)
        (subst (All (IsUntilMove k new.machine.entries new.machine.moves)) (sym mine) (until_now k b lt))
    by_bearer (inr le) =
        let one : list_at sends k ≡ [] = list_at_past sends k (omega (arith, le, same_count)) in
        let other : list_at (map lines_of dones) k ≡ [] = list_at_past (map lines_of dones) k (omega (arith, le, length-map dones lines_of, dones_long)) in
        subst (All (IsUntilMove k new.machine.entries new.machine.moves)) (sym (ap (λ l. l ++ list_at (map lines_of dones) k) one ∙ other)) (All-nil (IsUntilMove k new.machine.entries new.machine.moves))

-- before any phase there are no lines
pub no_line : (n k j : ℕ) → j < length (list_at {A = Sent} (replicate n []) k) → ⊥
no_line zero k j lt = omega (arith, lt)
no_line (suc n) zero j lt = omega (arith, lt)
no_line (suc n) (suc k) j lt = no_line n k j lt

pub no_until : (n : ℕ) (moves : List ℕ) (k : ℕ) → All (IsUntilMove k [] moves) (list_at (replicate n []) k)
no_until n moves k = λ j s lt. absurd (no_line n k j lt)

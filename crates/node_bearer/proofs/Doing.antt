-- What a bearer did, with one step more.
use Rattle.std.proofs.Common.{◌≡◌, ◌∙◌, ℕ, suc, ◌+◌, ◌^◌, ◌<◌, false, true≢false, true, List, [], ◌∷◌, ◌++◌, length, map, Option, Some, None, ◌⊎◌, inl, inr, refl, sym, ap, arith, subst, length-append, append-nil, append_assoc}
use Rattle.std.specs.Prelude.{◌*◌, ◌≤◌, All, AllPairs, IfSome, slice_get, slice_index_or}
use Rattle.std.specs.List.{Contains, range_with_len}
use Rattle.std.specs.Option.{option_map, option_to_list}
use Rattle.std.proofs.lemmas.List.{map-append}
use Rattle.std.proofs.lemmas.List.Elements.{All-append, All-cons, All-contains, All-head, All-nil, All-push, All-tail, All-weaker, Contains-append_left, Contains-append_right, filter_map-append}
use Rattle.mesh_base.specs.Pairs.{word_of}
use Rattle.mesh_base.specs.declared.pair.Pair.{Pair}
use Rattle.mesh_types.specs.declared.events.Event.{Event}
use Rattle.mesh_types.specs.declared.history.Entry.{Entry}
use Rattle.mesh_types.specs.declared.history.Sent.{Sent}
use Rattle.mesh_types.specs.declared.jobs.Job.{Job}
use Rattle.mesh_types.specs.declared.jobs.Job.TheVariants as J
use Rattle.mesh_types.specs.declared.lines.Outcome.{Outcome}
use Rattle.mesh_types.specs.declared.lines.Outcome.TheVariants as O
use Rattle.report_definitions.specs.Record.{Shown}
use Rattle.run_definitions.specs.Lines.{Shows, after_line, drawn_of, is_drawing, shows_spent}
use Rattle.run_definitions.specs.Order.{Placed, Task, follow, Walks, is_outside, job_tasks, stops, write, write_tasks, writes}
use Rattle.run_definitions.specs.RunOf.{draws, word_told, words_told}
use Rattle.seq_word.specs.Dry.{DryView}
use Rattle.seq_word.specs.Rule.{IsPast, times}
use Rattle.seq_word.specs.Seen.{AfterLost, DrawerView, HasCause, LostTries, SameDrawn, last_word}
use Rattle.seq_word.specs.Seen as seen
use Rattle.seq_word.specs.declared.looks.Look.{Look}
use Rattle.seq_word.specs.declared.looks.Look.TheVariants as saw
use Rattle.seq_word.specs.declared.miss.Miss.TheVariants as missed
use Rattle.turn_lock.specs.Entries.{IsPrefix, added}
use Rattle.locked_node.specs.declared.marks.Behind.{Behind}
use Rattle.locked_node.specs.declared.marks.Mark.{Mark}
use Rattle.locked_node.specs.declared.marks.Mark.TheVariants as M
use Rattle.node_bearer.specs.Did.{AreMarksAt, Did, DrewPair, IsFor, IsMovedOver, SawDry, SawEnd}
use Rattle.node_bearer.specs.Marked.{AreShown, HasJob, IsBehind, IsFrom, IsSpentSeen, counter_of, end_told, ends_told, move_of, shown_in, word_seen, words_seen}
use Rattle.node_bearer.proofs.Lists.{added_one, found_longer, from_more, marks_at_more, no_lower, pairs_more, range_more, times_append}
use Rattle.node_bearer.proofs.Moving.{behind_still, last_more, moved_here, moved_line, moved_more, moved_still, over_acted, over_follows}
use Rattle.node_bearer.proofs.Walking.{acts, walk_more}

-- more is seen of the marks
pub shown_more : (marks rest : List Mark) (lines : List Sent) (d : DrawerView) → AreShown marks lines d → AreShown (marks ++ rest) lines d
shown_more marks rest lines d h = record {
  shows = h.shows;
  found = found_longer marks rest lines h.shows h.found;
  short = h.short;
  drawing = h.drawing;
  seq = h.seq;
  spent = h.spent;
  own = h.own;
  onward = h.onward;
  behind = h.behind;
  from = from_more marks rest lines h.shows h.found h.from;
}

pub shown_prefix : (marks more : List Mark) (lines : List Sent) (d : DrawerView) → IsPrefix marks more → AreShown marks lines d → AreShown more lines d
shown_prefix marks more lines d p h = subst (λ ms. AreShown ms lines d) (sym p.is) (shown_more marks p.rest lines d h)

-- more looks
spent_more : (looks rest : List Look) (o : Outcome) → IsSpentSeen looks o → IsSpentSeen (looks ++ rest) o
spent_more looks rest (O.Spent iv) h = Contains-append_left looks rest _ h
spent_more looks rest _ h = tt

pub words_more : (x : ℕ) (looks rest : List Look) → times x (words_seen (looks ++ rest)) ≡ times x (words_seen looks) + times x (words_seen rest)
words_more x looks rest = ap (times x) (filter_map-append word_seen looks rest) ∙ times_append x (words_seen looks) (words_seen rest)

spent_front : (looks more : List Look) (o : Outcome) → seen.IsPrefix looks more → IsSpentSeen looks o → IsSpentSeen more o
spent_front looks more o front h = subst (λ ls. IsSpentSeen ls o) (sym front.is) (spent_more looks front.rest o h)

-- a seat that has looked more
shown_still : (marks : List Mark) (lines : List Sent) (d e : DrawerView) → e.drawn ≡ d.drawn → e.noted ≡ d.noted → e.known ≡ d.known → seen.IsPrefix d.looks e.looks
    → AreShown marks lines d → AreShown marks lines e
shown_still marks lines d e drawn noted known front h = record {
  shows = h.shows;
  found = h.found;
  short = h.short;
  drawing = h.drawing ∙ sym drawn;
  seq = h.seq;
  spent = λ k s lt. spent_front d.looks e.looks _ front (h.spent k s lt);
  own = λ x. omega (arith, h.own x, ap (λ l. times x (words_seen l)) front.is, words_more x d.looks front.rest);
  onward = h.onward;
  behind = All-weaker (IsBehind d) (IsBehind e) (behind_still d e noted known) (words_told h.shows) h.behind;
  from = h.from;
}

-- a line more: what it shows of its job, and the pair that it draws
found_here : (marks : List Mark) (at j : ℕ) (event : Event) (job : Job) (o : Outcome) (informed : List ℕ) (h : HasJob marks at j event job informed)
    → shown_in marks (record { entry = at; job = j; outcome = o }) ≡ Some (record { entry = h.entry.entry; job = job; outcome = o })
found_here marks at j event job o informed h =
    rw h.entry.here (rw (subst (λ js. slice_get js j ≡ Some job) (sym h.entry.jobs_are) h.place) refl)

-- The word that it tells is not below where the counter had been moved to behind its entry, nor below where it was then: the seat that drew or looked had been told of that.
from_here : (marks : List Mark) (at j : ℕ) (event : Event) (job : Job) (o : Outcome) (d : DrawerView) (w : Option ℕ) → HasJob marks at j event job d.informed → word_told job o ≡ w → IfSome w (seen.IsAbove d)
    → IsFrom marks (record { entry = at; job = j; outcome = o })
from_here marks at j event job o d w there tells above = λ line mark word shows here told.
    let e = there.entry.entry in
    let both : Some line ≡ Some (record { entry = e; job = job; outcome = o }) = sym shows ∙ found_here marks at j event job o d.informed there in
    let is : line ≡ record { entry = e; job = job; outcome = o } = cc in
    let behind = there.entry.behind in
    let marked : Some mark ≡ Some (M.Handled e behind) = sym here ∙ there.entry.here in
    let same : mark ≡ M.Handled e behind = cc in
    let over = subst (λ x. IfSome x (seen.IsAbove d)) (sym tells ∙ sym (ap (λ (x : Shown). word_told x.job x.outcome) is) ∙ told) above in
    let moved : behind.moved ≤ word = elim (there.entry.knows.moved) [
      | inl none ↦ omega (arith, none)
      | inr known ↦ All-contains (λ x. x ≤ word) d.informed behind.moved over.informed known
    ] in
    let counted : behind.counter ≤ word = All-contains (λ x. x ≤ word) d.informed behind.counter over.informed there.entry.knows.counter in
    subst (λ x. (move_of x ≤ word) × (counter_of x ≤ word)) (sym same) (moved, counted)

draws_one : (e : Entry) (job : Job) (o : Outcome) (p : Option Pair) → drawn_of job o ≡ p → draws (record { entry = e; job = job; outcome = o } ∷ []) ≡ option_to_list p
draws_one e job o None h = rw h refl
draws_one e job o (Some p) h = rw h refl

ends_one : (e : Entry) (job : Job) (o : Outcome) → ends_told (record { entry = e; job = job; outcome = o } ∷ []) ≡ option_to_list (end_told o)
ends_one e job (O.Spent iv) = refl
ends_one e job (O.Ctl pair ttl src dst tpdu pdu) = refl
ends_one e job (O.Msg pair ttl src dst key payload pdu) = refl
ends_one e job (O.Long pair ttl src dst key payload) = refl
ends_one e job (O.Seg pair ttl src dst seg_o seg_n auth pdu) = refl
ends_one e job (O.Relay pair ctl ttl src dst tpdu pdu) = refl
ends_one e job (O.Rep name pdu) = refl
ends_one e job (O.Bcn octets) = refl
ends_one e job (O.Late pair) = refl

-- the word that it tells
told_one : (e : Entry) (job : Job) (o : Outcome) (w : Option ℕ) → word_told job o ≡ w → words_told (record { entry = e; job = job; outcome = o } ∷ []) ≡ option_to_list w
told_one e job o None h = rw h refl
told_one e job o (Some w) h = rw h refl

-- where it draws a pair, or none, and doesn't say that no number was left
pub word_of_line : (job : Job) (o : Outcome) (p : Option Pair) → drawn_of job o ≡ p → end_told o ≡ None → word_told job o ≡ option_map word_of p
word_of_line job (O.Spent iv) p h none = cc
word_of_line job (O.Ctl pair ttl src dst tpdu pdu) p h none = ap (option_map word_of) h
word_of_line job (O.Msg pair ttl src dst key payload pdu) p h none = ap (option_map word_of) h
word_of_line job (O.Long pair ttl src dst key payload) p h none = ap (option_map word_of) h
word_of_line job (O.Seg pair ttl src dst seg_o seg_n auth pdu) p h none = ap (option_map word_of) h
word_of_line job (O.Relay pair ctl ttl src dst tpdu pdu) p h none = ap (option_map word_of) h
word_of_line job (O.Rep name pdu) p h none = ap (option_map word_of) h
word_of_line job (O.Bcn octets) p h none = ap (option_map word_of) h
word_of_line job (O.Late pair) p h none = ap (option_map word_of) h

-- What holds of the words drawn, and of each that a look found in the counter, holds of the words that lines tell.
pub told_each : (P : ℕ → Type 0) (looks : List Look) → ((x : ℕ) → Contains looks (saw.Counter x) → P x) → (shows : List Shown) → All P (map word_of (draws shows)) → All (λ s. IsSpentSeen looks s.outcome) shows
    → All P (words_told shows)
told_each P looks f [] drawn spent = All-nil P
told_each P looks f (s ∷ shows) drawn spent =
    by_line (λ more. told_each P looks f shows more (All-tail (λ (y : Shown). IsSpentSeen looks y.outcome) s shows spent)) s.outcome (drawn_of s.job s.outcome) refl refl
  where
    Rest : Type 0
    Rest = All P (map word_of (draws shows)) → All P (words_told shows)

    -- the line draws this, and doesn't say that no number was left
    by_pair : Rest → (p : Option Pair) → drawn_of s.job s.outcome ≡ p → word_told s.job s.outcome ≡ option_map word_of p → All P (words_told (s ∷ shows))
    by_pair rest None e w = rw w (rest (rw e at drawn))
    by_pair rest (Some p) e w =
        let all : All P (word_of p ∷ map word_of (draws shows)) = rw e at drawn in
        rw w (All-cons P (word_of p) (words_told shows) (All-head P (word_of p) (map word_of (draws shows)) all) (rest (All-tail P (word_of p) (map word_of (draws shows)) all)))

    by_line : Rest → (o : Outcome) (p : Option Pair) → s.outcome ≡ o → drawn_of s.job s.outcome ≡ p → All P (words_told (s ∷ shows))
    by_line rest (O.Spent iv) p is e =
        let none : drawn_of s.job s.outcome ≡ None = ap (drawn_of s.job) is in
        let told : word_told s.job s.outcome ≡ Some (iv * 2 ^ 25 + 2 ^ 24) = ap (word_told s.job) is in
        let here = subst (IsSpentSeen looks) is (All-head (λ (y : Shown). IsSpentSeen looks y.outcome) s shows spent) in
        rw told (All-cons P (iv * 2 ^ 25 + 2 ^ 24) (words_told shows) (f (iv * 2 ^ 25 + 2 ^ 24) here) (rest (rw none at drawn)))
    by_line rest o p is e = by_pair rest p e (word_of_line s.job s.outcome p e (ap end_told is))

-- a word that is above all that a seat drew and saw is not below one that its lines tell
told_up : (marks : List Mark) (lines : List Sent) (d : DrawerView) (w : ℕ) (h : AreShown marks lines d) → seen.IsAbove d w → All (λ x. x ≤ w) (words_told h.shows)
told_up marks lines d w h above =
    told_each (λ x. x ≤ w) d.looks (λ x c. All-contains (IsPast w) d.looks (saw.Counter x) above.looks c) h.shows
    (subst (All (λ x. x ≤ w)) (sym h.drawing) (λ k x lt. let below : slice_index_or d.drawn k x < w = above.drawn k x lt in omega (arith, below)))
    h.spent

-- With the seat of before, and as it is behind the draw of the line: what the line draws, and the word that it tells.
pub line_more : (marks : List Mark) (lines : List Sent) (d e : DrawerView) (at j : ℕ) (event : Event) (job : Job) (o : Outcome) (p : Option Pair) (w : Option ℕ)
    → AreShown marks lines d → e.drawn ≡ d.drawn ++ map word_of (option_to_list p) → e.noted ≡ d.noted → e.known ≡ d.known → seen.IsPrefix d.looks e.looks
    → HasJob marks at j event job d.informed → drawn_of job o ≡ p → All (λ q. q.seq < 2 ^ 24) (option_to_list p) → IsSpentSeen e.looks o
    → ((x : ℕ) → times x (option_to_list (end_told o)) + times x (words_seen d.looks) ≤ times x (words_seen e.looks))
    → word_told job o ≡ w → IfSome w (seen.IsAbove d)
    → AreShown marks (lines ++ record { entry = at; job = j; outcome = o } ∷ []) e
line_more marks lines d e at j event job o p w h drawn noted known front there drew seq spent own tells above =
    let line : Sent = record { entry = at; job = j; outcome = o } in
    let show : Shown = record { entry = there.entry.entry; job = job; outcome = o } in
    let draws_are : draws (h.shows ++ show ∷ []) ≡ draws h.shows ++ option_to_list p =
    filter_map-append (λ s. drawn_of s.job s.outcome) h.shows (show ∷ []) ∙ ap (λ l. draws h.shows ++ l) (draws_one there.entry.entry job o p drew) in
    let ends_are : ends_told (h.shows ++ show ∷ []) ≡ ends_told h.shows ++ option_to_list (end_told o) =
    filter_map-append (λ (s : Shown). end_told s.outcome) h.shows (show ∷ []) ∙ ap (λ l. ends_told h.shows ++ l) (ends_one there.entry.entry job o) in
    let told_are : words_told (h.shows ++ show ∷ []) ≡ words_told h.shows ++ option_to_list w =
    filter_map-append (λ (s : Shown). word_told s.job s.outcome) h.shows (show ∷ []) ∙ ap (λ l. words_told h.shows ++ l) (told_one there.entry.entry job o w tells) in
    let still = All-weaker (IsBehind d) (IsBehind e) (behind_still d e noted known) (words_told h.shows) h.behind in
    record {
      shows = h.shows ++ show ∷ [];
      found =
          map-append (shown_in marks) lines (line ∷ []) ∙ ap (λ l. l ++ map (shown_in marks) (line ∷ [])) h.found
          ∙ ap (λ x. map Some h.shows ++ x ∷ []) (found_here marks at j event job o d.informed there) ∙ sym (map-append Some h.shows (show ∷ []));
      short = All-push (λ (s : Sent). s.job + 1 < 2 ^ 8) lines line h.short there.short;
      drawing = ap (map word_of) draws_are ∙ map-append word_of (draws h.shows) (option_to_list p) ∙ ap (λ l. l ++ map word_of (option_to_list p)) h.drawing ∙ sym drawn;
      seq = subst (All (λ q. q.seq < 2 ^ 24)) (sym draws_are) (All-append (λ q. q.seq < 2 ^ 24) (draws h.shows) (option_to_list p) h.seq seq);
      spent = All-push (λ s. IsSpentSeen e.looks s.outcome) h.shows show (λ k s lt. spent_front d.looks e.looks _ front (h.spent k s lt)) spent;
      own = λ x. omega (arith, ap (times x) ends_are, times_append x (ends_told h.shows) (option_to_list (end_told o)), h.own x, own x);
      onward = subst (AllPairs (λ x y. x ≤ y)) (sym told_are) (onward_one w above);
      behind = subst (All (IsBehind e)) (sym told_are) (behind_one w still above);
      from = All-push (IsFrom marks) lines line h.from (from_here marks at j event job o d w there tells above);
    }
  where
    onward_one : (o : Option ℕ) → IfSome o (seen.IsAbove d) → AllPairs (λ x y. x ≤ y) (words_told h.shows ++ option_to_list o)
    onward_one None a = subst (AllPairs (λ x y. x ≤ y)) (sym (append-nil (words_told h.shows))) h.onward
    onward_one (Some x) a = no_lower (words_told h.shows) x h.onward (told_up marks lines d x h a)

    behind_one : (o : Option ℕ) → All (IsBehind e) (words_told h.shows) → IfSome o (seen.IsAbove d) → All (IsBehind e) (words_told h.shows ++ option_to_list o)
    behind_one None still a = subst (All (IsBehind e)) (sym (append-nil (words_told h.shows))) still
    behind_one (Some x) still a = All-push (IsBehind e) (words_told h.shows) x still (behind_still d e noted known x (record { noted = a.noted; known = a.known }))

-- no look is needed for a line that doesn't say so
pub no_end : (looks : List Look) (o : Outcome) → end_told o ≡ None → (x : ℕ) → times x (option_to_list (end_told o)) + times x (words_seen looks) ≤ times x (words_seen looks)
no_end looks o none x = rw none (let same : times x [] + times x (words_seen looks) ≤ times x (words_seen looks) = omega arith in same)

no_end_more : (looks more : List Look) (o : Outcome) → end_told o ≡ None → seen.IsPrefix looks more → (x : ℕ) → times x (option_to_list (end_told o)) + times x (words_seen looks) ≤ times x (words_seen more)
no_end_more looks more o none front x = omega (arith, no_end looks o none x, ap (λ l. times x (words_seen l)) front.is, words_more x looks front.rest)

same_looks : (looks : List Look) → seen.IsPrefix looks looks
same_looks looks = record { rest = []; is = sym (append-nil looks) }

module _ (k first : ℕ) (tasks : List Task) where
  -- an event was handled
  pub did_acted : (task : Task) (rest : List Task) (own : List (ℕ × Mark)) (marks ms : List Mark) (lines : List Sent) (number : ℕ) (d : DrawerView) (event : Event) (e : Entry) (behind : Behind)
      → IsFor event task → Did k first tasks (task ∷ rest) own marks lines number d → IsPrefix marks ms → e.event ≡ event → e.bearer ≡ k → e.number ≡ number + 1
      → (behind.moved ≡ last_word (map move_of ms)) ⊎ seen.IsAbove d behind.moved → seen.IsAbove d behind.counter
      → Did k first tasks (write_tasks (length ms) 0 event e.jobs ++ rest) (own ++ added ms (ms ++ M.Handled e behind ∷ [])) (ms ++ M.Handled e behind ∷ []) lines (number + 1) d
  did_acted task rest own marks ms lines number d event e behind is h front same by numbered until above =
      let p : Placed = record { at = length ms; entry = e } in
      let new = M.Handled e behind ∷ [] in
      let grown : ms ++ new ≡ marks ++ (front.rest ++ new) = ap (λ l. l ++ new) front.is ∙ append_assoc marks front.rest new in
      let before : All (λ q. q.at < length ms) h.entries = λ i q lt. let below : (slice_index_or h.entries i q).at < length marks = h.last i q lt in omega (arith, below, ap length front.is, length-append marks front.rest) in
      let n = length h.entries in
      let long : length (h.entries ++ p ∷ []) ≡ suc n = omega (arith, length-append h.entries (p ∷ [])) in
      let numbered' : e.number ≡ first + 1 + n = omega (arith, numbered, h.count) in
      let mine : map (λ (q : Placed). q.entry.number) (h.entries ++ p ∷ []) ≡ range_with_len (first + 1) (suc n) =
      map-append (λ (q : Placed). q.entry.number) h.entries (p ∷ []) ∙ ap (λ l. l ++ e.number ∷ []) h.numbers
      ∙ ap (λ x. range_with_len (first + 1) n ++ x ∷ []) numbered' ∙ sym (range_more (first + 1) n) in
      record {
        entries = h.entries ++ p ∷ [];
        own_are = subst (λ l. AreMarksAt (own ++ l) (h.entries ++ p ∷ [])) (sym (added_one ms (M.Handled e behind))) (marks_at_more own h.entries (length ms) e behind h.own_are);
        walks = subst (λ ev. Walks tasks (h.entries ++ p ∷ []) lines (write_tasks (length ms) 0 ev e.jobs ++ rest)) same
            (subst (λ ls. Walks tasks (h.entries ++ p ∷ []) ls (job_tasks p ++ rest)) (append-nil lines) (walk_more h.walks (acts event task rest p is same)));
        bearer = All-push (λ q. q.entry.bearer ≡ k) h.entries p h.bearer by;
        numbers = mine ∙ ap (range_with_len (first + 1)) (sym long);
        count = omega (arith, h.count, long);
        shown = shown_prefix marks (ms ++ new) lines d (record { rest = front.rest ++ new; is = grown }) h.shown;
        rise = h.rise;
        above = h.above;
        until = All-push (IsMovedOver (ms ++ new) lines d) h.entries p
            (subst (λ l. All (IsMovedOver l lines d) h.entries) (sym grown) (moved_more marks (front.rest ++ new) lines d h.entries h.shown h.last h.until))
            (moved_here ms lines d e behind (shown_prefix marks ms lines d front h.shown) until above);
        over = over_acted h.entries p event task rest is same before h.over;
        last = All-push (λ q. q.at < length (ms ++ new)) h.entries p (last_more ms new h.entries before) (omega (arith, length-append ms new));
      }

  -- more was seen
  pub did_seen : (left : List Task) (own : List (ℕ × Mark)) (marks ms : List Mark) (lines : List Sent) (number : ℕ) (d : DrawerView)
      → IsPrefix marks ms → Did k first tasks left own marks lines number d → Did k first tasks left own ms lines number d
  did_seen left own marks ms lines number d front h = record {
    entries = h.entries;
    own_are = h.own_are;
    walks = h.walks;
    bearer = h.bearer;
    numbers = h.numbers;
    count = h.count;
    shown = shown_prefix marks ms lines d front h.shown;
    rise = h.rise;
    above = h.above;
    until = subst (λ l. All (IsMovedOver l lines d) h.entries) (sym front.is) (moved_more marks front.rest lines d h.entries h.shown h.last h.until);
    over = h.over;
    last = subst (λ l. All (λ p. p.at < length l) h.entries) (sym front.is) (last_more marks front.rest h.entries h.last);
  }

  -- a look at the words gave no number
  pub did_looked : (left : List Task) (own : List (ℕ × Mark)) (marks : List Mark) (lines : List Sent) (number : ℕ) (d e : DrawerView)
      → e.drawn ≡ d.drawn → e.noted ≡ d.noted → e.known ≡ d.known → seen.IsPrefix d.looks e.looks → Did k first tasks left own marks lines number d
      → Did k first tasks left own marks lines number e
  did_looked left own marks lines number d e drawn noted known looks h = record {
    entries = h.entries;
    own_are = h.own_are;
    walks = h.walks;
    bearer = h.bearer;
    numbers = h.numbers;
    count = h.count;
    shown = shown_still marks lines d e drawn noted known looks h.shown;
    rise = subst (AllPairs (λ x y. x < y)) (sym drawn) h.rise;
    above = subst (λ ws. All (λ x. All (λ y. y < x) e.noted) ws) (sym drawn) (subst (λ ns. All (λ x. All (λ y. y < x) ns) d.drawn) (sym noted) h.above);
    until = moved_still marks lines d e h.entries noted known h.until;
    over = h.over;
    last = h.last;
  }

  -- a line that draws no pair
  pub did_written : (rest : List Task) (own : List (ℕ × Mark)) (marks : List Mark) (lines : List Sent) (number : ℕ) (d : DrawerView) (at j : ℕ) (event : Event) (job : Job) (o : Outcome) (after : List Event)
      → HasJob marks at j event job d.informed → Shows event job o → drawn_of job o ≡ None → IsSpentSeen d.looks o → end_told o ≡ None → after_line job o ≡ after → All (λ ev. is_outside ev ≡ false) after
      → Did k first tasks (write at j event job ∷ rest) own marks lines number d
      → Did k first tasks (map follow after ++ rest) own marks (lines ++ record { entry = at; job = j; outcome = o } ∷ []) number d
  did_written rest own marks lines number d at j event job o after there shows drawn spent none next inside h = record {
    entries = h.entries;
    own_are = h.own_are;
    walks = subst (λ es. Walks tasks es (lines ++ record { entry = at; job = j; outcome = o } ∷ []) (map follow after ++ rest)) (append-nil h.entries)
        (subst (λ l. Walks tasks (h.entries ++ []) (lines ++ record { entry = at; job = j; outcome = o } ∷ []) (map follow l ++ rest)) next (walk_more h.walks (writes shows stops)));
    bearer = h.bearer;
    numbers = h.numbers;
    count = h.count;
    shown = line_more marks lines d d at j event job o None None h.shown (sym (append-nil d.drawn)) refl refl (same_looks d.looks) there drawn (All-nil (λ q. q.seq < 2 ^ 24)) spent (no_end d.looks o none)
        (word_of_line job o None drawn none) tt;
    rise = h.rise;
    above = h.above;
    until = moved_line marks lines d d h.entries (record { entry = at; job = j; outcome = o }) refl refl h.over.0 h.until;
    over = over_follows h.entries after rest inside h.over.1;
    last = h.last;
  }

  -- a line with the pair that was drawn for it
  pub did_drawn : (rest : List Task) (own : List (ℕ × Mark)) (marks : List Mark) (lines : List Sent) (number : ℕ) (d e : DrawerView) (p : Pair) (at j : ℕ) (event : Event) (job : Job) (o : Outcome) (after : List Event)
      → HasJob marks at j event job e.informed → Shows event job o → drawn_of job o ≡ Some p → IsSpentSeen d.looks o → end_told o ≡ None → after_line job o ≡ after → All (λ ev. is_outside ev ≡ false) after → DrewPair p d e
      → Did k first tasks (write at j event job ∷ rest) own marks lines number d
      → Did k first tasks (map follow after ++ rest) own marks (lines ++ record { entry = at; job = j; outcome = o } ∷ []) number e
  did_drawn rest own marks lines number d e p at j event job o after there shows drawn spent none next inside new h =
      let line : List Sent = record { entry = at; job = j; outcome = o } ∷ [] in
      record {
        entries = h.entries;
        own_are = h.own_are;
        walks = subst (λ es. Walks tasks es (lines ++ line) (map follow after ++ rest)) (append-nil h.entries)
            (subst (λ l. Walks tasks (h.entries ++ []) (lines ++ line) (map follow l ++ rest)) next (walk_more h.walks (writes shows stops)));
        bearer = h.bearer;
        numbers = h.numbers;
        count = h.count;
        shown = line_more marks lines d e at j event job o (Some p) (Some (word_of p)) h.shown new.drawn new.noted new.known new.looks (subst (HasJob marks at j event job) new.informed there) drawn
            (All-cons (λ q. q.seq < 2 ^ 24) p [] new.seq (All-nil (λ q. q.seq < 2 ^ 24))) (spent_front d.looks e.looks o new.looks spent) (no_end_more d.looks e.looks o none new.looks)
            (word_of_line job o (Some p) drawn none) new.above;
        rise = subst (AllPairs (λ x y. x < y)) (sym new.drawn) (pairs_more d.drawn (word_of p) h.rise new.above.drawn);
        above = subst (λ ws. All (λ x. All (λ y. y < x) e.noted) ws) (sym new.drawn) (subst (λ ns. All (λ x. All (λ y. y < x) ns) (d.drawn ++ word_of p ∷ [])) (sym new.noted)
            (All-push (λ x. All (λ y. y < x) d.noted) d.drawn (word_of p) h.above new.above.noted));
        until = moved_line marks lines d e h.entries (record { entry = at; job = j; outcome = o }) new.noted new.known h.over.0 h.until;
        over = over_follows h.entries after rest inside h.over.1;
        last = h.last;
      }

  -- a line that says that no number was left, with the look that found that
  pub did_spent : (rest : List Task) (own : List (ℕ × Mark)) (marks : List Mark) (lines : List Sent) (number : ℕ) (d e : DrawerView) (at j : ℕ) (event : Event) (job : Job) (iv : ℕ)
      → HasJob marks at j event job e.informed → is_drawing job ≡ true → after_line job (O.Spent iv) ≡ [] → SawEnd iv d e
      → Did k first tasks (write at j event job ∷ rest) own marks lines number d
      → Did k first tasks rest own marks (lines ++ record { entry = at; job = j; outcome = O.Spent iv } ∷ []) number e
  did_spent rest own marks lines number d e at j event job iv there draws' next new h =
      let line : List Sent = record { entry = at; job = j; outcome = O.Spent iv } ∷ [] in
      record {
        entries = h.entries;
        own_are = h.own_are;
        walks = subst (λ es. Walks tasks es (lines ++ line) rest) (append-nil h.entries)
            (subst (λ l. Walks tasks (h.entries ++ []) (lines ++ line) (map follow l ++ rest)) next (walk_more h.walks (writes (shows_spent draws') stops)));
        bearer = h.bearer;
        numbers = h.numbers;
        count = h.count;
        shown = line_more marks lines d e at j event job (O.Spent iv) None (Some (iv * 2 ^ 25 + 2 ^ 24)) h.shown (new.drawn ∙ sym (append-nil d.drawn)) new.noted new.known new.looks (subst (HasJob marks at j event job) new.informed there) refl
            (All-nil (λ q. q.seq < 2 ^ 24)) new.here new.once_more refl new.above;
        rise = subst (AllPairs (λ x y. x < y)) (sym new.drawn) h.rise;
        above = subst (λ ws. All (λ x. All (λ y. y < x) e.noted) ws) (sym new.drawn) (subst (λ ns. All (λ x. All (λ y. y < x) ns) d.drawn) (sym new.noted) h.above);
        until = moved_line marks lines d e h.entries (record { entry = at; job = j; outcome = O.Spent iv }) new.noted new.known h.over.0 h.until;
        over = h.over.1;
        last = h.last;
      }

-- tries that were lost have looked
lost_looks : (tries : List (ℕ × ℕ)) (v w : DrawerView) → LostTries tries v w → seen.IsPrefix v.looks w.looks
lost_looks [] v w h = record { rest = []; is = ap (λ d. d.looks) h ∙ sym (append-nil v.looks) }
lost_looks (t ∷ tries) v w (u, before, same, (mark, looks, more, below, seq)) =
    let front = lost_looks tries v u before in
    record {
      rest = front.rest ++ saw.Mark mark ∷ saw.Counter t.0 ∷ saw.Counter t.1 ∷ [];
      is = looks ∙ ap (λ l. l ++ saw.Mark mark ∷ saw.Counter t.0 ∷ saw.Counter t.1 ∷ []) front.is ∙ append_assoc v.looks front.rest (saw.Mark mark ∷ saw.Counter t.0 ∷ saw.Counter t.1 ∷ []);
    }

-- a draw that found the end of an IV Index
pub saw_end : (iv : ℕ) (d e : DrawerView) → SameDrawn d e → AfterLost (HasCause (missed.Spent iv)) d e → seen.IsAbove d (iv * 2 ^ 25 + 2 ^ 24) → SawEnd iv d e
saw_end iv d e same (tries, u, lost, (mark, looks)) above =
    let front = lost_looks tries d u lost in
    let last : List Look = saw.Mark mark ∷ saw.Counter (iv * 2 ^ 25 + 2 ^ 24) ∷ [] in
    record {
      drawn = same.drawn;
      noted = same.noted;
      known = same.known;
      informed = same.informed;
      above = above;
      looks = record { rest = front.rest ++ last; is = looks ∙ ap (λ l. l ++ last) front.is ∙ append_assoc d.looks front.rest last };
      here = subst (λ l. Contains l (saw.Counter (iv * 2 ^ 25 + 2 ^ 24))) (sym looks) (Contains-append_right u.looks last (saw.Counter (iv * 2 ^ 25 + 2 ^ 24)) (1, omega arith, refl));
      once_more = λ x. omega (
        arith,
        ap (λ l. times x (words_seen l)) looks,
        words_more x u.looks last,
        ap (λ l. times x (words_seen l)) front.is,
        words_more x d.looks front.rest,
      );
    }

-- a draw that found the counter at the mark
pub saw_dry : (dry : DryView) (d e : DrawerView) → AfterLost (HasCause (missed.Dry dry)) d e → SawDry e
saw_dry dry d e (tries, u, lost, (looks, reached, seq, which)) = record { before = u.looks; mark = dry.mark; counter = dry.next; looks = looks; reached = reached }

-- a line with a pair, or of a job that draws none, doesn't say that no number was left
pub unspent_drawn : (looks : List Look) (job : Job) (o : Outcome) (p : Pair) → drawn_of job o ≡ Some p → IsSpentSeen looks o
unspent_drawn looks job (O.Spent iv) p e = cc
unspent_drawn looks job _ p e = tt

pub no_end_drawn : (job : Job) (o : Outcome) (p : Pair) → drawn_of job o ≡ Some p → end_told o ≡ None
no_end_drawn job (O.Spent iv) p e = cc
no_end_drawn job _ p e = refl

pub no_end_plain : (event : Event) (job : Job) (o : Outcome) → is_drawing job ≡ false → Shows event job o → end_told o ≡ None
no_end_plain event job (O.Spent iv) e (shows_spent d) = absurd (true≢false (sym d ∙ e))
no_end_plain event job _ e h = refl

pub unspent_plain : (looks : List Look) (event : Event) (job : Job) (o : Outcome) → is_drawing job ≡ false → Shows event job o → IsSpentSeen looks o
unspent_plain looks event job (O.Spent iv) e (shows_spent d) = absurd (true≢false (sym d ∙ e))
unspent_plain looks event job _ e h = tt

pub after_spent : (job : Job) (iv : ℕ) → after_line job (O.Spent iv) ≡ []
after_spent (J.Relay material fields) iv = refl
after_spent (J.Control material ttl src dst tpdu keep) iv = refl
after_spent (J.Message net material key ttl src dst payload keep) iv = refl
after_spent (J.Sent net material key ttl src dst) iv = refl
after_spent (J.Segment s) iv = refl
after_spent (J.Repeat name octets) iv = refl
after_spent (J.Beacon octets) iv = refl

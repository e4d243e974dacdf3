-- The lines of one phase more, and their pairs.
use Rattle.std.proofs.Common.{◌≡◌, ◌≢◌, ◌∙◌, inr, ⊎_elim, ℕ, zero, suc, ◌+◌, ◌<◌, Bool, true, false, List, [], ◌∷◌, ◌++◌, length, map, Option, Some, None, refl, sym, ap, subst, arith, append-nil}
use Rattle.std.specs.Prelude.{◌≤◌, ◌^◌, ◌==◌, All, AllPairs, option_and_then, replicate, slice_index_or}
use Rattle.std.specs.List.{Contains, filter, filter_map, flat_map, slice_get}
use Rattle.std.proofs.lemmas.List.Sums.{length-filter}
use Rattle.node_phase.proofs.Mine.{kept_no, kept_yes}
use Rattle.std.specs.Option.{option_map}
use Rattle.std.proofs.lemmas.List.{length-map, map-append}
use Rattle.std.proofs.lemmas.List.Elements.{All-append, All-cons, All-contains, All-nil, All-head, All-tail, Contains-append_left, Contains-append_right, Contains-get_or, filter_map-append}
use Rattle.std.proofs.lemmas.List.Kept.{AllPairs-cons}
use Rattle.std.proofs.lemmas.Bool.Decides.{nat_tests}
use Rattle.mesh_base.specs.Pairs.{word_of}
use Rattle.mesh_base.specs.declared.pair.Pair.{Pair}
use Rattle.machine_contract.specs.declared.answers.Stop.{Stop}
use Rattle.machine_contract.specs.declared.answers.Stop.TheVariants as S
use Rattle.mesh_types.specs.declared.events.Event.{Event}
use Rattle.mesh_types.specs.declared.history.Entry.{Entry}
use Rattle.mesh_types.specs.declared.history.Sent.{Sent}
use Rattle.mesh_types.specs.declared.lines.Outcome.{Outcome}
use Rattle.mesh_types.specs.declared.lines.Outcome.TheVariants as O
use Rattle.report_definitions.specs.Record.{Shown, list_at, shown_of}
use Rattle.run_definitions.specs.Lines.{drawn_of}
use Rattle.run_definitions.specs.Order.{Task, handle}
use Rattle.run_definitions.specs.RunOf.{draws, word_told, words_told}
use Rattle.seq_word.specs.Rule.{IsPast, times}
use Rattle.seq_word.specs.Seen.{DrawerView}
use Rattle.seq_word.specs.declared.looks.Look.{Look}
use Rattle.seq_word.specs.declared.looks.Look.TheVariants as saw
use Rattle.locked_node.specs.declared.marks.Behind.{Behind}
use Rattle.locked_node.specs.declared.marks.Mark.{Mark}
use Rattle.locked_node.specs.declared.marks.Mark.TheVariants as M
use Rattle.locked_node.specs.Node.{NodeView, event_in, handled_marks, node_marks, stop_marks}
use Rattle.node_bearer.specs.Did.{BearerOf, Did}
use Rattle.node_bearer.specs.Marked.{AreShown, HasOwnLooks, IsFrom, IsSpentSeen, end_told, ends_told, shown_at, shown_in, words_seen}
use Rattle.node_bearer.proofs.Doing.{shown_prefix, told_each, words_more}
use Rattle.node_bearer.proofs.Lists.{times_append}
use Rattle.node_phase.specs.declared.bearers.Done.{Done}
use Rattle.node_phase.specs.Part.{HadMemory, lines_of, number_at}
use Rattle.node_phase.specs.Worked.{WasPhase, Worked, done_of, drawn_by, looks_by}
use Rattle.node_phase.proofs.Parting.{index_map}
use Rattle.life_laws.specs.Pairs.{AreShownBy, IsFromMove, PairsSo, ShowsIn, all_of, all_shown}
use Rattle.life_laws.specs.Phases.{both_of}
use Rattle.life_laws.proofs.Placing.{CameTo, IsWordOf, behind_at, came_to, mark_there, no_item, word_at}
use Rattle.life_laws.proofs.Rising.{until_more}
use Rattle.life_laws.proofs.Showing.{found_each, found_entries, found_more, shown_of_more}

abbrev shown_by : Sent → Entry → Option Shown
shown_by s e = option_map (λ job. record { entry = e; job = job; outcome = s.outcome }) (slice_get e.jobs s.job)

entry_there : (es : List Entry) (s : Sent) (y : Shown) (o : Option Entry) → slice_get es s.entry ≡ o → option_and_then (shown_by s) o ≡ Some y → (e : Entry) × (slice_get es s.entry ≡ Some e)
entry_there es s y None is h = let bad : None ≡ Some y = h in absurd (no_item 0 y bad)
entry_there es s y (Some e) is h = (e, is)

-- the words that lines tell, and what stands behind their entries
from_behind : (es : List Entry) (ms cs ws : List ℕ) (rest : List Mark) (f : Behind → ℕ) → ((i : ℕ) → f (behind_at ms cs i) ≡ number_at ws i) → (s : Sent)
    → ((line : Shown) (e : Entry) (behind : Behind) (word : ℕ) → shown_in (handled_marks es ms cs ++ rest) s ≡ Some line → slice_get (handled_marks es ms cs ++ rest) s.entry ≡ Some (M.Handled e behind)
    → word_told line.job line.outcome ≡ Some word → f behind ≤ word) → IsFromMove es ws s
from_behind es ms cs ws rest f is s h = λ line move word shown has told.
    let there = entry_there es s line (slice_get es s.entry) refl shown in
    let behind = behind_at ms cs s.entry in
    let mark = mark_there es ms cs rest s.entry there.0 there.1 in
    let same : shown_in (handled_marks es ms cs ++ rest) s ≡ shown_by s there.0 = ap (option_and_then (λ m. shown_at m s)) mark in
    let other : shown_of es s ≡ shown_by s there.0 = ap (option_and_then (shown_by s)) there.1 in
    let over : f behind ≤ word = h line there.0 behind word (same ∙ sym other ∙ shown) mark told in
    subst (λ x. x ≤ word) (is s.entry ∙ word_at ws s.entry move has) over

from_marks : (es : List Entry) (ms cs : List ℕ) (rest : List Mark) (s : Sent) → IsFrom (handled_marks es ms cs ++ rest) s → IsFromMove es ms s
from_marks es ms cs rest s h = from_behind es ms cs ms rest (λ behind. behind.moved) (λ i. refl) s (λ line e behind word shown mark told. (h line (M.Handled e behind) word shown mark told).0)

from_counts : (es : List Entry) (ms cs : List ℕ) (rest : List Mark) (s : Sent) → IsFrom (handled_marks es ms cs ++ rest) s → IsFromMove es cs s
from_counts es ms cs rest s h = from_behind es ms cs cs rest (λ behind. behind.counter) (λ i. refl) s (λ line e behind word shown mark told. (h line (M.Handled e behind) word shown mark told).1)

-- more looks
spent_in : (looks more : List Look) (o : Outcome) → ((x : Look) → Contains looks x → Contains more x) → IsSpentSeen looks o → IsSpentSeen more o
spent_in looks more (O.Spent iv) f h = f _ h
spent_in looks more _ f h = tt

-- what stood behind entries of before stands there still
abbrev pub AreKept : List Entry → List ℕ → List ℕ → Type 0
AreKept es ms ns = (i move : ℕ) (e : Entry) → slice_get es i ≡ Some e → slice_get ns i ≡ Some move → IsWordOf ms i move

least : (move word : ℕ) → move ≡ 0 → move ≤ word
least move word none = omega (arith, none)

pub from_more : (es new : List Entry) (ms ns : List ℕ) (came : List Entry) → new ≡ es ++ came → AreKept es ms ns → (s : Sent) (y : Shown) → shown_of es s ≡ Some y → IsFromMove es ms s → IsFromMove new ns s
from_more es new ms ns came is kept s y found h = λ line move word shown has told.
    let there = entry_there es s y (slice_get es s.entry) refl found in
    let now : shown_of new s ≡ Some y = subst (λ l. shown_of l s ≡ Some y) (sym is) (shown_of_more es came s y (slice_get es s.entry) refl found) in
    let same : Some y ≡ Some line = sym now ∙ shown in
    ⊎_elim (least move word) (λ had. h line move word (found ∙ same) had told) (kept s.entry move there.0 there.1 has)

shows_more : (es new : List Entry) (ms ns : List ℕ) (lines : List Sent) (drawn : List ℕ) (looks more : List Look) (came : List Entry) → new ≡ es ++ came → AreKept es ms ns → ((x : Look) → Contains looks x → Contains more x)
    → ShowsIn es ms lines drawn looks → ShowsIn new ns lines drawn more
shows_more es new ms ns lines drawn looks more came is kept f h = record {
  shows = h.shows;
  found = subst (λ l. map (shown_of l) lines ≡ map Some h.shows) (sym is) (found_more es came lines h.shows h.found);
  short = h.short;
  drawing = h.drawing;
  seq = h.seq;
  spent = λ k d lt. spent_in looks more _ f (h.spent k d lt);
  onward = h.onward;
  from = λ k s lt. let y = found_each (shown_of es) lines h.shows h.found k s lt in from_more es new ms ns came is kept (slice_index_or lines k s) y.0 y.1 (h.from k s lt);
}

pairs_append : (R : ℕ → ℕ → Type 0) (xs ys : List ℕ) → AllPairs R xs → AllPairs R ys → All (λ y. All (λ x. R x y) xs) ys → AllPairs R (xs ++ ys)
pairs_append R [] ys p q h = q
pairs_append R (x ∷ xs) ys p q h =
    AllPairs-cons R x (xs ++ ys)
    (All-append (R x) xs ys (λ k d lt. p 0 (suc k) d (omega arith) (omega (arith, lt))) (λ k d lt. All-head (λ z. R z (slice_index_or ys k d)) x xs (h k d lt)))
    (pairs_append R xs ys (λ i j d lt within. p (suc i) (suc j) d (omega (arith, lt)) (omega (arith, within))) q (λ k d lt. All-tail (λ z. R z (slice_index_or ys k d)) x xs (h k d lt)))

-- lines behind others
shows_both : (es : List Entry) (ms : List ℕ) (a b : List Sent) (v w : List ℕ) (looks : List Look) (h : ShowsIn es ms a v looks) (k : ShowsIn es ms b w looks) → All (λ y. All (λ x. x ≤ y) (words_told h.shows)) (words_told k.shows)
    → ShowsIn es ms (a ++ b) (v ++ w) looks
shows_both es ms a b v w looks h k over =
    let told : words_told (h.shows ++ k.shows) ≡ words_told h.shows ++ words_told k.shows = filter_map-append (λ (s : Shown). word_told s.job s.outcome) h.shows k.shows in
    let more : draws (h.shows ++ k.shows) ≡ draws h.shows ++ draws k.shows = filter_map-append (λ (s : Shown). drawn_of s.job s.outcome) h.shows k.shows in
    record {
      shows = h.shows ++ k.shows;
      found = map-append (shown_of es) a b ∙ ap (λ l. l ++ map (shown_of es) b) h.found ∙ ap (λ l. map Some h.shows ++ l) k.found ∙ sym (map-append Some h.shows k.shows);
      short = All-append (λ (s : Sent). s.job + 1 < 2 ^ 8) a b h.short k.short;
      drawing = ap (map word_of) more ∙ map-append word_of (draws h.shows) (draws k.shows) ∙ ap (λ l. l ++ map word_of (draws k.shows)) h.drawing ∙ ap (λ l. v ++ l) k.drawing;
      seq = subst (All (λ p. p.seq < 2 ^ 24)) (sym more) (All-append (λ p. p.seq < 2 ^ 24) (draws h.shows) (draws k.shows) h.seq k.seq);
      spent = All-append (λ s. IsSpentSeen looks s.outcome) h.shows k.shows h.spent k.spent;
      onward = subst (AllPairs (λ x y. x ≤ y)) (sym told) (pairs_append (λ x y. x ≤ y) (words_told h.shows) (words_told k.shows) h.onward k.onward over);
      from = All-append (IsFromMove es ms) a b h.from k.from;
    }

-- how often a word stands there
abbrev is_word : ℕ → ℕ → Bool
is_word x y = y == x

times_kept : (x : ℕ) (xs : List ℕ) → times x xs ≡ length (filter (is_word x) xs)
times_kept x xs = sym (length-filter (is_word x) xs)

word_is : (x y : ℕ) → y ≡ x → is_word x y ≡ true
word_is x y e = grind (arith, nat_tests)

is_word_of : (x y : ℕ) → is_word x y ≡ true → y ≡ x
is_word_of x y e = grind (arith, nat_tests)

contains_kept : (x : ℕ) (xs : List ℕ) → Contains xs x → 0 < length (filter (is_word x) xs)
contains_kept x [] (k, lt, e) = absurd (omega (arith, lt))
contains_kept x (y ∷ xs) (zero, lt, e) = omega (arith, ap length (kept_yes (is_word x) y xs (word_is x y e)))
contains_kept x (y ∷ xs) (suc k, lt, e) = by_test (is_word x y) refl (contains_kept x xs (k, omega (arith, lt), e)) where
  by_test : (b : Bool) → is_word x y ≡ b → 0 < length (filter (is_word x) xs) → 0 < length (filter (is_word x) (y ∷ xs))
  by_test true here h = omega (arith, ap length (kept_yes (is_word x) y xs here))
  by_test false other h = omega (arith, h, ap length (kept_no (is_word x) y xs other))

contains_times : (x : ℕ) (xs : List ℕ) → Contains xs x → 0 < times x xs
contains_times x xs h = omega (arith, contains_kept x xs h, times_kept x xs)

kept_contains : (x : ℕ) (xs : List ℕ) → 0 < length (filter (is_word x) xs) → Contains xs x
kept_contains x [] h = absurd (omega (arith, h))
kept_contains x (y ∷ xs) h = by_test (is_word x y) refl (kept_contains x xs) where
  by_test : (b : Bool) → is_word x y ≡ b → (0 < length (filter (is_word x) xs) → Contains xs x) → Contains (y ∷ xs) x
  by_test true here rest = (0, omega arith, is_word_of x y here)
  by_test false other rest =
      let c = rest (omega (arith, h, ap length (kept_no (is_word x) y xs other))) in
      (suc c.0, omega (arith, c.1), c.2)

times_contains : (x : ℕ) (xs : List ℕ) → 0 < times x xs → Contains xs x
times_contains x xs h = kept_contains x xs (omega (arith, h, times_kept x xs))

contains_flat : {A B : Type 0} (f : A → List B) (xs : List A) (k : ℕ) (d : A) (x : B) → k < length xs → Contains (f (slice_index_or xs k d)) x → Contains (flat_map f xs) x
contains_flat f [] k d x lt h = absurd (omega (arith, lt))
contains_flat f (y ∷ xs) zero d x lt h = Contains-append_left (f y) (flat_map f xs) x h
contains_flat f (y ∷ xs) (suc k) d x lt h = Contains-append_right (f y) (flat_map f xs) x (contains_flat f xs k d x (omega (arith, lt)) h)

-- a word is above all that was drawn before the phase, and not below what looks had found in the counter
record IsOver (d : DrawerView) (word : ℕ) : Type 0 where
  pub drawn : All (λ x. x < word) d.drawn
  pub looks : All (IsPast word) d.looks

-- what one bearer did in the phase, among the entries and the looks behind it
record ShownOf {F : Type 0} (entries : List Entry) (ms : List ℕ) (d : DrawerView) (looks : List Look) (b : BearerOf F) : Type 0 where
  pub shown : ShowsIn entries ms b.lines.items b.drawer.drawn looks
  pub rise : AllPairs (λ x y. x < y) b.drawer.drawn
  pub above : All (λ x. All (λ y. y < x) d.drawn) b.drawer.drawn
  pub over : All (IsOver d) (words_told shown.shows)

-- the word of a line is not below one that is told by lines of before
over_told : (entries : List Entry) (ms : List ℕ) (lines : List Sent) (w : List ℕ) (d : DrawerView) (h : ShowsIn entries ms lines w d.looks) → ((x : ℕ) → Contains w x → Contains d.drawn x) → (word : ℕ) → IsOver d word
    → All (λ x. x ≤ word) (words_told h.shows)
over_told entries ms lines w d h within word over =
    told_each (λ x. x ≤ word) d.looks (λ x c. All-contains (IsPast word) d.looks (saw.Counter x) over.looks c) h.shows
    (subst (All (λ x. x ≤ word)) (sym h.drawing)
    (λ k x lt. let below : slice_index_or w k x < word = All-contains (λ y. y < word) d.drawn (slice_index_or w k x) over.drawn (within (slice_index_or w k x) (Contains-get_or w k x lt)) in omega (arith, below)))
    h.spent

-- each list of bearers, behind those of before
shown_all : {F : Type 0} (entries : List Entry) (ms : List ℕ) (d : DrawerView) (looks : List Look) (f : (x : Look) → Contains d.looks x → Contains looks x) (sends : List (List Sent)) (drawns : List (List ℕ)) (bs : List (BearerOf F))
    → AreShownBy entries ms sends drawns d.looks → ((x : ℕ) → Contains (all_of drawns) x → Contains d.drawn x) → All (ShownOf entries ms d looks) bs → length sends ≡ length bs
    → AreShownBy entries ms (both_of sends (map lines_of (map done_of bs))) (both_of drawns (map drawn_by bs)) looks
unfolding shows_more
shown_all entries ms d looks f [] [] [] h within each same = tt
shown_all entries ms d looks f [] [] (b ∷ bs) h within each same = absurd (omega (arith, same))
shown_all entries ms d looks f [] (w ∷ drawns) bs h within each same = absurd h
shown_all entries ms d looks f (s ∷ sends) [] bs h within each same = absurd h
shown_all entries ms d looks f (s ∷ sends) (w ∷ drawns) [] h within each same = absurd (omega (arith, same))
shown_all entries ms d looks f (s ∷ sends) (w ∷ drawns) (b ∷ bs) h within each same =
    let one = All-head (ShownOf entries ms d looks) b bs each in
    let below : All (λ y. All (λ x. x < y) w) b.drawer.drawn =
    λ k e lt j f lt'. All-contains (λ x. x < slice_index_or b.drawer.drawn k e) d.drawn (slice_index_or w j f) (one.above k e lt)
    (within (slice_index_or w j f) (Contains-append_left w (all_of drawns) (slice_index_or w j f) (Contains-get_or w j f lt'))) in
    let over : All (λ y. All (λ x. x ≤ y) (words_told h.0.shows)) (words_told one.shown.shows) =
    λ k e lt. over_told entries ms s w d h.0 (λ x c. within x (Contains-append_left w (all_of drawns) x c)) (slice_index_or (words_told one.shown.shows) k e) (one.over k e lt) in (
      shows_both entries ms s b.lines.items w b.drawer.drawn looks (shows_more entries entries ms ms s w d.looks looks [] (sym (append-nil entries)) (λ i move e here has. inr has) f h.0) one.shown over,
      pairs_append (λ a b. a < b) w b.drawer.drawn h.1 one.rise below,
      shown_all entries ms d looks f sends drawns bs h.2 (λ x c. within x (Contains-append_right w (all_of drawns) x c)) (All-tail (ShownOf entries ms d looks) b bs each) (omega (arith, same)),
    )

shown_later : (es new : List Entry) (ms ns : List ℕ) (looks more : List Look) (came : List Entry) → new ≡ es ++ came → AreKept es ms ns → ((x : Look) → Contains looks x → Contains more x)
    → (sends : List (List Sent)) (drawns : List (List ℕ)) → AreShownBy es ms sends drawns looks → AreShownBy new ns sends drawns more
shown_later es new ms ns looks more came is kept f [] [] h = tt
shown_later es new ms ns looks more came is kept f [] (w ∷ drawns) h = absurd h
shown_later es new ms ns looks more came is kept f (s ∷ sends) [] h = absurd h
shown_later es new ms ns looks more came is kept f (s ∷ sends) (w ∷ drawns) h = (shows_more es new ms ns s w looks more came is kept f h.0, h.1, shown_later es new ms ns looks more came is kept f sends drawns h.2)

flat_of : {F : Type 0} (bs : List (BearerOf F)) → all_of (map drawn_by bs) ≡ flat_map drawn_by bs
flat_of [] = refl
flat_of (b ∷ bs) = ap (λ l. b.drawer.drawn ++ l) (flat_of bs)

counted_both : {F : Type 0} (x : ℕ) (drawns : List (List ℕ)) (bs : List (BearerOf F)) → times x (all_of (both_of drawns (map drawn_by bs))) ≡ times x (all_of drawns) + times x (flat_map drawn_by bs)
counted_both x [] bs = omega (arith, ap (times x) (flat_of bs))
counted_both x (w ∷ drawns) [] = omega arith
counted_both x (w ∷ drawns) (b ∷ bs) =
    omega (
      arith,
      times_append x (w ++ b.drawer.drawn) (all_of (both_of drawns (map drawn_by bs))),
      times_append x w b.drawer.drawn,
      counted_both x drawns bs,
      times_append x w (all_of drawns),
      times_append x b.drawer.drawn (flat_map drawn_by bs),
    )

-- what a bearer showed, whether it stopped or not
record Showed {F : Type 0} (b : BearerOf F) : Type 0 where
  pub shown : AreShown b.pass.seen b.lines.items b.drawer
  pub rise : AllPairs (λ x y. x < y) b.drawer.drawn
  pub above : All (λ x. All (λ y. y < x) b.drawer.noted) b.drawer.drawn

module _ {F : Type 0} (k : ℕ) (events : List Event) (old b : BearerOf F) where
  showed_did : (first : ℕ) (tasks left : List Task) (own : List (ℕ × Mark)) → Did k first tasks left own b.pass.seen b.lines.items b.number b.drawer → Showed b
  showed_did first tasks left own h = record { shown = h.shown; rise = h.rise; above = h.above }

  showed_by : (s : Option Stop) → b.stop ≡ s → s ≢ Some S.Memory → Worked k events old b → Showed b
  showed_by None is m w = showed_did old.number (map handle events) [] b.pass.own (w.did is)
  showed_by (Some S.Closed) is m w = let x = w.broke S.Closed is in showed_did old.number (map handle events) x.left x.is.before x.is.did
  showed_by (Some S.Memory) is m w = absurd (m refl)
  showed_by (Some S.Flash) is m w = let x = w.broke S.Flash is in showed_did old.number (map handle events) x.left x.is.before x.is.did

all_right : {A : Type 0} (P : A → Type 0) (xs ys : List A) → All P (xs ++ ys) → All P ys
all_right P xs ys h k d lt = All-contains P (xs ++ ys) (slice_index_or ys k d) h (Contains-append_right xs ys (slice_index_or ys k d) (Contains-get_or ys k d lt))

pub filter_found : {A B : Type 0} (f : A → Option B) (xs : List A) (ys : List B) → map f xs ≡ map Some ys → filter_map f xs ≡ ys
filter_found f [] [] h = refl
filter_found f [] (y ∷ ys) h = cc
filter_found f (x ∷ xs) [] h = cc
filter_found f (x ∷ xs) (y ∷ ys) h =
    let head : f x ≡ Some y = cc in
    let tail : map f xs ≡ map Some ys = cc in
    rw head (ap (λ l. y ∷ l) (filter_found f xs ys tail))

-- What lines say to be spent: as often as that stands in them, under entries and under more.
abbrev ends_of : List Entry → List Sent → List ℕ
ends_of es lines = ends_told (filter_map (shown_of es) lines)

ends_cons : (x : ℕ) (es : List Entry) (s : List Sent) (sends : List (List Sent)) → times x (ends_told (all_shown es (s ∷ sends))) ≡ times x (ends_of es s) + times x (ends_told (all_shown es sends))
ends_cons x es s sends =
    ap (times x) (filter_map-append (λ (y : Shown). end_told y.outcome) (filter_map (shown_of es) s) (all_shown es sends)) ∙ times_append x (ends_of es s) (ends_told (all_shown es sends))

ends_append : (x : ℕ) (es : List Entry) (a b : List Sent) → times x (ends_of es (a ++ b)) ≡ times x (ends_of es a) + times x (ends_of es b)
ends_append x es a b =
    ap (λ l. times x (ends_told l)) (filter_map-append (shown_of es) a b)
    ∙ ap (times x) (filter_map-append (λ (y : Shown). end_told y.outcome) (filter_map (shown_of es) a) (filter_map (shown_of es) b)) ∙ times_append x (ends_of es a) (ends_of es b)

ends_later : (x : ℕ) (es new : List Entry) (ms : List ℕ) (looks : List Look) (came : List Entry) → new ≡ es ++ came → (sends : List (List Sent)) (drawns : List (List ℕ)) → AreShownBy es ms sends drawns looks
    → times x (ends_told (all_shown new sends)) ≡ times x (ends_told (all_shown es sends))
ends_later x es new ms looks came is [] [] h = refl
ends_later x es new ms looks came is [] (w ∷ drawns) h = absurd h
ends_later x es new ms looks came is (s ∷ sends) [] h = absurd h
ends_later x es new ms looks came is (s ∷ sends) (w ∷ drawns) h =
    let now : map (shown_of new) s ≡ map Some h.0.shows = subst (λ l. map (shown_of l) s ≡ map Some h.0.shows) (sym is) (found_more es came s h.0.shows h.0.found) in
    let one : ends_of new s ≡ ends_of es s = ap ends_told (filter_found (shown_of new) s h.0.shows now ∙ sym (filter_found (shown_of es) s h.0.shows h.0.found)) in
    omega (arith, ends_cons x new s sends, ends_cons x es s sends, ap (times x) one, ends_later x es new ms looks came is sends drawns h.2)

-- bearers that each have looks of their own
abbrev HasOwn : {F : Type 0} → ℕ → List Entry → BearerOf F → Type 0
HasOwn x es b = times x (ends_of es b.lines.items) ≤ times x (words_seen b.drawer.looks)

own_of_all : {F : Type 0} (x : ℕ) (es : List Entry) (bs : List (BearerOf F)) → All (HasOwn x es) bs
    → times x (ends_told (all_shown es (map lines_of (map done_of bs)))) ≤ times x (words_seen (flat_map looks_by bs))
own_of_all x es [] each = omega arith
own_of_all x es (b ∷ bs) each =
    omega (
      arith,
      ends_cons x es b.lines.items (map lines_of (map done_of bs)),
      words_more x b.drawer.looks (flat_map looks_by bs),
      All-head (HasOwn x es) b bs each,
      own_of_all x es bs (All-tail (HasOwn x es) b bs each),
    )

own_both : {F : Type 0} (x : ℕ) (es : List Entry) (sends : List (List Sent)) (bs : List (BearerOf F)) → All (HasOwn x es) bs
    → times x (ends_told (all_shown es (both_of sends (map lines_of (map done_of bs))))) ≤ times x (ends_told (all_shown es sends)) + times x (words_seen (flat_map looks_by bs))
own_both x es [] bs each = omega (arith, own_of_all x es bs each)
own_both x es (s ∷ sends) [] each = omega arith
own_both x es (s ∷ sends) (b ∷ bs) each =
    omega (
      arith,
      ends_cons x es (s ++ b.lines.items) (both_of sends (map lines_of (map done_of bs))),
      ends_append x es s b.lines.items,
      ends_cons x es s sends,
      words_more x b.drawer.looks (flat_map looks_by bs),
      All-head (HasOwn x es) b bs each,
      own_both x es sends bs (All-tail (HasOwn x es) b bs each),
    )

pub within_drawn : (drawns : List (List ℕ)) (d : List ℕ) → ((x : ℕ) → times x (all_of drawns) ≡ times x d) → (x : ℕ) → Contains (all_of drawns) x → Contains d x
within_drawn drawns d counted x c = times_contains x d (omega (arith, counted x, contains_times x (all_of drawns) c))

module _ {F : Type 0} (old new : NodeView F) (d e : DrawerView) (events : List (List Event)) (counts : List ℕ) (dones : List Done) (sends : List (List Sent))
    (h : PairsSo old.machine.entries old.machine.moves sends d) (w : WasPhase old new d e events counts dones) (memory : HadMemory dones) (none : old.stops ≡ 0) (many : length sends ≡ length counts)
    (long : length new.machine.moves ≡ length new.machine.entries) where
  abbrev came : CameTo old new
  came = came_to old new none w.front

  same_count : length sends ≡ length w.bearers
  same_count = omega (arith, many, ap length w.numbers, length-map w.before (λ b. b.number), w.long)

  dones_long : length dones ≡ length w.bearers
  dones_long = ap length w.left ∙ length-map w.bearers done_of

  had_memory : (k : ℕ) (b : BearerOf F) → k < length w.bearers → (slice_index_or w.bearers k b).stop ≢ Some S.Memory
  had_memory k b lt is =
      memory k (done_of b) (omega (arith, lt, dones_long)) (ap (λ xs. (slice_index_or xs k (done_of b)).stop) w.left ∙ ap (λ x. x.stop) (index_map done_of w.bearers k b (done_of b) lt) ∙ is)

  abbrev stops : List Mark
  stops = stop_marks new.stops (event_in new.machine.hand)

  each : All (ShownOf new.machine.entries new.machine.moves d e.looks) w.bearers
  each k b lt =
      let mine = slice_index_or w.bearers k b in
      let within : k < length w.before = omega (arith, lt, w.long) in
      let worked = w.worked k b within in
      let showed = showed_by k (list_at events k) (slice_index_or w.before k b) mine mine.stop refl (had_memory k b lt) worked in
      let shown = shown_prefix mine.pass.seen (node_marks new) mine.lines.items mine.drawer (w.seen k b lt) showed.shown in
      let noted : mine.drawer.noted ≡ d.noted ++ d.drawn = worked.noted ∙ w.noted k b within in
      let known : mine.drawer.known ≡ d.known ++ d.looks = worked.known ∙ w.known k b within in
      record {
        shown = record {
          shows = shown.shows;
          found = found_entries new.machine.entries new.machine.moves new.counters new.stops (event_in new.machine.hand) mine.lines.items shown.shows shown.found;
          short = shown.short;
          drawing = shown.drawing;
          seq = shown.seq;
          spent = λ j s lt'. spent_in mine.drawer.looks e.looks _ (λ x c. subst (λ l. Contains l x) (sym w.looks) (Contains-append_right d.looks (flat_map looks_by w.bearers) x (contains_flat looks_by w.bearers k b x lt c))) (shown.spent j s lt');
          onward = shown.onward;
          from = λ j s lt'. from_marks new.machine.entries new.machine.moves new.counters stops _ (shown.from j s lt');
        };
        rise = showed.rise;
        above = λ j x lt'. all_right (λ y. y < slice_index_or mine.drawer.drawn j x) d.noted d.drawn (subst (All (λ y. y < slice_index_or mine.drawer.drawn j x)) noted (showed.above j x lt'));
        over = λ j x lt'.
            let word = slice_index_or (words_told shown.shows) j x in
            let behind = shown.behind j x lt' in
            record {
              drawn = all_right (λ y. y < word) d.noted d.drawn (subst (All (λ y. y < word)) noted behind.noted);
              looks = all_right (IsPast word) d.known d.looks (subst (All (IsPast word)) known behind.known);
            };
      }

  -- and where the counter was
  pub each_counted : All (λ b. All (IsFromMove new.machine.entries new.counters) b.lines.items) w.bearers
  each_counted k b lt =
      let mine = slice_index_or w.bearers k b in
      let showed = showed_by k (list_at events k) (slice_index_or w.before k b) mine mine.stop refl (had_memory k b lt) (w.worked k b (omega (arith, lt, w.long))) in
      let shown = shown_prefix mine.pass.seen (node_marks new) mine.lines.items mine.drawer (w.seen k b lt) showed.shown in
      λ j s lt'. from_counts new.machine.entries new.machine.moves new.counters stops _ (shown.from j s lt')

  each_own : (x : ℕ) → All (HasOwn x new.machine.entries) w.bearers
  each_own x k b lt =
      let mine = slice_index_or w.bearers k b in
      let showed = showed_by k (list_at events k) (slice_index_or w.before k b) mine mine.stop refl (had_memory k b lt) (w.worked k b (omega (arith, lt, w.long))) in
      let shown = shown_prefix mine.pass.seen (node_marks new) mine.lines.items mine.drawer (w.seen k b lt) showed.shown in
      let are = filter_found (shown_of new.machine.entries) mine.lines.items shown.shows (found_entries new.machine.entries new.machine.moves new.counters new.stops (event_in new.machine.hand) mine.lines.items shown.shows shown.found) in
      subst (λ l. times x (ends_told l) ≤ times x (words_seen mine.drawer.looks)) (sym are) (shown.own x)

  own_more : HasOwnLooks (ends_told (all_shown new.machine.entries (both_of sends (map lines_of dones)))) e.looks
  own_more x =
      let both : times x (ends_told (all_shown new.machine.entries (both_of sends (map lines_of dones)))) ≤ times x (ends_told (all_shown new.machine.entries sends)) + times x (words_seen (flat_map looks_by w.bearers)) =
      subst (λ ds. times x (ends_told (all_shown new.machine.entries (both_of sends (map lines_of ds)))) ≤ times x (ends_told (all_shown new.machine.entries sends)) + times x (words_seen (flat_map looks_by w.bearers)))
      (sym w.left) (own_both x new.machine.entries sends w.bearers (each_own x)) in
      omega (
        arith,
        both,
        ends_later x old.machine.entries new.machine.entries old.machine.moves d.looks came.more came.is sends h.drawns h.shown,
        h.own x,
        ap (λ l. times x (words_seen l)) w.looks,
        words_more x d.looks (flat_map looks_by w.bearers),
      )

  pub pairs_more : PairsSo new.machine.entries new.machine.moves (both_of sends (map lines_of dones)) e
  pairs_more = record {
    drawns = both_of h.drawns (map drawn_by w.bearers);
    shown = subst (λ ds. AreShownBy new.machine.entries new.machine.moves (both_of sends (map lines_of ds)) (both_of h.drawns (map drawn_by w.bearers)) e.looks) (sym w.left)
        (shown_all new.machine.entries new.machine.moves d e.looks (λ x c. subst (λ l. Contains l x) (sym w.looks) (Contains-append_left d.looks (flat_map looks_by w.bearers) x c)) sends h.drawns w.bearers
        (shown_later old.machine.entries new.machine.entries old.machine.moves new.machine.moves d.looks d.looks came.more came.is came.moved (λ x c. c) sends h.drawns h.shown)
        (within_drawn h.drawns d.drawn h.counted) each same_count);
    counted = λ x. omega (arith, counted_both x h.drawns w.bearers, h.counted x, ap (times x) w.drawn, times_append x d.drawn (flat_map drawn_by w.bearers));
    own = own_more;
    long = omega (arith, long);
    until = until_more old new d e events counts dones sends h w memory none many (within_drawn h.drawns d.drawn h.counted);
  }

-- The lines of all bearers together.
pub record Sum (entries : List Entry) (sends : List (List Sent)) (drawns : List (List ℕ)) (looks : List Look) : Type 0 where
  pub drawing : map word_of (draws (flat_map (filter_map (shown_of entries)) sends)) ≡ all_of drawns
  pub seq : All (λ p. p.seq < 2 ^ 24) (draws (flat_map (filter_map (shown_of entries)) sends))
  pub spent : All (λ s. IsSpentSeen looks s.outcome) (flat_map (filter_map (shown_of entries)) sends)

pub sum_up : (entries : List Entry) (ms : List ℕ) (sends : List (List Sent)) (drawns : List (List ℕ)) (looks : List Look) → AreShownBy entries ms sends drawns looks → Sum entries sends drawns looks
sum_up entries ms [] [] looks h = record { drawing = refl; seq = All-nil (λ p. p.seq < 2 ^ 24); spent = All-nil (λ (s : Shown). IsSpentSeen looks s.outcome) }
sum_up entries ms [] (w ∷ drawns) looks h = absurd h
sum_up entries ms (s ∷ sends) [] looks h = absurd h
sum_up entries ms (s ∷ sends) (w ∷ drawns) looks h =
    let rest = sum_up entries ms sends drawns looks h.2 in
    let others = flat_map (filter_map (shown_of entries)) sends in
    let mine = filter_found (shown_of entries) s h.0.shows h.0.found in
    let all : filter_map (shown_of entries) s ++ others ≡ h.0.shows ++ others = ap (λ l. l ++ others) mine in
    let more : draws (filter_map (shown_of entries) s ++ others) ≡ draws h.0.shows ++ draws others = ap draws all ∙ filter_map-append (λ (x : Shown). drawn_of x.job x.outcome) h.0.shows others in
    record {
      drawing = ap (map word_of) more ∙ map-append word_of (draws h.0.shows) (draws others) ∙ ap (λ l. l ++ map word_of (draws others)) h.0.drawing ∙ ap (λ l. w ++ l) rest.drawing;
      seq = subst (All (λ p. p.seq < 2 ^ 24)) (sym more) (All-append (λ p. p.seq < 2 ^ 24) (draws h.0.shows) (draws others) h.0.seq rest.seq);
      spent = subst (All (λ x. IsSpentSeen looks x.outcome)) (sym all) (All-append (λ (x : Shown). IsSpentSeen looks x.outcome) h.0.shows others h.0.spent rest.spent);
    }

-- from words to their pairs
pub all_words : (P : ℕ → Type 0) (ps : List Pair) (ws : List ℕ) → map word_of ps ≡ ws → All P ws → All (λ p. P (word_of p)) ps
all_words P ps ws is h k p lt = subst P (index_map word_of ps k p (word_of p) lt) (subst (All P) (sym is) h k (word_of p) (omega (arith, lt, length-map ps word_of)))

pub pairs_words : (R : ℕ → ℕ → Type 0) (ps : List Pair) (ws : List ℕ) → map word_of ps ≡ ws → AllPairs R ws → AllPairs (λ p q. R (word_of p) (word_of q)) ps
pairs_words R ps ws is h i j p lt within =
    let long = length-map ps word_of in
    subst (λ x. R x (word_of (slice_index_or ps j p))) (index_map word_of ps i p (word_of p) (omega (arith, lt, within)))
    (subst (λ y. R (slice_index_or (map word_of ps) i (word_of p)) y) (index_map word_of ps j p (word_of p) within)
    (subst (AllPairs R) (sym is) h i j (word_of p) lt (omega (arith, within, long))))

pub rise_at : (entries : List Entry) (ms : List ℕ) (sends : List (List Sent)) (drawns : List (List ℕ)) (looks : List Look) → AreShownBy entries ms sends drawns looks
    → (k : ℕ) → AllPairs (λ p q. word_of p < word_of q) (draws (filter_map (shown_of entries) (list_at sends k)))
rise_at entries ms [] [] looks h k = λ i j p lt within. absurd (omega (arith, within))
rise_at entries ms [] (w ∷ drawns) looks h k = absurd h
rise_at entries ms (s ∷ sends) [] looks h k = absurd h
rise_at entries ms (s ∷ sends) (w ∷ drawns) looks h zero =
    pairs_words (λ a b. a < b) (draws (filter_map (shown_of entries) s)) w (ap (λ l. map word_of (draws l)) (filter_found (shown_of entries) s h.0.shows h.0.found) ∙ h.0.drawing) h.1
rise_at entries ms (s ∷ sends) (w ∷ drawns) looks h (suc k) = rise_at entries ms sends drawns looks h.2 k

pub onward_at : (entries : List Entry) (ms : List ℕ) (sends : List (List Sent)) (drawns : List (List ℕ)) (looks : List Look) → AreShownBy entries ms sends drawns looks
    → (k : ℕ) → AllPairs (λ x y. x ≤ y) (words_told (filter_map (shown_of entries) (list_at sends k)))
onward_at entries ms [] [] looks h k = λ i j x lt within. absurd (omega (arith, within))
onward_at entries ms [] (w ∷ drawns) looks h k = absurd h
onward_at entries ms (s ∷ sends) [] looks h k = absurd h
onward_at entries ms (s ∷ sends) (w ∷ drawns) looks h zero = subst (λ l. AllPairs (λ x y. x ≤ y) (words_told l)) (sym (filter_found (shown_of entries) s h.0.shows h.0.found)) h.0.onward
onward_at entries ms (s ∷ sends) (w ∷ drawns) looks h (suc k) = onward_at entries ms sends drawns looks h.2 k

pub from_all : (entries : List Entry) (ms : List ℕ) (sends : List (List Sent)) (drawns : List (List ℕ)) (looks : List Look) → AreShownBy entries ms sends drawns looks → All (All (IsFromMove entries ms)) sends
from_all entries ms [] [] looks h = All-nil (All (IsFromMove entries ms))
from_all entries ms [] (w ∷ drawns) looks h = absurd h
from_all entries ms (s ∷ sends) [] looks h = absurd h
from_all entries ms (s ∷ sends) (w ∷ drawns) looks h = All-cons (All (IsFromMove entries ms)) s sends h.0.from (from_all entries ms sends drawns looks h.2)

pub no_pairs : (n : ℕ) (ms : List ℕ) (looks : List Look) → AreShownBy [] ms (replicate n []) (replicate n []) looks
no_pairs zero ms looks = tt
no_pairs (suc n) ms looks = (
  record { shows = []; found = refl; short = All-nil (λ (s : Sent). s.job + 1 < 2 ^ 8); drawing = refl; seq = All-nil (λ p. p.seq < 2 ^ 24); spent = All-nil (λ (s : Shown). IsSpentSeen looks s.outcome); onward = λ i j x lt within. absurd (omega (arith, within)); from = All-nil (IsFromMove [] ms) },
  (λ i j d lt within. absurd (omega (arith, within))),
  no_pairs n ms looks,
)

pub no_ends : (n : ℕ) (looks : List Look) → HasOwnLooks (ends_told (all_shown [] (replicate n []))) looks
no_ends zero looks = λ x. omega arith
no_ends (suc n) looks = no_ends n looks

pub empty_all : {A : Type 0} (n : ℕ) → all_of {A = A} (replicate n []) ≡ []
empty_all zero = refl
empty_all (suc n) = empty_all n

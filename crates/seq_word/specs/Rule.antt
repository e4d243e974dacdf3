-- What the two words and the seats at them keep between any two atomic steps, and what each step does to the view of its seat.
-- Word 0 is the counter: the next number to draw. Word 1 is the mark: no number at or above it is drawn.
use Rattle.std.specs.Prelude.{◌≡◌, ◌≢◌, ◌⊎◌, ℕ, ◌+◌, ◌-◌, ◌^◌, ◌<◌, ◌≤◌, ◌==◌, ◌&&◌, ◌||◌, max, nat_lt, nat_le, if◌then◌else◌, true, false, List, [], ◌∷◌, ◌++◌, All, fold, map, slice_index, sum_by, count_by, ⊤}
use Rattle.std.specs.List.{Contains}
use mathlib.Core.Option.{some}
use lib.ListN.{get_elem?}
use Rattle.atomic_table.specs.Table.{State, Me, Step}
use Rattle.seq_word.specs.declared.looks.Look.{Look}
use Rattle.seq_word.specs.declared.looks.Look.TheVariants as saw
use Rattle.seq_word.specs.declared.rule.View.{View}
use Rattle.seq_word.specs.Word.{IsWord, seq_of}

-- how often a word stands in a list
abbrev pub times : ℕ → List ℕ → ℕ
times x words = count_by (λ y. y == x) words

-- 1 where x is below n, else 0
abbrev pub once_below : ℕ → ℕ → ℕ
once_below x n = if nat_lt x n then 1 else 0

-- how many advances passed x over: each found the counter at or below x, and moved it above x
abbrev pub passed_over : ℕ → List (ℕ × ℕ) → ℕ
passed_over x advances = count_by (λ a. nat_le a.0 x && nat_lt x a.1) advances

-- how often x went by at this seat: it was drawn there, or passed over
abbrev pub gone : ℕ → View → ℕ
gone x v = times x v.drawn + passed_over x v.advances

-- a look found at most the mark, or at most the counter
abbrev pub IsWithin : ℕ → ℕ → Look → Type 0
IsWithin next mark (saw.Mark found) = found ≤ mark
IsWithin next mark (saw.Counter found) = found ≤ next

-- the word is not below what a look found in the counter
abbrev pub IsPast : ℕ → Look → Type 0
IsPast word (saw.Mark found) = ⊤
IsPast word (saw.Counter found) = found ≤ word

-- how often x was drawn at this seat
abbrev pub drawn_here : ℕ → View → ℕ
drawn_here x v = times x v.drawn

-- A word at the end of its IV Index came into the counter by the opening, or by a draw of the last number under that, at some seat.
abbrev pub IsReached : ℕ → List View → ℕ → Type 0
IsReached opened views word =
    seq_of word ≡ 2 ^ 24 → (word ≡ opened) ⊎ (1 ≤ sum_by (drawn_here (word - 1)) views)

-- so did one that a look found in the counter
abbrev pub HasReached : ℕ → List View → Look → Type 0
HasReached opened views (saw.Mark found) = ⊤
HasReached opened views (saw.Counter found) = IsReached opened views found

-- and these words have that number
abbrev pub IsEndOf : ℕ → List ℕ → Look → Type 0
IsEndOf opened words (saw.Mark found) = ⊤
IsEndOf opened words (saw.Counter found) = seq_of found ≡ 2 ^ 24 → (found ≡ opened) ⊎ Contains words (found - 1)

-- 1 where the seat owes the counter a word above this one, else 0
abbrev pub owes_above : ℕ → View → ℕ
owes_above next v = once_below next v.owes

-- the counter has reached the word, or a seat owes it one above where it is
abbrev pub IsPromised : ℕ → List View → ℕ → Type 0
IsPromised next views word = (word ≤ next) ⊎ (1 ≤ sum_by (owes_above next) views)

-- what is still owed where a look found this: nothing that the counter was found to have reached
abbrev pub owed_behind : Look → ℕ → ℕ
owed_behind (saw.Mark found) owes = owes
owed_behind (saw.Counter found) owes = if nat_le owes found then 0 else owes

-- one above the word that the last of these looks at the counter found; 0 where there is none
abbrev pub next_above : ℕ → Look → ℕ
next_above word (saw.Mark found) = word
next_above word (saw.Counter found) = found + 1

abbrev pub above_last : List Look → ℕ
above_last looks = fold next_above 0 looks

-- What holds of the view of the seat `by`, where the counter was opened at `opened` and is `next`, and the mark is `mark`,
-- which the seat `keeper` keeps
pub record Fits (opened next mark keeper by : ℕ) (v : View) : Type 0 where
  -- each word drawn here is at least the opening, and below the counter
  pub since : All (λ x. opened ≤ x) v.drawn
  pub drawn : All (λ x. x < next) v.drawn
  -- the counter has not gone below what a draw here left in it
  pub raised : All (λ x. x ≤ next) v.raised
  -- nor below where this seat found it
  pub counters : All (λ x. x ≤ next) v.counters
  -- each word that was drawn where this seat was split off is below the counter
  pub noted : All (λ x. x < next) v.noted
  -- each mark seen is at most the mark, and each word seen in the counter at most the counter
  pub looks : All (IsWithin next mark) v.looks
  -- so is what looks found at the seat from which this one was split off
  pub known : All (IsWithin next mark) v.known
  -- the counter has not gone below where the keeper had moved it to, as this seat was told
  pub informed : All (λ x. x ≤ next) v.informed
  -- the counter has not gone below where the keeper moved it to
  pub advances : All (λ a. a.1 ≤ next) v.advances
  -- only the keeper's seat keeps a mark, and that is the mark
  pub keeps : v.keeps ≡ true → (by ≡ keeper) × (v.mark ≡ mark)
  -- the mark is less than a block above what the keeper was promised, but while the keeper moves both to a new IV Index
  pub near : v.keeps ≡ true → v.lifted ≡ false → mark ≤ v.promised + 255
  -- what a seat owes, or was promised, is at most one above the counter; and the mark is not below where it was told that it is
  pub owes : v.owes ≤ next + 1
  pub promised : v.promised ≤ next + 1
  pub marked : v.marked ≤ mark
  -- no other seat has advanced the counter, and only a drawer's has drawn, or owes
  pub plain : v.keeps ≡ false → v.advances ≡ []
  pub idle : v.draws ≡ false → v.drawn ≡ []
  pub free : v.draws ≡ false → v.owes ≡ 0

-- The running rule, of the two words as numbers and of all views
pub record Stands (opened next mark keeper : ℕ) (views : List View) : Type 0 where
  pub counter_word : IsWord next
  pub mark_word : IsWord mark
  pub in_order : next ≤ mark
  pub opening : opened ≤ next
  -- each word from the opening on and below the counter went by once, at one seat, and no other word did
  pub once : (x : ℕ) → sum_by (gone x) views + once_below x opened ≡ once_below x next
  pub each : (by : ℕ) (v : View) → get_elem? views by ≡ some v → Fits opened next mark keeper by v
  -- what any seat was promised was reached, or is owed
  pub promises : (by : ℕ) (v : View) → get_elem? views by ≡ some v → IsPromised next views v.promised
  -- where the counter is at the end of an IV Index, or a look found it there, the last number under that was drawn
  pub reached : IsReached opened views next
  pub found : (by : ℕ) (v : View) → get_elem? views by ≡ some v → All (HasReached opened views) v.looks
  -- the drawers' parts are 1,024 at most, and fewer where a drawer has none: one was lost, where a seat with one part was split
  pub parts : sum_by (λ v. v.parts) views ≤ 1024
  pub lost : (by : ℕ) (v : View) → get_elem? views by ≡ some v → v.draws ≡ true → v.parts ≡ 0
      → sum_by (λ v. v.parts) views < 1024

-- The running rule, which holds between any two atomic steps
pub record Ruled {S : Type 0} (opened : ℕ) (s : State S View) : Type 0 where
  pub next : ℕ
  pub mark : ℕ
  pub keeper : ℕ
  pub words : s.words ≡ next ∷ mark ∷ []
  pub stands : Stands opened next mark keeper s.views

-- A seat that knows nothing. A seat that was joined to another is left with this view
abbrev pub nobody : View
nobody =
    record {
      keeps = false;
      mark = 0;
      lifted = false;
      advances = [];
      draws = false;
      parts = 0;
      drawn = [];
      raised = [];
      counters = [];
      noted = [];
      looks = [];
      known = [];
      informed = [];
      owes = 0;
      promised = 0;
      marked = 0;
    }

-- the keeper's seat at the start, with all parts
abbrev pub first_keeper : ℕ → View
first_keeper mark = record nobody { keeps = true; mark = mark; parts = 1024; promised = mark }

-- and once it has handed them on, to the first drawer's seat
abbrev pub without_parts : View → View
without_parts v = record v { parts = 0 }

abbrev pub first_drawer : View → View
first_drawer v = record nobody { draws = true; parts = v.parts }

-- the part that a split takes off so many: none of the last one, which is lost
abbrev pub part_of : ℕ → ℕ
part_of parts = if nat_lt 1 parts then 1 else 0

-- what a drawer's seat keeps that is split
abbrev pub keeping : View → View
keeping v = record v { parts = v.parts - 1 }

-- what a seat knows that is split off: all that was drawn at the other seat, or noted there, is noted, and the looks there, or known there, are
-- known
abbrev pub split_off : View → View
split_off v =
    record nobody {
      draws = true;
      parts = part_of v.parts;
      noted = v.noted ++ v.drawn;
      known = v.known ++ v.looks;
    }

-- a drawer's seat that owes the counter the word above the one that it found there last
abbrev pub owing : View → View
owing v = record v { owes = max v.owes (above_last v.looks) }

-- what a seat knows that is split off it then: that this is owed. It never draws
abbrev pub promise_of : View → View
promise_of v = record nobody { promised = max v.owes (above_last v.looks) }

-- what a seat knows that is split off the keeper's to tell where the mark is. It never draws
abbrev pub mark_of : View → View
mark_of v = record nobody { marked = v.mark }

-- what a seat knows that is split off a drawer's to tell what was drawn and seen there, noted or known, and where it was told that the counter was.
-- It never draws
abbrev pub draws_of : View → View
draws_of v = record nobody { noted = v.noted ++ v.drawn; known = v.known ++ v.looks; informed = v.informed }

-- a seat that watches the counter knows nothing at first, and never draws
abbrev pub watch_of : View → View
watch_of v = nobody

-- what a seat knows that is split off one which watches the counter, to tell where that was. It never draws
abbrev pub counters_of : View → View
counters_of v = record nobody { informed = v.counters }

-- what a seat knows that is split off the keeper's to tell where the counter was moved to. It never draws
abbrev pub moves_of : View → View
moves_of v = record nobody { informed = map (λ (a : ℕ × ℕ). a.1) v.advances }

-- two seats as one, which keeps the mark where one of them did
abbrev pub both : View → View → View
both v w = record {
  keeps = v.keeps || w.keeps;
  mark = if w.keeps then w.mark else v.mark;
  lifted = if w.keeps then w.lifted else v.lifted;
  advances = v.advances ++ w.advances;
  draws = v.draws || w.draws;
  parts = v.parts + w.parts;
  drawn = v.drawn ++ w.drawn;
  raised = v.raised ++ w.raised;
  counters = v.counters ++ w.counters;
  noted = v.noted ++ w.noted;
  looks = v.looks ++ w.looks;
  known = v.known ++ w.known;
  informed = v.informed ++ w.informed;
  owes = max v.owes w.owes;
  promised = max v.promised w.promised;
  marked = max v.marked w.marked;
}

abbrev pub seeing : View → Look → View
seeing v look = record v { looks = v.looks ++ look ∷ []; owes = owed_behind look v.owes }

-- the number `word` is drawn, and the counter raised to `after`: so nothing is owed
abbrev pub drawing : View → ℕ → ℕ → View
drawing v word after = record v { drawn = v.drawn ++ word ∷ []; raised = v.raised ++ after ∷ []; owes = 0 }

abbrev pub publishing : View → ℕ → View
publishing v mark = record v { mark = mark }

-- the mark is where the counter is to go to
abbrev pub lifting : View → ℕ → View
lifting v mark = record v { mark = mark; lifted = true }

-- and the counter is there
abbrev pub advancing : View → ℕ → ℕ → View
advancing v from to = record v { advances = v.advances ++ (from, to) ∷ []; lifted = false; promised = to }

-- what a seat was told is forgotten
abbrev pub forgetting : View → View
forgetting v = record v { noted = []; known = []; informed = [] }

-- that, too, and the word that was found in the counter is noted
abbrev pub counting : View → ℕ → View
counting v found = record (forgetting v) { counters = v.counters ++ found ∷ [] }

-- The seat's last look was at the counter, where it found this word, and the one before at a mark above that
pub record IsLastSeen (word : ℕ) (v : View) : Type 0 where
  pub earlier : List Look
  pub mark : ℕ
  pub looks : v.looks ≡ earlier ++ saw.Mark mark ∷ saw.Counter word ∷ []
  pub below : word < mark

-- The word is above all that was drawn or noted at the seat, and not below what looks found in the counter there, or are known to have found, or
-- where the counter is known to have been moved to.
pub record IsOver (word : ℕ) (v : View) : Type 0 where
  pub drawn : All (λ x. x < word) v.drawn
  pub noted : All (λ x. x < word) v.noted
  pub looks : All (IsPast word) v.looks
  pub known : All (IsPast word) v.known
  pub informed : All (λ x. x ≤ word) v.informed
  -- at most the word above is owed
  pub owes : v.owes ≤ word + 1

module _ {S : Type 0} where
  -- a load of the mark: it is noted as seen, and isn't below where the seat was told that it is
  abbrev pub SeesMark : Step S → Me S View → ℕ → Me S View → Type 0
  SeesMark st v found w = (w ≡ (seeing v.0 (saw.Mark found), v.1)) × (v.0.marked ≤ found)

  -- a load of the counter: the word is noted as seen, which is over all that is known of the counter
  abbrev pub SeesNext : Step S → Me S View → ℕ → Me S View → Type 0
  SeesNext st v found w = IsWord found × (w ≡ (seeing v.0 (saw.Counter found), v.1)) × IsOver found v.0

  -- A compare-exchange on the counter, only from the word last seen there to the next. Where it is won, the word found is
  -- drawn, above all that was drawn or noted at the seat. Else the word found, which is higher, is noted as seen
  abbrev pub Draws : Step S → Me S View → ℕ → Me S View → Type 0
  Draws st v found w =
      IsLastSeen st.first v.0 × (st.second ≡ st.first + 1)
      × (found ≡ st.first
      → (w ≡ (drawing v.0 found st.second, v.1)) × All (λ x. x < found) v.0.drawn × All (λ x. x < found) v.0.noted)
      × (found ≢ st.first → (w ≡ (seeing v.0 (saw.Counter found), v.1)) × (st.first < found))

  -- a store on the mark: it is the keeper's mark. What the keeper was promised is at most one above the mark before
  abbrev pub Publishes : Step S → Me S View → ℕ → Me S View → Type 0
  Publishes st v found w = (w ≡ (publishing v.0 st.first, v.1)) × (v.0.promised ≤ v.0.mark + 1)

  -- a store on the mark, of the word that the counter is to go to: it is the keeper's mark, and the keeper moves
  abbrev pub Lifts : Step S → Me S View → ℕ → Me S View → Type 0
  Lifts st v found w = w ≡ (lifting v.0 st.first, v.1)

  -- a fetch_max on the counter, to the mark: the word found is noted, with the one that the counter was moved to
  abbrev pub Advances : Step S → Me S View → ℕ → Me S View → Type 0
  Advances st v found w = w ≡ (advancing v.0 found st.first, v.1)

  -- a load of the counter by the keeper: its mark is over what it was told, which is forgotten then
  abbrev pub Bounds : Step S → Me S View → ℕ → Me S View → Type 0
  Bounds st v found w = (w ≡ (forgetting v.0, v.1)) × IsOver v.0.mark v.0

  -- a load of the counter by a seat that watches it: the word found is over all that the seat was told, and not below those that it found before. It is
  -- noted, and what the seat was told is forgotten
  abbrev pub Counts : Step S → Me S View → ℕ → Me S View → Type 0
  Counts st v found w = (w ≡ (counting v.0 found, v.1)) × IsOver found v.0 × All (λ x. x ≤ found) v.0.counters

-- a seat that keeps the mark, isn't moving, has no parts, has drawn and seen nothing, and owes nothing; each of its advances went to SEQ 0
pub record OnlyKeeps (v : View) : Type 0 where
  pub keeps : v.keeps ≡ true
  pub still : v.lifted ≡ false
  pub firsts : All (λ a. seq_of a.1 ≡ 0) v.advances
  pub parts : v.parts ≡ 0
  pub drawn : v.drawn ≡ []
  pub raised : v.raised ≡ []
  pub noted : v.noted ≡ []
  pub looks : v.looks ≡ []
  pub informed : v.informed ≡ []
  pub owes : v.owes ≡ 0

-- a seat that draws, and has neither kept the mark nor advanced the counter. Where it owes a word, the one before isn't at the end of an IV Index,
-- and it was told of a mark that isn't below it
pub record OnlyDraws (v : View) : Type 0 where
  pub keeps : v.keeps ≡ false
  pub draws : v.draws ≡ true
  pub advances : v.advances ≡ []
  pub unspent : seq_of (v.owes - 1) < 2 ^ 24
  pub marked : v.owes ≤ v.marked

-- a seat that keeps no mark, never draws, has no parts, and knows nothing but what it found in the counter
pub record OnlyWatches (v : View) : Type 0 where
  pub keeps : v.keeps ≡ false
  pub draws : v.draws ≡ false
  pub advances : v.advances ≡ []
  pub parts : v.parts ≡ 0
  pub drawn : v.drawn ≡ []
  pub raised : v.raised ≡ []
  pub noted : v.noted ≡ []
  pub looks : v.looks ≡ []
  pub known : v.known ≡ []
  pub informed : v.informed ≡ []
  pub owes : v.owes ≡ 0

-- no two places of the drawn lists, of one seat or of two, hold one word
abbrev pub DrawnOnce : List View → Type 0
DrawnOnce views =
    (x by by' place place' : ℕ) (v w : View) → get_elem? views by ≡ some v → get_elem? views by' ≡ some w
    → get_elem? v.drawn place ≡ some x → get_elem? w.drawn place' ≡ some x → (by ≡ by') × (place ≡ place')

-- at most one seat keeps the mark, and the second word is its mark
abbrev pub MarkIsKept : {S : Type 0} → State S View → Type 0
MarkIsKept s =
    (by by' : ℕ) (v w : View) → get_elem? s.views by ≡ some v → get_elem? s.views by' ≡ some w → v.keeps ≡ true
    → w.keeps ≡ true
    → (by ≡ by') × (slice_index s.words 1 ≡ v.mark)

-- The second word is at most 256 above the first, but while the keeper's seat moves both; and where it is 256 above, a seat owes a draw
abbrev pub MarkIsNear : {S : Type 0} → State S View → Type 0
MarkIsNear s =
    (by : ℕ) (v : View) → get_elem? s.views by ≡ some v → v.keeps ≡ true → v.lifted ≡ false
    → (slice_index s.words 1 ≤ slice_index s.words 0 + 256)
    × ((slice_index s.words 1 < slice_index s.words 0 + 256) ⊎ (1 ≤ sum_by (owes_above (slice_index s.words 0)) s.views))

-- Lines and the entries that they are of, where entries stand among the marks of a node's lock.
use Rattle.std.specs.Prelude.{◌≡◌, ◌≢◌, ℕ, ◌+◌, ◌*◌, ◌^◌, ◌<◌, ◌≤◌, ◌⊎◌, List, map, All, AllPairs, Option, Some, None, option_and_then, take, ⊤}
use Rattle.std.specs.List.{Contains, filter_map, slice_get}
use Rattle.std.specs.Option.{option_map}
use Rattle.mesh_base.specs.Pairs.{word_of}
use Rattle.mesh_base.specs.declared.pair.Pair.{Pair}
use Rattle.mesh_types.specs.declared.events.Event.{Event}
use Rattle.mesh_types.specs.declared.history.Entry.{Entry}
use Rattle.mesh_types.specs.declared.history.Sent.{Sent}
use Rattle.mesh_types.specs.declared.jobs.Job.{Job}
use Rattle.mesh_types.specs.declared.lines.Outcome.{Outcome}
use Rattle.mesh_types.specs.declared.lines.Outcome.TheVariants as O
use Rattle.report_definitions.specs.Record.{Shown}
use Rattle.run_definitions.specs.Lines.{drawn_of}
use Rattle.run_definitions.specs.RunOf.{draws, word_told, words_told}
use Rattle.seq_word.specs.Rule.{IsPast, times}
use Rattle.seq_word.specs.Seen.{DrawerView, last_word}
use Rattle.seq_word.specs.declared.looks.Look.{Look}
use Rattle.seq_word.specs.declared.looks.Look.TheVariants as saw
use Rattle.locked_node.specs.Node.{KnowsBehind}
use Rattle.locked_node.specs.declared.marks.Behind.{Behind}
use Rattle.locked_node.specs.declared.marks.Mark.{Mark}
use Rattle.locked_node.specs.declared.marks.Mark.TheVariants as M

-- what a line shows of the entry that stands at its place
abbrev pub shown_at : Mark → Sent → Option Shown
shown_at (M.Handled e behind) s =
    option_map (λ job. record { entry = e; job = job; outcome = s.outcome }) (slice_get e.jobs s.job)
shown_at (M.Stopped hand) s = None

abbrev pub shown_in : List Mark → Sent → Option Shown
shown_in marks s = option_and_then (λ mark. shown_at mark s) (slice_get marks s.entry)

-- no number was left only where the counter was seen at the end of that IV Index
abbrev pub IsSpentSeen : List Look → Outcome → Type 0
IsSpentSeen looks (O.Spent iv) = Contains looks (saw.Counter (iv * 2 ^ 25 + 2 ^ 24))
IsSpentSeen looks _ = ⊤

-- the word behind the last number of an IV Index, under which a line says that no number was left
abbrev pub end_told : Outcome → Option ℕ
end_told (O.Spent iv) = Some (iv * 2 ^ 25 + 2 ^ 24)
end_told _ = None

abbrev pub ends_told : List Shown → List ℕ
ends_told shows = filter_map (λ s. end_told s.outcome) shows

-- the words that looks found in the counter
abbrev pub word_seen : Look → Option ℕ
word_seen (saw.Mark word) = None
word_seen (saw.Counter word) = Some word

abbrev pub words_seen : List Look → List ℕ
words_seen looks = filter_map word_seen looks

-- each line that says that no number was left has a look of its own, which found the counter there
abbrev pub HasOwnLooks : List ℕ → List Look → Type 0
HasOwnLooks ends looks = (x : ℕ) → times x ends ≤ times x (words_seen looks)

-- the word is behind all that had been drawn where the seat was split off, and not below what a look had found in the counter then
pub record IsBehind (d : DrawerView) (word : ℕ) : Type 0 where
  pub noted : All (λ x. x < word) d.noted
  pub known : All (IsPast word) d.known

-- the word that the counter had been moved to last behind the entry of a mark, and the one that was found in it
abbrev pub move_of : Mark → ℕ
move_of (M.Handled e behind) = behind.moved
move_of (M.Stopped hand) = 0

abbrev pub counter_of : Mark → ℕ
counter_of (M.Handled e behind) = behind.counter
counter_of (M.Stopped hand) = 0

-- the word that the line draws, or the end of an IV Index that it tells, isn't below where the counter had been moved to behind its entry, nor below
-- where it was then
abbrev pub IsFrom : List Mark → Sent → Type 0
IsFrom marks s = (line : Shown) (mark : Mark) (word : ℕ) → shown_in marks s ≡ Some line → slice_get marks s.entry ≡ Some mark
    → word_told line.job line.outcome ≡ Some word → (move_of mark ≤ word) × (counter_of mark ≤ word)

-- behind the entry at this place the counter had been moved to this word last, and behind those before it to another, or nowhere
pub record IsRiseAt (moves : List ℕ) (at word : ℕ) : Type 0 where
  pub here : slice_get moves at ≡ Some word
  pub rises : last_word (take at moves) ≢ word

-- the counter came to this word with the entry at this place: it was moved there, or it was found there behind it
abbrev pub IsReachedAt : List Mark → ℕ → ℕ → Type 0
IsReachedAt marks at word = IsRiseAt (map move_of marks) at word ⊎ (slice_get (map counter_of marks) at ≡ Some word)

-- the line draws a word below this one, if it draws any; and if it tells the end of an IV Index, that isn't above it
pub record IsToldBelow (word : ℕ) (line : Shown) : Type 0 where
  pub draws : (p : Pair) → drawn_of line.job line.outcome ≡ Some p → word_of p < word
  pub ends : (end : ℕ) → end_told line.outcome ≡ Some end → end ≤ word

-- so is a line of an entry before this place
abbrev pub IsUntil : List Mark → ℕ → ℕ → Sent → Type 0
IsUntil marks at word s = (line : Shown) → s.entry < at → shown_in marks s ≡ Some line → IsToldBelow word line

-- The entry and the job of each line are there; the lines draw the words of this seat, each with a SEQ below 2^24. A job's number, from 1 on,
-- has 8 bits. No line tells a word below that of an earlier one, or below what was known where the seat was split off, or below where the counter
-- had been moved to behind its entry, or was then: so it draws none of an earlier transmit IV Index, and ends no earlier one.
pub record AreShown (marks : List Mark) (lines : List Sent) (d : DrawerView) : Type 0 where
  pub shows : List Shown
  pub found : map (shown_in marks) lines ≡ map Some shows
  pub short : All (λ s. s.job + 1 < 2 ^ 8) lines
  pub drawing : map word_of (draws shows) ≡ d.drawn
  pub seq : All (λ p. p.seq < 2 ^ 24) (draws shows)
  pub spent : All (λ s. IsSpentSeen d.looks s.outcome) shows
  pub own : HasOwnLooks (ends_told shows) d.looks
  pub onward : AllPairs (λ x y. x ≤ y) (words_told shows)
  pub behind : All (IsBehind d) (words_told shows)
  pub from : All (IsFrom marks) lines

-- at this place stands the entry of this event, which has these jobs; a seat that was told these words knows where the counter had been moved to
-- behind it, and where it was
pub record HasEntry (marks : List Mark) (at : ℕ) (event : Event) (jobs : List Job) (informed : List ℕ) : Type 0 where
  pub entry : Entry
  pub behind : Behind
  pub here : slice_get marks at ≡ Some (M.Handled entry behind)
  pub knows : KnowsBehind informed behind
  pub event_is : entry.event ≡ event
  pub jobs_are : entry.jobs ≡ jobs

-- and this is one of them, whose number, from 1 on, has 8 bits
pub record HasJob (marks : List Mark) (at j : ℕ) (event : Event) (job : Job) (informed : List ℕ) : Type 0 where
  pub jobs : List Job
  pub entry : HasEntry marks at event jobs informed
  pub place : slice_get jobs j ≡ Some job
  pub short : j + 1 < 2 ^ 8

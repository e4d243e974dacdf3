-- The lines of several phases, and the pairs that they draw.
use Rattle.std.specs.Prelude.{◌≡◌, ◌⊎◌, ℕ, ◌+◌, ◌^◌, ◌<◌, ◌≤◌, true, List, [], ◌∷◌, length, map, All, AllPairs, Some, ⊤}
use Rattle.std.specs.List.{Contains, filter_map, flat_map, slice_get}
use Rattle.mesh_base.specs.Pairs.{word_of}
use Rattle.mesh_types.specs.declared.history.Entry.{Entry}
use Rattle.mesh_types.specs.declared.history.Sent.{Sent}
use Rattle.report_definitions.specs.Record.{Shown, list_at, shown_of}
use Rattle.run_definitions.specs.Order.{is_outside}
use Rattle.run_definitions.specs.RunOf.{draws, word_told, words_told}
use Rattle.seq_word.specs.Rule.{times}
use Rattle.seq_word.specs.Seen.{DrawerView}
use Rattle.seq_word.specs.declared.looks.Look.{Look}
use Rattle.node_bearer.specs.Marked.{HasOwnLooks, IsRiseAt, IsSpentSeen, IsToldBelow, ends_told}

-- The line tells no word below the one that stands here for its entry, where the counter had been moved to behind it, or was.
abbrev pub IsFromMove : List Entry → List ℕ → Sent → Type 0
IsFromMove entries moves s = (line : Shown) (move word : ℕ) → shown_of entries s ≡ Some line → slice_get moves s.entry ≡ Some move
    → word_told line.job line.outcome ≡ Some word → move ≤ word

-- The line draws no word at or above one that the counter was moved to with a later event from outside of this bearer, and tells no end of an IV
-- Index above that.
abbrev pub IsUntilMove : ℕ → List Entry → List ℕ → Sent → Type 0
IsUntilMove k entries moves s = (line : Shown) (at : ℕ) (entry : Entry) (move : ℕ) → shown_of entries s ≡ Some line
    → slice_get entries at ≡ Some entry → entry.bearer ≡ k → is_outside entry.event ≡ true → s.entry < at → IsRiseAt moves at move
    → IsToldBelow move line

-- one of these phases, each of which ended behind so many entries, ended between this entry and that
pub record HasEndedBetween (ends : List ℕ) (entry at : ℕ) : Type 0 where
  pub end : ℕ
  pub among : Contains ends end
  pub behind : entry < end
  pub before : end ≤ at

-- the entry comes behind a line of this bearer which is of that entry: it is of an event from outside of the same bearer, or of a later phase
abbrev pub ComesBehind : ℕ → List ℕ → ℕ → ℕ → Entry → Type 0
ComesBehind k ends line at entry = ((entry.bearer ≡ k) × (is_outside entry.event ≡ true)) ⊎ HasEndedBetween ends line at

-- The line draws no word at or above the one where the counter was behind an entry that comes behind it, and tells no end of an IV Index above that.
abbrev pub IsUntilCounter : ℕ → List Entry → List ℕ → List ℕ → Sent → Type 0
IsUntilCounter k entries counters ends s = (line : Shown) (at : ℕ) (entry : Entry) (counter : ℕ) → shown_of entries s ≡ Some line
    → slice_get entries at ≡ Some entry → slice_get counters at ≡ Some counter → s.entry < at → ComesBehind k ends s.entry at entry
    → IsToldBelow counter line

-- What the lines of a bearer show is among these entries; they draw these words, each with a SEQ below 2^24. A job's number, from 1 on, has 8
-- bits. None tells a word below that of an earlier one, or below where the counter had been moved to behind its entry.
pub record ShowsIn (entries : List Entry) (moves : List ℕ) (lines : List Sent) (drawn : List ℕ) (looks : List Look) : Type 0 where
  pub shows : List Shown
  pub found : map (shown_of entries) lines ≡ map Some shows
  pub short : All (λ s. s.job + 1 < 2 ^ 8) lines
  pub drawing : map word_of (draws shows) ≡ drawn
  pub seq : All (λ p. p.seq < 2 ^ 24) (draws shows)
  pub spent : All (λ s. IsSpentSeen looks s.outcome) shows
  pub onward : AllPairs (λ x y. x ≤ y) (words_told shows)
  pub from : All (IsFromMove entries moves) lines

-- of each bearer, and the words of each rise
abbrev pub AreShownBy : List Entry → List ℕ → List (List Sent) → List (List ℕ) → List Look → Type 0
AreShownBy entries moves [] [] looks = ⊤
AreShownBy entries moves (lines ∷ sends) (drawn ∷ drawns) looks =
    ShowsIn entries moves lines drawn looks × AllPairs (λ x y. x < y) drawn × AreShownBy entries moves sends drawns looks
AreShownBy entries moves _ _ looks = ⊥

abbrev pub all_of : {A : Type 0} → List (List A) → List A
all_of xs = flat_map (λ x. x) xs

-- the lines of all bearers
abbrev pub all_shown : List Entry → List (List Sent) → List Shown
all_shown entries sends = flat_map (filter_map (shown_of entries)) sends

-- The lines draw the words that were drawn at the seats, each as often as it was drawn there. Each of them that says that no number was left
-- has a look of its own, which found the counter at the end of that IV Index.
pub record PairsSo (entries : List Entry) (moves : List ℕ) (sends : List (List Sent)) (d : DrawerView) : Type 0 where
  pub drawns : List (List ℕ)
  pub shown : AreShownBy entries moves sends drawns d.looks
  pub counted : (x : ℕ) → times x (all_of drawns) ≡ times x d.drawn
  pub own : HasOwnLooks (ends_told (all_shown entries sends)) d.looks
  -- a move is told behind each entry
  pub long : length entries ≤ length moves
  -- with what a bearer has handled later the counter was moved above all that its lines draw
  pub until : (k : ℕ) → All (IsUntilMove k entries moves) (list_at sends k)

-- Behind the entries the counter was at these words, one for each, and the phases ended behind so many entries: what each line draws lies between where
-- the counter was behind its entry, and where it was behind an entry that comes behind the line.
pub record AreTimed (entries : List Entry) (counters ends : List ℕ) (sends : List (List Sent)) : Type 0 where
  pub from : All (All (IsFromMove entries counters)) sends
  pub until : (k : ℕ) → All (IsUntilCounter k entries counters ends) (list_at sends k)
  pub long : length counters ≡ length entries
  pub past : All (λ end. end ≤ length entries) ends

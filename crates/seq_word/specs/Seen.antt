-- What contracts see of the two words and of the seats at them, and what one try to draw tells.
use Rattle.std.specs.Prelude.{◌≡◌, ℕ, ◌+◌, ◌*◌, ◌^◌, ◌<◌, ◌≤◌, List, [], ◌∷◌, ◌++◌, All, fold, map, ⊤}
use Rattle.atomic_table.specs.Seated.{TableId}
use Rattle.mesh_base.specs.declared.pair.Pair.{Pair}
use Rattle.seq_word.specs.Dry.{DryView}
use Rattle.seq_word.specs.declared.looks.Look.{Look}
use Rattle.seq_word.specs.declared.looks.Look.TheVariants as saw
use Rattle.seq_word.specs.declared.miss.Miss.{Miss}
use Rattle.seq_word.specs.declared.miss.Miss.TheVariants as missed
use Rattle.seq_word.specs.declared.miss.DrawStop.{DrawStop}
use Rattle.seq_word.specs.declared.miss.DrawStop.TheVariants as stopped
use Rattle.mesh_base.specs.Pairs.{word_of}
use Rattle.seq_word.specs.Rule.{IsPast, part_of}
use Rattle.seq_word.specs.Word.{seq_of}

-- The two words: which they are, and where the counter was opened
pub record NumbersView : Type 0 where
  pub which : TableId
  pub opened : ℕ

-- A seat that draws: at which words, the words that it drew, what each draw left in the counter, the words that were drawn
-- before it was split off, its looks at the two words in their order, those that had been made before it was split off, where it was told that the
-- keeper had moved the counter to, its parts of the 1,024 that the drawers of these words have between them, and the word that the counter is to
-- reach yet, since a refill was published for this seat: 0 where it owes none
pub record DrawerView : Type 0 where
  pub which : TableId
  pub drawn : List ℕ
  pub raised : List ℕ
  pub noted : List ℕ
  pub looks : List Look
  pub known : List Look
  pub informed : List ℕ
  pub parts : ℕ
  pub owes : ℕ

-- a seat that has drawn and seen nothing, where these words had been drawn before it was split off
abbrev pub fresh : TableId → List ℕ → ℕ → DrawerView
fresh which noted parts =
    record {
      which = which;
      drawn = [];
      raised = [];
      noted = noted;
      looks = [];
      known = [];
      informed = [];
      parts = parts;
      owes = 0;
    }

-- one that was split off another, so that it knows what that one saw
abbrev pub split_from : DrawerView → DrawerView
split_from v = record (fresh v.which (v.noted ++ v.drawn) (part_of v.parts)) { known = v.known ++ v.looks }

-- The keeper's seat: at which words, the mark, and of each advance the word that it found in the counter and the one that it
-- moved the counter to
pub record KeeperView : Type 0 where
  pub which : TableId
  pub mark : ℕ
  pub advances : List (ℕ × ℕ)

-- A seat that watches the counter: at which words, and what it found there, in order
pub record WatcherView : Type 0 where
  pub which : TableId
  pub counters : List ℕ

-- The two words when no seat is left, and what the seats told
pub record ClosedView : Type 0 where
  pub next : ℕ
  pub mark : ℕ
  pub drawn : List ℕ
  pub looks : List Look
  pub advances : List (ℕ × ℕ)

-- The word is above all that was drawn at the seat, and all that had been drawn before it was split off; and not below what a look found in
-- the counter, at the seat or before it was split off, nor below where the keeper had moved the counter to, as the seat was told.
pub record IsAbove (v : DrawerView) (word : ℕ) : Type 0 where
  pub drawn : All (λ x. x < word) v.drawn
  pub noted : All (λ x. x < word) v.noted
  pub looks : All (IsPast word) v.looks
  pub known : All (IsPast word) v.known
  pub informed : All (λ x. x ≤ word) v.informed

-- the list begins with these looks
pub record IsPrefix (front list : List Look) : Type 0 where
  pub rest : List Look
  pub is : list ≡ front ++ rest

-- A try that gave this pair: its look found the pair's word in the counter, below the mark that the look before had found
pub record Finds (p : Pair) (v w : DrawerView) : Type 0 where
  pub mark : ℕ
  pub looks : w.looks ≡ v.looks ++ saw.Mark mark ∷ saw.Counter (word_of p) ∷ []
  pub below : word_of p < mark

-- The seat's last two looks found what this tells
abbrev pub IsFoundBy : DryView → DrawerView → Type 0
IsFoundBy dry v = (before : List Look) × (v.looks ≡ before ++ saw.Mark dry.mark ∷ saw.Counter dry.next ∷ [])

-- The cause of a miss, by the looks of the try: first at the mark, then at the counter, and where the exchange was lost what it found
abbrev pub HasCause : Miss → DrawerView → DrawerView → Type 0
HasCause (missed.Spent iv) v w =
    (mark : ℕ) × (w.looks ≡ v.looks ++ saw.Mark mark ∷ saw.Counter (iv * 2 ^ 25 + 2 ^ 24) ∷ [])
HasCause (missed.Dry dry) v w =
    (w.looks ≡ v.looks ++ saw.Mark dry.mark ∷ saw.Counter dry.next ∷ []) × (dry.mark ≤ dry.next) × (seq_of dry.next < 2 ^ 24)
    × (dry.which ≡ w.which)
HasCause (missed.Lost expected found) v w =
    (mark : ℕ) × (w.looks ≡ v.looks ++ saw.Mark mark ∷ saw.Counter expected ∷ saw.Counter found ∷ [])
    × (expected < found) × (expected < mark) × (seq_of expected < 2 ^ 24)

-- where no number was left, the counter stood at a word that is so
abbrev pub IsEndAbove : DrawerView → Miss → Type 0
IsEndAbove v (missed.Spent iv) = IsAbove v (iv * 2 ^ 25 + 2 ^ 24)
IsEndAbove v _ = ⊤

-- the seat has drawn nothing more, and still draws at the same words. It may owe less
pub record SameDrawn (v w : DrawerView) : Type 0 where
  pub which : w.which ≡ v.which
  pub drawn : w.drawn ≡ v.drawn
  pub raised : w.raised ≡ v.raised
  pub noted : w.noted ≡ v.noted
  pub known : w.known ≡ v.known
  pub informed : w.informed ≡ v.informed
  pub parts : w.parts ≡ v.parts

-- between v and w these tries were lost, the latest first, and nothing else was done
abbrev pub LostTries : List (ℕ × ℕ) → DrawerView → DrawerView → Type 0
LostTries [] v w = w ≡ v
LostTries (t ∷ tries) v w = (u : DrawerView) × LostTries tries v u × SameDrawn u w × HasCause (missed.Lost t.0 t.1) u w

-- some tries were lost, and then this was done
abbrev pub AfterLost : (DrawerView → DrawerView → Type 0) → DrawerView → DrawerView → Type 0
AfterLost Done v w = (tries : List (ℕ × ℕ)) × (u : DrawerView) × LostTries tries v u × Done u w

abbrev pub miss_of : DrawStop → Miss
miss_of (stopped.Spent iv) = missed.Spent iv
miss_of (stopped.Dry dry) = missed.Dry dry

-- the words that the counter was moved to
abbrev pub went_to : List (ℕ × ℕ) → List ℕ
went_to advances = map (λ (move : ℕ × ℕ). move.1) advances

-- the last of these words, 0 where there is none
abbrev pub last_word : List ℕ → ℕ
last_word words = fold (λ before word. word) 0 words

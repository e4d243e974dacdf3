-- What a bearer did with its tasks.
use Rattle.std.specs.Prelude.{◌≡◌, ℕ, ◌+◌, ◌*◌, ◌^◌, ◌<◌, ◌≤◌, true, false, IsTrue, List, [], ◌∷◌, ◌++◌, map, length, All, AllPairs, Option, Some, ⊤}
use Rattle.std.specs.List.{Contains, range_with_len}
use Rattle.mesh_base.specs.Pairs.{word_of}
use Rattle.mesh_base.specs.declared.pair.Pair.{Pair}
use Rattle.mesh_types.specs.declared.events.Event.{Event}
use Rattle.mesh_types.specs.declared.history.Sent.{Sent}
use Rattle.machine_contract.specs.Ranges.{IsEvent}
use Rattle.run_definitions.specs.Order.{IsStuck, Placed, Task, Walks, handle, follow, write, is_outside}
use Rattle.seq_word.specs.Rule.{times}
use Rattle.seq_word.specs.Seen.{DrawerView, NumbersView}
use Rattle.seq_word.specs.Seen as seen
use Rattle.seq_word.specs.declared.looks.Look.{Look}
use Rattle.seq_word.specs.declared.looks.Look.TheVariants as saw
use Rattle.turn_lock.specs.Entries.{IsPrefix}
use Rattle.turn_lock.specs.Views.{IsPassOf, TurnView}
use Rattle.locked_node.specs.declared.marks.Behind.{Behind}
use Rattle.locked_node.specs.declared.marks.Mark.{Mark}
use Rattle.locked_node.specs.declared.marks.Mark.TheVariants as M
use Rattle.locked_node.specs.declared.marks.Origin.{Origin}
use Rattle.locked_node.specs.Node.{NodeView}
use Rattle.node_bearer.specs.Marked.{AreShown, IsBehind, IsReachedAt, IsUntil, words_seen}
use Rattle.node_bearer.specs.declared.bearer.Bearer.{Bearer}
use Rattle.node_bearer.specs.declared.bearer.Drawn.{Drawn}
use Rattle.node_bearer.specs.declared.bearer.Drawn.TheVariants as D

-- these marks are those of these entries, at their places, wherever the counter was behind them
abbrev pub AreMarksAt : List (ℕ × Mark) → List Placed → Type 0
AreMarksAt [] [] = ⊤
AreMarksAt (x ∷ own) (p ∷ entries) = (behind : Behind) × (x ≡ (p.at, M.Handled p.entry behind)) × AreMarksAt own entries
AreMarksAt _ _ = ⊥

-- all of these tasks are to have an event from outside handled
abbrev pub AreHandles : List Task → Type 0
AreHandles [] = ⊤
AreHandles (handle event ∷ tasks) = AreHandles tasks
AreHandles (task ∷ tasks) = ⊥

-- a line that is to be written is of the last of these entries from outside, or of one behind it; what is to be handled behind a line isn't from
-- outside
abbrev pub IsOfLast : List Placed → Task → Type 0
IsOfLast entries (write at j event job) = All (λ p. is_outside p.entry.event ≡ true → p.at ≤ at) entries
IsOfLast entries (follow event) = is_outside event ≡ false
IsOfLast entries (handle event) = ⊤

-- so is each, and none is left behind an event from outside that is to be handled
abbrev pub AreOfLast : List Placed → List Task → Type 0
AreOfLast entries [] = ⊤
AreOfLast entries (handle event ∷ tasks) = AreHandles tasks
AreOfLast entries (task ∷ tasks) = IsOfLast entries task × AreOfLast entries tasks

-- What the counter came to with this entry is above the words that had been drawn where the seat was split off, and not below what had been seen
-- there; and where the entry is of an event from outside, above what the lines of entries before it draw.
pub record IsMovedOver (marks : List Mark) (lines : List Sent) (d : DrawerView) (p : Placed) : Type 0 where
  pub lines_are : (word : ℕ) → is_outside p.entry.event ≡ true → IsReachedAt marks p.at word → All (IsUntil marks p.at word) lines
  pub before : (word : ℕ) → IsReachedAt marks p.at word → IsBehind d word

-- With these tasks bearer k, whose last number before was `first`, made these entries of its own and these lines, and drew the words that
-- the lines show; these tasks are left.
pub record Did (k first : ℕ) (tasks left : List Task) (own : List (ℕ × Mark)) (marks : List Mark) (lines : List Sent)
    (number : ℕ) (d : DrawerView) : Type 0 where
  pub entries : List Placed
  pub own_are : AreMarksAt own entries
  pub walks : Walks tasks entries lines left
  pub bearer : All (λ p. p.entry.bearer ≡ k) entries
  pub numbers : map (λ p. p.entry.number) entries ≡ range_with_len (first + 1) (length entries)
  pub count : number ≡ first + length entries
  pub shown : AreShown marks lines d
  pub rise : AllPairs (λ x y. x < y) d.drawn
  pub above : All (λ x. All (λ y. y < x) d.noted) d.drawn
  pub until : All (IsMovedOver marks lines d) entries
  pub over : AreOfLast entries left
  pub last : All (λ p. p.at < length marks) entries

-- a task that is to have this event handled
abbrev pub IsFor : Event → Task → Type 0
IsFor event (handle e) = (e ≡ event) × IsTrue (is_outside event)
IsFor event (follow e) = e ≡ event
IsFor event _ = ⊥

-- the next of these tasks is so
abbrev pub IsNext : Event → List Task → Type 0
IsNext event [] = ⊥
IsNext event (task ∷ tasks) = IsFor event task

abbrev pub BearerOf : Type 0 → Type 0
BearerOf F = Bearer (NodeView F) Mark (Origin F)

abbrev pub DidBy : {F : Type 0} → ℕ → ℕ → List Task → List Task → BearerOf F → Type 0
DidBy k first tasks left b = Did k first tasks left b.pass.own b.pass.seen b.lines.items b.number b.drawer

-- a bearer that stopped, but for want of memory, with these tasks left: its own entries end with its mark, and an event in hand is that of
-- its next task
pub record LeftOff {F : Type 0} (k first : ℕ) (tasks left : List Task) (b : BearerOf F) : Type 0 where
  pub before : List (ℕ × Mark)
  pub at : ℕ
  pub hand : Option Event
  pub own : b.pass.own ≡ before ++ (at, M.Stopped hand) ∷ []
  pub did : Did k first tasks left before b.pass.seen b.lines.items b.number b.drawer
  pub next : (event : Event) → hand ≡ Some event → IsNext event left

-- The last that a seat did was a look at the mark and one at the counter, which found the counter at the mark, or above it: so it has drawn
-- nothing since.
pub record SawDry (d : DrawerView) : Type 0 where
  pub before : List Look
  pub mark : ℕ
  pub counter : ℕ
  pub looks : d.looks ≡ before ++ saw.Mark mark ∷ saw.Counter counter ∷ []
  pub reached : mark ≤ counter

-- so it is of a seat whose bearer has the line of a job to write next
abbrev pub IsDryFor : List Task → DrawerView → Type 0
IsDryFor (write i j event job ∷ left) d = SawDry d
IsDryFor _ d = ⊤

-- A bearer that stopped so, and came as far as it does without the machine; where it left the line of a job, its last draw found the
-- counter at the mark, or above it.
pub record Broke {F : Type 0} (k first : ℕ) (tasks : List Task) (b : BearerOf F) : Type 0 where
  pub left : List Task
  pub is : LeftOff k first tasks left b
  pub stuck : IsStuck left
  pub dry : IsDryFor left b.drawer

-- a pair more was drawn, above all before it
pub record DrewPair (p : Pair) (d e : DrawerView) : Type 0 where
  pub drawn : e.drawn ≡ d.drawn ++ word_of p ∷ []
  pub noted : e.noted ≡ d.noted
  pub known : e.known ≡ d.known
  pub informed : e.informed ≡ d.informed
  pub looks : seen.IsPrefix d.looks e.looks
  pub above : seen.IsAbove d (word_of p)
  pub seq : p.seq < 2 ^ 24

pub record Drew {F : Type 0} (p : Pair) (k first : ℕ) (tasks left : List Task) (b : BearerOf F) : Type 0 where
  pub before : DrawerView
  pub did : Did k first tasks left b.pass.own b.pass.seen b.lines.items b.number before
  pub pair : DrewPair p before b.drawer

-- nothing was drawn, and the counter was seen at the end of this IV Index once more than before; that is above all before it
pub record SawEnd (iv : ℕ) (d e : DrawerView) : Type 0 where
  pub drawn : e.drawn ≡ d.drawn
  pub noted : e.noted ≡ d.noted
  pub known : e.known ≡ d.known
  pub informed : e.informed ≡ d.informed
  pub looks : seen.IsPrefix d.looks e.looks
  pub above : seen.IsAbove d (iv * 2 ^ 25 + 2 ^ 24)
  pub here : Contains e.looks (saw.Counter (iv * 2 ^ 25 + 2 ^ 24))
  pub once_more : (x : ℕ)
      → times x ((iv * 2 ^ 25 + 2 ^ 24) ∷ []) + times x (words_seen d.looks) ≤ times x (words_seen e.looks)

pub record FoundEnd {F : Type 0} (iv k first : ℕ) (tasks left : List Task) (b : BearerOf F) : Type 0 where
  pub before : DrawerView
  pub did : Did k first tasks left b.pass.own b.pass.seen b.lines.items b.number before
  pub saw : SawEnd iv before b.drawer

-- what a draw left: a pair more, or the end of an IV Index was seen, by a look of which no line tells yet
abbrev pub DrewBy : {F : Type 0} → Drawn → ℕ → ℕ → List Task → List Task → BearerOf F → Type 0
DrewBy (D.Pair p) k first tasks left b = Drew p k first tasks left b
DrewBy (D.Spent iv) k first tasks left b = FoundEnd iv k first tasks left b

abbrev pub IsUnspent : Drawn → Type 0
IsUnspent (D.Pair p) = p.seq < 2 ^ 24
IsUnspent (D.Spent iv) = ⊤

-- A bearer of this lock, which is outside, has so many parts of it, and draws at these words; the machine behind the lock publishes at
-- them.
pub record IsRider {F : Type 0} (all : ℕ) (n : NumbersView) (turn : TurnView (NodeView F)) (b : BearerOf F) : Type 0 where
  pub made : turn.first.machine.which ≡ n.which
  pub draws : b.drawer.which ≡ n.which
  pub pass : IsPassOf turn b.pass
  pub outside : b.pass.inside ≡ false
  pub parts : b.pass.parts ≡ all

-- between two calls a bearer has seen more, was told more of where the counter was moved to, has not stopped, and has its parts of the words; and it
-- owes no draw behind a mark that was raised for it, where it owed none before
pub record GoesOn {F : Type 0} (old new : BearerOf F) : Type 0 where
  pub rest : List Mark
  pub more : new.pass.seen ≡ old.pass.seen ++ rest
  pub noted : new.drawer.noted ≡ old.drawer.noted
  pub known : new.drawer.known ≡ old.drawer.known
  pub told : IsPrefix old.drawer.informed new.drawer.informed
  pub parts : new.drawer.parts ≡ old.drawer.parts
  pub free : old.drawer.owes ≡ 0 → new.drawer.owes ≡ 0
  pub stop : new.stop ≡ old.stop

-- the bearer as it is once it has drawn what it owes
abbrev pub freed : {F : Type 0} → BearerOf F → BearerOf F
freed b = record b { drawer = record b.drawer { owes = 0 } }

abbrev pub AreEvents : ℕ → List Event → Type 0
AreEvents elements events = All (λ e. IsTrue (is_outside e) × IsEvent elements e) events

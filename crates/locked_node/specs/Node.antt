-- The value behind the lock as contracts see it, and its entries.
use Rattle.std.specs.Prelude.{◌≡◌, ◌⊎◌, ℕ, zero, suc, List, [], ◌∷◌, ◌++◌, replicate, Option, Some, None, ⊤}
use Rattle.std.specs.List.{Contains, slice_get}
use Rattle.std.specs.Option.{option_map, option_map_or}
use Rattle.flash_model.specs.Chip.{Arm, Chip}
use Rattle.mesh_types.specs.declared.events.Event.{Event}
use Rattle.mesh_types.specs.declared.history.Entry.{Entry}
use Rattle.machine_contract.specs.declared.answers.Hand.{Hand}
use Rattle.machine_contract.specs.declared.answers.Hand.TheVariants as H
use Rattle.machine_contract.specs.declared.answers.Stop.{Stop}
use Rattle.machine_contract.specs.declared.answers.Stop.TheVariants as S
use Rattle.machine_contract.specs.View.{MachineView}
use Rattle.seq_word.specs.Seen.{last_word}
use Rattle.locked_node.specs.declared.marks.Armed.{Armed}
use Rattle.locked_node.specs.declared.marks.Behind.{Behind}
use Rattle.locked_node.specs.declared.marks.Mark.{Mark}
use Rattle.locked_node.specs.declared.marks.Mark.TheVariants as M
use Rattle.locked_node.specs.declared.marks.Origin.{Origin}

-- the machine, the word that was found in the counter behind each of its entries, the flash as the life found it, the flash now, and how many bearers
-- have stopped
pub record NodeView (F : Type 0) : Type 0 where
  pub machine : MachineView
  pub counters : List ℕ
  pub start : F
  pub flash : F
  pub stops : ℕ

-- a mark that was seen, and the one that was published instead when the lock was taken
pub record Rise : Type 0 where
  pub seen : ℕ
  pub mark : ℕ

abbrev pub event_in : Hand → Option Event
event_in H.Nothing = None
event_in (H.OfEvent event) = Some event
event_in H.OfRefill = None

-- one mark for each bearer that stopped; the first has the event in hand
abbrev pub stop_marks : ℕ → Option Event → List Mark
stop_marks zero event = []
stop_marks (suc n) event = M.Stopped event ∷ replicate n (M.Stopped None)

-- the first of these words, 0 where there is none, and those behind it
abbrev pub first_word : List ℕ → ℕ
first_word [] = 0
first_word (word ∷ words) = word

abbrev pub rest_words : List ℕ → List ℕ
rest_words [] = []
rest_words (word ∷ words) = words

-- one mark for each entry, with the move behind it, and where the counter was
abbrev pub handled_marks : List Entry → List ℕ → List ℕ → List Mark
handled_marks [] moves counters = []
handled_marks (e ∷ entries) moves counters =
    M.Handled e (record { moved = first_word moves; counter = first_word counters })
    ∷ handled_marks entries (rest_words moves) (rest_words counters)

abbrev pub marks_of : List Entry → List ℕ → List ℕ → ℕ → Hand → List Mark
marks_of entries moves counters stops hand = handled_marks entries moves counters ++ stop_marks stops (event_in hand)

abbrev pub node_marks : {F : Type 0} → NodeView F → List Mark
node_marks n = marks_of n.machine.entries n.machine.moves n.counters n.stops n.machine.hand

-- so many refills were stored; it isn't told where a call that failed had one in hand
abbrev pub fills_by : ℕ → Hand → Option ℕ
fills_by fills H.Nothing = Some fills
fills_by fills (H.OfEvent event) = Some fills
fills_by fills H.OfRefill = None

-- the refills behind the entries that were taken and before the next, if none of them is in hand
abbrev pub refills_behind : MachineView → Option ℕ
refills_behind m = option_map_or (λ e. Some e.fills) (slice_get m.entries m.taken) (fills_by m.fills m.hand)

abbrev pub armed_by : Arm → Armed
armed_by a = record { calls = a.calls; mask = a.mask; changes = a.changes }

abbrev pub origin_of : {F : Type 0} → (F → Chip) → NodeView F → Origin F
origin_of chip n = record {
  start = n.start;
  numbers = record { which = n.machine.which; opened = 0 };
  taken = n.machine.taken;
  fills = refills_behind n.machine;
  elements = n.machine.elements;
  arm = option_map armed_by (chip n.flash).setting.arm;
  saved = (chip n.flash).setting.saved;
  moment = (chip n.flash).setting.moment;
  called = (chip n.flash).setting.called;
  programmed = (chip n.flash).setting.programmed;
}

-- a seat that was told these words knows where the counter had been moved to last
abbrev pub HasBeenTold : List ℕ → ℕ → Type 0
HasBeenTold informed move = (move ≡ 0) ⊎ Contains informed move

-- that, and where the counter was, behind an entry
pub record KnowsBehind (informed : List ℕ) (behind : Behind) : Type 0 where
  pub moved : HasBeenTold informed behind.moved
  pub counter : Contains informed behind.counter

-- the word that the counter had been moved to last, and the one that was found in it last
abbrev pub behind_last : {F : Type 0} → NodeView F → Behind
behind_last n = record { moved = last_word n.machine.moves; counter = last_word n.counters }

-- of a bearer that stopped, but for want of memory
abbrev pub OnStop : Stop → Type 0 → Type 0
OnStop S.Closed P = P
OnStop S.Memory P = ⊤
OnStop S.Flash P = P

-- a mark was put behind the others, with the event in hand if there was one
pub record IsStopped (event : Event) (old new : List Mark) : Type 0 where
  pub hand : Option Event
  pub marks : new ≡ old ++ M.Stopped hand ∷ []
  pub is : (other : Event) → hand ≡ Some other → other ≡ event

pub record IsStoppedBare (old new : List Mark) : Type 0 where
  pub marks : new ≡ old ++ M.Stopped None ∷ []

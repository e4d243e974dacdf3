-- A phase as a part of a life: the entries behind those of before, and the lines of each bearer.
use Rattle.std.specs.Prelude.{◌≡◌, ◌≢◌, ℕ, ◌+◌, ◌==◌, Bool, false, List, [], map, length, All, Option, Some, None}
use Rattle.std.specs.List.{filter_map, range_with_len, slice_get}
use Rattle.std.specs.Option.{option_map_or}
use Rattle.mesh_types.specs.declared.events.Event.{Event}
use Rattle.mesh_types.specs.declared.history.Sent.{Sent}
use Rattle.machine_contract.specs.declared.answers.Stop.TheVariants as S
use Rattle.run_definitions.specs.Order.{Does, IsStuck, Part, Placed, Task, of_bearer}
use Rattle.turn_lock.specs.Entries.{added}
use Rattle.locked_node.specs.declared.marks.Mark.{Mark}
use Rattle.locked_node.specs.declared.marks.Mark.TheVariants as M
use Rattle.locked_node.specs.Node.{NodeView, node_marks}
use Rattle.node_phase.specs.declared.bearers.Done.{Done}

-- whether an entry of the lock is an entry of bearer k
abbrev pub is_of : ℕ → Mark → Bool
is_of k (M.Handled e behind) = e.bearer == k
is_of k (M.Stopped hand) = false

-- the entries of the history among those of the lock, with their places
abbrev pub placed_at : ℕ → Mark → Option Placed
placed_at at (M.Handled e behind) = Some (record { at = at; entry = e })
placed_at at (M.Stopped hand) = None

abbrev pub placed_of : List (ℕ × Mark) → List Placed
placed_of own = filter_map (λ x. placed_at x.0 x.1) own

abbrev pub lines_of : Done → List Sent
lines_of x = x.lines.items

abbrev pub part_of : {F : Type 0} → NodeView F → NodeView F → List Done → Part
part_of old new dones =
    record { entries = placed_of (added (node_marks old) (node_marks new)); sends = map lines_of dones }

-- no bearer stopped; none stopped for want of memory
abbrev pub AreThrough : List Done → Type 0
AreThrough dones = All (λ x. x.stop ≡ None) dones

abbrev pub HadMemory : List Done → Type 0
HadMemory dones = All (λ x. x.stop ≢ Some S.Memory) dones

-- bearer k does what it has in the phase; where a bearer stopped, as far as it comes without the machine
pub record DoesPart (events : List (List Event)) (part : Part) (dones : List Done) (k : ℕ) : Type 0 where
  pub left : List Task
  pub does : Does events part k left
  pub stuck : IsStuck left
  pub all : AreThrough dones → left ≡ []

-- its entries are numbered from the one behind its last before
abbrev pub number_at : List ℕ → ℕ → ℕ
number_at counts k = option_map_or (λ n. n) (slice_get counts k) 0

pub record NumbersPart (counts : List ℕ) (part : Part) (dones : List Done) (k : ℕ) : Type 0 where
  pub numbers : map (λ p. p.entry.number) (of_bearer k part.entries)
      ≡ range_with_len (number_at counts k + 1) (length (of_bearer k part.entries))
  pub count : number_at (map (λ x. x.number) dones) k ≡ number_at counts k + length (of_bearer k part.entries)

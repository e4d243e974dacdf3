-- The rules of a run as fields, so that each can be changed alone; and the few that are enough for safety.
use Rattle.std.specs.Prelude.{◌≡◌, ◌≢◌, ℕ, ◌+◌, ◌*◌, ◌^◌, ◌<◌, ◌≤◌, false, true, List, [], ◌∷◌, ◌++◌, map, take, All, AllPairs, ⊤}
use Rattle.mesh_base.specs.IvState.{transmit_of}
use Rattle.mesh_types.specs.declared.events.Event.{Event}
use Rattle.record_types.specs.declared.records.StoreRecord.{StoreRecord}
use Rattle.record_types.specs.declared.records.StoreRecord.TheVariants as R
use Rattle.mesh_types.specs.declared.report.End.{End}
use Rattle.mesh_types.specs.declared.report.Opened.{Opened}
use Rattle.store_definitions.specs.Config.{Config, config_of}
use Rattle.store_definitions.specs.Entries.{entry_of}
use Rattle.event_definitions.specs.Handling.{AreHandled}
use Rattle.event_definitions.specs.History.{Insight, Past, Told}
use Rattle.event_definitions.specs.Layers.{Layers}
use Rattle.event_definitions.specs.Role.{Role, node_role}
use Rattle.run_definitions.specs.Order.{IsOrdered, Step}
use Rattle.mesh_base.specs.Pairs.{word_of}
use Rattle.store_definitions.specs.Ranges.{IsInRange}
use Rattle.report_definitions.specs.Record.{Life, LifeOver, Run, first_over, list_at, shown}
use Rattle.run_definitions.specs.RunOf.{IsDrawn, IsIdle, IsNumbered, IsSpentRight, Opens, Outlasts, RunOf, Script, draws, is_on, past_at_end}
use Rattle.store_definitions.specs.Provisioning.{Provisioning, provisioned}
use Rattle.store_definitions.specs.Alike.{IsAlike}
use Rattle.store_definitions.specs.Numbers.{fill_of}
use Rattle.run_definitions.specs.Uses.{AtMostOnce, NoReuse, delivered, uses}
use Rattle.event_definitions.specs.Safe.{AreSafe}

-- The rules: what a run begins with, how a life opens, that a life that isn't run does nothing, that its entries are
-- told, how they are handled and numbered, in which order bearers work, what outlasts a cut, which records there are,
-- what the next life opens over, what is drawn, and when no number is left.
pub record Rules : Type 1 where
  pub does_begin : Provisioning → List StoreRecord → Type 0
  pub does_open : Config → Opened → End → Type 0
  pub is_idle : Life → Type 0
  pub are_told : List Told → Life → Type 0
  pub are_handled : Role → List StoreRecord → List Told → List Told → Type 0
  pub is_numbered : Life → ℕ → Type 0
  pub is_ordered : List Step → Life → Type 0
  pub does_outlast : Role → List Step → Life → Past → List StoreRecord → Type 0
  pub is_in_range : StoreRecord → Type 0
  pub is_alike : List StoreRecord → List StoreRecord → Type 0
  pub is_drawn : List StoreRecord → List StoreRecord → Life → Type 0
  pub is_spent : List StoreRecord → List StoreRecord → Life → Type 0

-- the entries of a life are those that are told
abbrev pub AreTold : List Told → Life → Type 0
AreTold told l = map (λ t. t.entry) told ≡ l.entries

-- as they are
abbrev pub all_rules : Rules
all_rules = record {
  does_begin = λ node records. records ≡ provisioned node;
  does_open = λ c opened end. Opens c opened end;
  is_idle = IsIdle;
  are_told = AreTold;
  are_handled = AreHandled;
  is_numbered = IsNumbered;
  is_ordered = IsOrdered;
  does_outlast = λ role plan l past more. Outlasts role plan l past more;
  is_in_range = IsInRange;
  is_alike = IsAlike;
  is_drawn = IsDrawn;
  is_spent = λ over next l. All (λ s. IsSpentRight over next l s.outcome) (shown l);
}

-- A run by these rules.

pub record LeavesBy (rules : Rules) (role : Role) (plan : List Step) (l : Life) (past : Past)
    (next : List StoreRecord) : Type 0 where
  pub more : List StoreRecord
  pub outlasts : rules.does_outlast role plan l past more
  pub ranges : All rules.is_in_range (past.records ++ more)
  pub alike : rules.is_alike next (past.records ++ more)

pub record LifeBy (rules : Rules) (role : Role) (plan : List Step) (over : List StoreRecord) (l : Life)
    (next : List StoreRecord) : Type 0 where
  pub opening : rules.does_open (config_of over) l.opened l.end
  pub idle : is_on l.opened ≡ false → rules.is_idle l
  pub told : List Told
  pub entries : rules.are_told told l
  pub handled : rules.are_handled role over [] told
  pub numbers : (k : ℕ) → rules.is_numbered l k
  pub order : is_on l.opened ≡ true → rules.is_ordered plan l
  pub leaves : LeavesBy rules role plan l (past_at_end role over l told) next
  pub drawn : rules.is_drawn over next l
  pub spent : rules.is_spent over next l

abbrev pub LivesBy : Rules → Role → List (List Step) → List LifeOver → List StoreRecord → Type 0
LivesBy rules role [] [] last = ⊤
LivesBy rules role (plan ∷ plans) (x ∷ xs) last =
    LifeBy rules role plan x.over x.life (first_over xs last) × LivesBy rules role plans xs last
LivesBy rules role _ _ last = ⊥

pub record RunBy (rules : Rules) (role : Role) (s : Script) (r : Run) : Type 0 where
  pub first : rules.does_begin s.node (first_over r.lives r.last)
  pub lives : LivesBy rules role s.lives r.lives r.last

-- The rules that are enough.

-- a life that isn't run writes no line
abbrev pub WritesNothing : Life → Type 0
WritesNothing l = (k : ℕ) → list_at l.sends k ≡ []

-- what outlasts a cut is a front of what some event stores by its answer, or a refill
pub data MayOutlast (role : Role) (past : Past) : List StoreRecord → Type 0 where
  nothing_more : MayOutlast role past []
  some_stored : (n : ℕ) (event : Event) (insight : Insight)
      → MayOutlast role past (take n (role.stores past event insight (role.answer past event insight)))
  one_filled : MayOutlast role past (fill_of (config_of past.records) ∷ [])

-- of all ranges: the known IV Index has 32 bits, and the mark is at most the end of its transmit IV Index
abbrev pub HasFitNumbers : StoreRecord → Type 0
HasFitNumbers (R.Numbers current progress mark hours since) =
    (current < 2 ^ 32)
    × (mark
    ≤ transmit_of
    (record { current = current; progress = progress; hours = hours; since = since }) * 2 ^ 25 + 2 ^ 24)
HasFitNumbers _ = ⊤

-- of all that the records say: the elements, the IV state, the mark and the replay list
pub record KeepsNode (a b : List StoreRecord) : Type 0 where
  pub unicast : (config_of a).unicast ≡ (config_of b).unicast
  pub elements : (config_of a).elements ≡ (config_of b).elements
  pub iv : (config_of a).iv ≡ (config_of b).iv
  pub mark : (config_of a).mark ≡ (config_of b).mark
  pub entries : (src : ℕ) → entry_of a src ≡ entry_of b src

-- the pairs drawn, in any order
pub record DrawsInAnyOrder (over next : List StoreRecord) (l : Life) : Type 0 where
  pub seq : All (λ p. p.seq < 2 ^ 24) (draws (shown l))
  pub from : All (λ p. (config_of over).mark ≤ word_of p) (draws (shown l))
  pub below : All (λ p. word_of p < (config_of next).mark) (draws (shown l))
  pub once : AllPairs (λ p q. word_of p ≢ word_of q) (draws (shown l))

-- Safety needs nothing of what a run begins with, of how a life opens, of the numbers of entries, and of when no number
-- is left.
abbrev pub enough_rules : Rules
enough_rules = record all_rules {
  does_begin = λ node records. ⊤;
  does_open = λ c opened end. ⊤;
  is_idle = WritesNothing;
  is_numbered = λ l k. ⊤;
  does_outlast = λ role plan l past more. MayOutlast role past more;
  is_in_range = HasFitNumbers;
  is_alike = KeepsNode;
  is_drawn = DrawsInAnyOrder;
  is_spent = λ over next l. ⊤;
}

-- each run of a node is one by these
abbrev pub IsRunByEnough : Type 0
IsRunByEnough =
    (layers : Layers) (s : Script) (r : Run) → RunOf (node_role layers) s r → RunBy enough_rules (node_role layers) s r

-- and each run by these is safe
abbrev pub ReusesNoNonceByEnough : Type 0
ReusesNoNonceByEnough =
    (layers : Layers) → AreSafe layers → (s : Script) (r : Run) → RunBy enough_rules (node_role layers) s r
    → NoReuse (uses r)

abbrev pub DeliversOnceByEnough : Type 0
DeliversOnceByEnough =
    (layers : Layers) → AreSafe layers → (s : Script) (r : Run) → RunBy enough_rules (node_role layers) s r
    → AtMostOnce (delivered r)

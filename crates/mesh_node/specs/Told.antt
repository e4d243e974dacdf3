-- Where the phases of a life come from, and who is told of them.
use Rattle.std.specs.Prelude.{◌≡◌, ℕ, ◌+◌, ◌<◌, ◌≤◌, ◌^◌, true, false, Bool, List, [], ◌∷◌, ◌++◌, length, map, replicate, All, ⊤}
use Rattle.std.specs.List.{flat_map}
use Rattle.mesh_types.specs.declared.events.Event.{Event}
use Rattle.mesh_types.specs.declared.history.Entry.{Entry}
use Rattle.mesh_types.specs.declared.history.Sent.{Sent}
use Rattle.run_definitions.specs.Order.{BreaksOff, Does, Part, PartsOf, placed_from}
use Rattle.life_laws.specs.Phases.{both_of}
use Rattle.node_limits.specs.declared.TheConstants.{BEARERS}
use Rattle.mesh_node.specs.Lives.{IsShort}
use Rattle.mesh_node.specs.declared.told.PhaseLog.{PhaseLog}
use Rattle.mesh_node.specs.declared.told.LastStep.{LastStep}
use Rattle.mesh_node.specs.declared.told.LastStep.TheVariants as L

-- what a phase did: how many entries came before it, its entries in their order, and the lines of each bearer
pub record PhaseDid : Type 0 where
  pub first : ℕ
  pub entries : List Entry
  pub sends : List (List Sent)

abbrev pub did_of : PhaseLog → PhaseDid
did_of log = record { first = log.first; entries = log.entries.items; sends = map (λ v. v.items) log.sends.items }

-- all entries of phases, behind one another; and all lines, bearer by bearer
abbrev pub entries_told : List PhaseDid → List Entry
entries_told did = flat_map (λ d. d.entries) did

-- each phase with the number of entries before it, where so many came before all
abbrev pub ArePlaced : ℕ → List PhaseDid → Type 0
ArePlaced n [] = ⊤
ArePlaced n (d ∷ did) = (d.first ≡ n) × ArePlaced (n + length d.entries) did

-- what a phase did, as a part of its life
abbrev pub part_told : PhaseDid → Part
part_told d = record { entries = placed_from d.first d.entries; sends = d.sends }

-- In a phase with these events each bearer did this, all that it had; where the flash failed, as far as it came without the machine.
pub record IsPartDone (closed : Bool) (events : List (List Event)) (did : PhaseDid) : Type 0 where
  pub all : closed ≡ false → (k : ℕ) → Does events (part_told did) k []
  pub some : (k : ℕ) → BreaksOff events (part_told did) k

-- As many phases were told as came, and what was told of each is what was done in it: all that its bearers had; in the last, where the flash
-- failed, as far as each came without the machine.
pub record AreToldEach (closed : Bool) (phases : List (List (List Event))) (did : List PhaseDid) : Type 0 where
  pub count : length did ≡ length phases
  pub parts : PartsOf closed phases (map part_told did)

-- a report has room for it
pub record IsPrintablePhase (d : PhaseDid) : Type 0 where
  pub entries : d.first + length d.entries < 2 ^ 32
  pub bearers : length d.sends ≤ BEARERS
  pub lines : All (All IsShort) d.sends

abbrev pub more_sends : List (List Sent) → List PhaseDid → List (List Sent)
more_sends sends [] = sends
more_sends sends (d ∷ did) = more_sends (both_of sends d.sends) did

abbrev pub sends_told : ℕ → List PhaseDid → List (List Sent)
sends_told bearers did = more_sends (replicate bearers []) did

-- How a source of phases comes from the one state to the other: by giving a phase, of so many bearers of a node with so many elements, which it was
-- asked for where in so many ticks something is due; by saying that there is none more; by failing, where it was asked for such a phase.
pub record SourceSteps (S : Type 0) : Type 1 where
  pub gives : ℕ → ℕ → ℕ → S → List (List Event) → S → Type 0
  pub ends : S → S → Type 0
  pub fails : ℕ → ℕ → ℕ → S → S → Type 0

-- How a sink comes from the one state to the other: by taking what a phase did; by failing at it.
pub record SinkSteps (S : Type 0) : Type 1 where
  pub takes : S → PhaseDid → S → Type 0
  pub fails : S → PhaseDid → S → Type 0

module _ {S : Type 0} where
  -- from the one state to the other by a step for each of these, in their order
  abbrev pub BySteps : {A : Type 0} → (S → A → S → Type 0) → S → List A → S → Type 0
  BySteps step old [] new = new ≡ old
  BySteps step old (x ∷ xs) new = (mid : S) × step old x mid × BySteps step mid xs new

  -- The source gave these phases, of so many bearers of a node with so many elements. For each it was told one of these numbers of ticks.
  abbrev pub GivesEach : SourceSteps S → ℕ → ℕ → S → List ℕ → List (List (List Event)) → S → Type 0
  GivesEach steps bearers elements old [] [] new = new ≡ old
  GivesEach steps bearers elements old [] (phase ∷ phases) new = ⊥
  GivesEach steps bearers elements old (due ∷ dues) [] new = ⊥
  GivesEach steps bearers elements old (due ∷ dues) (phase ∷ phases) new =
      (mid : S) × steps.gives bearers elements due old phase mid × GivesEach steps bearers elements mid dues phases new

  -- it gave these, and failed where it was told the last of these numbers
  pub record FailedWhereAsked (steps : SourceSteps S) (bearers elements : ℕ) (old : S) (dues : List ℕ) (phases : List (List (List Event)))
      (new : S) : Type 0 where
    pub before : List ℕ
    pub due : ℕ
    pub is : dues ≡ before ++ due ∷ []
    pub mid : S
    pub gave : GivesEach steps bearers elements old before phases mid
    pub failed : steps.fails bearers elements due mid new

  -- The source gave these phases, and where the life asked for one more, of so many bearers of a node with so many elements, it had none, or
  -- failed. For each phase, and where it failed, it was told one of these numbers of ticks.
  abbrev pub HasGiven : SourceSteps S → ℕ → ℕ → LastStep → S → List ℕ → List (List (List Event)) → S → Type 0
  HasGiven steps bearers elements L.Ended old dues phases new = (mid : S) × GivesEach steps bearers elements old dues phases mid × steps.ends mid new
  HasGiven steps bearers elements L.Unread old dues phases new = FailedWhereAsked steps bearers elements old dues phases new
  HasGiven steps bearers elements L.Cut old dues phases new = GivesEach steps bearers elements old dues phases new
  HasGiven steps bearers elements L.Untold old dues phases new = GivesEach steps bearers elements old dues phases new

  -- asked for such a phase, and told such a number, it gave none, for this cause
  abbrev pub GivesNone : SourceSteps S → ℕ → ℕ → ℕ → LastStep → S → S → Type 0
  GivesNone steps bearers elements due L.Ended old new = steps.ends old new
  GivesNone steps bearers elements due L.Unread old new = steps.fails bearers elements due old new
  GivesNone steps bearers elements due L.Cut old new = ⊥
  GivesNone steps bearers elements due L.Untold old new = ⊥

  -- the sink was told of the last phase, after which the life is over for this cause
  abbrev pub IsLastTold : SinkSteps S → LastStep → Bool → S → PhaseDid → S → Type 0
  IsLastTold steps L.Ended closed old did new = ⊥
  IsLastTold steps L.Unread closed old did new = ⊥
  IsLastTold steps L.Cut closed old did new = (closed ≡ true) × steps.takes old did new
  IsLastTold steps L.Untold closed old did new = steps.fails old did new

  -- the sink took what all phases but the last did, and failed at that
  pub record FailedAtLast (steps : SinkSteps S) (old : S) (did : List PhaseDid) (new : S) : Type 0 where
    pub before : List PhaseDid
    pub last : PhaseDid
    pub is : did ≡ before ++ last ∷ []
    pub mid : S
    pub took : BySteps steps.takes old before mid
    pub failed : steps.fails mid last new

  -- the sink took what each phase did, but where it failed at the last
  abbrev pub HasTaken : SinkSteps S → LastStep → S → List PhaseDid → S → Type 0
  HasTaken steps L.Ended old did new = BySteps steps.takes old did new
  HasTaken steps L.Unread old did new = BySteps steps.takes old did new
  HasTaken steps L.Cut old did new = BySteps steps.takes old did new
  HasTaken steps L.Untold old did new = FailedAtLast steps old did new

-- whether the flash failed
abbrev pub IsClosedAt : LastStep → Bool → Type 0
IsClosedAt L.Ended closed = closed ≡ false
IsClosedAt L.Unread closed = closed ≡ false
IsClosedAt L.Cut closed = closed ≡ true
IsClosedAt L.Untold closed = ⊤

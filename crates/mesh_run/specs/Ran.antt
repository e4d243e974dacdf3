-- What a whole run leaves: the record of its lives, told by the report that was written and by what its flash recovers.
use Rattle.std.specs.Prelude.{◌≡◌, ◌⊎◌, ℕ, ◌+◌, ◌<◌, ◌≤◌, true, IsTrue, List, [], ◌∷◌, ◌++◌, All, length, take, count_by, ⊤, Option, IfSome, IsSomeAnd}
use Rattle.std.specs.List.{Contains}
use Rattle.flash_model.specs.Chip.{Chip}
use Rattle.machine_contract.specs.Opening.{EachRecovered, IsNodeFlash}
use Rattle.mesh_node.specs.Lives.{cut_calls}
use Rattle.record_types.specs.declared.records.StoreRecord.{StoreRecord}
use Rattle.report_definitions.specs.Record.{Life, LifeOver, Run}
use Rattle.report_writer.specs.Writing.{SinkView}
use Rattle.run_definitions.specs.Order.{Step, arm, is_cut}
use Rattle.run_definitions.specs.RunOf.{RunOf, Script}
use Rattle.run_definitions.specs.Uses.{AtMostOnce, NoReuse, delivered, uses}
use Rattle.run_steps.specs.Provisioned.{WasProvisioned}
use Rattle.store_definitions.specs.Provisioning.{provisioned}
use Rattle.store_definitions.specs.Recovered.{IsRecovered}
use Rattle.mesh_run.specs.Kind.{MachineKind}
use Rattle.mesh_run.specs.Lived.{Chained}

-- how many lives were cut
abbrev pub cuts : List LifeOver → ℕ
cuts lives = count_by (λ x. is_cut x.life.end) lives

-- A life that was cut has an order in its plan to tear a call, and more calls were begun than come before it. (Their count stands at ffffffff
-- once it is there.)
abbrev pub IsArmed : List Step → Life → Type 0
IsArmed plan l = is_cut l.end ≡ true
    → (calls : ℕ)
    × ((mask : ℕ) × Contains plan (arm calls mask)
    × IsSomeAnd (cut_calls l.end) (λ m. (calls < m) ⊎ (m ≡ 4294967295)))

abbrev pub AreArmed : List (List Step) → List LifeOver → Type 0
AreArmed [] [] = ⊤
AreArmed (plan ∷ plans) (x ∷ xs) = IsArmed plan x.life × AreArmed plans xs
AreArmed _ _ = ⊥

-- Each life opened over what an image of this very flash recovered, at a moment since that of `start`, and so since each earlier one.
abbrev pub AreFound : Chip → Chip → List LifeOver → Type 0
AreFound start chip lives =
    (t : ℕ) → t ≤ start.moment
    → All (λ x. (image : List ℕ) × chip.since t image × IsRecovered image x.over) lives

-- the script of the first lives
abbrev pub first_lives : ℕ → Script → Script
first_lives n s = record { node = s.node; lives = take n s.lives }

-- The lives of the script were run from one flash to another.
pub record RanAll {F : Type 0} (chip : F → Chip) (kind : MachineKind) (s : Script) (start : F) (lives : List LifeOver) (left : F) : Type 0 where
  -- each on the flash that the one before left
  pub lived : Chained chip kind s.lives start lives left
  -- each image of the flash is one that a life can be opened from
  pub node : IsNodeFlash kind.image (chip left)
  pub found : AreFound (chip start) (chip left) lives
  -- whatever an image of the flash recovers, the run may end with it
  pub at_exit : EachRecovered (chip left) (λ last. RunOf kind.role s (record { lives = lives; last = last }))
  -- at most as many lives were cut as the flash failed, and where none was cut it didn't; over a steady flash only those that were to be
  pub faults : cuts lives + (chip start).faults ≤ (chip left).faults
  pub no_fault : cuts lives ≡ 0 → (chip left).faults ≡ (chip start).faults
  pub armed : IsTrue (chip start).steady → AreArmed s.lives lives
  -- power was cycled once for each life
  pub cycles : (chip left).setting.cycles ≡ (chip start).setting.cycles + length lives

-- The lives of the script were run, and all of them were told.
pub record Ran {F : Type 0} (chip : F → Chip) (kind : MachineKind) (s : Script) (told : List LifeOver → SinkView → SinkView → Type 0)
    (start : F) (before : SinkView) (left : F) (after : SinkView) : Type 0 where
  pub run : Run
  pub is_run : RunOf kind.role s run
  pub ran : RanAll chip kind s start run.lives left
  pub report : told run.lives before after
  -- no run of the script seals two plaintexts under one key and nonce, or delivers a message twice
  pub no_reuse : (q : Run) → RunOf kind.role s q → NoReuse (uses q)
  pub at_most_once : (q : Run) → RunOf kind.role s q → AtMostOnce (delivered q)

-- The first lives of the script were told, and of the others, of which there is one, nothing. Where the flash is left, one life more was
-- run on it.
pub record RanFirst {F : Type 0} (chip : F → Chip) (kind : MachineKind) (s : Script) (told : List LifeOver → SinkView → SinkView → Type 0)
    (start : F) (before : SinkView) (left : Option F) (after : SinkView) : Type 0 where
  pub n : ℕ
  pub fewer : n < length s.lives
  pub run : Run
  pub is_run : RunOf kind.role (first_lives n s) run
  pub reached : F
  pub ran : RanAll chip kind (first_lives n s) start run.lives reached
  pub report : told run.lives before after
  pub more : IfSome left
      (λ f. (x : LifeOver) × RanAll chip kind (first_lives (n + 1) s) start (run.lives ++ x ∷ []) f)

-- The first lives of the script were told, as above, or all of them.
abbrev pub RanFirstOrAll : {F : Type 0} → (F → Chip) → MachineKind → Script → (List LifeOver → SinkView → SinkView → Type 0)
    → F → SinkView → Option F → SinkView → Type 0
RanFirstOrAll {F} chip kind s told start before left after =
    RanFirst chip kind s told start before left after
    ⊎ IsSomeAnd left (λ f. Ran chip kind s told start before f after)

-- The lives of the script were run up to one that wasn't told to its end: those before it were, and of this one a front of what is told
-- stands behind them.
pub record RanFront {F : Type 0} (chip : F → Chip) (kind : MachineKind) (s : Script) (told : List LifeOver → SinkView → SinkView → Type 0)
    (broken : ℕ → Life → SinkView → SinkView → Type 0) (start : F) (before : SinkView) (left : F) (after : SinkView)
    : Type 0 where
  pub n : ℕ
  pub fewer : n < length s.lives
  pub lives : List LifeOver
  pub x : LifeOver
  pub last : List StoreRecord
  pub is_run : RunOf kind.role (first_lives (n + 1) s) (record { lives = lives ++ x ∷ []; last = last })
  pub ran : RanAll chip kind (first_lives (n + 1) s) start (lives ++ x ∷ []) left
  pub mid : SinkView
  pub report : told lives before mid
  pub front : broken (n + 1) x.life mid after

-- The node was provisioned on the flash that was given, in this format, and what holds of a flash holds of the one that this left.
pub record FromProvisioned {F : Type 0} (chip : F → Chip) (format : ℕ) (records : List StoreRecord) (given : Chip)
    (P : F → Type 0) : Type 0 where
  pub start : F
  pub provisioned : WasProvisioned format records given (chip start)
  pub ran : P start

-- The node of the script was provisioned so, and its lives were run from there: all of them, up to one that wasn't told to its end, the first ones,
-- or the first ones or all.
abbrev pub RanFrom : {F : Type 0} → (F → Chip) → MachineKind → ℕ → Script → (List LifeOver → SinkView → SinkView → Type 0) → Chip
    → SinkView → F → SinkView → Type 0
RanFrom {F} chip kind format s told given before left after =
    FromProvisioned chip format (provisioned s.node) given (λ start. Ran chip kind s told start before left after)

abbrev pub FrontFrom : {F : Type 0} → (F → Chip) → MachineKind → ℕ → Script → (List LifeOver → SinkView → SinkView → Type 0)
    → (ℕ → Life → SinkView → SinkView → Type 0) → Chip → SinkView → F → SinkView → Type 0
FrontFrom {F} chip kind format s told broken given before left after =
    FromProvisioned chip format (provisioned s.node) given (λ start. RanFront chip kind s told broken start before left after)

abbrev pub FirstFrom : {F : Type 0} → (F → Chip) → MachineKind → ℕ → Script → (List LifeOver → SinkView → SinkView → Type 0) → Chip
    → SinkView → Option F → SinkView → Type 0
FirstFrom {F} chip kind format s told given before left after =
    FromProvisioned chip format (provisioned s.node) given (λ start. RanFirst chip kind s told start before left after)

abbrev pub FirstOrAllFrom : {F : Type 0} → (F → Chip) → MachineKind → ℕ → Script → (List LifeOver → SinkView → SinkView → Type 0) → Chip
    → SinkView → Option F → SinkView → Type 0
FirstOrAllFrom {F} chip kind format s told given before left after =
    FromProvisioned chip format (provisioned s.node) given (λ start. RanFirstOrAll chip kind s told start before left after)

-- A machine that has nothing to do for some time.
use Rattle.std.specs.Prelude.{◌≡◌, ℕ, ◌-◌, ◌<◌, ◌^◌, List, [], map}
use Rattle.machine_contract.specs.Standing.{past_now}
use Rattle.machine_contract.specs.View.{MachineView}
use Rattle.mesh_types.specs.declared.events.Event.TheVariants as E
use Rattle.record_types.specs.declared.records.StoreRecord.{StoreRecord}
use Rattle.event_definitions.specs.Handling.{AreHandled}
use Rattle.event_definitions.specs.History.{Insight, Past, Told}
use Rattle.event_definitions.specs.Role.{Role}
use Rattle.store_definitions.specs.Config.{config_of}

-- A tick event of so many is quiet after a past: it stores nothing, and its jobs, which see the records of before, are none.
abbrev pub IsQuietTick : Role → Past → ℕ → Type 0
IsQuietTick role past ticks =
    (insight : Insight) → role.sees past (E.Tick ticks) insight
    → (role.stores past (E.Tick ticks) insight (role.answer past (E.Tick ticks) insight) ≡ [])
    × (role.jobs past (config_of past.records) (E.Tick ticks) insight (role.answer past (E.Tick ticks) insight) ≡ [])

-- The entries so far were handled in order, from the records that the life opened over; and after them, and the refills since then, a tick event
-- of fewer than so many is quiet.
pub record IsIdleFor (role : Role) (over : List StoreRecord) (m : MachineView) (due : ℕ) : Type 0 where
  pub told : List Told
  pub entries : map (λ t. t.entry) told ≡ m.entries
  pub handled : AreHandled role over [] told
  pub quiet : (ticks : ℕ) → ticks < due → IsQuietTick role (past_now role over told m.fills) ticks

-- The same, where the machine says which tick events are quiet after a past: this is the least number of ticks of which one isn't, or the most
-- that there is, where none of fewer is so.
pub record IsDueIn (role : Role) (Quiet : Past → ℕ → Type 0) (over : List StoreRecord) (m : MachineView) (due : ℕ) : Type 0 where
  pub told : List Told
  pub entries : map (λ t. t.entry) told ≡ m.entries
  pub handled : AreHandled role over [] told
  pub quiet : (ticks : ℕ) → ticks < due → Quiet (past_now role over told m.fills) ticks
  pub reached : due < 2 ^ 32 - 1 → Quiet (past_now role over told m.fills) due → ⊥

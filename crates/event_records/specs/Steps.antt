-- Steps of the IV state, and the records that they and the passing of hours ask for.
use Rattle.std.specs.Prelude.{◌≤◌, ◌%◌, ◌^◌, ◌==◌, ⊤, ℕ, Bool, if◌then◌else◌, List, [], ◌∷◌}
use Rattle.iv_update.specs.Steps.{IsLater, state_after}
use Rattle.layer_definitions.specs.IvIndex.{iv_hours}
use Rattle.mesh_base.specs.declared.iv_state.IvState.{IvState}
use Rattle.mesh_base.specs.declared.iv_state.IvStep.{IvStep}
use Rattle.mesh_base.specs.declared.iv_state.IvStep.TheVariants.{Begin, Finish, Ignore, Recover, Wait}
use Rattle.mesh_types.specs.declared.answers.Answer.{Answer}
use Rattle.mesh_types.specs.declared.answers.Answer.TheVariants as A
use Rattle.record_types.specs.declared.records.StoreRecord.{StoreRecord}
use Rattle.record_types.specs.declared.records.StoreRecord.TheVariants as R
use Rattle.event_definitions.specs.Stores.{step_records}
use Rattle.store_definitions.specs.Config.{Config}

-- the state that a step leads to, if it leads to one, may follow this one
abbrev pub LeadsOn : IvState → IvStep → Type 0
LeadsOn s (Ignore rule) = ⊤
LeadsOn s (Begin next) = IsLater s next
LeadsOn s (Finish next) = IsLater s next
LeadsOn s (Recover next) = IsLater s next
LeadsOn s Wait = ⊤

-- The step that a beacon is answered by is one of this state, and its index has 12 bits. The table of steps gives the first of every beacon
-- (`steps_law` of iv_update).
abbrev pub IsStepFrom : IvState → Answer → Type 0
IsStepFrom s (A.Beacon index key iv) = (index ≤ 0xfff) × IsLater s (state_after s iv)
IsStepFrom s _ = ⊤

-- what is stored where so many hours passed: the hours, and then the state of the step that is due, if there is one
abbrev pub hour_records : Config → ℕ → Bool → List StoreRecord
hour_records c passed busy =
    let due = iv_hours c.iv passed (c.mark % 2 ^ 25) busy in
    if passed == 0 then [] else R.Hour due.0.hours due.0.since ∷ step_records c due.1

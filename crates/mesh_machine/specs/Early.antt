-- Network PDUs that were read before they are handled: by which view a machine reads them now, and how it counts them.
use Rattle.std.specs.Prelude.{◌≡◌, ℕ, ◌+◌, ◌-◌, ◌^◌, min, Option, Some, None}
use Rattle.early_reading.specs.Views.{EarlyReading}
use Rattle.early_reading.specs.declared.view.KeyView.{KeyView}
use Rattle.event_plans.specs.Memory.{view_in}
use Rattle.machine_contract.specs.declared.early.EarlyReads.{EarlyReads}
use Rattle.mesh_machine.specs.declared.machine.MeshMachine.{MeshMachine}

-- by what it reads octets now
abbrev pub view_now : MeshMachine → KeyView
view_now m = view_in m.state.value.tables m.state.value.reserve.store.persist

-- one more; at 2^64 - 1 a number stays
abbrev pub one_more : ℕ → ℕ
one_more n = min (2 ^ 64 - 1) (n + 1)

-- What was read by the view of now is counted as used before, and what was read by any other view as read again.
pub record IsCountedOf (now : KeyView) (e : EarlyReading) (old new : EarlyReads) : Type 0 where
  pub before : e.view ≡ now → new ≡ record { again = old.again; before = one_more old.before }
  pub again : (e.view ≡ now → ⊥) → new ≡ record { again = one_more old.again; before = old.before }

-- Where nothing was read nothing is counted.
abbrev pub IsCounted : KeyView → Option EarlyReading → EarlyReads → EarlyReads → Type 0
IsCounted now None old new = new ≡ old
IsCounted now (Some e) old new = IsCountedOf now e old new

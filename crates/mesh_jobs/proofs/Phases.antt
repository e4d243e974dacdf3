-- Phases beside the rows that they were taken of.
use Rattle.std.proofs.Common.{◌≡◌, ◌∙◌, true, false, cond, List, [], ◌∷◌, refl, ap, Some}
use Rattle.std.specs.Prelude.{◌==◌, ◌||◌, not}
use Rattle.std.specs.List.{find, list_any}
use Rattle.std.specs.Option.{option_map_or}
use Rattle.mesh_base.specs.declared.keys.NetKeyRow.{NetKeyRow}
use Rattle.mesh_jobs.specs.Phases.{is_changed, phase_of, phases_of}
use Rattle.mesh_jobs.specs.declared.refresh.KeyPhase.{KeyPhase}
use Rattle.event_definitions.specs.Jobs.{is_refreshed}

changed_as : (rows : List NetKeyRow) (r : NetKeyRow) → is_changed (phases_of rows) r ≡ is_refreshed rows r
changed_as [] r = refl
changed_as (x ∷ xs) r =
    elim (x.index == r.index) as (λ t.
    option_map_or (λ (b : KeyPhase). not (b.phase == r.phase)) (cond t (Some (phase_of x)) (find (λ (b : KeyPhase). b.index == r.index) (phases_of xs))) false
    ≡ option_map_or (λ (b : NetKeyRow). not (b.phase == r.phase)) (cond t (Some x) (find (λ (b : NetKeyRow). b.index == r.index) xs)) false) [
      | true ↦ refl
      | false ↦ changed_as xs r
    ]

pub any_changed_as : (before rows : List NetKeyRow) → list_any (is_changed (phases_of before)) rows ≡ list_any (is_refreshed before) rows
any_changed_as before [] = refl
any_changed_as before (x ∷ xs) =
    ap (λ b. b || list_any (is_changed (phases_of before)) xs) (changed_as before x)
    ∙ ap (λ b. is_refreshed before x || b) (any_changed_as before xs)

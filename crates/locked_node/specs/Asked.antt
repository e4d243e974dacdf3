-- That a life stores no refill before there is a job that draws.
use Rattle.std.specs.Prelude.{◌≡◌, ◌≤◌, ℕ, true, false, List, [], ◌∷◌, All, Some, slice_get}
use Rattle.mesh_types.specs.declared.history.Entry.{Entry}
use Rattle.mesh_types.specs.declared.jobs.Job.{Job}
use Rattle.run_definitions.specs.Lines.{is_drawing}
use Rattle.locked_node.specs.declared.marks.Behind.{Behind}
use Rattle.locked_node.specs.declared.marks.Mark.{Mark}
use Rattle.locked_node.specs.declared.marks.Mark.TheVariants as M

-- no job of the entry draws a pair
abbrev pub DrawsNone : Entry → Type 0
DrawsNone e = All (λ job. is_drawing job ≡ false) e.jobs

-- No refill was stored behind these entries, or between them, before there was one that has a job that draws.
abbrev pub AreAsked : List Entry → ℕ → Type 0
AreAsked [] fills = fills ≡ 0
AreAsked (e ∷ entries) fills = (e.fills ≡ 0) × (DrawsNone e → AreAsked entries fills)

-- behind so many entries of the lock is one that has a job that draws
pub record WasAsked (before : ℕ) (marks : List Mark) : Type 0 where
  pub at : ℕ
  pub since : before ≤ at
  pub entry : Entry
  pub behind : Behind
  pub here : slice_get marks at ≡ Some (M.Handled entry behind)
  pub place : ℕ
  pub job : Job
  pub has : slice_get entry.jobs place ≡ Some job
  pub draws : is_drawing job ≡ true

-- Steps of a bearer put behind others.
use Rattle.std.proofs.Common.{◌≡◌, ◌∙◌, List, [], ◌∷◌, ◌++◌, subst, sym}
use Rattle.std.specs.Prelude.{IsTrue}
use Rattle.mesh_types.specs.declared.events.Event.{Event}
use Rattle.mesh_types.specs.declared.history.Sent.{Sent}
use Rattle.run_definitions.specs.Order.{Placed, Task, Walks, follow, follows, handle, handles, is_outside, job_tasks, stops, write, writes}
use Rattle.node_bearer.specs.Did.{IsFor}

pub walk_more : {tasks : List Task} {es : List Placed} {ls : List Sent} {left : List Task} → Walks tasks es ls left
    → {es' : List Placed} {ls' : List Sent} {left' : List Task} → Walks left es' ls' left' → Walks tasks (es ++ es') (ls ++ ls') left'
walk_more stops more = more
walk_more (handles p outside w) more = handles p outside (walk_more w more)
walk_more (follows p w) more = follows p (walk_more w more)
walk_more (writes shows w) more = writes shows (walk_more w more)

pub acts : (event : Event) (task : Task) (rest : List Task) (p : Placed) → IsFor event task → p.entry.event ≡ event
    → Walks (task ∷ rest) (p ∷ []) [] (job_tasks p ++ rest)
acts event (handle e) rest p is same =
    subst (λ x. Walks (handle x ∷ rest) (p ∷ []) [] (job_tasks p ++ rest)) (same ∙ sym is.0) (handles p (subst (λ x. IsTrue (is_outside x)) (sym same) is.1) stops)
acts event (follow e) rest p is same =
    subst (λ x. Walks (follow x ∷ rest) (p ∷ []) [] (job_tasks p ++ rest)) (same ∙ sym is) (follows p stops)
acts event (write i j e job) rest p is same = absurd is

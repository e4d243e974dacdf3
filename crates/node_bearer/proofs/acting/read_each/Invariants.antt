-- The events before this one were read.
use Rattle.std.proofs.Common.{◌≡◌, ℕ, ◌<◌, length}
use Rattle.std.specs.Prelude.{slice_index_or}
use Rattle.mesh_types.specs.declared.events.Event.{Event}
use Rattle.node_bearer.proofs.acting.read_each.Given as goal

abbrev pub invariant-loop-i : goal.invariant-loop-i
invariant-loop-i g l = record {
  long : length l.readings ≡ length l.initial.readings;
  fits : (i : ℕ) (r : _) (e : Event) → i < l.i → g.M.Machine.fits l.reader (slice_index_or l.readings i r) (slice_index_or l.events i e);
}

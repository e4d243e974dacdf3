-- The keys before this one read nothing.
use Rattle.std.proofs.Common.{◌≡◌, ℕ, ◌<◌, Some, slice_get}
use Rattle.mesh_base.specs.declared.fields.Heard.{Heard}
use Rattle.mesh_base.specs.declared.fields.NetFields.{NetFields}
use Rattle.layer_definitions.specs.Network.{ReadsUnder}
use Rattle.network_layer.proofs.reading.read_kept.Given as goal

abbrev pub invariant-loop-key : goal.invariant-loop-key
invariant-loop-key l =
    (k : ℕ) (h : Heard) (f : NetFields) → k < l.key-index → slice_get l.keys k ≡ Some h → ReadsUnder h.material l.current l.bytes f → ⊥

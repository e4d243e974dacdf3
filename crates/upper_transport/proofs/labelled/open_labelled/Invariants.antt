-- The labels before this one open nothing.
use Rattle.std.proofs.Common.{◌≡◌, ℕ, ◌<◌, List, Some, slice_get}
use Rattle.cipher_definitions.specs.Kdf.{virtual_address}
use Rattle.layer_definitions.specs.Labels.{with_label}
use Rattle.layer_definitions.specs.Upper.{OpensUnder}
use Rattle.upper_transport.proofs.labelled.open_labelled.Given as goal

abbrev pub invariant-loop-place : goal.invariant-loop-place
invariant-loop-place l =
    (i : ℕ) (label other : List ℕ) → i < l.place → slice_get l.labels i ≡ Some label → virtual_address label ≡ l.f.dst.0
    → OpensUnder l.key (with_label label l.f) l.upper other → ⊥

-- The labels before this one open nothing.
use Rattle.std.proofs.Common.{◌≡◌, ℕ, ◌<◌, List, Some, slice_get}
use Rattle.cipher_definitions.specs.Kdf.{virtual_address}
use Rattle.layer_definitions.specs.Labels.{with_label}
use Rattle.layer_definitions.specs.Upper.{IsUnopened}
use Rattle.virtual_labels.proofs.opening.unseal.Given as goal

abbrev pub invariant-loop-place : goal.invariant-loop-place
invariant-loop-place l =
    (i : ℕ) (label : List ℕ) → i < l.place → slice_get l.labels i ≡ Some label → virtual_address label ≡ l.f.dst.0
    → IsUnopened l.keys (with_label label l.f) l.upper

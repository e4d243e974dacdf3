-- The keys before this one open nothing.
use Rattle.std.proofs.Common.{◌≡◌, ℕ, ◌<◌, List, Some, slice_get}
use Rattle.mesh_base.specs.declared.keys.UpperKey.{UpperKey}
use Rattle.layer_definitions.specs.Upper.{OpensUnder}
use Rattle.upper_transport.proofs.opening.unseal_kept.Given as goal

abbrev pub invariant-loop-at : goal.invariant-loop-at
invariant-loop-at l =
    (k : ℕ) (key : UpperKey) (payload : List ℕ) → k < l.at → slice_get l.keys k ≡ Some key → OpensUnder key l.f l.upper payload → ⊥

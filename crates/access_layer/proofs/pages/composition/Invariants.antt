-- The elements so far are written.
use Rattle.std.proofs.Common.{◌≡◌, ◌++◌, ◌∷◌, []}
use Rattle.std.specs.List.{flat_map}
use Rattle.model_states.specs.Access.{two_low_first, elements_text}
use Rattle.access_layer.proofs.pages.composition.Given as goal

abbrev pub invariant-loop-place : goal.invariant-loop-place
invariant-loop-place l =
    l.page ≡ flat_map two_low_first (0xffff ∷ 0x0001 ∷ 0x0001 ∷ l.crpl ∷ 0x0005 ∷ []) ++ elements_text l._place

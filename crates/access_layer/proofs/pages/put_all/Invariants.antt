-- The numbers so far are written.
use Rattle.std.proofs.Common.{◌≡◌, ◌++◌, take}
use Rattle.std.specs.List.{flat_map}
use Rattle.model_states.specs.Access.{two_low_first}
use Rattle.access_layer.proofs.pages.put_all.Given as goal

abbrev pub invariant-loop-number : goal.invariant-loop-number
invariant-loop-number l = l.page ≡ l.initial.page ++ flat_map two_low_first (take l.number-index l.numbers)

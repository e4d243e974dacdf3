-- The end for the servers so far.
use Rattle.std.proofs.Common.{take}
use Rattle.std.specs.Prelude.{All}
use Rattle.element_models.specs.Ends.{AreAsFar}
use Rattle.timer_ends.specs.Ends.{HoldsUntil}
use Rattle.element_models.proofs.ends.first_of.Given as goal

abbrev pub invariant-loop-s : goal.invariant-loop-s
invariant-loop-s l = HoldsUntil l.now l.first (λ later. All (AreAsFar l.now later) (take l.s-index l.servers))

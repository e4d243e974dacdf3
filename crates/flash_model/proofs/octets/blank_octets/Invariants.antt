use Rattle.flash_model.specs.Octets.{IsMixed, blanked}
use Rattle.flash_model.proofs.octets.blank_octets.Given as goal

abbrev pub invariant-loop-i : goal.invariant-loop-i
invariant-loop-i l = IsMixed l.mask l.initial.octets (blanked l.at l.i l.initial.octets) l.octets

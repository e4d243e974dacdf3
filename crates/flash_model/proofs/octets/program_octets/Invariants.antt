use Rattle.std.proofs.Common.{take}
use Rattle.flash_model.specs.Octets.{IsMixed, programmed}
use Rattle.flash_model.proofs.octets.program_octets.Given as goal

abbrev pub invariant-loop-i : goal.invariant-loop-i
invariant-loop-i l = IsMixed l.mask l.initial.octets (programmed l.at (take l.i l.bytes) l.initial.octets) l.octets

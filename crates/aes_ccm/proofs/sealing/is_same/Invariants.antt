-- No difference has been seen exactly where the octets so far are the same.
use Rattle.std.proofs.Common.{◌≡◌, ◌↔◌, take}
use Rattle.aes_ccm.proofs.sealing.is_same.Given as goal

abbrev pub invariant-loop-i : goal.invariant-loop-i
invariant-loop-i l = (l.difference ≡ 0) ↔ (take l.i l.one ≡ take l.i l.other)

-- What is done, and the sum of what is left, are the sum of all.
use Rattle.std.proofs.Common.{◌≡◌, ◌++◌, take, drop}
use Rattle.cipher_definitions.specs.Octets.{xor_lists}
use Rattle.aes_block.proofs.sums.add_to.Given as goal

abbrev pub invariant-loop-i : goal.invariant-loop-i
invariant-loop-i l = take l.i l.part ++ xor_lists (drop l.i l.part) (drop l.i l.other) ≡ xor_lists l.initial.part l.other

-- What is done, and the sum of what is left with the stream from the present block on, are the sum
-- of all; the part that begins is that of the present block.
use Rattle.std.proofs.Common.{◌≡◌, ◌++◌, ◌+◌, ◌-◌, ◌*◌, min, length, take, drop}
use Rattle.cipher_definitions.specs.Octets.{xor_lists, block_count}
use Rattle.cipher_definitions.specs.Ccm.{stream}
use Rattle.aes_ccm.proofs.stream.add_stream.Given as goal

abbrev pub invariant-loop-done : goal.invariant-loop-done
invariant-loop-done l = record {
  added : take l.done l.text ++ xor_lists (drop l.done l.text) (stream l.schedule l.nonce l.number (block_count (length (drop l.done l.text))))
      ≡ xor_lists l.initial.text (stream l.schedule l.nonce 1 (block_count (length l.initial.text)));
  place : l.done + 16 ≡ min (16 * l.number) (length l.initial.text + 16);
}

abbrev pub decreases-loop-done : goal.decreases-loop-done
decreases-loop-done l = length l.initial.text - l.done

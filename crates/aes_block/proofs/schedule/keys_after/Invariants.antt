-- The round keys made, and those that follow the last of them, are all of them.
use Rattle.std.proofs.Common.{◌≡◌, ◌++◌, ◌-◌, length, map, take}
use Rattle.cipher_definitions.specs.Aes.{keys_from}
use Rattle.aes_block.specs.Columns.{octets}
use Rattle.aes_block.proofs.schedule.keys_after.Given as goal

abbrev pub invariant-loop-slot : goal.invariant-loop-slot
invariant-loop-slot l = record {
  made : map octets (take l.slot-index l.slot-items) ++ keys_from (10 - l.slot-index) l.constant (octets l.last) ≡ keys_from 10 1 (octets l.key);
  count : length l.slot-items ≡ 10;
}

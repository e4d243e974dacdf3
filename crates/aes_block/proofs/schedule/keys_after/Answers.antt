use Rattle.std.proofs.Math.ListN.{length-set}
use Rattle.cipher_definitions.specs.Aes.{round_keys}
use Rattle.aes_block.specs.Columns.{octets}
use Rattle.aes_block.proofs.Keys.{keys_turn, keys_end}
use Rattle.aes_block.proofs.schedule.keys_after.Goals as goal

pub loop-slot-preserved : goal.loop-slot-preserved
loop-slot-preserved c = record {
  made =
      rw c.next_constant-constant.ensures
      (keys_turn octets c.loop-slot.slot-items _ c.loop-slot.last c.key_after-last.result c.loop-slot.slot-index c.loop-slot.constant c.loop-slot.invariant.count c.loop-slot-test.true c.key_after-last.ensures c.loop-slot.invariant.made);
  count = simp length-set c.loop-slot.invariant.count;
}

pub returns : goal.returns
unfolding round_keys
returns c =
    keys_end octets c.loop-slot.slot-items _ c.loop-slot.last c.loop-slot.slot-index c.loop-slot.constant c.loop-slot.invariant.count c.loop-slot-test.false c.loop-slot.invariant.made

-- The machine of its parts.
use Rattle.std.specs.Prelude.{ℕ, Bool}
use Rattle.entry_log.specs.Log.{LogView}
use Rattle.low_power_machine.specs.Views.{LowPowerNode}
use Rattle.low_power_machine.specs.declared.memory.Memory.{Memory}
use Rattle.machine_contract.specs.declared.answers.Hand.{Hand}
use Rattle.seq_reserve.specs.declared.reserve.Reserve.{Reserve}

abbrev pub machine_of : Reserve → Memory → LogView → ℕ → Bool → Hand → ℕ → LowPowerNode
machine_of reserve memory history fills closed hand elements = record {
  reserve = reserve;
  tables = memory;
  entries = history.entries;
  moves = history.moves;
  taken = history.taken;
  fills = fills;
  closed = closed;
  hand = hand;
  elements = elements;
}

-- The numbers that a store says.
use Rattle.std.specs.Prelude.{◌<◌, ◌^◌}
use Rattle.mesh_base.specs.IvState.{HasTransmit}
use Rattle.store_definitions.specs.Ranges.{IsMark}
use Rattle.node_records.specs.declared.persist.Persist.{Persist}

-- They are in range: the known IV Index has 32 bits and there is one to send with, the mark is a word under it, and the hours have 16 bits.
pub record HasNumbers (p : Persist) : Type 0 where
  pub current : p.iv.current < 2 ^ 32
  pub transmit : HasTransmit p.iv
  pub mark : IsMark p.iv p.mark
  pub hours : p.iv.hours < 2 ^ 16
  pub since : p.iv.since < 2 ^ 16

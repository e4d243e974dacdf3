use Rattle.script_reader.proofs.Keeping.{said_ok, with_counted_keeps}
use Rattle.script_reader.proofs.reading.next_line.Goals as goal

pub returns-in-Ok-clause-ranges : goal.returns-in-Ok-clause-ranges
returns-in-Ok-clause-ranges c =
    said_ok _ _ _ c.with_counted.ensures.value
    (with_counted_keeps _ _ _ c.requires (rw c.elements.ensures.value at (rw c.in-Ok.is at c.in_ok-line.ensures.ranges)))

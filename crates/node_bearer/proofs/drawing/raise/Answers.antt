use Rattle.node_bearer.proofs.Turning.{on_freed, stops}
use Rattle.node_bearer.proofs.drawing.raise.Goals as goal

pub returns-else-mark-lt-SPENT_SEQ-clause-on : goal.returns-else-mark-lt-SPENT_SEQ-clause-on
returns-else-mark-lt-SPENT_SEQ-clause-on g c = on_freed c.args.b.now

pub returns-in_err-refill-clause-stopped : goal.returns-in_err-refill-clause-stopped
returns-in_err-refill-clause-stopped g c = λ k first tasks rest h.
    stops _ c.from_residual.result c.in_err-refill.field-0.0 c.from_residual.ensures.1 (c.in_err-refill.ensures.stopped k first tasks rest h)

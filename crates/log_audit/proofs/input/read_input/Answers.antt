use Rattle.std.proofs.Common.{◌≡◌, length, rules}
use Rattle.log_audit.proofs.Others.{input_of, stop_of}
use Rattle.log_audit.proofs.input.read_input.Goals as goal

pub returns-in-Ok-clause-ok : goal.returns-in-Ok-clause-ok
returns-in-Ok-clause-ok c =
    let (lines, read) = c.in-Ok.ensures.ok in
    (lines, input_of _ _ _ lines c.in_ok-keys.ensures.ok read.are, read)

pub returns-clause-cause : goal.returns-clause-cause
returns-clause-cause c =
    let count : c.len.result ≡ length c.in_ok-keys.keys.items = search rules in
    stop_of _ _ _ c.in-Err.stop c.in_ok-keys.ensures.ok (rw count at c.in-Err.ensures.cause)

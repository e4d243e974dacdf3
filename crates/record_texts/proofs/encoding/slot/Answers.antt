use Rattle.std.proofs.Common.{length, ap, ◌++◌}
use Rattle.std.proofs.lemmas.List.{drop-replicate}
use Rattle.record_texts.proofs.encoding.slot.Goals as goal

pub returns : goal.returns
returns c =
    rw c.copy_from_slice.ensures.after
    (ap (λ zeros. record { kind = c.args.kind; body = c.args.octets.now ++ zeros }) (drop-replicate (length c.args.octets.now) 30 0))

use Rattle.std.proofs.Common.{sym, ap, ◌∙◌}
use Rattle.std.specs.List.{filter}
use Rattle.turn_lock.proofs.gather.gather.Goals as goal

pub returns-clause-kept : goal.returns-clause-kept
returns-clause-kept g c = λ keep ys h.
    let all = c.join_all.ensures.parts ∙ c.requires.all in
    ap (filter keep) (sym (c.enter-value.ensures.places all)) ∙ c.join_all.ensures.kept keep ys h

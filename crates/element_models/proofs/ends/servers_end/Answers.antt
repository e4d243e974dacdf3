use Rattle.timer_ends.proofs.Firsts.{all_of}
use Rattle.element_models.proofs.ends.servers_end.Goals as goal

pub returns : goal.returns
returns c = λ later from time.
    let s = c.args.s.now in
    let both =
    all_of (c.change_end.ensures.still later from time) (c.change_end-2.ensures.still later from time) (c.sooner.ensures.before later) in
    (λ h. both.0 (h.onoff, h.level), λ w. let parts = both.1 w in record { onoff = parts.0; level = parts.1 })

use Rattle.std.proofs.Common.{◌∙◌, sym, subst}
use Rattle.seq_reserve.specs.Reserving.{IsDurable}
use Rattle.seq_reserve.proofs.Keeping.{durable_by}
use Rattle.event_storing.proofs.Moves.{other_mark}
use Rattle.event_storing.proofs.one.put_other.Goals as goal

pub returns-clause-published : goal.returns-clause-published
returns-clause-published g c =
    c.requires.published ∙ sym (other_mark c.args.reserve.now.store.persist c.put.new.self.persist c.args.item.now c.requires.none c.in_ok-put.ensures.puts.change)

pub returns-clause-durable : goal.returns-clause-durable
returns-clause-durable g c records tie =
    subst (λ n. IsDurable (g.F.Flash.chip c.put.new.flash) n) (sym c.requires.published)
    (durable_by (g.F.Flash.chip c.args.flash.now) (g.F.Flash.chip c.put.new.flash) c.args.reserve.now.store.persist.mark
    (λ image later is. g.met.F.Flash.counts_now c.put.new.flash _ image later is) (c.in_ok-put.ensures.cut.mark records tie))

pub returns-in_err-put-clause-durable : goal.returns-in_err-put-clause-durable
returns-in_err-put-clause-durable g c records tie =
    subst (λ n. IsDurable (g.F.Flash.chip c.put.new.flash) n) (sym c.requires.published)
    (durable_by (g.F.Flash.chip c.args.flash.now) (g.F.Flash.chip c.put.new.flash) c.args.reserve.now.store.persist.mark
    (λ image later is. g.met.F.Flash.counts_now c.put.new.flash _ image later is) (c.in_err-put.ensures.cut.mark records tie))

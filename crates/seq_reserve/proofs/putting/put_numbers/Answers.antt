use Rattle.seq_reserve.proofs.Keeping.{durable_by, durable_of}
use Rattle.seq_reserve.proofs.Worlds.{put_step}
use Rattle.seq_reserve.proofs.putting.put_numbers.Goals as goal

pub returns-clause-steps : goal.returns-clause-steps
returns-clause-steps g c w published world =
    put_step w c.args.store.now.persist c.put.new.self.persist published c.args.item.now c.requires.numbers c.requires.rises c.requires.said c.in_ok-put.ensures.puts.value world

pub returns-clause-durable : goal.returns-clause-durable
returns-clause-durable g c records tie = durable_of (g.F.Flash.chip c.put.new.flash) c.put.new.self _ (c.in_ok-put.ensures.puts.kept records tie)

pub returns-clause-safe : goal.returns-clause-safe
returns-clause-safe g c records tie =
    durable_by (g.F.Flash.chip c.args.flash.now) (g.F.Flash.chip c.put.new.flash) c.args.store.now.persist.mark
    (λ image later is. g.met.F.Flash.counts_now c.put.new.flash _ image later is) (c.in_ok-put.ensures.cut.mark records tie)

pub returns-in_err-put-clause-safe : goal.returns-in_err-put-clause-safe
returns-in_err-put-clause-safe g c records tie =
    durable_by (g.F.Flash.chip c.args.flash.now) (g.F.Flash.chip c.put.new.flash) c.args.store.now.persist.mark
    (λ image later is. g.met.F.Flash.counts_now c.put.new.flash _ image later is) (c.in_err-put.ensures.cut.mark records tie)

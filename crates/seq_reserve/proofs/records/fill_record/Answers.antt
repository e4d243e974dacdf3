use Rattle.seq_reserve.proofs.Marks.{mark_more}
use Rattle.seq_reserve.proofs.records.fill_record.Goals as goal

pub returns-clause-range : goal.returns-clause-range
returns-clause-range c =
    let h = c.requires.numbers in
    (h.current, h.transmit, mark_more c.args.p.now.iv c.args.p.now.mark h.mark c.requires.unspent, h.hours, h.since)

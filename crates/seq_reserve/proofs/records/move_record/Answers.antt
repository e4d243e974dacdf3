use Rattle.seq_reserve.proofs.records.move_record.Goals as goal

pub returns-clause-range : goal.returns-clause-range
returns-clause-range c =
    let h = c.iv_fits.ensures in
    (h.current, c.requires.transmit, c.mark_under.ensures.range, h.hours, h.since)

use Rattle.rpl_journal.proofs.accepting.record_of.Goals as goal

pub returns-clause-range : goal.returns-clause-range
returns-clause-range c = (record { src = c.name_fits.ensures.src; iv = c.name_fits.ensures.iv; seq = c.requires }, tt)

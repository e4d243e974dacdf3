use Rattle.std.proofs.Common.{sym, ◌∙◌}
use Rattle.mesh_machine.proofs.Same.{still_fit}
use Rattle.mesh_machine.proofs.entering.renew.Goals as goal

pub returns-else-change_keys-clause-fit : goal.returns-else-change_keys-clause-fit
returns-else-change_keys-clause-fit c = still_fit c.args.tables.now c.args.p.now c.args.records.now c.requires.had (sym c.change_keys.ensures ∙ c.if-change_keys.false)

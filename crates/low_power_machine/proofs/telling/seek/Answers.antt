use Rattle.std.proofs.Common.{[], ◌∷◌, refl, ap, sym, ◌∙◌}
use Rattle.low_power_definitions.specs.declared.lpn.LpnJob.{LpnJob}
use Rattle.low_power_role.specs.Readings.{friend_keys}
use Rattle.node_records.specs.Tables.{config_in}
use Rattle.low_power_machine.proofs.telling.seek.Goals as goal

pub returns-clause-told : goal.returns-clause-told
returns-clause-told c = record {
  answer = refl;
  job = ap (λ (j : LpnJob). j ∷ []) c.seek-job.ensures.value;
  state = c.renew.ensures.lpn ∙ c.seek-job.ensures.state;
}

pub returns-clause-fit : goal.returns-clause-fit
returns-clause-fit c = record {
  nets = c.renew.ensures.nets ∙ c.requires.fit.nets;
  friend = c.renew.ensures.friend ∙ ap (λ st. friend_keys (config_in c.args.p.now) st) (sym c.renew.ensures.lpn);
  device = c.renew.ensures.device ∙ c.requires.fit.device;
}

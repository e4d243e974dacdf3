use Rattle.std.proofs.Common.{List, sym, subst, ◌∙◌}
use Rattle.layer_definitions.specs.KeyRefresh.{net_index}
use Rattle.layer_definitions.specs.Order.{IsByIndex}
use Rattle.low_power_machine.proofs.Fitting.{own_in_order}
use Rattle.mesh_base.specs.declared.keys.NetKeyRow.{NetKeyRow}
use Rattle.node_records.specs.Tables.{config_in}
use Rattle.low_power_machine.proofs.memory.Memory.new.Goals as goal

pub returns-clause-fit : goal.returns-clause-fit
returns-clause-fit c = record {
  nets = c.derive.ensures.in_order (subst (λ (l : List NetKeyRow). IsByIndex net_index l) (sym c.first_nets.ensures.value) (own_in_order (config_in c.args.p.now))) ∙ c.first_nets.ensures.value;
  friend = c.friend_keys-friend.ensures.value;
  device = c.new.ensures.value;
}

use Rattle.std.proofs.Common.{ap}
use Rattle.store_definitions.specs.Provisioning.{provisioned}
use Rattle.node_store.specs.Provisioning.{provisioning}
use Rattle.run_steps.proofs.Begun.{now_format, now_provisioned}
use Rattle.run_steps.proofs.provisioning.provision_now.Goals as goal

pub returns-in-Ok-clause-provisioned : goal.returns-in-Ok-clause-provisioned
returns-in-Ok-clause-provisioned g c = λ fresh.
    now_provisioned c.one_list_is_recovered.ensures.one_list c.args.p.now (g.F.Flash.chip c.provision.new.flash) c.in-Ok.field-0 c.requires (c.in-Ok.ensures.exactly fresh)

pub returns-in-Ok-clause-format : goal.returns-in-Ok-clause-format
returns-in-Ok-clause-format g c = λ fresh.
    now_format (g.F.Flash.chip c.provision.new.flash) c.in-Ok.field-0 (provisioned (provisioning c.args.p.now)) 2 (ap (λ j. j.version) c.in-Ok.ensures.value.0) (c.in-Ok.ensures.exactly fresh)

use Rattle.std.proofs.Common.{subst, sym}
use Rattle.std.specs.Prelude.{OnOk}
use Rattle.store_definitions.specs.Provisioning.{provisioned}
use Rattle.node_store.specs.Provisioning.{provisioning}
use Rattle.run_steps.specs.Provisioned.{IsInFormat, format_by}
use Rattle.run_steps.proofs.Begun.{old_format, old_provisioned_where}
use Rattle.run_steps.proofs.provisioning.provision.Goals as goal

pub returns-then-old-clause-provisioned : goal.returns-then-old-clause-provisioned
returns-then-old-clause-provisioned g c = λ fresh.
    old_provisioned_where c.one_list_is_recovered.ensures.one_list c.args.p.now (g.F.Flash.chip c.provision_old.new.flash) c.provision_old.result c.requires
    (c.provision_old.ensures.kept fresh) (c.provision_old.ensures.durable fresh)

pub returns-then-old-clause-format : goal.returns-then-old-clause-format
returns-then-old-clause-format g c = λ fresh.
    let chip = g.F.Flash.chip c.provision_old.new.flash in
    subst (λ b. OnOk c.provision_old.result (IsInFormat (format_by b) chip)) (sym c.if-old.true)
    (old_format (provisioned (provisioning c.args.p.now)) chip c.provision_old.result (c.provision_old.ensures.durable fresh))

pub returns-else-old-clause-format : goal.returns-else-old-clause-format
returns-else-old-clause-format g c = λ fresh.
    subst (λ b. OnOk c.provision_now.result (IsInFormat (format_by b) (g.F.Flash.chip c.provision_now.new.flash))) (sym c.if-old.false) (c.provision_now.ensures.format fresh)

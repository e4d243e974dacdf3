use Rattle.std.proofs.Common.{◌≡◌, ◌∙◌, true, ap, subst, sym, arith}
use Rattle.flash_model.specs.Chip.{Setting}
use Rattle.std.specs.Prelude.{IfOk}
use Rattle.std.proofs.lemmas.Result.{IfOk-weaker}
use Rattle.machine_contract.specs.Refused.{IsStartCause}
use Rattle.mesh_types.specs.declared.report.End.TheVariants as Ends
use Rattle.store_definitions.specs.Config.{config_of}
use Rattle.store_definitions.specs.Recovered.{IsRecovered}
use Rattle.life_laws.specs.Plan.{steps_of}
use Rattle.mesh_node.specs.Ran.{Ran}
use Rattle.mesh_node.specs.Steps.{IsArmedFirst, IsOfPlan}
use Rattle.mesh_node.proofs.Arming.{powered}
use Rattle.mesh_node.proofs.Closing.{lives_cut, lives_ran, lives_reset}
use Rattle.mesh_node.proofs.living.life.Goals as goal

pub start-requires-clause-node : goal.start-requires-clause-node
start-requires-clause-node g c =
    let chip = g.B.Flash.chip in
    let cycle = c.power_cycle.ensures in
    let items = c.args.plan.now.steps.items in
    let armed = subst (λ xs. IsArmedFirst xs (chip c.power_cycle.new.self) (chip c.arm_first-steps.new.flash)) c.as_slice.ensures.value c.arm_first-steps.ensures.armed in
    (powered g.M.Machine.image items (chip c.args.flash) (chip c.power_cycle.new.self) (chip c.arm_first-steps.new.flash) c.requires.node cycle.frame cycle.fresh cycle.image cycle.setting cycle.changes cycle.erases cycle.octets cycle.reads armed).node

pub start-requires-clause-fresh : goal.start-requires-clause-fresh
start-requires-clause-fresh g c =
    let chip = g.B.Flash.chip in
    let cycle = c.power_cycle.ensures in
    let items = c.args.plan.now.steps.items in
    let armed = subst (λ xs. IsArmedFirst xs (chip c.power_cycle.new.self) (chip c.arm_first-steps.new.flash)) c.as_slice.ensures.value c.arm_first-steps.ensures.armed in
    (powered g.M.Machine.image items (chip c.args.flash) (chip c.power_cycle.new.self) (chip c.arm_first-steps.new.flash) c.requires.node cycle.frame cycle.fresh cycle.image cycle.setting cycle.changes cycle.erases cycle.octets cycle.reads armed).fresh

pub start-requires-clause-began : goal.start-requires-clause-began
start-requires-clause-began g c =
    let chip = g.B.Flash.chip in
    let cycle = c.power_cycle.ensures in
    let items = c.args.plan.now.steps.items in
    let armed = subst (λ xs. IsArmedFirst xs (chip c.power_cycle.new.self) (chip c.arm_first-steps.new.flash)) c.as_slice.ensures.value c.arm_first-steps.ensures.armed in
    let p = powered g.M.Machine.image items (chip c.args.flash) (chip c.power_cycle.new.self) (chip c.arm_first-steps.new.flash) c.requires.node cycle.frame cycle.fresh cycle.image cycle.setting cycle.changes cycle.erases cycle.octets cycle.reads armed in
    omega (arith, p.began, p.count.faults)

pub run_life-requires-clause-steps : goal.run_life-requires-clause-steps
run_life-requires-clause-steps g c κs lives =
    let chip = g.B.Flash.chip in
    let cycle = c.power_cycle.ensures in
    let items = c.args.plan.now.steps.items in
    let start = chip c.arm_first-steps.new.flash in
    let armed = subst (λ xs. IsArmedFirst xs (chip c.power_cycle.new.self) start) c.as_slice.ensures.value c.arm_first-steps.ensures.armed in
    let p = powered g.M.Machine.image items (chip c.args.flash) (chip c.power_cycle.new.self) start c.requires.node cycle.frame cycle.fresh cycle.image cycle.setting cycle.changes cycle.erases cycle.octets cycle.reads armed in
    λ over read. c.requires.plan.steps start.now over p.is (subst (λ f. IsRecovered (chip f).now over) c.in_ok-start.ensures.value read)

pub run_life-requires-clause-order : goal.run_life-requires-clause-order
run_life-requires-clause-order g c κs lives =
    let chip = g.B.Flash.chip in
    let cycle = c.power_cycle.ensures in
    let items = c.args.plan.now.steps.items in
    let start = chip c.arm_first-steps.new.flash in
    let armed = subst (λ xs. IsArmedFirst xs (chip c.power_cycle.new.self) start) c.as_slice.ensures.value c.arm_first-steps.ensures.armed in
    let p = powered g.M.Machine.image items (chip c.args.flash) (chip c.power_cycle.new.self) start c.requires.node cycle.frame cycle.fresh cycle.image cycle.setting cycle.changes cycle.erases cycle.octets cycle.reads armed in
    subst (λ (s : Setting). IsOfPlan (steps_of items) s.arm) (sym c.start.ensures.frame.setting) p.order

pub run_life-requires-clause-armed : goal.run_life-requires-clause-armed
run_life-requires-clause-armed g c κs lives =
    let chip = g.B.Flash.chip in
    let cycle = c.power_cycle.ensures in
    let items = c.args.plan.now.steps.items in
    let start = chip c.arm_first-steps.new.flash in
    let armed = subst (λ xs. IsArmedFirst xs (chip c.power_cycle.new.self) start) c.as_slice.ensures.value c.arm_first-steps.ensures.armed in
    let p = powered g.M.Machine.image items (chip c.args.flash) (chip c.power_cycle.new.self) start c.requires.node cycle.frame cycle.fresh cycle.image cycle.setting cycle.changes cycle.erases cycle.octets cycle.reads armed in
    ap (λ (s : Setting). s.arm) c.start.ensures.frame.setting ∙ p.armed

pub returns-in-Ok : goal.returns-in-Ok
returns-in-Ok g c =
    let law = g.met.B.Bench g.world.𝓛 g.world.𝓜 g.world.𝓡 ((λ s x. x), (λ x. x), (λ x. x), λ x. x) in
    let counts = g.met.B.Flash g.world.𝓛 g.world.𝓜 g.world.𝓡 ((λ s x. x), (λ x. x), (λ x. x), λ x. x) in
    let chip = g.B.Flash.chip in
    let role = g.M.Machine.role in
    let image = g.M.Machine.image in
    let cycle = c.power_cycle.ensures in
    let items = c.args.plan.now.steps.items in
    let old = chip c.args.flash in
    let start = chip c.arm_first-steps.new.flash in
    let armed = subst (λ xs. IsArmedFirst xs (chip c.power_cycle.new.self) start) c.as_slice.ensures.value c.arm_first-steps.ensures.armed in
    let p = powered image items old (chip c.power_cycle.new.self) start c.requires.node cycle.frame cycle.fresh cycle.image cycle.setting cycle.changes cycle.erases cycle.octets cycle.reads armed in
    record {
      life = IfOk-weaker c.run_life.result _ _ (λ r h. lives_ran g.M.Machine.view g.M.Machine.stands chip role image items c.requires.plan.arm old start r.1 r.0 p.is p.began p.order p.armed p.count p.cycles p.uncalled p.unread p.read law.carried law.explained counts.counted h)
          (subst (λ s. IfOk c.run_life.result (λ r. Ran g.M.Machine.view g.M.Machine.stands chip role image (steps_of items) (chip s) r.0 r.1)) c.in_ok-start.ensures.value c.run_life.ensures.ran);
    }

pub returns-in-Err-Flash : goal.returns-in-Err-Flash
returns-in-Err-Flash g c =
    let law = g.met.B.Bench g.world.𝓛 g.world.𝓜 g.world.𝓡 ((λ s x. x), (λ x. x), (λ x. x), λ x. x) in
    let counts = g.met.B.Flash g.world.𝓛 g.world.𝓜 g.world.𝓡 ((λ s x. x), (λ x. x), (λ x. x), λ x. x) in
    let chip = g.B.Flash.chip in
    let cycle = c.power_cycle.ensures in
    let items = c.args.plan.now.steps.items in
    let old = chip c.args.flash in
    let start = chip c.arm_first-steps.new.flash in
    let armed = subst (λ xs. IsArmedFirst xs (chip c.power_cycle.new.self) start) c.as_slice.ensures.value c.arm_first-steps.ensures.armed in
    let p = powered g.M.Machine.image items old (chip c.power_cycle.new.self) start c.requires.node cycle.frame cycle.fresh cycle.image cycle.setting cycle.changes cycle.erases cycle.octets cycle.reads armed in
    let cause = subst (IsStartCause g.M.Machine.image start (chip c.start.new.flash)) c.in-Err-Flash.field-0-is c.in-Err-Flash.ensures.cause in
    let log = c.idle_log.ensures in
    record {
      life = lives_cut g.M.Machine.view g.M.Machine.stands chip g.M.Machine.role g.M.Machine.image items c.requires.plan.arm old start c.start.new.flash c.idle_log.result
          p.is p.began p.order p.armed p.count p.cycles p.uncalled p.unread p.read law.carried law.explained counts.counted c.start.ensures.frame c.start.ensures.writes c.start.ensures.reset (law.explained c.start.new.flash) cause.1 cause.0 log.opened (log.end ∙ ap Ends.Cut c.changes.ensures) log.drawn log.entries log.refills log.sends log.early;
    }

pub returns-in-Err-WasReset : goal.returns-in-Err-WasReset
returns-in-Err-WasReset g c =
    let law = g.met.B.Bench g.world.𝓛 g.world.𝓜 g.world.𝓡 ((λ s x. x), (λ x. x), (λ x. x), λ x. x) in
    let counts = g.met.B.Flash g.world.𝓛 g.world.𝓜 g.world.𝓡 ((λ s x. x), (λ x. x), (λ x. x), λ x. x) in
    let chip = g.B.Flash.chip in
    let cycle = c.power_cycle.ensures in
    let items = c.args.plan.now.steps.items in
    let old = chip c.args.flash in
    let start = chip c.arm_first-steps.new.flash in
    let armed = subst (λ xs. IsArmedFirst xs (chip c.power_cycle.new.self) start) c.as_slice.ensures.value c.arm_first-steps.ensures.armed in
    let p = powered g.M.Machine.image items old (chip c.power_cycle.new.self) start c.requires.node cycle.frame cycle.fresh cycle.image cycle.setting cycle.changes cycle.erases cycle.octets cycle.reads armed in
    let cause = subst (IsStartCause g.M.Machine.image start (chip c.start.new.flash)) c.in-Err-WasReset.field-0-is c.in-Err-WasReset.ensures.cause in
    let log = c.idle_log-in-Err-WasReset.ensures in
    let reset = subst (λ o. (config_of o).reset ≡ true) (c.one_list_is_recovered.ensures.one_list start.now cause.0.over cause.1.over cause.0.read cause.1.read) cause.0.reset in
    record {
      life = lives_reset g.M.Machine.view g.M.Machine.stands chip g.M.Machine.role g.M.Machine.image items c.requires.plan.arm old start c.start.new.flash c.idle_log-in-Err-WasReset.result
          p.is p.began p.order p.armed p.count p.cycles p.uncalled p.unread p.read law.carried law.explained counts.counted c.start.ensures.frame c.start.ensures.writes.most_reads (c.start.ensures.reset cause.0) cause.2 cause.1 reset log.opened log.end log.drawn log.entries log.refills log.sends log.early;
    }

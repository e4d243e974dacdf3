use Rattle.std.proofs.Common.{refl, sym, subst}
use Rattle.mesh_node.specs.Lives.{Lives}
use Rattle.mesh_run.proofs.Living.{planned}
use Rattle.mesh_run.proofs.lives.live.Goals as goal

pub life-requires-clause-plan : goal.life-requires-clause-plan
life-requires-clause-plan g c κs within =
    planned (g.B.Flash.chip c.args.flash) (g.S.LifeSource.script c.args.script.now).provision.elements c.in_ok-plan.plan c.in_ok-plan.ensures.bearers c.in_ok-plan.ensures.planned c.requires.elements

pub returns-clause-lived : goal.returns-clause-lived
returns-clause-lived g c =
    let chip = g.B.Flash.chip in
    let lived = subst (λ steps. Lives g.M.Machine.view g.M.Machine.stands chip g.M.Machine.role g.M.Machine.image steps (chip c.args.flash) c.in_ok-log.log c.in_ok-log.flash) c.in_ok-plan.ensures.value c.in_ok-log.ensures.life in (
      lived.over,
      record {
        log = c.in_ok-log.log;
        is = sym c.ended_life.ensures.value;
        lives = lived;
        opened_over = refl;
        explained = (g.met.B.Bench g.world.𝓛 g.world.𝓜 g.world.𝓡 ((λ s x. x), (λ x. x), (λ x. x), λ x. x)).explained c.in_ok-log.flash;
      },
    )

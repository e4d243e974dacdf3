use Rattle.event_world.specs.Stepping.{HasStepped}
use Rattle.machine_ties.specs.Ties.{Stands}
use Rattle.machine_ties.specs.Views.{NodeMachine}
use Rattle.mesh_machine.proofs.machine.MeshMachine.handle_event.Goals as goal
use Rattle.std.proofs.Common.{subst, sym, ◌∙◌}
use Rattle.std.specs.Prelude.{IfOk}
use Rattle.store_world.specs.Standing.{IsWorldOf}

pub returns-clause-kept : goal.returns-clause-kept
returns-clause-kept g c = λ first over s.
    c.handle_event.ensures.kept first over
    (subst (λ (m : NodeMachine). Stands first (g.F.Flash.chip c.args.flash.now) over m) (sym (c.deref_mut.ensures.value ∙ c.take_early-known.ensures.state)) s)

pub returns-clause-steps : goal.returns-clause-steps
returns-clause-steps g c = λ w.
    subst (λ (m : NodeMachine). IsWorldOf w m.reserve.store.persist m.reserve.store.persist.mark
    → IfOk c.handle_event.result (λ r. HasStepped w m.reserve.store.persist c.handle_event.new.self.reserve.store.persist c.args.event.now r.answer))
    (c.deref_mut.ensures.value ∙ c.take_early-known.ensures.state) (c.handle_event.ensures.steps w)

use Rattle.std.proofs.Common.{sym, subst}
use Rattle.std.specs.Prelude.{IfErr, IfOk}
use Rattle.mesh_machine.proofs.Handled.{acted_done, own_left}
use Rattle.mesh_machine.specs.Handling.{IsDone, IsStopped, IsTurnOf}
use Rattle.mesh_types.specs.declared.events.Event.{Event}
use Rattle.mesh_machine.proofs.kinds.handle.Goals as goal

pub hear-requires-clause-turn : goal.hear-requires-clause-turn
hear-requires-clause-turn g c = subst (λ (e : Event). IsTurnOf c.args.parts.now e) c.in-Net.is c.requires.turn

pub hear-requires-clause-known : goal.hear-requires-clause-known
hear-requires-clause-known g c = c.requires.known c.in-Net.octets c.in-Net.is

pub returns-in-Net-clause-done : goal.returns-in-Net-clause-done
returns-in-Net-clause-done g c =
    subst (λ (e : Event). IfOk c.hear.result (IsDone c.args.parts.now c.hear.new.parts e c.args.pending.place (g.F.Flash.chip c.args.flash.now) (g.F.Flash.chip c.hear.new.flash)))
    (sym c.in-Net.is) c.hear.ensures.done

pub returns-in-Net-clause-stopped : goal.returns-in-Net-clause-stopped
returns-in-Net-clause-stopped g c =
    subst (λ (e : Event). IfErr c.hear.result (IsStopped g.F.Flash.chip e c.args.parts.now c.hear.new.parts c.args.flash.now c.hear.new.flash))
    (sym c.in-Net.is) c.hear.ensures.stopped

pub hear_beacon-requires-clause-turn : goal.hear_beacon-requires-clause-turn
hear_beacon-requires-clause-turn g c = subst (λ (e : Event). IsTurnOf c.args.parts.now e) c.in-Bcn.is c.requires.turn

pub returns-in-Bcn-clause-done : goal.returns-in-Bcn-clause-done
returns-in-Bcn-clause-done g c =
    subst (λ (e : Event). IfOk c.hear_beacon.result (IsDone c.args.parts.now c.hear_beacon.new.parts e c.args.pending.place (g.F.Flash.chip c.args.flash.now) (g.F.Flash.chip c.hear_beacon.new.flash)))
    (sym c.in-Bcn.is) c.hear_beacon.ensures.done

pub returns-in-Bcn-clause-stopped : goal.returns-in-Bcn-clause-stopped
returns-in-Bcn-clause-stopped g c =
    subst (λ (e : Event). IfErr c.hear_beacon.result (IsStopped g.F.Flash.chip e c.args.parts.now c.hear_beacon.new.parts c.args.flash.now c.hear_beacon.new.flash))
    (sym c.in-Bcn.is) c.hear_beacon.ensures.stopped

pub tick-requires-clause-turn : goal.tick-requires-clause-turn
tick-requires-clause-turn g c = subst (λ (e : Event). IsTurnOf c.args.parts.now e) c.in-Tick.is c.requires.turn

pub returns-in-Tick-clause-done : goal.returns-in-Tick-clause-done
returns-in-Tick-clause-done g c =
    subst (λ (e : Event). IfOk c.tick.result (IsDone c.args.parts.now c.tick.new.parts e c.args.pending.place (g.F.Flash.chip c.args.flash.now) (g.F.Flash.chip c.tick.new.flash)))
    (sym c.in-Tick.is) c.tick.ensures.done

pub returns-in-Tick-clause-stopped : goal.returns-in-Tick-clause-stopped
returns-in-Tick-clause-stopped g c =
    subst (λ (e : Event). IfErr c.tick.result (IsStopped g.F.Flash.chip e c.args.parts.now c.tick.new.parts c.args.flash.now c.tick.new.flash))
    (sym c.in-Tick.is) c.tick.ensures.stopped

pub act-requires-clause-own : goal.act-requires-clause-own
act-requires-clause-own g c = own_left c.args.pending.event.now c.in_default.not-Net c.in_default.not-Bcn c.in_default.not-Tick

pub returns-in_default-clause-done : goal.returns-in_default-clause-done
returns-in_default-clause-done g c =
    acted_done c.args.parts.now c.act.new.parts c.args.pending.event.now c.requires.turn c.args.pending.place c.act.result c.act.ensures.done (g.F.Flash.chip c.args.flash.now)

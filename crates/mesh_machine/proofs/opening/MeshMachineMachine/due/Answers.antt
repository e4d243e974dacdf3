use Rattle.std.proofs.Common.{◌≡◌, ◌∙◌, ap, subst, sym}
use Rattle.machine_contract.specs.Standing.{past_now}
use Rattle.machine_ties.specs.Ties.{IsBefore}
use Rattle.machine_ties.specs.Views.{NodeMachine}
use Rattle.mesh_machine.proofs.Idle.{quiet_tick}
use Rattle.node_layers.specs.NodeLayers.{node_layers}
use Rattle.event_definitions.specs.Role.{node_role}
use Rattle.mesh_machine.proofs.opening.MeshMachineMachine.due.Goals as goal

pub returns : goal.returns
returns g c =
    let boxed : c.deref.result.now ≡ c.args.self.now.state.value = c.deref.ensures in
    record {
      idle = λ live first f over s.
          let past = past_now (node_role node_layers) over s.life.told c.args.self.now.state.value.fills in
          record {
            told = s.life.told;
            entries = s.life.entries;
            handled = s.life.handled;
            quiet = λ ticks l. quiet_tick past ticks
                (c.ticks_left.ensures.quiet past (ap (λ (m : NodeMachine). m.closed) boxed ∙ live) (subst (λ (m : NodeMachine). IsBefore past m) (sym boxed) (s.usable live).before) ticks l);
          };
      least = λ live first f over s.
          let past = past_now (node_role node_layers) over s.life.told c.args.self.now.state.value.fills in
          record {
            told = s.life.told;
            entries = s.life.entries;
            handled = s.life.handled;
            quiet = λ ticks l.
                c.ticks_left.ensures.quiet past (ap (λ (m : NodeMachine). m.closed) boxed ∙ live) (subst (λ (m : NodeMachine). IsBefore past m) (sym boxed) (s.usable live).before) ticks l;
            reached = λ l q.
                c.ticks_left.ensures.reached past (ap (λ (m : NodeMachine). m.closed) boxed ∙ live) (subst (λ (m : NodeMachine). IsBefore past m) (sym boxed) (s.usable live).before) l q;
          };
      closed = λ e. c.ticks_left.ensures.closed (ap (λ (m : NodeMachine). m.closed) boxed ∙ e);
    }

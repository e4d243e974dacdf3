use Rattle.called_node.proofs.Calling.{events_of_one}
use Rattle.called_node.proofs.called.do_line.Goals as goal

pub do_phase-requires-clause-events : goal.do_phase-requires-clause-events
do_phase-requires-clause-events g c κs within =
    events_of_one c.args.life.node.machine.elements c.args.lists.now c.only_list.result.now c.requires.events c.only_list.ensures.value

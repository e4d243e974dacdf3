use Rattle.std.proofs.Common.{◌∙◌, ap, map, subst}
use Rattle.std.proofs.lemmas.List.{length-map}
use Rattle.node_phase.specs.Part.{AreThrough, HadMemory}
use Rattle.node_phase.specs.Worked.{WasPhase}
use Rattle.life_laws.specs.Stopped.{HasStopped}
use Rattle.mesh_node.proofs.Phasing.{IsPhase, arm_is, bearers_is, between_is, closed_is, frame_is, free_is, going_is, known_is, many_is, over_is, part_done, parts_is, room_is, saved_is, stopped_is, told_is, unfilled_is}
use Rattle.mesh_node.proofs.going.one_phase.Goals as goal

pub returns : goal.returns
returns g c =
    let before = c.args.seats.now in
    let now = c.take_log.new.seats in
    let old = c.args.node in
    let new = c.in_ok-node.node in
    let e = c.run_phase.new.drawer in
    let events = map (λ v. v.items) c.args.lists.now in
    let dones = c.in_ok-node.dones.items in
    let logged = c.in_ok-log.ensures.logged in
    let p : IsPhase g.M.Machine.role g.M.Machine.image g.F.Flash.chip old new c.take_log.new.node e events before now dones c.in_ok-log.log c.in_ok-closed.closed = record {
      between = c.requires.between;
      long = length-map c.args.lists.now (λ v. v.items) ∙ c.requires.lists;
      origin = c.in_ok-node.ensures.origin;
      was = subst (λ cs. WasPhase old new before.drawer e events cs dones) c.as_slice.ensures.value c.in_ok-node.ensures.was;
      memory = subst HadMemory c.as_slice-2.ensures.value c.in_ok-closed.ensures.memory;
      through = λ off. subst AreThrough c.as_slice-2.ensures.value (c.in_ok-closed.ensures.none off);
      halted = λ on. subst HasStopped c.as_slice-2.ensures.value (c.in_ok-closed.ensures.some on);
      known = c.take_log.ensures.known;
      taken = c.in_ok-log.ensures.node;
      first = logged.first;
      entries = logged.entries;
      sends = logged.sends;
      counts = logged.counts;
      count = logged.count;
      drawer = c.take_log.ensures.drawer;
      numbers = c.take_log.ensures.numbers;
      which = c.run_phase.ensures.which;
    } in
    record {
      numbers = p.numbers;
      which = ap (λ d. d.which) p.drawer ∙ p.which;
      parts = parts_is p;
      free = free_is p;
      many = many_is p;
      bearers = bearers_is p;
      frame = frame_is p;
      arm = arm_is p;
      saved = saved_is p;
      closed = closed_is p;
      stopped = stopped_is p;
      known = known_is p;
      between = between_is p;
      unfilled = unfilled_is p;
      place = p.first;
      part = part_done p;
      told = told_is p;
      room = room_is p;
      going = going_is p;
      over = λ phases rest sends h on. over_is p phases sends h on rest;
    }

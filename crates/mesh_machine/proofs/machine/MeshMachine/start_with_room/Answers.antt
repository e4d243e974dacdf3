use Rattle.std.proofs.Common.{ap, sym, subst, ◌∙◌, arith}
use Rattle.event_definitions.specs.Role.{node_role}
use Rattle.flash_model.specs.Chip.{Setting, count_of}
use Rattle.machine_contract.specs.Opening.{found_of}
use Rattle.machine_standing.proofs.Opened.{opened_stands}
use Rattle.machine_standing.specs.Opening.{IsNodeMounted}
use Rattle.machine_standing.specs.Ties.{IsNodeStore}
use Rattle.machine_ties.proofs.Standings.{opened_before}
use Rattle.machine_ties.specs.Ties.{IsBefore, Stands, opened}
use Rattle.machine_ties.specs.Views.{NodeMachine}
use Rattle.node_layers.specs.NodeLayers.{node_layers}
use Rattle.node_store.specs.Tie.{IsStoreOf}
use Rattle.node_store.specs.View.{StoreView}
use Rattle.store_definitions.specs.Config.{Config}
use Rattle.store_definitions.specs.Wear.{CostsAndUses}
use Rattle.mesh_machine.proofs.machine.MeshMachine.start_with_room.Goals as goal

pub open-requires-clause-node : goal.open-requires-clause-node
open-requires-clause-node g c = (c.in_ok-store.ensures.ok.over, c.in_ok-store.ensures.ok.node)

pub returns-in-Ok-clause-ok : goal.returns-in-Ok-clause-ok
returns-in-Ok-clause-ok g c =
    let old = g.F.Flash.chip c.args.flash.now in
    let new = g.F.Flash.chip c.mount_node.new.flash in
    let store : StoreView = c.in_ok-store.store in
    let node : IsNodeMounted old new store = c.in_ok-store.ensures.ok in
    let started = c.in-Ok.started in
    let says = c.in-Ok.ensures in
    let r = started.machine.state.value.reserve in
    let t = started.machine.state.value.tables in
    let said : IsNodeStore node.over r.store.persist = subst (λ (s : StoreView). IsNodeStore node.over s.persist) (sym says.store) node.node in
    let worn = c.in_ok-store.ensures.wear in
    let base : Stands (found_of old) new node.over (opened r t store.persist.elements) =
    opened_stands (node_role node_layers) IsBefore (found_of old) new node.over r t store.persist.elements (subst (λ (s : StoreView). IsStoreOf new s node.over) (sym says.store) node.kept) said
    (opened_before node.over r t store.persist.elements said (says.tables node.over node.node.meaning)) says.published says.advances (ap (λ (s : StoreView). s.persist.elements) (sym says.store))
    (omega (arith, c.requires.began, c.mount_node.ensures.frame.later, ap (λ (x : Setting). x.faults) c.mount_node.ensures.frame.setting))
    worn.used worn.taken_up (subst (λ (s : StoreView). CostsAndUses worn.used 0 (count_of old) (count_of new) s.journal.used) (sym says.store) worn.costs) c.mount_node.ensures.writes.most_reads c.in_ok-store.ensures.no_fault in
    record {
      over = node.over;
      read = node.read;
      runs = node.runs;
      state = says.state ∙ ap (λ (x : Config). x.iv) node.node.meaning.config;
      mark = says.mark ∙ ap (λ (x : Config). x.mark) node.node.meaning.config;
      published = says.published ∙ ap (λ (s : StoreView). s.persist.mark) says.store ∙ ap (λ (x : Config). x.mark) node.node.meaning.config;
      tie = subst (λ (v : NodeMachine). Stands (found_of old) new node.over v) (sym says.machine) base;
      no_fault = c.in_ok-store.ensures.no_fault;
      entries = ap (λ (v : NodeMachine). v.entries) says.machine;
      taken = ap (λ (v : NodeMachine). v.taken) says.machine;
      fills = ap (λ (v : NodeMachine). v.fills) says.machine;
      usable = ap (λ (v : NodeMachine). v.closed) says.machine;
      which = says.which;
      opened = says.opened ∙ ap (λ (x : Config). x.mark) node.node.meaning.config;
      drawer = says.drawer;
    }

pub returns-in-Err-clause-cause : goal.returns-in-Err-clause-cause
returns-in-Err-clause-cause g c =
    let node = c.in_ok-store.ensures.ok in
    (record { over = node.over; read = node.read; runs = node.runs }, c.mount_node.ensures.untouched, c.in_ok-store.ensures.no_fault)

use Rattle.std.proofs.Common.{ℕ, List, Option, Some, None, refl, sym, subst}
use Rattle.std.specs.Prelude.{IsNone}
use Rattle.event_definitions.specs.Answers.{config_before}
use Rattle.layer_definitions.specs.Network.{IsUnread, Reads}
use Rattle.low_power_machine.proofs.Rows.{keys_are, planned_heard, planned_row, planned_unread, row_is}
use Rattle.low_power_machine.specs.Plans.{IsPlanned}
use Rattle.low_power_machine.specs.declared.plan.Plan.{Plan}
use Rattle.low_power_role.specs.Readings.{keys_heard}
use Rattle.mesh_base.specs.declared.fields.Heard.{Heard}
use Rattle.mesh_reading.specs.Held.{reading_of}
use Rattle.network_layer.specs.declared.reading.NetReading.{NetReading}
use Rattle.mesh_types.specs.declared.events.Event.TheVariants as E
use Rattle.store_definitions.specs.Config.{Config}
use Rattle.low_power_machine.proofs.hearing.hear.Goals as goal

pub returns-in_default-clause-planned : goal.returns-in_default-clause-planned
returns-in_default-clause-planned c past meaning is =
    subst (λ (p : Plan). IsPlanned past (E.Net c.args.octets.now) p c.args.memory.now.lpn) (sym c.answered.ensures)
    (planned_unread past c.args.octets.now c.args.memory.now.lpn is
    (subst (λ (d : Config). IsUnread (keys_heard past) d.iv.current c.args.octets.now) meaning.config
    (subst (λ (l : List Heard). IsUnread l c.args.p.now.iv.current c.args.octets.now) (keys_are past c.args.memory.now c.args.p.now c.requires.fit meaning is)
    (c.read.ensures.none (subst (λ (o : Option NetReading). IsNone o) (sym c.in_default.is) refl)))))

pub returns-in-Some-network_row-clause-planned : goal.returns-in-Some-network_row-clause-planned
returns-in-Some-network_row-clause-planned c past meaning is =
    let r = reading_of c.in-Some.reading in
    let read = c.in-Some.ensures.some in
    let reads : (place : ℕ) × Reads (keys_heard past) (config_before past).iv.current c.args.octets.now r.fields place r.by = (
      read.0,
      subst (λ (d : Config). Reads (keys_heard past) d.iv.current c.args.octets.now r.fields read.0 r.by) meaning.config
          (subst (λ (l : List Heard). Reads l c.args.p.now.iv.current c.args.octets.now r.fields read.0 r.by) (keys_are past c.args.memory.now c.args.p.now c.requires.fit meaning is) read.1),
    ) in
    subst (λ (p : Plan). IsPlanned past (E.Net c.args.octets.now) p c.args.memory.now.lpn) (sym c.answered-in-Some-network_row.ensures)
    (planned_row past c.args.octets.now r c.in-Some-network_row.answer c.args.memory.now.lpn is reads
    (row_is past c.args.p.now c.args.memory.now.lpn r (Some c.in-Some-network_row.answer) meaning is c.in-Some-network_row.ensures))

pub returns-in-None-clause-planned : goal.returns-in-None-clause-planned
returns-in-None-clause-planned c past meaning is =
    let r = reading_of c.in-Some.reading in
    let read = c.in-Some.ensures.some in
    let reads : (place : ℕ) × Reads (keys_heard past) (config_before past).iv.current c.args.octets.now r.fields place r.by = (
      read.0,
      subst (λ (d : Config). Reads (keys_heard past) d.iv.current c.args.octets.now r.fields read.0 r.by) meaning.config
          (subst (λ (l : List Heard). Reads l c.args.p.now.iv.current c.args.octets.now r.fields read.0 r.by) (keys_are past c.args.memory.now c.args.p.now c.requires.fit meaning is) read.1),
    ) in
    planned_heard past c.args.octets.now r c.hear_transport.result c.hear_transport.new.memory.lpn reads
    (row_is past c.args.p.now c.args.memory.now.lpn r None meaning is c.in-None.ensures) (c.hear_transport.ensures.heard past meaning is)

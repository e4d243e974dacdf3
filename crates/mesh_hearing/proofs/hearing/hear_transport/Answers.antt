use Rattle.std.proofs.Common.{◌∙◌, List, ℕ, ap, fold, subst, sym}
use Rattle.layer_definitions.specs.Lower.{ReadsLower}
use Rattle.layer_states.specs.Reassembly.{after}
use Rattle.mesh_hearing.proofs.Heard.{transport_named}
use Rattle.mesh_reading.specs.Held.{reading_of}
use Rattle.node_layers.specs.Reassembly.{message_calls}
use Rattle.node_records.specs.Tables.{config_in}
use Rattle.event_definitions.specs.History.{Insight}
use Rattle.mesh_hearing.proofs.hearing.hear_transport.Goals as goal

pub returns-in-Ok-clause-value : goal.returns-in-Ok-clause-value
returns-in-Ok-clause-value c = λ past below.
    let r = c.args.reading in
    transport_named past (reading_of r) c.in-Ok.low c.hear_low-judged.result c.lower.result
    (subst (λ (octets : List ℕ). ReadsLower r.fields.ctl octets c.in-Ok.low) c.as_slice.ensures.value c.in-Ok.ensures.ok)
    (c.hear_low-judged.ensures.value past below) c.lower.ensures.insight

pub returns-in-Ok-clause-parts : goal.returns-in-Ok-clause-parts
returns-in-Ok-clause-parts c =
    let now = c.args.before.now.ticks in
    let n = config_in c.args.before.now.p.now in
    c.hear_low-judged.ensures.parts
    ∙ ap (λ (i : Insight). fold after c.args.parts.now (message_calls now n i c.hear_low-judged.result.answer)) (sym c.lower.ensures.insight)

-- The answers by the sender of a network PDU.
use Rattle.std.specs.Prelude.{◌==◌, ◌||◌, not, if◌then◌else◌, Option, Some, None}
use Rattle.layer_states.specs.Names.{is_unicast}
use Rattle.mesh_base.specs.declared.fields.NetFields.{NetFields}
use Rattle.mesh_types.specs.declared.answers.Answer.{Answer}
use Rattle.mesh_types.specs.declared.answers.Answer.TheVariants as A
use Rattle.store_definitions.specs.Config.{Config, is_element}

-- the rows that a PDU comes to first
abbrev pub sender_answer : Config → NetFields → Option Answer
sender_answer c f =
    if not (is_unicast f.src) || f.dst.0 == 0 then Some A.BadAddress
    else if is_element c f.src.0 then Some A.Own
    else None

-- A network PDU heard, row by row.
use Rattle.std.specs.Prelude.{◌≡◌, ◌==◌, ◌||◌, not, if◌then◌else◌, Option, Some, None}
use Rattle.event_definitions.specs.Answers.{name_of, whole_answer}
use Rattle.event_definitions.specs.History.{Opening, Past, Reading}
use Rattle.event_definitions.specs.Layers.{quiet_layers}
use Rattle.layer_states.specs.Names.{is_unicast}
use Rattle.low_power_definitions.specs.State.{LowPowerState}
use Rattle.low_power_role.specs.Answers.{is_mine, is_segmented}
use Rattle.low_power_role.specs.Readings.{IsOpened}
use Rattle.mesh_base.specs.declared.fields.NetFields.{NetFields}
use Rattle.mesh_base.specs.declared.lower.Lower.{Lower}
use Rattle.mesh_types.specs.declared.answers.Answer.{Answer}
use Rattle.mesh_types.specs.declared.answers.Answer.TheVariants as A
use Rattle.mesh_types.specs.declared.low_power.LowPowerAnswer.TheVariants as P
use Rattle.store_definitions.specs.Config.{Config, is_element}

-- the rows of the network layer, by what the store says and the state
abbrev pub network_row : Config → LowPowerState → NetFields → Option Answer
network_row c st f =
    if not (is_unicast f.src) || f.dst.0 == 0 then Some A.BadAddress
    else if is_element c f.src.0 then Some A.Own
    else if not (is_mine c st f.dst) then Some A.NotMine
    else if is_segmented f.tpdu then Some (A.LowPower P.Segmented)
    else None

-- the answer to a whole message, and what it opened to
pub record IsJudgedSo (past : Past) (r : Reading) (low : Lower) (given : Answer) : Type 0 where
  pub opening : Option Opening
  pub opens : IsOpened past r low opening
  pub answer : given ≡ whole_answer quiet_layers past r low (name_of r.fields) opening

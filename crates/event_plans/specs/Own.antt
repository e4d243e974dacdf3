-- The answers to what the node is asked to send, by what the records say.
use Rattle.std.specs.Prelude.{◌==◌, not, if◌then◌else◌, ℕ, Bool, List, [], ◌∷◌, length}
use Rattle.std.specs.List.{list_any}
use Rattle.layer_states.specs.Sending.{SendCall, begin, is_full}
use Rattle.mesh_types.specs.declared.events.Outgoing.{Outgoing}
use Rattle.layer_states.specs.declared.sending.Sending.{Sending}
use Rattle.mesh_base.specs.IvState.{transmit_of}
use Rattle.mesh_base.specs.declared.keys.AppKeyRow.{AppKeyRow}
use Rattle.mesh_base.specs.declared.pair.Pair.{Pair}
use Rattle.mesh_types.specs.declared.answers.Answer.{Answer}
use Rattle.mesh_types.specs.declared.answers.Answer.TheVariants as A
use Rattle.mesh_types.specs.declared.events.Event.{Event}
use Rattle.mesh_types.specs.declared.events.Event.TheVariants as E
use Rattle.mesh_types.specs.declared.events.SendKey.{SendKey}
use Rattle.mesh_types.specs.declared.events.SendKey.TheVariants as K
use Rattle.mesh_types.specs.declared.low_power.LowPowerAnswer.TheVariants as P
use Rattle.store_definitions.specs.Config.{Config}

-- a control PDU
abbrev pub raw_row : Config → Answer
raw_row c = if c.reset then A.Reset else A.Planned

-- an access message, by its key
abbrev pub keyed_row : Config → SendKey → Answer
keyed_row c K.Own = A.Planned
keyed_row c (K.Other key) = A.Planned
keyed_row c (K.App index) =
    if list_any (λ (r : AppKeyRow). r.index == index) c.apps then A.Planned else A.NoAppKey index

abbrev pub send_row : Config → SendKey → Answer
send_row c key = if c.reset then A.Reset else keyed_row c key

-- what a Low Power node alone is told
abbrev pub low_power_row : Config → Answer
low_power_row c = if c.reset then A.Reset else A.LowPower P.NoFriend

-- an access message, what a Low Power node alone is told, or a control PDU
abbrev pub asked_row : Config → Event → Answer
asked_row c (E.Send element dst ttl key payload) = send_row c key
asked_row c (E.LowPower event) = low_power_row c
asked_row c _ = raw_row c

-- a segmented message that begins while these are held, by whether its DST is an address of a friendship
abbrev pub begin_row : Config → Bool → List Sending → Pair → Answer
begin_row c befriended rows pair =
    if not (pair.iv == transmit_of c.iv) then A.Moved (transmit_of c.iv)
    else if befriended then A.Befriended
    else if is_full rows then A.SendFull (length rows) else A.Begun

-- what its answer does to the messages that are held
abbrev pub begin_calls : ℕ → Outgoing → Answer → List SendCall
begin_calls now m A.Begun = begin now m ∷ []
begin_calls now m _ = []

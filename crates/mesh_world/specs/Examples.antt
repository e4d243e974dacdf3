-- Small worlds, which show that steps of every kind can be taken, and that conditions of the steps are needed.
use Rattle.std.specs.Prelude.{◌+◌, ◌*◌, ◌^◌, false, None, List, [], ◌∷◌, ◌++◌}
use Rattle.layer_definitions.specs.Network.{network_nonce}
use Rattle.layer_definitions.specs.Upper.{upper_nonce}
use Rattle.mesh_base.specs.declared.address.Address.{Address}
use Rattle.mesh_base.specs.declared.fields.NetFields.{NetFields}
use Rattle.mesh_base.specs.declared.keys.UpperKey.TheVariants.{Device}
use Rattle.mesh_base.specs.declared.pair.Name.{Name}
use Rattle.mesh_base.specs.declared.pair.Pair.{Pair}
use Rattle.mesh_base.specs.declared.upper.UpperFields.{UpperFields}
use Rattle.mesh_world.specs.Good.{IsGood}
use Rattle.mesh_world.specs.World.{after_all, AreAllowed, provisioned, Sealing, World, WorldStep}
use Rattle.mesh_world.specs.World.Layer.{Network, Upper}
use Rattle.mesh_world.specs.World.WorldStep.{Draw, Seal, Reserve, Publish, Advance, Accept, Expire, Deliver, Cut}

-- a node that was provisioned under IV Index 4
abbrev pub new_node : World
new_node = provisioned 4 4

abbrev pub source : Address
source = record { 0 = 1 }

-- a message of the element 0001, under IV Index 4 and SEQ 0
abbrev pub message : Name
message = record { src = source; pair = record { iv = 4; seq = 0 } }

-- the node's first pair, in a seal of each layer
abbrev pub first_pair : Pair
first_pair = record { iv = 4; seq = 0 }

abbrev pub network_fields : NetFields
network_fields = record { iv = 4; ctl = false; ttl = 7; seq = 0; src = record { 0 = 2 }; dst = source; tpdu = [] }

abbrev pub network_seal : Sealing
network_seal =
    record {
      layer = Network;
      pair = first_pair;
      made = record { key = []; nonce = network_nonce network_fields; plain = [] };
    }

abbrev pub upper_fields : UpperFields
upper_fields = record { pair = first_pair; src = record { 0 = 2 }; dst = source; long_mic = false; label = None }

abbrev pub upper_seal : Sealing
upper_seal =
    record {
      layer = Upper;
      pair = first_pair;
      made = record { key = []; nonce = upper_nonce (Device []) upper_fields; plain = [] };
    }

-- a block of 256 pairs is reserved, and the first pair is drawn
abbrev pub draw_one : List WorldStep
draw_one = Reserve 4 (4 * 2 ^ 25 + 256) ∷ Publish (4 * 2 ^ 25 + 256) ∷ Draw ∷ []

-- a message is accepted and delivered
abbrev pub hear_one : List WorldStep
hear_one = Accept message ∷ Deliver message ∷ []

-- a message is heard; two IV Updates pass, and the entry of its source, which is expired then, goes
abbrev pub forget_one : List WorldStep
forget_one = hear_one ++ Reserve 6 (5 * 2 ^ 25) ∷ Expire source ∷ []

-- steps of all nine kinds: a pair is drawn and sealed with by both layers, a message is heard and forgotten, the node
-- goes on under IV Index 5, and power is cut
abbrev pub all_kinds : List WorldStep
all_kinds =
    draw_one ++ Seal network_seal ∷ Seal upper_seal ∷ [] ++ forget_one
    ++ Publish (5 * 2 ^ 25) ∷ Advance 5 ∷ Cut (5 * 2 ^ 25) ∷ []

-- The steps are allowed, and with the last one behind them the end isn't good.
abbrev pub Breaks : List WorldStep → WorldStep → Type 0
Breaks steps last = AreAllowed new_node steps × (IsGood (after_all new_node (steps ++ last ∷ [])) → ⊥)

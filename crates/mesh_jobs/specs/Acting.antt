-- What a control message led to, as its jobs see it.
use Rattle.std.specs.Prelude.{⊤, Some, fold}
use Rattle.layer_definitions.specs.ControlReading.{control_of}
use Rattle.layer_states.specs.Friends.{after}
use Rattle.mesh_types.specs.declared.answers.Answer.{Answer}
use Rattle.mesh_types.specs.declared.answers.Answer.TheVariants as A
use Rattle.node_friends.specs.Acts.{IsActOf}
use Rattle.node_friends.specs.declared.acts.FriendAct.{FriendAct}
use Rattle.node_layers.specs.Friendship.{friends, heard_calls}
use Rattle.event_definitions.specs.History.{Insight, OfPdu, Past, now_of}
use Rattle.store_definitions.specs.Config.{Config}

-- After a past and under these records, this is what the control message of an answer led to: with the friendships behind the PDU, which was
-- stored first. Of another answer nothing is asked: it led to nothing.
abbrev pub IsActIn : Past → Config → Insight → Answer → FriendAct → Type 0
IsActIn past c (OfPdu (Some r) low opening) (A.Control name dst opcode params) act =
    IsActOf c (fold after (friends past) (heard_calls r)) (now_of past.told) r (control_of opcode params) act
IsActIn past c insight answer act = ⊤

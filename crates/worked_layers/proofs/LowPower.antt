-- By computation.
use Rattle.std.proofs.Common.{refl}
use Rattle.cipher_definitions.specs.Octets.{number_of, octets_of}
use Rattle.layer_definitions.specs.Control.{control_text}
use Rattle.low_power_role.specs.Answers.{answer_of}
use Rattle.low_power_role.specs.Role.{jobs_of, stores}
use Rattle.mesh_base.specs.IvState.{transmit_of}
use Rattle.store_definitions.specs.Config.{changed}
use Rattle.worked_layers.specs.LowPower.{LowPowerBefriends, LowPowerHears, LowPowerLists}

pub befriends : LowPowerBefriends
unfolding answer_of jobs_of stores changed control_text octets_of number_of transmit_of
befriends net_key dev_key pdu = record {
  seeks = refl;
  takes_offer = refl;
  leaves_offer = refl;
  unsought = refl;
  updated = refl;
  polls = refl;
  polls_again = refl;
  message = refl;
  unasked = refl;
  goes_on = refl;
  repeated = refl;
  seeks_again = refl;
  friendless = refl;
  next_life = refl;
}

pub lists : LowPowerLists
unfolding answer_of jobs_of stores changed control_text octets_of number_of transmit_of
lists net_key dev_key pdu = record { lists = refl; again = refl; friend_lost = refl; too_many = refl; held_before = refl; friendless = refl; mine = refl }

pub hears : LowPowerHears
unfolding answer_of jobs_of stores changed control_text octets_of number_of transmit_of
hears net_key dev_key pdu = record {
  unread = refl;
  bad_address = refl;
  own = refl;
  not_mine = refl;
  friends = refl;
  segmented = refl;
  malformed = refl;
  unasked = refl;
  replay = refl;
  no_key = refl;
  delivered = refl;
  closes = refl;
  replay_closes = refl;
  stays_open = refl;
  beacon = refl;
}

-- Whether the heartbeat is due, if there is one.
use Rattle.std.specs.Prelude.{ℕ, Bool, false, Option}
use Rattle.std.specs.Option.{option_map_or}
use Rattle.model_states.specs.Publication.{is_heartbeat_due}
use Rattle.model_states.specs.declared.publication.Heartbeat.{Heartbeat}

abbrev pub is_beat_due : ℕ → Option Heartbeat → Bool
is_beat_due now heartbeat = option_map_or (is_heartbeat_due now) heartbeat false

-- The layers of reassembly and of own segmented messages alone. All others have nothing to say.
use Rattle.node_layers.specs.Reassembly.{acks_at, is_conflict, missing_after, names_in_progress, octets_after}
use Rattle.node_layers.specs.Sending.{held_count, segments_at}
use Rattle.event_definitions.specs.Layers.{Layers, quiet_layers}

unfoldable pub built_layers : Layers
built_layers = record quiet_layers {
  in_progress = names_in_progress;
  conflicts = is_conflict;
  missing = missing_after;
  whole = octets_after;
  acks_due = acks_at;
  unacknowledged = held_count;
  segments_due = segments_at;
}

-- The layers of this node are fit: what they store, and what they send.
use Rattle.std.proofs.Common.{◌^◌, ◌<◌}
use Rattle.std.proofs.lemmas.List.Elements.{All-from_recursion, recursion_from_All}
use Rattle.node_layers.specs.BuiltLayers.{built_layers}
use Rattle.node_layers.specs.ConfiguredLayers.{configured_layers}
use Rattle.node_layers.specs.Friendship.{control_jobs}
use Rattle.node_layers.specs.NodeLayers.{node_layers, published_at, replies_of}
use Rattle.node_layers.specs.Reassembly.{acks_at}
use Rattle.node_layers.specs.Sending.{segments_at}
use Rattle.event_definitions.specs.Answers.{config_before}
use Rattle.event_definitions.specs.Fit.{AreFit, IsOwn, IsOwnEvent}
use Rattle.event_definitions.specs.History.{Told}
use Rattle.event_definitions.proofs.Each.{every_map}
use Rattle.store_definitions.specs.Config.{config_of}
use Rattle.layer_laws.specs.Laws.{StoreFitting}
use Rattle.layer_laws.proofs.Changes.{changes_storable, sound_of, sound_within}
use Rattle.layer_laws.proofs.Node.{IsEntry, IsSameNode, entries_of}
use Rattle.layer_laws.proofs.Own.{control_own, published_own, replies_own, segments_own}
use Rattle.layer_laws.proofs.Parts.{acks_own}
use Rattle.layer_laws.proofs.Safe.{node_safe}

pub node_storable : StoreFitting node_layers
unfolding node_layers configured_layers
node_storable past m whole limits octets = changes_storable past m (sound_within past.records whole limits) (recursion_from_All (λ x. x < 2 ^ 8) m.payload octets)

pub node_fit : AreFit node_layers
unfolding node_layers configured_layers built_layers
node_fit = record {
  changes = λ past m h whole order octets. changes_storable past m (sound_of past.records whole order) (recursion_from_All (λ x. x < 2 ^ 8) m.payload octets);
  acks_due = λ past c ticks h s. All-from_recursion (IsOwn c) (acks_at past c ticks) (acks_own node_layers node_safe past c ticks h s);
  segments_due = λ past c ticks h own s. All-from_recursion (IsOwn c) (segments_at past c ticks) (segments_own past c ticks own s);
  control_jobs = λ past c m h whole own s. All-from_recursion (IsOwn c) (control_jobs past c m)
      (control_own (config_before past) whole.some past c m
      (every_map (IsEntry node_layers (config_before past)) (λ t. IsSameNode (config_before past) (config_of t.records)) (λ t e. e.node) past.told (entries_of node_layers node_safe past h))
      (recursion_from_All (λ (t : Told). IsOwnEvent (config_before past) t.entry.event) past.told own)
      (record { unicast = s.unicast; elements = s.elements }));
  replies = λ past c m h whole s. All-from_recursion (IsOwn c) (replies_of past c m) (replies_own past c m whole.some s);
  published = λ past c ticks h whole s. All-from_recursion (IsOwn c) (published_at past c ticks) (published_own past c ticks (rw s.elements whole.some));
}

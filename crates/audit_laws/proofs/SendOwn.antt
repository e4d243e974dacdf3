-- The layers of the node and those below the access layer send from an element alone.
use Rattle.std.proofs.lemmas.List.Elements.{All-from_recursion, All-nil, recursion_from_All}
use Rattle.layer_laws.proofs.Built.{built_safe}
use Rattle.layer_laws.proofs.Node.{IsEntry, IsSameNode, entries_of}
use Rattle.layer_laws.proofs.Own.{control_own, published_own, replies_own, segments_own}
use Rattle.layer_laws.proofs.Parts.{acks_own}
use Rattle.layer_laws.proofs.Safe.{node_safe}
use Rattle.node_layers.specs.BuiltLayers.{built_layers}
use Rattle.node_layers.specs.ConfiguredLayers.{configured_layers}
use Rattle.node_layers.specs.Friendship.{control_jobs}
use Rattle.node_layers.specs.NodeLayers.{node_layers, published_at, replies_of}
use Rattle.node_layers.specs.Reassembly.{acks_at}
use Rattle.node_layers.specs.Sending.{segments_at}
use Rattle.event_definitions.specs.Answers.{config_before}
use Rattle.event_definitions.specs.Fit.{IsOwn, IsOwnEvent}
use Rattle.event_definitions.specs.History.{Told}
use Rattle.event_definitions.proofs.Each.{every_map}
use Rattle.store_definitions.specs.Config.{config_of}
use Rattle.audit_laws.specs.Laws.{BuiltSendOwn, NodeSendOwn}

pub built_own : BuiltSendOwn
unfolding built_layers
built_own = record {
  acks_due = λ past c ticks h. All-from_recursion (IsOwn c) (acks_at past c ticks) (acks_own built_layers built_safe past c ticks h.handled h.elements);
  segments_due = λ past c ticks h. All-from_recursion (IsOwn c) (segments_at past c ticks) (segments_own past c ticks h.asked h.elements);
  control_jobs = λ past c m h. All-nil (IsOwn c);
  replies = λ past c m h. All-nil (IsOwn c);
  published = λ past c ticks h. All-nil (IsOwn c);
}

pub node_own : NodeSendOwn
unfolding node_layers configured_layers built_layers
node_own = record {
  acks_due = λ past c ticks h. All-from_recursion (IsOwn c) (acks_at past c ticks) (acks_own node_layers node_safe past c ticks h.handled h.elements);
  segments_due = λ past c ticks h. All-from_recursion (IsOwn c) (segments_at past c ticks) (segments_own past c ticks h.asked h.elements);
  control_jobs = λ past c m h. All-from_recursion (IsOwn c) (control_jobs past c m)
      (control_own (config_before past) h.some past c m
      (every_map (IsEntry node_layers (config_before past)) (λ t. IsSameNode (config_before past) (config_of t.records)) (λ t e. e.node) past.told (entries_of node_layers node_safe past h.handled))
      (recursion_from_All (λ (t : Told). IsOwnEvent (config_before past) t.entry.event) past.told h.asked)
      (record { unicast = h.elements.unicast; elements = h.elements.elements }));
  replies = λ past c m h. All-from_recursion (IsOwn c) (replies_of past c m) (replies_own past c m h.some h.elements);
  published = λ past c ticks h. All-from_recursion (IsOwn c) (published_at past c ticks) (published_own past c ticks (rw h.elements.elements h.some));
}

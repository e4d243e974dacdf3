-- The layers below the access layer are safe and fit.
use Rattle.std.proofs.lemmas.List.Elements.{All-from_recursion, All-nil}
use Rattle.node_layers.specs.BuiltLayers.{built_layers}
use Rattle.node_layers.specs.Reassembly.{due_job, due_jobs}
use Rattle.node_layers.specs.Sending.{segments_at}
use Rattle.event_definitions.specs.Fit.{AreFit, IsOwn}
use Rattle.event_definitions.specs.Safe.{AreSafe, IsChange, IsFitJob}
use Rattle.layer_laws.proofs.Lists.{every_flat_any}
use Rattle.layer_laws.proofs.Own.{segments_own}
use Rattle.layer_laws.proofs.Parts.{acks_own, every_under}
use Rattle.layer_laws.proofs.Safe.{segments_safe}

pub built_safe : AreSafe built_layers
unfolding built_layers
built_safe = record {
  acks_due = λ past c ticks. All-from_recursion (IsFitJob past) _ (every_flat_any (IsFitJob past) (due_jobs c) (λ a. every_under (IsFitJob past) c a.net (due_job a) (λ m. tt)) _);
  segments_due = λ past c ticks. All-from_recursion (IsFitJob past) (segments_at past c ticks) (segments_safe past c ticks);
  control_jobs = λ past c m. All-nil (IsFitJob past);
  replies = λ past c m. All-nil (IsFitJob past);
  published = λ past c ticks. All-nil (IsFitJob past);
  changes = λ past m. All-nil IsChange;
}

pub built_fit : AreFit built_layers
unfolding built_layers
built_fit = record {
  changes = λ past m h whole order octets. tt;
  acks_due = λ past c ticks h s. All-from_recursion (IsOwn c) _ (acks_own built_layers built_safe past c ticks h s);
  segments_due = λ past c ticks h own s. All-from_recursion (IsOwn c) (segments_at past c ticks) (segments_own past c ticks own s);
  control_jobs = λ past c m h whole own s. All-nil (IsOwn c);
  replies = λ past c m h whole s. All-nil (IsOwn c);
  published = λ past c ticks h whole s. All-nil (IsOwn c);
}

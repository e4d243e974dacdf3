use Rattle.std.proofs.Common.{rules}
use Rattle.layer_states.specs.Sending.{stepped}
use Rattle.segment_sender.proofs.Messages.{given-from_retain}
use Rattle.segment_sender.proofs.rows.step_all.Goals as goal

pub returns : goal.returns
returns c = given-from_retain _ (stepped c.args.now) _ (λ x b f' y k. search rules) _ _ c.retain.ensures.filtered

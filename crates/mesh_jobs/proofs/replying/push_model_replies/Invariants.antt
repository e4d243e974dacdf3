-- The replies so far stand behind the jobs that were there.
use Rattle.std.proofs.Common.{◌≡◌, ◌+◌, ◌≤◌, ◌++◌, length, map, take}
use Rattle.std.specs.List.{flat_map}
use Rattle.element_models.specs.Messages.{reply_in}
use Rattle.mesh_jobs.specs.Replying.{heard_as}
use Rattle.node_layers.specs.ConfiguredLayers.{sent_reply}
use Rattle.node_records.specs.Tables.{config_in}
use Rattle.mesh_jobs.proofs.replying.push_model_replies.Given as goal

abbrev pub invariant-loop-reply : goal.invariant-loop-reply
invariant-loop-reply l =
    record {
      replies : l.jobs
          ≡ l.fn.jobs
          ++ flat_map (sent_reply (config_in l.p) (heard_as l.m.reading.now l.m.key.now l.m.src))
          (map reply_in (take l.reply-index l.reply-items));
      length : length l.jobs ≤ length l.fn.jobs + l.reply-index;
    }

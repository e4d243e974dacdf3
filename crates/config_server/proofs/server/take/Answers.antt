-- The reply of each answer has an octet.
use Rattle.std.proofs.Common.{ap, sym, ◌∙◌, Some}
use Rattle.std.specs.Option.{option_map}
use Rattle.config_definitions.proofs.Answered.{reply_of}
use Rattle.config_definitions.specs.Answers.{message_act}
use Rattle.node_records.specs.Tables.{config_in}
use Rattle.config_server.proofs.server.take.Goals as goal

pub returns-in-Some-clause-reply : goal.returns-in-Some-clause-reply
returns-in-Some-clause-reply c =
    reply_of (config_in c.args.p.now) c.args.under c.args.polls.now c.args.beat.now c.args.payload.now c.message_act.result
    (ap (option_map (message_act (config_in c.args.p.now) c.args.under c.args.polls.now c.args.beat.now))
    (sym c.config_message.ensures ∙ c.in-Some.is)
    ∙ ap Some (sym c.message_act.ensures))

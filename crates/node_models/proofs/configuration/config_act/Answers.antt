use Rattle.std.proofs.Common.{subst, sym}
use Rattle.node_models.proofs.Asked.{answer_own, answer_short}
use Rattle.node_models.specs.Acts.{AsksShort, StoresOwn}
use Rattle.node_records.specs.Tables.{config_in}
use Rattle.node_models.proofs.configuration.config_act.Goals as goal

pub returns-clause-own : goal.returns-clause-own
returns-clause-own c =
    subst (λ act. StoresOwn c.args.p.now act) (sym c.ok.ensures.value)
    (answer_own c.args.p.now c.args.m.now.net c.args.polls.now c.args.beat.now c.args.m.now.payload.now c.take.result c.take.ensures.ok)

pub returns-clause-ttl : goal.returns-clause-ttl
returns-clause-ttl c =
    subst AsksShort (sym c.ok.ensures.value)
    (answer_short (config_in c.args.p.now) c.args.m.now.net c.args.polls.now c.args.beat.now c.args.m.now.payload.now c.take.result
    c.take.ensures.ok)

use Rattle.std.proofs.Common.{◌++◌, map, subst}
use Rattle.std.specs.Prelude.{IfSome}
use Rattle.std.specs.Option.{option_to_list}
use Rattle.machine_contract.specs.Ranges.{IsEvent}
use Rattle.run_definitions.specs.Order.{follow}
use Rattle.node_bearer.specs.Did.{DidBy}
use Rattle.node_bearer.proofs.Turning.{on_still}
use Rattle.node_bearer.proofs.jobs.do_following.Goals as goal

pub do_next-requires-clause-event : goal.do_next-requires-clause-event
do_next-requires-clause-event g c κs lives = subst (λ o. IfSome o (IsEvent c.args.place.now.turn.now.first.machine.elements)) c.in-Some.is c.requires.event

pub returns-in-Some-clause-did : goal.returns-in-Some-clause-did
returns-in-Some-clause-did g c = λ first tasks rest h.
    c.do_next.ensures.did first tasks rest
    (subst (λ o. DidBy c.args.place.now.bearer first tasks (map (λ e. follow e) (option_to_list o) ++ rest) c.args.b.now) c.in-Some.is h)

pub returns-in-Some-clause-stopped : goal.returns-in-Some-clause-stopped
returns-in-Some-clause-stopped g c = λ first tasks rest h.
    c.do_next.ensures.stopped first tasks rest
    (subst (λ o. DidBy c.args.place.now.bearer first tasks (map (λ e. follow e) (option_to_list o) ++ rest) c.args.b.now) c.in-Some.is h)

pub returns-in-None-clause-on : goal.returns-in-None-clause-on
returns-in-None-clause-on g c = on_still c.args.b.now

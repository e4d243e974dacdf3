use Rattle.std.proofs.Common.{◌≡◌, ◌≢◌, ◌∙◌, ⊎_elim, sym, subst, Some, None, arith}
use Rattle.std.proofs.lemmas.Bool.{or_parts}
use Rattle.std.proofs.lemmas.List.{take_all}
use Rattle.machine_contract.specs.declared.answers.Stop.TheVariants as S
use Rattle.node_phase.specs.declared.bearers.Done.{Done}
use Rattle.node_phase.specs.Part.{AreThrough, HadMemory}
use Rattle.mesh_node.proofs.Taking.{all_more, contains_at, or_true}
use Rattle.mesh_node.proofs.log.has_stopped.Goals as goal

pub loop-done-preserved : goal.loop-done-preserved
loop-done-preserved c =
    let l = c.loop-done in
    let now = c.in_ok-now.ensures in
    let value = c.either-stopped.ensures.value in
    let dones = c.args.dones.now in
    let i = l.done-index in
    let x = c.done-item.result in
    record {
      memory = all_more (λ (d : Done). d.stop ≢ Some S.Memory) dones i x c.loop-done-test.true c.done-item.is l.invariant.memory now.memory;
      none = λ off. let both = sym value ∙ off in
          all_more (λ (d : Done). d.stop ≡ None) dones i x c.loop-done-test.true c.done-item.is (l.invariant.none (or_parts l.stopped c.in_ok-now.now both).0) (now.none (or_parts l.stopped c.in_ok-now.now both).1);
      some = λ on. ⊎_elim l.invariant.some (λ h. record { done = x; among = contains_at dones i x c.loop-done-test.true c.done-item.is; cause = now.some h }) (or_true l.stopped c.in_ok-now.now (sym value ∙ on));
    }

pub returns-clause-memory : goal.returns-clause-memory
returns-clause-memory c = subst HadMemory (take_all c.loop-done.done-index c.args.dones.now (omega arith)) c.loop-done.invariant.memory

pub returns-clause-none : goal.returns-clause-none
returns-clause-none c = λ off. subst AreThrough (take_all c.loop-done.done-index c.args.dones.now (omega arith)) (c.loop-done.invariant.none off)

use Rattle.std.proofs.Common.{rules, ◌+◌, List, None, refl, sym, ap, subst, ◌∙◌, arith}
use Rattle.std.specs.BTreeMap.{get}
use Rattle.mesh_base.specs.declared.fields.NetMaterial.{NetMaterial}
use Rattle.log_audit.specs.Facts.{Key, key_cmp, same_key, known_of}
use Rattle.log_audit.specs.Uses.{pick, or_else}
use Rattle.log_audit.specs.Wrong.{differing, IsBadUnder}
use Rattle.log_audit.proofs.Loop.{on_true, on_false}
use Rattle.log_audit.proofs.Walk.{judged_none, judged_wrong, judged_more, judged_whole}
use Rattle.log_audit.proofs.verdicts.verdict.Goals as goal

pub loop-rest-init : goal.loop-rest-init
loop-rest-init c = record {
  judged = λ nets lines ms count read.
      judged_none _ nets lines c.args.report.now c.args.before _ _ _ (sym count) read (λ q. search rules) (λ q. search rules) (λ q. search rules);
  size = omega arith;
}

pub returns-in-Some : goal.returns-in-Some
returns-in-Some c = record {
  value = λ nets lines ms count read.
      let pdus = λ (q : Key). get key_cmp c.loop-rest.pdus q in
      let messages = λ (q : Key). get key_cmp c.loop-rest.messages q in
      let names = λ (q : Key). get key_cmp c.loop-rest.names q in
      let l = c.in-Ok.line in
      let one = c.differing.ensures.value ∙ ap differing (c.in_ok-pdu.ensures.answer ∙ ap (known_of pdus) c.pdu_fact.ensures.value) in
      let two = c.differing-in-loop-rest.ensures.value ∙ ap differing (c.in_ok-message.ensures.answer ∙ ap (known_of messages) c.message_fact.ensures.value) in
      judged_wrong _ nets lines c.args.report.now c.loop-rest.rest.now c.cut_line.result.1.now c.cut_line.result.0.now c.loop-rest.number l pdus messages names read
      (c.loop-rest.invariant.judged nets lines ms count read) c.cut_line.ensures.value c.in-Ok.ensures.ok
      c.least-reuse.result c.in_ok-name.name c.is_bad.result
      (c.least-reuse.ensures.value ∙ rw (one, two) refl)
      (c.in_ok-name.ensures.answer ∙ ap (known_of names) c.accepted_fact.ensures.value)
      c.in-Some.verdict
      (λ t. subst (λ (xs : List NetMaterial). IsBadUnder xs l) (sym ms) (on_true c.is_bad.result _ c.is_bad.ensures.some t))
      (sym c.wrong_at.ensures.value ∙ c.in-Some.is);
}

pub loop-rest-preserved : goal.loop-rest-preserved
loop-rest-preserved c =
    let pdus = λ (q : Key). get key_cmp c.loop-rest.pdus q in
    let messages = λ (q : Key). get key_cmp c.loop-rest.messages q in
    let names = λ (q : Key). get key_cmp c.loop-rest.names q in
    let l = c.in-Ok.line in
    let number = c.loop-rest.number + 1 in
    record {
      judged = λ nets lines ms count read.
          let one = c.differing.ensures.value ∙ ap differing (c.in_ok-pdu.ensures.answer ∙ ap (known_of pdus) c.pdu_fact.ensures.value) in
          let two = c.differing-in-loop-rest.ensures.value ∙ ap differing (c.in_ok-message.ensures.answer ∙ ap (known_of messages) c.message_fact.ensures.value) in
          judged_more _ nets lines c.args.report.now c.loop-rest.rest.now c.cut_line.result.1.now c.cut_line.result.0.now c.loop-rest.number l pdus messages names read
          (c.loop-rest.invariant.judged nets lines ms count read) c.cut_line.ensures.value c.in-Ok.ensures.ok
          c.least-reuse.result c.in_ok-name.name c.is_bad.result
          (c.least-reuse.ensures.value ∙ rw (one, two) refl)
          (c.in_ok-name.ensures.answer ∙ ap (known_of names) c.accepted_fact.ensures.value)
          _ _ _
          (λ t bad. on_false c.is_bad.result _ c.is_bad.ensures.none t (subst (λ (xs : List NetMaterial). IsBadUnder xs l) ms bad))
          (sym c.wrong_at.ensures.value ∙ c.in_default.is)
          (λ q. c.in_ok-pdu.ensures.noted q ∙ ap (λ o. or_else (pdus q) (pick same_key o q number None)) c.pdu_fact.ensures.value)
          (λ q. c.in_ok-message.ensures.noted q ∙ ap (λ o. or_else (messages q) (pick same_key o q number None)) c.message_fact.ensures.value)
          (λ q. c.in_ok-name.ensures.noted q ∙ ap (λ o. or_else (names q) (pick same_key o q number None)) c.accepted_fact.ensures.value);
      size = let shorter = c.cut_line.ensures.shorter in let size = c.loop-rest.invariant.size in omega arith;
    }

pub returns : goal.returns
returns c = record {
  value = λ nets lines ms count read.
      judged_whole _ nets lines c.args.report.now c.loop-rest.rest.now c.loop-rest.number _ _ _ read (c.loop-rest.invariant.judged nets lines ms count read) c.loop-rest-test.false;
}

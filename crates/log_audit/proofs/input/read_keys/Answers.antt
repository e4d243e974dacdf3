use Rattle.std.proofs.Common.{◌≡◌, length, inl, inr, arith}
use Rattle.audit_definitions.specs.Input.{lines_of}
use Rattle.log_audit.proofs.Inputs.{keys_step, no_key, none_left}
use Rattle.log_audit.proofs.input.read_keys.Goals as goal
use Rattle.log_audit.proofs.input.read_keys.Goals.{then-loop-rest-test+else-len-lt-MOST_KEYS, else-loop-rest-test}

pub returns-in-None : goal.returns-in-None
returns-in-None c = record {
  value = record {
    are = c.loop-rest.invariant.are;
    behind = c.loop-rest.invariant.behind;
    few = c.loop-rest.invariant.few;
    end = λ t ts e. inr (no_key (lines_of c.loop-rest.rest.now) c.cut_line.result.0.now t (lines_of c.cut_line.result.1.now) ts c.cut_line.ensures.value c.in-None.ensures.none e);
    size = c.loop-rest.invariant.size;
  };
}

pub loop-rest-preserved : goal.loop-rest-preserved
loop-rest-preserved c =
    let step = keys_step c.args.bytes.now c.loop-rest.rest.now c.cut_line.result.1.now c.cut_line.result.0.now c.loop-rest.keys.items c.push.new.self.items c.in-Some.key c.in_ok-push-in-Some.ensures.items c.cut_line.ensures.value c.loop-rest.invariant.are c.loop-rest.invariant.behind c.in-Some.ensures.some in
    record { are = step.0; behind = step.1; few = let e = step.2 in omega arith; size = omega arith }

pub returns : goal.returns
returns c = record {
  value = record {
    are = c.loop-rest.invariant.are;
    behind = c.loop-rest.invariant.behind;
    few = c.loop-rest.invariant.few;
    end = λ t ts e.
        elim c.loop-rest-test.branch [
          | then-loop-rest-test+else-len-lt-MOST_KEYS w ↦ inl (omega arith)
          | else-loop-rest-test w ↦ let empty : length c.loop-rest.rest.now ≡ 0 = omega arith in absurd (none_left c.loop-rest.rest.now t ts empty e)
        ];
    size = c.loop-rest.invariant.size;
  };
}

use Rattle.std.proofs.Common.{rules, arith, length, sym, ◌∙◌}
use Rattle.audit_definitions.specs.Input.{lines_of}
use Rattle.log_audit.proofs.Inputs.{line_at}
use Rattle.log_audit.proofs.Walk.{read_more, read_none, read_whole}
use Rattle.log_audit.proofs.input.own_sources.Goals as goal

pub returns-in-Err-NotLine-clause-cause : goal.returns-in-Err-NotLine-clause-cause
returns-in-Err-NotLine-clause-cause c =
    let read = c.loop-rest.invariant.read in
    record {
      at = length read.lines;
      number = let e = read.count in omega (arith, e);
      lines = read.lines;
      are = read.are;
      none = c.cut_line.result.0.now;
      found = line_at (lines_of c.args.bytes.now) (length read.lines) c.cut_line.result.0.now (lines_of c.cut_line.result.1.now) (sym c.cut_line.ensures.value ∙ read.behind);
      other = rw c.in-Err-NotLine.field-0-is at c.in-Err-NotLine.ensures.cause;
    }

pub loop-rest-init : goal.loop-rest-init
loop-rest-init c = record { read = read_none _ c.args.bytes.now c.args.before (λ a. search rules); size = omega arith }

pub loop-rest-preserved : goal.loop-rest-preserved
loop-rest-preserved c = record {
  read = read_more _ _ c.args.bytes.now c.loop-rest.rest.now c.cut_line.result.1.now c.cut_line.result.0.now c.args.before c.loop-rest.number c.in-Ok.line
      c.loop-rest.invariant.read c.cut_line.ensures.value c.in-Ok.ensures.ok c.in_ok-keep_source-in-Ok.ensures.noted;
  size = let shorter = c.cut_line.ensures.shorter in let size = c.loop-rest.invariant.size in omega arith;
}

pub returns-clause-ok : goal.returns-clause-ok
returns-clause-ok c = read_whole _ c.args.bytes.now c.loop-rest.rest.now c.args.before c.loop-rest.number c.loop-rest-test.false c.loop-rest.invariant.read

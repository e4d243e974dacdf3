use Rattle.std.proofs.Common.{◌≡◌, ◌≤◌, ◌+◌, [], length, IfSome}
use Rattle.std.specs.Option.{option_map_or}
use Rattle.script_definitions.specs.Words.{lines_of}
use Rattle.script_definitions.specs.Reading.{lines_read, reading}
use Rattle.script_definitions.specs.Ranges.{IsScriptOf}
use Rattle.script_reader.proofs.reading.read.Given as goal

abbrev pub invariant-loop-rest : goal.invariant-loop-rest
invariant-loop-rest l = record {
  said : lines_read l.fn.grammar l.number l.above (option_map_or (λ t. lines_of t.now) l.rest []) ≡ reading l.fn.grammar l.fn.bytes;
  ranges : IfSome l.above (IsScriptOf l.fn.grammar);
  count : l.number + option_map_or (λ t. length t.now + 1) l.rest 0 ≤ length l.fn.bytes + 1;
}

abbrev pub decreases-loop-rest : goal.decreases-loop-rest
decreases-loop-rest l = option_map_or (λ t. length t.now + 1) l.rest 0

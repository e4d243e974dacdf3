-- So many lines of the life were made.
use Rattle.std.proofs.Common.{◌≡◌, ◌+◌, map}
use Rattle.std.specs.List.{range_with_len}
use Rattle.script_generator.specs.Generated.{line_at, number_at}
use Rattle.script_generator.proofs.scripts.GeneratedScript.make_life.Given as goal

abbrev pub invariant-loop-at : goal.invariant-loop-at
invariant-loop-at l = record {
  lines : l.life ≡ map (line_at l.self.start) (range_with_len (l.first + 1) l.at);
  number : l.number ≡ number_at l.self.start (l.first + l.at);
}

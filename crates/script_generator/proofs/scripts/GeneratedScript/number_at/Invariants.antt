use Rattle.std.proofs.Common.{◌≡◌}
use Rattle.script_generator.specs.Generated.{number_at}
use Rattle.script_generator.proofs.scripts.GeneratedScript.number_at.Given as goal

abbrev pub invariant-loop : goal.invariant-loop
invariant-loop l = l.number ≡ number_at l.self.start l.counter

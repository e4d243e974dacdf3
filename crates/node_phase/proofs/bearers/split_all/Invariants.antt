-- The bearers made so far.
use Rattle.std.proofs.Common.{◌≡◌, ◌<◌, ◌+◌, ◌++◌, length, map, take}
use Rattle.std.specs.List.{All}
use Rattle.node_bearer.specs.Did.{IsRider}
use Rattle.node_phase.specs.Worked.{IsFresh}
use Rattle.node_phase.proofs.bearers.split_all.Given as goal

abbrev pub invariant-loop-number : goal.invariant-loop-number
invariant-loop-number g l = record {
  drawer : l.drawer ≡ record l.initial.drawer { parts = l.drawer.parts };
  pass : l.pass ≡ record l.initial.pass { parts = l.pass.parts };
  parts : l.pass.parts + length l.bearers.items ≡ l.initial.pass.parts;
  numbers : map (λ b. b.number) l.bearers.items ≡ take l.number-index l.counts;
  count : length l.bearers.items ≡ l.number-index;
  riders : All (IsRider 1 l.shared.numbers.now l.shared.turn.now) l.bearers.items;
  fresh : All IsFresh l.bearers.items;
  noted : All (λ b. b.drawer.noted ≡ l.initial.drawer.noted ++ l.initial.drawer.drawn) l.bearers.items;
  known : All (λ b. b.drawer.known ≡ l.initial.drawer.known ++ l.initial.drawer.looks) l.bearers.items;
  shares : length l.counts < l.initial.drawer.parts → (l.drawer.parts + length l.bearers.items ≡ l.initial.drawer.parts) × All (λ b. b.drawer.parts ≡ 1) l.bearers.items;
}

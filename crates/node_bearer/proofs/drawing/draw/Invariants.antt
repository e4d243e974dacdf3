-- What the bearer did is as it was before the tries so far.
use Rattle.std.proofs.Common.{◌≡◌, ℕ, List}
use Rattle.run_definitions.specs.Order.{Task}
use Rattle.seq_word.specs.Dry.{DryView}
use Rattle.node_bearer.specs.Did.{DidBy, GoesOn, IsRider, freed}
use Rattle.node_bearer.specs.Tries.{DryDraws}
use Rattle.node_bearer.proofs.drawing.draw.Given as goal

abbrev pub invariant-loop : goal.invariant-loop
invariant-loop g l = record {
  rider : IsRider g.S.Sharing.parts l.place.numbers.now l.place.turn.now l.b;
  on : GoesOn l.initial.b (freed l.b);
  dry : (tries : List DryView) × DryDraws tries l.initial.b.drawer l.b.drawer;
  frame : l.b.lines ≡ l.initial.b.lines;
  did : (k first : ℕ) (tasks rest : List Task) → DidBy k first tasks rest l.initial.b → DidBy k first tasks rest l.b;
}

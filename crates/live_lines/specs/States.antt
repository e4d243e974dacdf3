-- A source of lines as the state that its moves go from and to.
use Rattle.std.specs.Prelude.{◌≡◌, ℕ, List, ◌++◌, Option}
use Rattle.report_writer.specs.Writing.{view_of}
use Rattle.live_lines.specs.Moves.{LinesAt}
use Rattle.live_lines.specs.declared.lines.LineSource.{LineSource}

module _ {S E : Type 0} (left : S → Option (List ℕ)) (source_faults : S → ℕ) (time : S → ℕ) (took : E → Option (List ℕ))
    (pieces : E → Option (List (List ℕ))) (sink_faults : E → ℕ) where
  -- within a call, where these octets of a line were used already
  abbrev pub lines_behind : List ℕ → LineSource S E → LinesAt
  lines_behind front l = record {
    left = left l.source;
    held = front ++ l.held;
    number = l.number;
    told = view_of took pieces l.errors;
    source_faults = source_faults l.source;
    sink_faults = sink_faults l.errors;
    time = time l.source;
  }

  -- between two calls
  abbrev pub lines_at : LineSource S E → LinesAt
  lines_at l = record {
    left = left l.source;
    held = l.held;
    number = l.number;
    told = view_of took pieces l.errors;
    source_faults = source_faults l.source;
    sink_faults = sink_faults l.errors;
    time = time l.source;
  }

-- the same node, which hasn't failed but where it had
abbrev pub IsSameNode : {S E : Type 0} → LineSource S E → LineSource S E → Type 0
IsSameNode old new = (new.why ≡ old.why) × (new.bearers ≡ old.bearers) × (new.elements ≡ old.elements)

-- What is handed back of the streams of lines.
use Rattle.std.specs.Prelude.{ℕ, Bool, true, false, List, Option, Some, None}
use Rattle.live_node.specs.Lived.{StreamsAt}
use Rattle.report_writer.specs.Writing.{SinkView, view_of}

-- of a source the octets that it still gives, where they are told, and how many of its calls failed
pub record SourceAt : Type 0 where
  pub left : Option (List ℕ)
  pub faults : ℕ

-- The source, where no thread has it; what the sink of wrong lines tells, where it is told, and how many of its calls failed.
pub record StreamsBack : Type 0 where
  pub source : Option SourceAt
  pub told : SinkView
  pub sink_faults : ℕ

abbrev pub source_at : {S : Type 0} → (S → Option (List ℕ)) → (S → ℕ) → Option S → Option SourceAt
source_at left faults None = None
source_at left faults (Some source) = Some (record { left = left source; faults = faults source })

abbrev pub back_at : {S E : Type 0} → (S → Option (List ℕ)) → (S → ℕ) → (E → Option (List ℕ)) → (E → Option (List (List ℕ))) → (E → ℕ)
    → Option S → E → StreamsBack
back_at left source_faults held pieces sink_faults source errors = record {
  source = source_at left source_faults source;
  told = view_of held pieces errors;
  sink_faults = sink_faults errors;
}

-- these streams, with this source
abbrev pub back_with : Option SourceAt → StreamsAt → StreamsBack
back_with source at = record { source = source; told = at.told; sink_faults = at.sink_faults }

-- these streams as they are
abbrev pub back_of : StreamsAt → StreamsBack
back_of at = back_with (Some (record { left = at.left; faults = at.source_faults })) at

-- these streams, where a thread has the source of the process or none does
abbrev pub back_by : Bool → StreamsAt → StreamsBack
back_by true at = back_with None at
back_by false at = back_of at

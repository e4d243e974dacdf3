-- What a summary tells of lives that are over.
use Rattle.std.specs.Prelude.{List}
use Rattle.report_definitions.specs.Record.{LifeOver}
use Rattle.report_writer.specs.Handing.{HandedFront, IsHanded}
use Rattle.report_writer.specs.Writing.{SinkView}
use Rattle.run_summary.specs.Summaries.{summary_of, summary_text}

-- the summary of these lives was written, as one piece
abbrev pub Summarizes : List LifeOver → SinkView → SinkView → Type 0
Summarizes lives before after = IsHanded (summary_text (summary_of lives)) before after

-- a front of it
abbrev pub SummarizesFront : List LifeOver → SinkView → SinkView → Type 0
SummarizesFront lives before after = HandedFront (summary_text (summary_of lives)) before after

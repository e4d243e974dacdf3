-- What a report tells of a life that it was broken off in, and where nothing is told.
use Rattle.std.specs.Prelude.{◌≡◌, ℕ, Bool, List}
use Rattle.report_definitions.specs.Record.{Life, LifeOver}
use Rattle.report_definitions.specs.Report.{life_lines}
use Rattle.report_writer.specs.Writing.{SinkView, WrittenFront}

-- of the lines of the life with this number a front was written
abbrev pub ReportsFront : Bool → ℕ → Life → SinkView → SinkView → Type 0
ReportsFront hex number life before after = WrittenFront (life_lines hex number life) before after

-- of these lives nothing was written
abbrev pub Unwritten : List LifeOver → SinkView → SinkView → Type 0
Unwritten lives before after = after ≡ before

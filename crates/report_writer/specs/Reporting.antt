-- What a report tells of lives that are over.
use Rattle.std.specs.Prelude.{Bool, List, [], refl}
use Rattle.mesh_base.proofs.OutsideLemmas.{Grows-nil}
use Rattle.report_definitions.specs.Record.{LifeOver}
use Rattle.report_definitions.specs.Report.{lives_lines}
use Rattle.report_writer.specs.Writing.{SinkView, Written}

-- the lines of these lives were written, of which the first has number 1
abbrev pub Reports : Bool → List LifeOver → SinkView → SinkView → Type 0
Reports hex lives before after = Written (lives_lines hex 1 lives) before after

-- of no lives there is none
pub reports_none : (hex : Bool) (view : SinkView) → Reports hex [] view view
unfolding lives_lines
reports_none hex view =
    record { text = Grows-nil view.held; pieces = []; offered = Grows-nil view.pieces; handed = refl }

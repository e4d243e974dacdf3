use Rattle.std.proofs.Common.{ap, sym, ◌∙◌}
use Rattle.run_definitions.specs.Lines.{is_drawing, shows_ctl}
use Rattle.job_sealing.proofs.Showing.{is_false, later_shows, shown}
use Rattle.job_sealing.proofs.lines.drawn_line.Goals as goal

pub returns-in-Control-clause-shows : goal.returns-in-Control-clause-shows
returns-in-Control-clause-shows c = shown _ _ _ _ _ c.in-Control.is c.control_line.ensures.value shows_ctl

pub returns-in-Segment-clause-shows : goal.returns-in-Segment-clause-shows
returns-in-Segment-clause-shows c =
    let s = c.in-Segment in
    shown _ _ _ _ _ s.is c.later_segment.ensures.value (later_shows _ s.segment c.args.pair (is_false s.segment.first (ap is_drawing (sym s.is) ∙ c.requires.draws)))

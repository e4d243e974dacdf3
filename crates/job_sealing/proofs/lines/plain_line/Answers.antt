use Rattle.std.proofs.Common.{refl, ap, sym, ◌∙◌}
use Rattle.mesh_types.specs.declared.lines.Outcome.TheVariants as O
use Rattle.run_definitions.specs.Lines.{is_drawing, shows_bcn, shows_first, shows_relay, shows_rep}
use Rattle.job_sealing.proofs.Showing.{is_true, shown}
use Rattle.job_sealing.proofs.lines.plain_line.Goals as goal

pub returns-in-Relay-clause-shows : goal.returns-in-Relay-clause-shows
returns-in-Relay-clause-shows c = shown _ _ _ _ _ c.in-Relay.is c.relayed.ensures.value shows_relay

pub returns-in-Segment-clause-shows : goal.returns-in-Segment-clause-shows
returns-in-Segment-clause-shows c =
    let s = c.in-Segment in
    shown _ _ _ _ _ s.is c.segment_line.ensures.value (shows_first (is_true s.segment.first (ap is_drawing (sym s.is) ∙ c.requires.plain)))

pub returns-in-Repeat-clause-shows : goal.returns-in-Repeat-clause-shows
returns-in-Repeat-clause-shows c = shown _ _ _ _ _ c.in-Repeat.is (ap (λ x. O.Rep c.in-Repeat.name x) c.copied.ensures.value) shows_rep

pub returns-in-Beacon-clause-shows : goal.returns-in-Beacon-clause-shows
returns-in-Beacon-clause-shows c = shown _ _ _ _ _ c.in-Beacon.is refl shows_bcn

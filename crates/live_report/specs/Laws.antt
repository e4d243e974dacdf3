-- What stands in a sink once a life was told: its opening, its phases and its end, each to its end or not.
use Rattle.std.specs.Prelude.{ℕ, Bool, List, [], ◌∷◌, ◌++◌}
use Rattle.mesh_node.specs.Told.{PhaseDid}
use Rattle.mesh_types.specs.declared.report.End.{End}
use Rattle.mesh_types.specs.declared.report.Opened.{Opened}
use Rattle.report_definitions.specs.Report.{end_lines, opened_line}
use Rattle.report_writer.specs.Writing.{SinkView, Written, WrittenFront}
use Rattle.live_report.specs.Lines.{did_lines, phases_lines, told_lines}

-- all three
abbrev pub AllIsWritten : Type 0
AllIsWritten =
    (hex : Bool) (n : ℕ) (opened : Opened) (did : List PhaseDid) (end : End) (a b c d : SinkView)
    → Written (opened_line n opened ∷ []) a b → Written (phases_lines hex did) b c → Written (end_lines opened end) c d
    → Written (told_lines hex n opened did end) a d

-- a front of the opening
abbrev pub OpeningIsFront : Type 0
OpeningIsFront =
    (hex : Bool) (n : ℕ) (opened : Opened) (did : List PhaseDid) (end : End) (a b : SinkView)
    → WrittenFront (opened_line n opened ∷ []) a b
    → WrittenFront (told_lines hex n opened did end) a b

-- the opening, and a front of the phases
abbrev pub PhasesAreFront : Type 0
PhasesAreFront =
    (hex : Bool) (n : ℕ) (opened : Opened) (did : List PhaseDid) (end : End) (a b c : SinkView)
    → Written (opened_line n opened ∷ []) a b → WrittenFront (phases_lines hex did) b c
    → WrittenFront (told_lines hex n opened did end) a c

-- the opening and the phases but the last, and a front of that: so a front of what a life without an end has
abbrev pub LastIsFront : Type 0
LastIsFront =
    (hex : Bool) (n : ℕ) (opened : Opened) (did : List PhaseDid) (last : PhaseDid) (a b c : SinkView)
    → Written (opened_line n opened ∷ phases_lines hex did) a b → WrittenFront (did_lines hex last) b c
    → WrittenFront (opened_line n opened ∷ phases_lines hex (did ++ last ∷ [])) a c

-- the opening and the phases, and a front of the end: also nothing of it
abbrev pub EndIsFront : Type 0
EndIsFront =
    (hex : Bool) (n : ℕ) (opened : Opened) (did : List PhaseDid) (end : End) (a b c d : SinkView)
    → Written (opened_line n opened ∷ []) a b → Written (phases_lines hex did) b c → WrittenFront (end_lines opened end) c d
    → WrittenFront (told_lines hex n opened did end) a d

-- the same, where the opening and the phases are told as one
abbrev pub EndBehindIsFront : Type 0
EndBehindIsFront =
    (hex : Bool) (n : ℕ) (opened : Opened) (did : List PhaseDid) (end : End) (a b c : SinkView)
    → Written (opened_line n opened ∷ phases_lines hex did) a b → WrittenFront (end_lines opened end) b c
    → WrittenFront (told_lines hex n opened did end) a c

abbrev pub PhasesAloneAreFront : Type 0
PhasesAloneAreFront =
    (hex : Bool) (n : ℕ) (opened : Opened) (did : List PhaseDid) (end : End) (a b c : SinkView)
    → Written (opened_line n opened ∷ []) a b → Written (phases_lines hex did) b c
    → WrittenFront (told_lines hex n opened did end) a c

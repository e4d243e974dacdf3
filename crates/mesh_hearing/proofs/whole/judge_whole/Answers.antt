use Rattle.std.proofs.Common.{ap, sym, subst, ◌∙◌}
use Rattle.mesh_base.specs.declared.lower.Lower.TheVariants.{ControlPart}
use Rattle.mesh_hearing.proofs.Messages.{whole_access_part, whole_control_part}
use Rattle.mesh_hearing.specs.Below.{IsWholeAs, whole_octets}
use Rattle.mesh_reading.specs.Held.{reading_of}
use Rattle.mesh_hearing.proofs.whole.judge_whole.Goals as goal

pub returns-in-AccessPart-clause-value : goal.returns-in-AccessPart-clause-value
returns-in-AccessPart-clause-value c = λ past m e.
    let a = c.in-AccessPart in
    subst (λ l. IsWholeAs past (reading_of c.args.m.now.reading.now) l c.args.m.now.name c.judge_access-in-AccessPart.result) (sym a.is)
    (whole_access_part past (reading_of c.args.m.now.reading.now) c.args.m.now.name a.akf a.aid a.szmic a.seq_zero a.seg_o a.seg_n a.piece c.args.m.now.octets.now _
    (e ∙ ap (λ l. whole_octets past c.args.m.now.name l) a.is) (c.judge_access-in-AccessPart.ensures.value past m))

pub returns-in-ControlPart-clause-value : goal.returns-in-ControlPart-clause-value
returns-in-ControlPart-clause-value c = λ past m e.
    let a = c.in-ControlPart in
    subst (λ l. IsWholeAs past (reading_of c.args.m.now.reading.now) l c.args.m.now.name c.early-in-ControlPart.result) (sym a.is)
    (subst (λ j. IsWholeAs past (reading_of c.args.m.now.reading.now) (ControlPart a.opcode a.seq_zero a.seg_o a.seg_n a.piece) c.args.m.now.name j) (sym c.early-in-ControlPart.ensures)
    (whole_control_part past (reading_of c.args.m.now.reading.now) c.args.m.now.name a.opcode a.seq_zero a.seg_o a.seg_n a.piece c.args.m.now.octets.now c.judge_control-in-ControlPart.result
    (e ∙ ap (λ l. whole_octets past c.args.m.now.name l) a.is) (c.judge_control-in-ControlPart.ensures.value past m)))

use Rattle.std.proofs.Common.{◌≡◌, ◌∙◌, ◌++◌, ◌∷◌, [], List, Vec, Global, true, false, true≢false, length, map, ap, sym, subst}
use Rattle.std.specs.Prelude.{All, IfOk}
use Rattle.mesh_types.specs.declared.events.Event.{Event}
use Rattle.node_bearer.specs.Did.{AreEvents}
use Rattle.run_definitions.specs.Order.{phases_of}
use Rattle.mesh_node.specs.Going.{AreTold, IsBetween, IsGoing, IsOver}
use Rattle.life_laws.specs.Plan.{IsStep, step_of}
use Rattle.mesh_node.specs.Steps.{IsArmedBy}
use Rattle.mesh_node.specs.Given.{IsUnfilled}
use Rattle.mesh_node.proofs.Growing.{begin_same}
use Rattle.mesh_node.proofs.Stepping.{going_with, other_flash, told_with, between_with}
use Rattle.mesh_node.proofs.Unfilled.{unfilled_same}
use Rattle.mesh_node.proofs.steps.do_step.Goals as goal

pub do_phase-requires-clause-lists : goal.do_phase-requires-clause-lists
do_phase-requires-clause-lists g c κs lives = ap length c.as_slice.ensures.value ∙ (subst (IsStep (length c.args.seats.now.counts.items) c.args.node.machine.elements) c.in-Phase.is c.requires.step).0

pub do_phase-requires-clause-events : goal.do_phase-requires-clause-events
do_phase-requires-clause-events g c κs lives =
    subst (All (λ v. AreEvents c.args.node.machine.elements v.items)) (sym c.as_slice.ensures.value) (subst (IsStep (length c.args.seats.now.counts.items) c.args.node.machine.elements) c.in-Phase.is c.requires.step).1

pub returns-in-Arm-clause-arm : goal.returns-in-Arm-clause-arm
returns-in-Arm-clause-arm g c = subst (λ s. IsArmedBy s (g.F.Flash.chip c.args.node.flash) (g.F.Flash.chip c.arm.new.self.flash)) (sym c.in-Arm.is) c.arm.ensures.arm

pub returns-in-Arm-clause-frame : goal.returns-in-Arm-clause-frame
returns-in-Arm-clause-frame g c = other_flash c.args.node c.arm.new.self c.arm.new.self.flash c.arm.ensures.frame

pub returns-in-Arm-clause-going : goal.returns-in-Arm-clause-going
returns-in-Arm-clause-going g c = λ phases h off.
    let node = c.args.node in
    let d = c.args.seats.now.drawer in
    let sends = map (λ v. v.items) c.args.log.now.sends.items in
    let counts = c.args.seats.now.counts.items in
    subst (λ s. IsGoing (phases ++ phases_of (step_of s ∷ [])) c.arm.new.self d sends counts) (sym c.in-Arm.is)
    (subst (λ v. IsGoing (phases ++ []) v d sends counts) (sym c.arm.ensures.frame) (going_with phases node c.arm.new.self.flash d sends counts h))

pub returns-in-Arm-clause-over : goal.returns-in-Arm-clause-over
returns-in-Arm-clause-over g c = λ phases rest h on. absurd (true≢false (sym on))

pub returns-in-Arm-clause-unfilled : goal.returns-in-Arm-clause-unfilled
returns-in-Arm-clause-unfilled g c = λ none.
    subst (λ n. IsUnfilled c.args.node.machine n.machine) (sym c.arm.ensures.frame) (unfilled_same c.args.node.machine none)

pub returns-in-Phase-clause-unfilled : goal.returns-in-Phase-clause-unfilled
returns-in-Phase-clause-unfilled g c = c.do_phase.ensures.unfilled

pub returns-in-Phase-clause-frame : goal.returns-in-Phase-clause-frame
returns-in-Phase-clause-frame g c = c.do_phase.ensures.frame

pub returns-in-Phase-clause-arm : goal.returns-in-Phase-clause-arm
returns-in-Phase-clause-arm g c =
    subst (λ s. IfOk c.do_phase.result (λ r. IsArmedBy s (g.F.Flash.chip c.args.node.flash) (g.F.Flash.chip r.0.flash))) (sym c.in-Phase.is)
    c.do_phase.ensures.arm

pub returns-in-Phase-clause-going : goal.returns-in-Phase-clause-going
returns-in-Phase-clause-going g c = λ phases h.
    let d = c.do_phase.new.seats.drawer in
    let sends = map (λ v. v.items) c.do_phase.new.log.sends.items in
    let counts = c.do_phase.new.seats.counts.items in
    subst (λ s. IfOk c.do_phase.result (λ r. r.1 ≡ false → IsGoing (phases ++ phases_of (step_of s ∷ [])) r.0 d sends counts)) (sym c.in-Phase.is)
    (subst (λ (ls : List (Vec Event Global)). IfOk c.do_phase.result (λ r. r.1 ≡ false → IsGoing (phases ++ map (λ v. v.items) ls ∷ []) r.0 d sends counts)) c.as_slice.ensures.value
    (c.do_phase.ensures.going phases h))

pub returns-in-Phase-clause-over : goal.returns-in-Phase-clause-over
returns-in-Phase-clause-over g c = λ phases rest h.
    let d = c.do_phase.new.seats.drawer in
    let sends = map (λ v. v.items) c.do_phase.new.log.sends.items in
    subst (λ s. IfOk c.do_phase.result (λ r. r.1 ≡ true → IsOver (phases ++ (phases_of (step_of s ∷ []) ++ rest)) r.0 d sends)) (sym c.in-Phase.is)
    (subst (λ (ls : List (Vec Event Global)). IfOk c.do_phase.result (λ r. r.1 ≡ true → IsOver (phases ++ map (λ v. v.items) ls ∷ rest) r.0 d sends)) c.as_slice.ensures.value
    (c.do_phase.ensures.over phases rest h))

pub returns-in-Arm-clause-stopped : goal.returns-in-Arm-clause-stopped
returns-in-Arm-clause-stopped g c = λ on. absurd (true≢false (sym on))

pub returns-in-Arm-clause-told : goal.returns-in-Arm-clause-told
returns-in-Arm-clause-told g c = λ told.
    subst (AreTold c.args.log.now.entries.items) (sym c.arm.ensures.frame) (told_with c.args.log.now.entries.items c.args.node c.arm.new.self.flash told)

pub returns-in-Arm-clause-between : goal.returns-in-Arm-clause-between
returns-in-Arm-clause-between g c = λ off.
    subst (IsBetween c.args.seats.now) (sym c.arm.ensures.frame) (between_with c.args.seats.now c.args.node c.arm.new.self.flash c.requires.between)

pub returns-in-Arm-clause-saved : goal.returns-in-Arm-clause-saved
returns-in-Arm-clause-saved g c = c.arm.ensures.saved

pub returns-in-Phase-clause-saved : goal.returns-in-Phase-clause-saved
returns-in-Phase-clause-saved g c = c.do_phase.ensures.saved

pub returns-in-Arm-clause-longer : goal.returns-in-Arm-clause-longer
returns-in-Arm-clause-longer g c = begin_same (map (λ v. v.items) c.args.log.now.sends.items)

pub returns-in-Phase-clause-longer : goal.returns-in-Phase-clause-longer
returns-in-Phase-clause-longer g c = c.do_phase.ensures.longer

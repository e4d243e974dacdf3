use Rattle.std.proofs.Common.{rules, ◌≡◌, ◌∙◌, ℕ, ◌+◌, ◌*◌, ◌≤◌, List, true, length, min, refl, sym, subst, ap, arith, true≢false}
use Rattle.std.proofs.Math.Nat.{le_refl}
use Rattle.std.specs.Prelude.{IsTrue, slice_range}
use Rattle.flash_model.specs.Chip.{Setting}
use Rattle.flash_model.specs.Octets.{IsContent, programmed}
use Rattle.flash_model.proofs.Mixed.{programmed_content}
use Rattle.file_flash.specs.Backing.{WasPut, WasTorn}
use Rattle.file_flash.specs.Noted.{and_put, program_put}
use Rattle.file_flash.proofs.Few.{few_called, few_put, lean_called, lean_put, length_range}
use Rattle.file_flash.proofs.Resting.{dead, done, framed, no_rest, now_dead, now_stays, refused, remembers_both, same_rest}
use Rattle.file_flash.proofs.Tying.{on_ok, put_range, range_again, tied_put, tied_same, tied_torn}
use Rattle.file_flash.proofs.Waiting.{Waits, waits_put, waits_same}
use Rattle.file_flash.proofs.flash.FileFlashFlash.program.Goals as goal

-- a flash that failed
pub invariant_of-self : goal.invariant_of-self
invariant_of-self g c =
    let chip = g.F.Flash.chip in
    let f = c.args.self.now in
    let m0 = chip f.mirror in
    let m2 = chip c.program.new.self in
    let waiting = g.B.Backing.waiting f.backing in
    let now = now_dead (programmed c.args.at c.args.bytes.now) m0 m2 c.program.result (f.mirrored.dead c.if-self.true) (c.program.ensures.by_arm f.mirrored.steady) in
    let before = g.met.F.Flash.content f.mirror (chip f.mirror).moment (chip f.mirror).now f.mirrored.honest (g.met.F.Flash.counts_now f.mirror (chip f.mirror).moment (chip f.mirror).now (le_refl (chip f.mirror).moment) (g.met.F.Flash.reads_image f.mirror f.mirrored.honest)) in
    let behind = g.met.F.Flash.content f.goal (chip f.goal).moment (chip f.goal).now f.mirrored.sound (g.met.F.Flash.counts_now f.goal (chip f.goal).moment (chip f.goal).now (le_refl (chip f.goal).moment) (g.met.F.Flash.reads_image f.goal f.mirrored.sound)) in
    let w : Waits waiting c.note.new.self m2 =
    waits_same m0 m2 (chip f.goal).now waiting waiting f.saved c.note.new.self c.note.ensures c.program.ensures.frame.past.later before behind
    (few_called waiting waiting f.saved.called m0.changes m2.changes refl c.program.ensures.begins f.few)
    (lean_called waiting waiting f.saved.programmed m0.octets m2.octets (length c.args.bytes.now) refl c.program.ensures.octets f.lean) (record { noted = f.noted; few = f.few; lean = f.lean; timed = f.timed; kinds = f.kinds; fronts = f.fronts }) refl now in
    record {
      mirrored = search rules;
      tied = tied_same f.failed m0 (chip f.goal) m2 _ now f.tied;
      noted = w.noted;
      few = w.few;
      lean = w.lean;
      timed = w.timed;
      kinds = w.kinds;
      fronts = w.fronts;
    }

pub returns-then-self-clause-any_moment : goal.returns-then-self-clause-any_moment
returns-then-self-clause-any_moment g c = λ honest.
    let chip = g.F.Flash.chip in
    let f = c.args.self.now in
    let m0 = chip f.mirror in
    let m2 = chip c.program.new.self in
    let now = now_dead (programmed c.args.at c.args.bytes.now) m0 m2 c.program.result (f.mirrored.dead c.if-self.true) (c.program.ensures.by_arm f.mirrored.steady) in
    dead m0 m2 (chip f.goal) (programmed c.args.at c.args.bytes.now) f.saved c.note.new.self f.failed f.mirrored.same c.note.ensures f.timed (c.program.ensures.any_moment honest)
    (g.met.F.Flash.reads_image f.mirror honest) now

pub returns-then-self-clause-frame : goal.returns-then-self-clause-frame
returns-then-self-clause-frame g c =
    let chip = g.F.Flash.chip in
    let f = c.args.self.now in
    let m0 = chip f.mirror in
    let m2 = chip c.program.new.self in
    let frame = c.program.ensures.frame in
    let now = now_dead (programmed c.args.at c.args.bytes.now) m0 m2 c.program.result (f.mirrored.dead c.if-self.true) (c.program.ensures.by_arm f.mirrored.steady) in
    framed m0 m2 (chip f.goal) (chip f.goal) (chip f.goal) f.failed f.failed f.saved c.note.new.self c.note.ensures f.timed (same_rest m0 m2 (chip f.goal) f.failed now)
    frame.honest (ap (λ (s : Setting). s.faults) frame.setting) frame.later frame.past

-- a call that the place took
pub invariant_of-self-then-branch : goal.invariant_of-self-then-branch
invariant_of-self-then-branch g c =
    let chip = g.F.Flash.chip in
    let f = c.args.self.now in
    let at = c.args.at in
    let bytes = c.args.bytes.now in
    let held = g.B.Backing.held in
    let m0 = chip f.mirror in
    let m2 = chip c.program-then-branch.new.self in
    let mirrored = f.mirrored in
    let sure = mirrored.alive c.if-self.false in
    let first = (c.in_ok-program.ensures.ok mirrored.sound).reads ∙ ap (programmed c.args.at c.args.bytes.now) (mirrored.same c.if-self.false) in
    let sound1 = subst IsTrue (sym c.in_ok-program.ensures.frame.honest) mirrored.sound in
    let before = g.met.F.Flash.content f.mirror (chip f.mirror).moment (chip f.mirror).now f.mirrored.honest (g.met.F.Flash.counts_now f.mirror (chip f.mirror).moment (chip f.mirror).now (le_refl (chip f.mirror).moment) (g.met.F.Flash.reads_image f.mirror f.mirrored.honest)) in
    let behind = subst IsContent (sym first) (programmed_content c.args.at c.args.bytes.now m0.now before) in
    let now = (on_ok _ c.program-then-branch.result (c.program-then-branch.ensures.sure sure.0) (c.program-then-branch.ensures.ok mirrored.honest)).reads in
    let goal2 = (c.in_ok-put_range.ensures.stays sound1).now ∙ first in
    let put = subst (λ l. WasPut at (slice_range l at (at + length bytes)) (held f.backing) (held c.put_range.new.backing)) first (c.in_ok-put_range.ensures.taken c.if-branch.true) in
    let waiting = g.B.Backing.waiting in
    let more = subst (λ l. waiting c.put_range.new.backing ≡ and_put (program_put at (slice_range l at (at + length bytes))) (waiting f.backing)) first (c.in_ok-put_range.ensures.noted c.if-branch.true) in
    let w : Waits (g.B.Backing.waiting c.put_range.new.backing) c.note-2.new.self m2 =
    waits_put m0 m2 (chip c.program-2.new.self).now (g.B.Backing.waiting f.backing) (g.B.Backing.waiting c.put_range.new.backing) f.saved c.note-2.new.self c.note-2.ensures
    c.program-then-branch.ensures.frame.past.later before behind (few_put (program_put at (slice_range (programmed at bytes m0.now) at (at + length bytes))) _ _ f.saved.called m0.changes m2.changes more c.program-then-branch.ensures.begins f.few)
    (lean_put (program_put at (slice_range (programmed at bytes m0.now) at (at + length bytes))) _ _ f.saved.programmed m0.octets m2.octets (length bytes) more (length_range at (length bytes) (programmed at bytes m0.now))
    c.program-then-branch.ensures.octets f.lean) (record { noted = f.noted; few = f.few; lean = f.lean; timed = f.timed; kinds = f.kinds; fronts = f.fronts })
    (program_put at (slice_range (programmed at bytes m0.now) at (at + length bytes))) more (range_again at bytes m0.now ∙ sym now) (put_range at bytes m0.now ∙ sym now) (first ∙ sym now) in
    record {
      mirrored = record {
        steady = subst IsTrue (sym c.program-then-branch.ensures.frame.steady) mirrored.steady;
        honest = subst IsTrue (sym c.program-then-branch.ensures.frame.honest) mirrored.honest;
        sound = subst IsTrue (sym c.in_ok-put_range.ensures.frame.honest) sound1;
        sure = (c.in_ok-put_range.ensures.frame.sure (c.in_ok-program.ensures.frame.sure mirrored.sure).0).0;
        began = search rules;
        alive = λ off. ((c.program-then-branch.ensures.frame.sure sure.0).0, ap (λ (s : Setting). s.arm) c.program-then-branch.ensures.frame.setting ∙ sure.1);
        same = λ off. goal2 ∙ sym now;
        dead = λ on. absurd (true≢false (sym on ∙ c.if-self.false));
      };
      tied = tied_put (at) _ (programmed c.args.at c.args.bytes.now) f.failed m0 (chip f.goal) m2 (chip c.put_range.new.goal) _ _ c.if-self.false f.tied put (put_range at bytes m0.now) now;
      noted = w.noted;
      few = w.few;
      lean = w.lean;
      timed = w.timed;
      kinds = w.kinds;
      fronts = w.fronts;
    }

pub returns-then-branch-clause-any_moment : goal.returns-then-branch-clause-any_moment
returns-then-branch-clause-any_moment g c = λ honest.
    let chip = g.F.Flash.chip in
    let f = c.args.self.now in
    let first = (c.in_ok-program.ensures.ok f.mirrored.sound).reads ∙ ap (programmed c.args.at c.args.bytes.now) (f.mirrored.same c.if-self.false) in
    done (chip f.mirror) (chip c.program-then-branch.new.self) (chip f.goal) (chip c.program-2.new.self) (chip c.put_range.new.goal) (programmed c.args.at c.args.bytes.now) f.saved c.note-2.new.self f.failed c.if-self.false c.note-2.ensures f.timed
    (c.program-then-branch.ensures.any_moment honest) (g.met.F.Flash.reads_image f.mirror honest) first

pub returns-then-branch-clause-frame : goal.returns-then-branch-clause-frame
returns-then-branch-clause-frame g c =
    let chip = g.F.Flash.chip in
    let f = c.args.self.now in
    let m0 = chip f.mirror in
    let m2 = chip c.program-then-branch.new.self in
    let frame = c.program-then-branch.ensures.frame in
    framed m0 m2 (chip f.goal) (chip c.program-2.new.self) (chip c.put_range.new.goal) f.failed f.failed f.saved c.note-2.new.self c.note-2.ensures f.timed
    (no_rest m0 m2 (chip f.goal) (chip c.put_range.new.goal) f.failed f.failed c.if-self.false)
    frame.honest (ap (λ (s : Setting). s.faults) frame.setting) frame.later frame.past

-- a call that it refused
pub invariant_of-self-else-branch : goal.invariant_of-self-else-branch
invariant_of-self-else-branch g c =
    let chip = g.F.Flash.chip in
    let f = c.args.self.now in
    let at = c.args.at in
    let bytes = c.args.bytes.now in
    let held = g.B.Backing.held in
    let m0 = chip f.mirror in
    let m1 = chip c.arm.new.self in
    let m2 = chip c.program-else-branch.new.self in
    let mirrored = f.mirrored in
    let first = (c.in_ok-program.ensures.ok mirrored.sound).reads ∙ ap (programmed c.args.at c.args.bytes.now) (mirrored.same c.if-self.false) in
    let sound1 = subst IsTrue (sym c.in_ok-program.ensures.frame.honest) mirrored.sound in
    let before = g.met.F.Flash.content f.mirror (chip f.mirror).moment (chip f.mirror).now f.mirrored.honest (g.met.F.Flash.counts_now f.mirror (chip f.mirror).moment (chip f.mirror).now (le_refl (chip f.mirror).moment) (g.met.F.Flash.reads_image f.mirror f.mirrored.honest)) in
    let behind = subst IsContent (sym first) (programmed_content c.args.at c.args.bytes.now m0.now before) in
    let goal2 = (c.in_ok-put_range.ensures.stays sound1).now ∙ first in
    let torn = subst (λ l. WasTorn at (slice_range l at (at + length bytes)) (held f.backing) (held c.put_range.new.backing)) first (c.in_ok-put_range.ensures.refused c.if-branch.false) in
    let steady = subst IsTrue (sym c.arm.ensures.frame.steady) mirrored.steady in
    let obeys = c.program-else-branch.ensures.by_arm steady in
    let same = now_stays (programmed c.args.at c.args.bytes.now) m0 m1 m2 c.program-else-branch.result m0.changes c.arm.ensures.left c.arm.ensures.setting obeys ∙ (c.arm.ensures.stays mirrored.honest).now in
    let later : m0.moment ≤ m2.moment = omega (arith, c.arm.ensures.frame.past.later, c.program-else-branch.ensures.frame.past.later) in
    let few = few_called _ _ f.saved.called m0.changes m2.changes (c.in_ok-put_range.ensures.unnoted c.if-branch.false)
    (c.program-else-branch.ensures.begins ∙ ap (λ (n : ℕ). min (n + 1) 4294967295) c.arm.ensures.changes) f.few in
    let lean = lean_called _ _ f.saved.programmed m0.octets m2.octets (length bytes) (c.in_ok-put_range.ensures.unnoted c.if-branch.false)
    (c.program-else-branch.ensures.octets ∙ ap (λ (n : ℕ). min (n + length bytes) 4294967295) c.arm.ensures.octets) f.lean in
    let w : Waits (g.B.Backing.waiting c.put_range.new.backing) c.note-2.new.self m2 =
    waits_same m0 m2 (chip c.program-2.new.self).now (g.B.Backing.waiting f.backing) (g.B.Backing.waiting c.put_range.new.backing) f.saved c.note-2.new.self c.note-2.ensures later before behind few lean (record { noted = f.noted; few = f.few; lean = f.lean; timed = f.timed; kinds = f.kinds; fronts = f.fronts })
    (c.in_ok-put_range.ensures.unnoted c.if-branch.false) same in
    record {
      mirrored = search rules;
      tied = tied_torn (at) _ (programmed c.args.at c.args.bytes.now) f.failed m0 (chip f.goal) m2 (chip c.put_range.new.goal) _ _ c.if-self.false f.tied torn (put_range at bytes m0.now) same goal2;
      noted = w.noted;
      few = w.few;
      lean = w.lean;
      timed = w.timed;
      kinds = w.kinds;
      fronts = w.fronts;
    }

pub returns-else-branch-clause-any_moment : goal.returns-else-branch-clause-any_moment
returns-else-branch-clause-any_moment g c = λ honest.
    let chip = g.F.Flash.chip in
    let f = c.args.self.now in
    let m0 = chip f.mirror in
    let m1 = chip c.arm.new.self in
    let m2 = chip c.program-else-branch.new.self in
    let steady = subst IsTrue (sym c.arm.ensures.frame.steady) f.mirrored.steady in
    let honest1 = subst IsTrue (sym c.arm.ensures.frame.honest) honest in
    let sound1 = subst IsTrue (sym c.in_ok-program.ensures.frame.honest) f.mirrored.sound in
    let same = now_stays (programmed c.args.at c.args.bytes.now) m0 m1 m2 c.program-else-branch.result m0.changes c.arm.ensures.left c.arm.ensures.setting (c.program-else-branch.ensures.by_arm steady) in
    let first = (c.in_ok-program.ensures.ok f.mirrored.sound).reads ∙ ap (programmed c.args.at c.args.bytes.now) (f.mirrored.same c.if-self.false) in
    refused m0 m1 m2 (chip f.goal) (chip c.program-2.new.self) (chip c.put_range.new.goal) (programmed c.args.at c.args.bytes.now) f.saved c.note-2.new.self f.failed c.if-self.false c.note-2.ensures f.timed (c.arm.ensures.stays honest)
    (c.program-else-branch.ensures.any_moment honest1) same (g.met.F.Flash.reads_image f.mirror honest) first ((c.in_ok-put_range.ensures.stays sound1).now ∙ first)

pub returns-else-branch-clause-frame : goal.returns-else-branch-clause-frame
returns-else-branch-clause-frame g c =
    let chip = g.F.Flash.chip in
    let f = c.args.self.now in
    let m0 = chip f.mirror in
    let m1 = chip c.arm.new.self in
    let m2 = chip c.program-else-branch.new.self in
    let frame = c.program-else-branch.ensures.frame in
    let armed = c.arm.ensures.frame in
    framed m0 m2 (chip f.goal) (chip c.program-2.new.self) (chip c.put_range.new.goal) f.failed true f.saved c.note-2.new.self c.note-2.ensures f.timed
    (no_rest m0 m2 (chip f.goal) (chip c.put_range.new.goal) f.failed true c.if-self.false)
    (frame.honest ∙ armed.honest) (ap (λ (s : Setting). s.faults) frame.setting ∙ ap (λ (s : Setting). s.faults) c.arm.ensures.setting)
    (subst (λ (n : ℕ). n ≤ m2.faults) armed.faults frame.later) (remembers_both m0 m1 m2 armed.past frame.past)

use Rattle.std.proofs.Common.{rules, ◌≡◌, ◌∙◌, ℕ, ◌+◌, ◌*◌, ◌≤◌, List, true, length, min, refl, sym, subst, ap, arith, true≢false}
use Rattle.std.proofs.Math.Nat.{le_refl}
use Rattle.std.specs.Prelude.{IsTrue, slice_range}
use Rattle.flash_model.specs.Chip.{Setting}
use Rattle.flash_model.specs.Octets.{IsContent, erased}
use Rattle.flash_model.proofs.Mixed.{blanked_content}
use Rattle.file_flash.specs.Noted.{erase_put}
use Rattle.file_flash.proofs.Few.{few_called, few_put, lean_erase, lean_same}
use Rattle.file_flash.proofs.Resting.{dead, done, framed, no_rest, now_dead, now_stays, refused, remembers_both, same_rest}
use Rattle.file_flash.proofs.Tying.{on_ok, put_blanked, tied_put, tied_same, tied_torn}
use Rattle.file_flash.proofs.Waiting.{Waits, waits_put, waits_same}
use Rattle.file_flash.proofs.flash.FileFlashFlash.erase.Goals as goal

-- a flash that failed
pub invariant_of-self : goal.invariant_of-self
invariant_of-self g c =
    let chip = g.F.Flash.chip in
    let f = c.args.self.now in
    let m0 = chip f.mirror in
    let m2 = chip c.erase.new.self in
    let waiting = g.B.Backing.waiting f.backing in
    let now = now_dead (erased c.args.sector) m0 m2 c.erase.result (f.mirrored.dead c.if-self.true) (c.erase.ensures.by_arm f.mirrored.steady) in
    let before = g.met.F.Flash.content f.mirror (chip f.mirror).moment (chip f.mirror).now f.mirrored.honest (g.met.F.Flash.counts_now f.mirror (chip f.mirror).moment (chip f.mirror).now (le_refl (chip f.mirror).moment) (g.met.F.Flash.reads_image f.mirror f.mirrored.honest)) in
    let behind = g.met.F.Flash.content f.goal (chip f.goal).moment (chip f.goal).now f.mirrored.sound (g.met.F.Flash.counts_now f.goal (chip f.goal).moment (chip f.goal).now (le_refl (chip f.goal).moment) (g.met.F.Flash.reads_image f.goal f.mirrored.sound)) in
    let w : Waits waiting c.note.new.self m2 =
    waits_same m0 m2 (chip f.goal).now waiting waiting f.saved c.note.new.self c.note.ensures c.erase.ensures.frame.past.later before behind
    (few_called waiting waiting f.saved.called m0.changes m2.changes refl c.erase.ensures.begins f.few)
    (lean_same waiting waiting f.saved.programmed m0.octets m2.octets refl c.erase.ensures.unprogrammed f.lean) (record { noted = f.noted; few = f.few; lean = f.lean; timed = f.timed; kinds = f.kinds; fronts = f.fronts }) refl now in
    record {
      mirrored = search rules;
      tied = tied_same f.failed m0 (chip f.goal) m2 _ now f.tied;
      noted = w.noted;
      few = w.few;
      lean = w.lean;
      timed = w.timed;
      kinds = w.kinds;
      fronts = w.fronts;
    }

pub returns-then-self-clause-any_moment : goal.returns-then-self-clause-any_moment
returns-then-self-clause-any_moment g c = λ honest.
    let chip = g.F.Flash.chip in
    let f = c.args.self.now in
    let m0 = chip f.mirror in
    let m2 = chip c.erase.new.self in
    let now = now_dead (erased c.args.sector) m0 m2 c.erase.result (f.mirrored.dead c.if-self.true) (c.erase.ensures.by_arm f.mirrored.steady) in
    dead m0 m2 (chip f.goal) (erased c.args.sector) f.saved c.note.new.self f.failed f.mirrored.same c.note.ensures f.timed (c.erase.ensures.any_moment honest)
    (g.met.F.Flash.reads_image f.mirror honest) now

pub returns-then-self-clause-frame : goal.returns-then-self-clause-frame
returns-then-self-clause-frame g c =
    let chip = g.F.Flash.chip in
    let f = c.args.self.now in
    let m0 = chip f.mirror in
    let m2 = chip c.erase.new.self in
    let frame = c.erase.ensures.frame in
    let now = now_dead (erased c.args.sector) m0 m2 c.erase.result (f.mirrored.dead c.if-self.true) (c.erase.ensures.by_arm f.mirrored.steady) in
    framed m0 m2 (chip f.goal) (chip f.goal) (chip f.goal) f.failed f.failed f.saved c.note.new.self c.note.ensures f.timed (same_rest m0 m2 (chip f.goal) f.failed now)
    frame.honest (ap (λ (s : Setting). s.faults) frame.setting) frame.later frame.past

-- a call that the place took
pub invariant_of-self-in-Ok : goal.invariant_of-self-in-Ok
invariant_of-self-in-Ok g c =
    let chip = g.F.Flash.chip in
    let f = c.args.self.now in
    let m0 = chip f.mirror in
    let m2 = chip c.erase-in-Ok.new.self in
    let mirrored = f.mirrored in
    let sure = mirrored.alive c.if-self.false in
    let first = (c.in_ok-erase.ensures.ok mirrored.sound).reads ∙ ap (erased c.args.sector) (mirrored.same c.if-self.false) in
    let sound1 = subst IsTrue (sym c.in_ok-erase.ensures.frame.honest) mirrored.sound in
    let before = g.met.F.Flash.content f.mirror (chip f.mirror).moment (chip f.mirror).now f.mirrored.honest (g.met.F.Flash.counts_now f.mirror (chip f.mirror).moment (chip f.mirror).now (le_refl (chip f.mirror).moment) (g.met.F.Flash.reads_image f.mirror f.mirrored.honest)) in
    let behind = subst IsContent (sym first) (blanked_content (4096 * c.args.sector) 4096 m0.now before) in
    let now = (on_ok _ c.erase-in-Ok.result (c.erase-in-Ok.ensures.sure sure.0) (c.erase-in-Ok.ensures.ok mirrored.honest)).reads in
    let more = c.in-Ok.ensures.noted in
    let w : Waits (g.B.Backing.waiting c.erase_sector.new.self) c.note-2.new.self m2 =
    waits_put m0 m2 (chip c.erase-2.new.self).now (g.B.Backing.waiting f.backing) (g.B.Backing.waiting c.erase_sector.new.self) f.saved c.note-2.new.self c.note-2.ensures
    c.erase-in-Ok.ensures.frame.past.later before behind (few_put (erase_put c.args.sector) _ _ f.saved.called m0.changes m2.changes more c.erase-in-Ok.ensures.begins f.few)
    (lean_erase c.args.sector _ _ f.saved.programmed m0.octets m2.octets more c.erase-in-Ok.ensures.unprogrammed f.lean) (record { noted = f.noted; few = f.few; lean = f.lean; timed = f.timed; kinds = f.kinds; fronts = f.fronts })
    (erase_put c.args.sector) more (refl ∙ sym now) (put_blanked (4096 * c.args.sector) 4096 m0.now ∙ sym now) (first ∙ sym now) in
    record {
      mirrored = search rules;
      tied = tied_put (4096 * c.args.sector) _ (erased c.args.sector) f.failed m0 (chip f.goal) m2 (chip c.erase-2.new.self) _ _ c.if-self.false f.tied c.in-Ok.ensures.ok (put_blanked (4096 * c.args.sector) 4096 m0.now) now;
      noted = w.noted;
      few = w.few;
      lean = w.lean;
      timed = w.timed;
      kinds = w.kinds;
      fronts = w.fronts;
    }

pub returns-in-Ok-clause-any_moment : goal.returns-in-Ok-clause-any_moment
returns-in-Ok-clause-any_moment g c = λ honest.
    let chip = g.F.Flash.chip in
    let f = c.args.self.now in
    let first = (c.in_ok-erase.ensures.ok f.mirrored.sound).reads ∙ ap (erased c.args.sector) (f.mirrored.same c.if-self.false) in
    done (chip f.mirror) (chip c.erase-in-Ok.new.self) (chip f.goal) (chip c.erase-2.new.self) (chip c.erase-2.new.self) (erased c.args.sector) f.saved c.note-2.new.self f.failed c.if-self.false c.note-2.ensures f.timed
    (c.erase-in-Ok.ensures.any_moment honest) (g.met.F.Flash.reads_image f.mirror honest) first

pub returns-in-Ok-clause-frame : goal.returns-in-Ok-clause-frame
returns-in-Ok-clause-frame g c =
    let chip = g.F.Flash.chip in
    let f = c.args.self.now in
    let m0 = chip f.mirror in
    let m2 = chip c.erase-in-Ok.new.self in
    let frame = c.erase-in-Ok.ensures.frame in
    framed m0 m2 (chip f.goal) (chip c.erase-2.new.self) (chip c.erase-2.new.self) f.failed f.failed f.saved c.note-2.new.self c.note-2.ensures f.timed
    (no_rest m0 m2 (chip f.goal) (chip c.erase-2.new.self) f.failed f.failed c.if-self.false)
    frame.honest (ap (λ (s : Setting). s.faults) frame.setting) frame.later frame.past

-- a call that it refused
pub invariant_of-self-in-Err : goal.invariant_of-self-in-Err
invariant_of-self-in-Err g c =
    let chip = g.F.Flash.chip in
    let f = c.args.self.now in
    let m0 = chip f.mirror in
    let m1 = chip c.arm.new.self in
    let m2 = chip c.erase-in-Err.new.self in
    let mirrored = f.mirrored in
    let first = (c.in_ok-erase.ensures.ok mirrored.sound).reads ∙ ap (erased c.args.sector) (mirrored.same c.if-self.false) in
    let sound1 = subst IsTrue (sym c.in_ok-erase.ensures.frame.honest) mirrored.sound in
    let before = g.met.F.Flash.content f.mirror (chip f.mirror).moment (chip f.mirror).now f.mirrored.honest (g.met.F.Flash.counts_now f.mirror (chip f.mirror).moment (chip f.mirror).now (le_refl (chip f.mirror).moment) (g.met.F.Flash.reads_image f.mirror f.mirrored.honest)) in
    let behind = subst IsContent (sym first) (blanked_content (4096 * c.args.sector) 4096 m0.now before) in
    let steady = subst IsTrue (sym c.arm.ensures.frame.steady) mirrored.steady in
    let obeys = c.erase-in-Err.ensures.by_arm steady in
    let same = now_stays (erased c.args.sector) m0 m1 m2 c.erase-in-Err.result m0.changes c.arm.ensures.left c.arm.ensures.setting obeys ∙ (c.arm.ensures.stays mirrored.honest).now in
    let later : m0.moment ≤ m2.moment = omega (arith, c.arm.ensures.frame.past.later, c.erase-in-Err.ensures.frame.past.later) in
    let few = few_called _ _ f.saved.called m0.changes m2.changes c.in-Err.ensures.unnoted
    (c.erase-in-Err.ensures.begins ∙ ap (λ (n : ℕ). min (n + 1) 4294967295) c.arm.ensures.changes) f.few in
    let lean = lean_same _ _ f.saved.programmed m0.octets m2.octets c.in-Err.ensures.unnoted (c.erase-in-Err.ensures.unprogrammed ∙ c.arm.ensures.octets) f.lean in
    let w : Waits (g.B.Backing.waiting c.erase_sector.new.self) c.note-2.new.self m2 =
    waits_same m0 m2 (chip c.erase-2.new.self).now (g.B.Backing.waiting f.backing) (g.B.Backing.waiting c.erase_sector.new.self) f.saved c.note-2.new.self c.note-2.ensures later before behind few lean (record { noted = f.noted; few = f.few; lean = f.lean; timed = f.timed; kinds = f.kinds; fronts = f.fronts })
    c.in-Err.ensures.unnoted same in
    record {
      mirrored = search rules;
      tied = tied_torn (4096 * c.args.sector) _ (erased c.args.sector) f.failed m0 (chip f.goal) m2 (chip c.erase-2.new.self) _ _ c.if-self.false f.tied c.in-Err.ensures.err (put_blanked (4096 * c.args.sector) 4096 m0.now) same first;
      noted = w.noted;
      few = w.few;
      lean = w.lean;
      timed = w.timed;
      kinds = w.kinds;
      fronts = w.fronts;
    }

pub returns-in-Err-clause-any_moment : goal.returns-in-Err-clause-any_moment
returns-in-Err-clause-any_moment g c = λ honest.
    let chip = g.F.Flash.chip in
    let f = c.args.self.now in
    let m0 = chip f.mirror in
    let m1 = chip c.arm.new.self in
    let m2 = chip c.erase-in-Err.new.self in
    let steady = subst IsTrue (sym c.arm.ensures.frame.steady) f.mirrored.steady in
    let honest1 = subst IsTrue (sym c.arm.ensures.frame.honest) honest in
    let sound1 = subst IsTrue (sym c.in_ok-erase.ensures.frame.honest) f.mirrored.sound in
    let same = now_stays (erased c.args.sector) m0 m1 m2 c.erase-in-Err.result m0.changes c.arm.ensures.left c.arm.ensures.setting (c.erase-in-Err.ensures.by_arm steady) in
    let first = (c.in_ok-erase.ensures.ok f.mirrored.sound).reads ∙ ap (erased c.args.sector) (f.mirrored.same c.if-self.false) in
    refused m0 m1 m2 (chip f.goal) (chip c.erase-2.new.self) (chip c.erase-2.new.self) (erased c.args.sector) f.saved c.note-2.new.self f.failed c.if-self.false c.note-2.ensures f.timed (c.arm.ensures.stays honest)
    (c.erase-in-Err.ensures.any_moment honest1) same (g.met.F.Flash.reads_image f.mirror honest) first first

pub returns-in-Err-clause-frame : goal.returns-in-Err-clause-frame
returns-in-Err-clause-frame g c =
    let chip = g.F.Flash.chip in
    let f = c.args.self.now in
    let m0 = chip f.mirror in
    let m1 = chip c.arm.new.self in
    let m2 = chip c.erase-in-Err.new.self in
    let frame = c.erase-in-Err.ensures.frame in
    let armed = c.arm.ensures.frame in
    framed m0 m2 (chip f.goal) (chip c.erase-2.new.self) (chip c.erase-2.new.self) f.failed true f.saved c.note-2.new.self c.note-2.ensures f.timed
    (no_rest m0 m2 (chip f.goal) (chip c.erase-2.new.self) f.failed true c.if-self.false)
    (frame.honest ∙ armed.honest) (ap (λ (s : Setting). s.faults) frame.setting ∙ ap (λ (s : Setting). s.faults) c.arm.ensures.setting)
    (subst (λ (n : ℕ). n ≤ m2.faults) armed.faults frame.later) (remembers_both m0 m1 m2 armed.past frame.past)

use Rattle.std.proofs.Common.{rules, ◌≡◌, ◌<◌, ◌+◌, ◌≤◌, ℕ, List, ap, refl, subst, sym, length}
use Rattle.std.proofs.Math.Nat.{le_refl}
use Rattle.flash_model.specs.Chip.{Setting}
use Rattle.file_flash.specs.Noted.{AreFew}
use Rattle.file_flash.proofs.Few.{lean_same}
use Rattle.file_flash.proofs.Resting.{framed, same_rest, stayed}
use Rattle.file_flash.proofs.Tying.{tied_same}
use Rattle.file_flash.proofs.Waiting.{Waits, waits_same}
use Rattle.file_flash.proofs.flash.FileFlashFlash.read.Goals as goal

pub invariant_of-self : goal.invariant_of-self
invariant_of-self g c =
    let chip = g.F.Flash.chip in
    let f = c.args.self.now in
    let m0 = chip f.mirror in
    let m2 = chip c.read.new.self in
    let waiting = g.B.Backing.waiting f.backing in
    let now = (c.read.ensures.stays f.mirrored.honest).now in
    let before = g.met.F.Flash.content f.mirror (chip f.mirror).moment (chip f.mirror).now f.mirrored.honest (g.met.F.Flash.counts_now f.mirror (chip f.mirror).moment (chip f.mirror).now (le_refl (chip f.mirror).moment) (g.met.F.Flash.reads_image f.mirror f.mirrored.honest)) in
    let behind = g.met.F.Flash.content f.goal (chip f.goal).moment (chip f.goal).now f.mirrored.sound (g.met.F.Flash.counts_now f.goal (chip f.goal).moment (chip f.goal).now (le_refl (chip f.goal).moment) (g.met.F.Flash.reads_image f.goal f.mirrored.sound)) in
    let count = c.read.ensures.uncalled in
    let few : AreFew waiting f.saved.called m2.changes = λ puts some less.
    subst (λ (n : ℕ). f.saved.called + length puts ≤ n) (sym count) (f.few puts some (subst (λ (n : ℕ). n < 4294967295) count less)) in
    let w : Waits waiting c.note.new.self m2 =
    waits_same m0 m2 (chip f.goal).now waiting waiting f.saved c.note.new.self c.note.ensures c.read.ensures.frame.past.later before behind few
    (lean_same waiting waiting f.saved.programmed m0.octets m2.octets refl c.read.ensures.unprogrammed f.lean) (record { noted = f.noted; few = f.few; lean = f.lean; timed = f.timed; kinds = f.kinds; fronts = f.fronts }) refl now in
    record {
      mirrored = search rules;
      tied = tied_same f.failed m0 (chip f.goal) m2 _ now f.tied;
      noted = w.noted;
      few = w.few;
      lean = w.lean;
      timed = w.timed;
      kinds = w.kinds;
      fronts = w.fronts;
    }

pub returns-clause-stays : goal.returns-clause-stays
returns-clause-stays g c = λ honest.
    let chip = g.F.Flash.chip in
    let f = c.args.self.now in
    stayed (chip f.mirror) (chip c.read.new.self) (chip f.goal) f.saved c.note.new.self f.failed f.mirrored.same c.note.ensures f.timed (c.read.ensures.stays honest)
    (g.met.F.Flash.reads_image f.mirror honest)

pub returns-clause-frame : goal.returns-clause-frame
returns-clause-frame g c =
    let chip = g.F.Flash.chip in
    let f = c.args.self.now in
    let m0 = chip f.mirror in
    let m2 = chip c.read.new.self in
    let frame = c.read.ensures.frame in
    framed m0 m2 (chip f.goal) (chip f.goal) (chip f.goal) f.failed f.failed f.saved c.note.new.self c.note.ensures f.timed
    (same_rest m0 m2 (chip f.goal) f.failed (c.read.ensures.stays f.mirrored.honest).now)
    frame.honest (ap (λ (s : Setting). s.faults) frame.setting) frame.later frame.past

use Rattle.std.proofs.Common.{◌∙◌, ap, arith, refl, rules, sym, subst, List, ℕ}
use Rattle.flash_model.specs.declared.past.Past.{Past}
use Rattle.flash_model.specs.declared.flash.FlashFailed.{FlashFailed}
use Rattle.flash_model.specs.Octets.{IsTorn, erased}
use Rattle.flash_model.specs.Memory.{left_of}
use Rattle.flash_model.proofs.Mixed.{mixed_whole, mixed_torn, blanked_content, torn_content, torn_none}
use Rattle.flash_model.proofs.Moments.{wrote, done_note, cut_note, past_note, torn_follows, left_nearer}
use Rattle.flash_model.proofs.memory.MemFlashFlash.erase.Goals as goal

pub invariant_of-self : goal.invariant_of-self
invariant_of-self c =
    let old = c.args.self.now.octets.items in
    let change = erased c.args.sector in
    let so = wrote 255 c.begin-course.new.self.octets.len change old c.begin-course.new.self.octets.items c.deref_mut.result.now c.blank_octets.new.octets c.deref_mut.ensures.value (ap (λ v. v.items) c.begin-course.ensures.octets) c.deref_mut.ensures.len c.blank_octets.ensures in
    record {
      content = torn_content old (change old) _ c.args.self.now.content (blanked_content _ _ _ c.args.self.now.content) (mixed_torn 255 _ _ _ so);
      contents = c.begin-course.new.self.contents;
      whole = c.begin-course.new.self.whole;
      cut = c.begin-course.new.self.cut;
      ahead = c.begin-course.new.self.ahead;
      few = c.begin-course.new.self.few;
      fewer = omega (arith, c.args.self.now.fewer, c.begin-course.ensures.changes, c.begin-course.ensures.erases, c.saturating_add-self.ensures);
      counted = c.begin-course.new.self.counted;
      within = c.begin-course.new.self.within;
    }

pub invariant_of-self-in-Torn : goal.invariant_of-self-in-Torn
invariant_of-self-in-Torn c =
    let old = c.args.self.now.octets.items in
    let change = erased c.args.sector in
    let so = wrote c.in-Torn.mask c.begin-course.new.self.octets.len change old c.begin-course.new.self.octets.items c.deref_mut-in-Torn.result.now c.blank_octets-in-Torn.new.octets c.deref_mut-in-Torn.ensures.value (ap (λ v. v.items) c.begin-course.ensures.octets) c.deref_mut-in-Torn.ensures.len c.blank_octets-in-Torn.ensures in
    record {
      content = torn_content old (change old) _ c.args.self.now.content (blanked_content _ _ _ c.args.self.now.content) (mixed_torn c.in-Torn.mask _ _ _ so);
      contents = c.begin-course.new.self.contents;
      whole = c.begin-course.new.self.whole;
      cut = c.begin-course.new.self.cut;
      ahead = c.begin-course.new.self.ahead;
      few = c.begin-course.new.self.few;
      fewer = omega (arith, c.args.self.now.fewer, c.begin-course.ensures.changes, c.begin-course.ensures.erases, c.saturating_add-self.ensures);
      counted = c.begin-course.new.self.counted;
      within = c.begin-course.new.self.within;
    }

pub returns-in-Whole-clause-ok : goal.returns-in-Whole-clause-ok
returns-in-Whole-clause-ok c honest =
    let old = c.args.self.now.octets.items in
    let change = erased c.args.sector in
    let so = wrote 255 c.begin-course.new.self.octets.len change old c.begin-course.new.self.octets.items c.deref_mut.result.now c.blank_octets.new.octets c.deref_mut.ensures.value (ap (λ v. v.items) c.begin-course.ensures.octets) c.deref_mut.ensures.len c.blank_octets.ensures in
    done_note c.args.self.now.past c.begin-course.new.self.past old _ c.args.self.now.changes c.begin-course.new.self.changes c.args.self.now.erases c.saturating_add-self.result c.args.self.now.programmed c.begin-course.new.self.programmed c.args.self.now.reads c.begin-course.new.self.reads c.args.self.now.arm c.begin-course.new.self.arm (ap (λ (p : Past). p.contents) c.begin-course.ensures.past) change
    (mixed_whole old (change old) _ c.args.self.now.content (blanked_content _ _ _ c.args.self.now.content) so)

pub returns-in-Whole-clause-any_moment : goal.returns-in-Whole-clause-any_moment
returns-in-Whole-clause-any_moment c honest =
    let old = c.args.self.now.octets.items in
    let change = erased c.args.sector in
    let so = wrote 255 c.begin-course.new.self.octets.len change old c.begin-course.new.self.octets.items c.deref_mut.result.now c.blank_octets.new.octets c.deref_mut.ensures.value (ap (λ v. v.items) c.begin-course.ensures.octets) c.deref_mut.ensures.len c.blank_octets.ensures in
    cut_note c.args.self.now.past c.begin-course.new.self.past old _ c.args.self.now.changes c.begin-course.new.self.changes c.args.self.now.erases c.saturating_add-self.result c.args.self.now.programmed c.begin-course.new.self.programmed c.args.self.now.reads c.begin-course.new.self.reads c.args.self.now.arm c.begin-course.new.self.arm (ap (λ (p : Past). p.contents) c.begin-course.ensures.past) change (mixed_torn 255 _ _ _ so)

pub returns-in-Torn-clause-any_moment : goal.returns-in-Torn-clause-any_moment
returns-in-Torn-clause-any_moment c honest =
    let old = c.args.self.now.octets.items in
    let change = erased c.args.sector in
    let so = wrote c.in-Torn.mask c.begin-course.new.self.octets.len change old c.begin-course.new.self.octets.items c.deref_mut-in-Torn.result.now c.blank_octets-in-Torn.new.octets c.deref_mut-in-Torn.ensures.value (ap (λ v. v.items) c.begin-course.ensures.octets) c.deref_mut-in-Torn.ensures.len c.blank_octets-in-Torn.ensures in
    cut_note c.args.self.now.past c.begin-course.new.self.past old _ c.args.self.now.changes c.begin-course.new.self.changes c.args.self.now.erases c.saturating_add-self.result c.args.self.now.programmed c.begin-course.new.self.programmed c.args.self.now.reads c.begin-course.new.self.reads c.args.self.now.arm c.begin-course.new.self.arm (ap (λ (p : Past). p.contents) c.begin-course.ensures.past) change (mixed_torn c.in-Torn.mask _ _ _ so)

pub returns-in-Torn-clause-by_arm : goal.returns-in-Torn-clause-by_arm
returns-in-Torn-clause-by_arm c steady =
    let old = c.args.self.now.octets.items in
    let change = erased c.args.sector in
    let so = wrote c.in-Torn.mask c.begin-course.new.self.octets.len change old c.begin-course.new.self.octets.items c.deref_mut-in-Torn.result.now c.blank_octets-in-Torn.new.octets c.deref_mut-in-Torn.ensures.value (ap (λ v. v.items) c.begin-course.ensures.octets) c.deref_mut-in-Torn.ensures.len c.blank_octets-in-Torn.ensures in
    record {
      course = torn_follows (Unit {0}) FlashFailed c.args.self.now.failed c.args.self.now.arm c.args.self.now.past c.in-Torn.mask change old _ (record {}) (sym c.begin-course.ensures.course ∙ c.in-Torn.is) c.args.self.now.whole so;
      counted = c.begin-course.ensures.changes;
      nearer = ap left_of c.begin-course.ensures.arm ∙ left_nearer c.args.self.now.arm;
    }

pub returns-in-Dead-clause-any_moment : goal.returns-in-Dead-clause-any_moment
returns-in-Dead-clause-any_moment c honest =
    let old = c.args.self.now.octets.items in
    let change = erased c.args.sector in
    cut_note c.args.self.now.past c.begin-course.new.self.past old c.begin-course.new.self.octets.items c.args.self.now.changes c.begin-course.new.self.changes c.args.self.now.erases c.saturating_add-self.result c.args.self.now.programmed c.begin-course.new.self.programmed c.args.self.now.reads c.begin-course.new.self.reads c.args.self.now.arm c.begin-course.new.self.arm (ap (λ (p : Past). p.contents) c.begin-course.ensures.past) change
    (subst (λ (l : List ℕ). IsTorn old (change old) l) (sym (ap (λ v. v.items) c.begin-course.ensures.octets)) (torn_none old (change old)))

pub returns-in-Whole-clause-frame : goal.returns-in-Whole-clause-frame
returns-in-Whole-clause-frame c =
    record {
      honest = refl;
      steady = refl;
      setting = search rules;
      later = search rules;
      sure = search rules;
      past = past_note c.args.self.now.past c.begin-course.new.self.past c.args.self.now.octets.items _ c.args.self.now.changes c.begin-course.new.self.changes c.args.self.now.erases c.saturating_add-self.result c.args.self.now.programmed c.begin-course.new.self.programmed c.args.self.now.reads c.begin-course.new.self.reads c.args.self.now.arm c.begin-course.new.self.arm
          (ap (λ (p : Past). p.contents) c.begin-course.ensures.past);
    }

pub returns-in-Torn-clause-frame : goal.returns-in-Torn-clause-frame
returns-in-Torn-clause-frame c =
    record {
      honest = refl;
      steady = refl;
      setting = search rules;
      later = search rules;
      sure = search rules;
      past = past_note c.args.self.now.past c.begin-course.new.self.past c.args.self.now.octets.items _ c.args.self.now.changes c.begin-course.new.self.changes c.args.self.now.erases c.saturating_add-self.result c.args.self.now.programmed c.begin-course.new.self.programmed c.args.self.now.reads c.begin-course.new.self.reads c.args.self.now.arm c.begin-course.new.self.arm
          (ap (λ (p : Past). p.contents) c.begin-course.ensures.past);
    }

pub returns-in-Dead-clause-frame : goal.returns-in-Dead-clause-frame
returns-in-Dead-clause-frame c =
    record {
      honest = refl;
      steady = refl;
      setting = search rules;
      later = search rules;
      sure = search rules;
      past = past_note c.args.self.now.past c.begin-course.new.self.past c.args.self.now.octets.items _ c.args.self.now.changes c.begin-course.new.self.changes c.args.self.now.erases c.saturating_add-self.result c.args.self.now.programmed c.begin-course.new.self.programmed c.args.self.now.reads c.begin-course.new.self.reads c.args.self.now.arm c.begin-course.new.self.arm
          (ap (λ (p : Past). p.contents) c.begin-course.ensures.past);
    }

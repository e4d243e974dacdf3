use Rattle.std.proofs.Common.{◌≡◌, ◌+◌, ◌-◌, ◌<◌, ◌∙◌, ◌++◌, ◌∷◌, [], List, ℕ, ap, sym, subst, arith, true}
use Rattle.std.specs.Prelude.{min}
use Rattle.flash_model.specs.declared.past.Past.{Past}
use Rattle.flash_model.specs.Course.{call_of, is_failing, is_nearer, nearer_arm, course_of}
use Rattle.flash_model.specs.Past.{noted}
use Rattle.flash_model.proofs.Began.{began_whole, began_cut, began_ahead, began_within, next_reached, next_ahead, next_within}
use Rattle.flash_model.proofs.Moments.{contents_more}
use Rattle.flash_model.proofs.memory.MemFlash.begin.Goals as goal

pub invariant_of-self : goal.invariant_of-self
invariant_of-self c =
    let before = c.args.self.now in
    let found = c.deref.result.now in
    let arm = c.nearer-self.ensures in
    let changes = c.saturating_add-self.ensures in
    let is : c.note.new.self ≡ noted (call_of (course_of before.failed before.arm)) found before.past =
    c.note.ensures ∙ ap (λ (k : ℕ). noted k found before.past) (c.noted_as.ensures ∙ ap call_of c.next_course-course.ensures) in
    let fails : c.fails-self.result ≡ is_failing (course_of before.failed before.arm) = c.fails-self.ensures ∙ ap is_failing c.next_course-course.ensures in
    record {
      content = before.content;
      contents = contents_more before.past.contents c.note.new.self.contents before.octets.items
          (ap (λ (p : Past). p.contents) c.note.ensures ∙ ap (λ (l : List ℕ). before.past.contents ++ l ∷ []) c.deref.ensures.value) before.content before.contents;
      whole = λ not. subst (λ (p : Past). p.faults ≡ p.cycled) (sym is) (began_whole before.past found before.changes before.failed before.arm before.whole (sym fails ∙ not));
      cut = λ yes.
          let all = began_cut before.past found before.changes before.failed before.arm before.whole before.cut before.ahead (sym fails ∙ yes) in
          (subst (λ (p : Past). p.cycled < p.faults) (sym is) all.0, next_reached _ _ _ _ arm changes all.1);
      ahead = λ not. next_ahead _ _ _ _ arm changes (began_ahead before.past found before.changes before.failed before.arm before.ahead (sym fails ∙ not));
      few = omega (arith, changes);
      fewer = omega (arith, before.fewer, changes);
      counted = before.counted;
      within = next_within _ _ _ _ _ arm changes (subst (λ (p : Past). is_nearer (nearer_arm before.arm) (p.faults - p.cycled) (min (before.changes + 1) 4294967295) ≡ true) (sym is)
          (began_within before.past found before.changes before.failed before.arm before.whole before.cut before.within));
    }

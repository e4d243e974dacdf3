use Rattle.std.proofs.Common.{◌-◌, ◌<◌, ◌≤◌, ◌∙◌, ◌++◌, ◌∷◌, [], List, ℕ, ap, sym, refl, rules, subst, arith, true≢false}
use Rattle.flash_model.specs.declared.past.Past.{Past}
use Rattle.flash_model.proofs.Began.{within_more}
use Rattle.flash_model.proofs.Moments.{contents_more, past_note, stays_note}
use Rattle.flash_model.proofs.memory.MemFlashFlash.read.Goals as goal

pub invariant_of-self : goal.invariant_of-self
invariant_of-self c =
    let before = c.args.self.now in
    record {
      content = before.content;
      contents = contents_more before.past.contents c.note.new.self.contents before.octets.items
          (ap (λ (p : Past). p.contents) c.note.ensures ∙ ap (λ (l : List ℕ). before.past.contents ++ l ∷ []) c.deref.ensures.value) before.content before.contents;
      whole = λ not. absurd (true≢false (sym c.if-self.true ∙ not));
      cut = λ yes. let was = before.cut yes in let more = was.0 in (subst (λ (p : Past). p.cycled < p.faults) (sym c.note.ensures) (omega arith), was.1);
      ahead = λ not. absurd (true≢false (sym c.if-self.true ∙ not));
      few = before.few;
      fewer = before.fewer;
      counted = before.counted;
      within = within_more before.arm (before.past.faults - before.past.cycled) (c.note.new.self.faults - c.note.new.self.cycled) before.changes
          (subst (λ (p : Past). before.past.faults - before.past.cycled ≤ p.faults - p.cycled) (sym c.note.ensures) (omega arith)) before.within;
    }

pub returns-then-self-clause-stays : goal.returns-then-self-clause-stays
returns-then-self-clause-stays c honest =
    stays_note c.args.self.now.past c.note.new.self c.args.self.now.octets.items c.args.self.now.octets.items c.args.self.now.changes c.args.self.now.changes c.args.self.now.erases c.args.self.now.erases c.args.self.now.programmed c.args.self.now.programmed c.args.self.now.reads c.saturating_add-self.result c.args.self.now.arm c.args.self.now.arm
    (ap (λ (p : Past). p.contents) c.note.ensures ∙ ap (λ (l : List ℕ). c.args.self.now.past.contents ++ l ∷ []) c.deref.ensures.value) refl

pub returns-then-self-clause-frame : goal.returns-then-self-clause-frame
returns-then-self-clause-frame c = record {
  honest = refl;
  steady = refl;
  setting = search rules;
  later = search rules;
  sure = search rules;
  past = past_note c.args.self.now.past c.note.new.self c.args.self.now.octets.items c.args.self.now.octets.items c.args.self.now.changes c.args.self.now.changes c.args.self.now.erases c.args.self.now.erases c.args.self.now.programmed c.args.self.now.programmed c.args.self.now.reads c.saturating_add-self.result c.args.self.now.arm c.args.self.now.arm
      (ap (λ (p : Past). p.contents) c.note.ensures ∙ ap (λ (l : List ℕ). c.args.self.now.past.contents ++ l ∷ []) c.deref.ensures.value);
}

use Rattle.std.proofs.Common.{◌≡◌, ◌∙◌, ◌++◌, ◌∷◌, [], List, ℕ, ap, sym, refl, rules, subst, true≢false, None, arith}
use Rattle.flash_model.specs.declared.past.Past.{Past}
use Rattle.flash_model.proofs.Moments.{contents_more, past_note, time_note}
use Rattle.flash_model.proofs.memory.MemFlashBench.power_cycle.Goals as goal

pub invariant_of-self : goal.invariant_of-self
invariant_of-self c =
    let before = c.args.self.now in
    record {
      content = before.content;
      contents = contents_more before.past.contents c.note.new.self.contents before.octets.items
          (ap (λ (p : Past). p.contents) c.note.ensures ∙ ap (λ (l : List ℕ). before.past.contents ++ l ∷ []) c.deref.ensures.value) before.content before.contents;
      whole = λ not. subst (λ (p : Past). p.faults ≡ p.cycled) (sym c.note.ensures) refl;
      cut = λ yes. absurd (true≢false (sym yes));
      ahead = λ not. refl;
      few = omega arith;
      fewer = omega arith;
      counted = omega arith;
      within = refl;
    }

pub returns-clause-any_moment : goal.returns-clause-any_moment
returns-clause-any_moment c honest =
    time_note c.args.self.now.past c.note.new.self c.args.self.now.octets.items c.args.self.now.octets.items c.args.self.now.changes 0 c.args.self.now.erases 0 c.args.self.now.programmed 0 c.args.self.now.reads 0 c.args.self.now.arm None
    (ap (λ (p : Past). p.contents) c.note.ensures ∙ ap (λ (l : List ℕ). c.args.self.now.past.contents ++ l ∷ []) c.deref.ensures.value) (λ d. d ≡ c.args.self.now.octets.items) refl

pub returns-clause-frame : goal.returns-clause-frame
returns-clause-frame c = record {
  honest = refl;
  steady = refl;
  faults = search rules;
  past = past_note c.args.self.now.past c.note.new.self c.args.self.now.octets.items c.args.self.now.octets.items c.args.self.now.changes 0 c.args.self.now.erases 0 c.args.self.now.programmed 0 c.args.self.now.reads 0 c.args.self.now.arm None
      (ap (λ (p : Past). p.contents) c.note.ensures ∙ ap (λ (l : List ℕ). c.args.self.now.past.contents ++ l ∷ []) c.deref.ensures.value);
}

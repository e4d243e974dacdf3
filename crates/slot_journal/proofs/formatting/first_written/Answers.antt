use Rattle.std.proofs.Common.{arith, ℕ, ◌∙◌, List, refl, ap}
use Rattle.slot_definitions.specs.Slots.{text_at}
use Rattle.flash_model.proofs.Runs.{keeps_none, keeps_more, stays_none, stays_more}
use Rattle.slot_journal.proofs.Formats.{scanned_more, scanned_some}
use Rattle.slot_journal.proofs.formatting.first_written.Goals as goal

pub loop-n-init : goal.loop-n-init
loop-n-init g c = record { keeps = keeps_none _; stays = λ honest. stays_none _; calls = refl; unerased = refl; unprogrammed = refl; faults = refl; erased = λ honest o lt. absurd (omega arith) }

pub loop-n-preserved : goal.loop-n-preserved
loop-n-preserved g c =
    let before = c.loop-n.invariant in
    let read = c.in_ok-text.ensures in
    record {
      keeps = keeps_more _ _ _ before.keeps read.frame;
      stays = λ honest. stays_more _ _ _ (before.stays honest) (read.stays (before.keeps.honest ∙ honest));
      calls = read.calls ∙ before.calls;
      unerased = read.unerased ∙ before.unerased;
      unprogrammed = read.unprogrammed ∙ before.unprogrammed;
      faults = read.no_fault ∙ before.faults;
      erased = λ honest. scanned_more (g.F.Flash.chip c.args.flash.now).now c.in_ok-text.text c.loop-n.n
          (read.value ∙ ap (λ (l : List ℕ). text_at l c.loop-n.n) (before.stays honest).now) (before.erased honest) c.in_default.ensures;
    }

pub returns-in-Some-clause-value : goal.returns-in-Some-clause-value
returns-in-Some-clause-value g c honest =
    let before = c.loop-n.invariant in
    let read = c.in_ok-text.ensures in
    scanned_some (g.F.Flash.chip c.args.flash.now).now c.in_ok-text.text c.loop-n.n c.in-Some.k c.loop-n-test.true
    (read.value ∙ ap (λ (l : List ℕ). text_at l c.loop-n.n) (before.stays honest).now) (before.erased honest) c.in-Some.ensures

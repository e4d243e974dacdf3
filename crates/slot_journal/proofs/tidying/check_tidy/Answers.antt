use Rattle.std.proofs.Common.{◌*◌, ◌∙◌, ℕ, List, refl, ap, subst, arith}
use Rattle.slot_definitions.specs.Slots.{text_at}
use Rattle.slot_journal.specs.Headers.{IsSteady}
use Rattle.slot_journal.proofs.Counts.{both_banks}
use Rattle.slot_journal.proofs.tidying.check_tidy.Goals as goal

pub returns-clause-tidy : goal.returns-clause-tidy
returns-clause-tidy g c honest =
    let flash = c.args.flash.now in
    let chip = g.F.Flash.chip flash in
    let laws = g.met.F.Flash in
    let stays = c.in_ok-first.ensures.stays honest in
    let one = subst IsSteady c.in_ok-first.ensures.value (c.can_count.ensures.steady c.if-can_count.false) in
    let two = subst IsSteady (c.in_ok-second.ensures.value ∙ ap (λ (l : List ℕ). text_at l 1024) stays.now) (c.can_count-2.ensures.steady c.if-can_count-2.false) in
    record {
      whole = laws.content flash chip.moment chip.now honest (laws.counts_now flash chip.moment chip.now (omega arith) (laws.reads_image flash honest));
      steady = both_banks (λ b. IsSteady (text_at chip.now (1024 * b))) 0 1 refl one two;
    }

use Rattle.std.proofs.Common.{ℕ, ◌≡◌, ◌∙◌, List, ap, subst}
use Rattle.flash_model.specs.Chip.{Stays}
use Rattle.flash_model.proofs.Runs.{stays_more}
use Rattle.slot_definitions.specs.Slots.{text_at, IsUsed}
use Rattle.slot_journal.proofs.Counted.{mounted_by, recovered_used}
use Rattle.slot_journal.proofs.Ties.{mounted_stays}
use Rattle.slot_journal.proofs.journal.Journal.mount.Goals as goal

pub returns-clause-mounted : goal.returns-clause-mounted
returns-clause-mounted g c honest =
    let start = (g.F.Flash.chip c.args.flash.now).now in
    let one = c.in_ok-first.ensures in
    let two = c.in_ok-second.ensures in
    let still = one.frame.honest ∙ honest in
    let second : c.in_ok-second.second ≡ text_at start 1024 = two.value ∙ ap (λ (l : List ℕ). text_at l 1024) (one.stays honest).now in
    let now = (two.stays still).now ∙ (one.stays honest).now in
    mounted_by start c.in_ok-first.first c.in_ok-second.second c.in-Some.counting c.in_ok-used.used one.value second c.in-Some.ensures.value c.in-Some.ensures.said
    (subst (λ (l : List ℕ). IsUsed l c.in-Some.counting.bank c.in_ok-used.used) now (c.in_ok-used.ensures.value (two.frame.honest ∙ still)))

pub returns-clause-value : goal.returns-clause-value
returns-clause-value g c honest =
    let start = (g.F.Flash.chip c.args.flash.now).now in
    let one = c.in_ok-first.ensures in
    let two = c.in_ok-second.ensures in
    let still = one.frame.honest ∙ honest in
    let second : c.in_ok-second.second ≡ text_at start 1024 = two.value ∙ ap (λ (l : List ℕ). text_at l 1024) (one.stays honest).now in
    let now = (two.stays still).now ∙ (one.stays honest).now in
    let found = mounted_by start c.in_ok-first.first c.in_ok-second.second c.in-Some.counting c.in_ok-used.used one.value second c.in-Some.ensures.value c.in-Some.ensures.said
    (subst (λ (l : List ℕ). IsUsed l c.in-Some.counting.bank c.in_ok-used.used) now (c.in_ok-used.ensures.value (two.frame.honest ∙ still))) in
    recovered_used start c.in-Some.counting.bank c.in_ok-used.used c.in-Some.counting.format found.bank found.used found.version

pub returns-clause-kept : goal.returns-clause-kept
returns-clause-kept g c fresh tidy =
    let old = g.F.Flash.chip c.args.flash.now in
    let new = g.F.Flash.chip c.count_used.new.flash in
    let one = c.in_ok-first.ensures in
    let two = c.in_ok-second.ensures in
    let three = c.in_ok-used.ensures in
    let honest = fresh.honest in
    let still = one.frame.honest ∙ honest in
    let last = two.frame.honest ∙ still in
    let second : c.in_ok-second.second ≡ text_at old.now 1024 = two.value ∙ ap (λ (l : List ℕ). text_at l 1024) (one.stays honest).now in
    let now = (two.stays still).now ∙ (one.stays honest).now in
    let found = mounted_by old.now c.in_ok-first.first c.in_ok-second.second c.in-Some.counting c.in_ok-used.used one.value second c.in-Some.ensures.value c.in-Some.ensures.said
    (subst (λ (l : List ℕ). IsUsed l c.in-Some.counting.bank c.in_ok-used.used) now (three.value last)) in
    let all : Stays old new = stays_more old _ new (stays_more old _ _ (one.stays honest) (two.stays still)) (three.stays last) in
    mounted_stays old new _ fresh tidy found all (three.frame.honest ∙ two.frame.honest ∙ one.frame.honest)

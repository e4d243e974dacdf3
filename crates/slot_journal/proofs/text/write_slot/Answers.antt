use Rattle.std.proofs.Common.{arith, ◌∙◌, List, [], ◌∷◌, ◌++◌, ℕ, subst}
use Rattle.flash_model.specs.Chip.{LeavesOnly}
use Rattle.std.specs.Prelude.{OnOk}
use Rattle.slot_journal.specs.Slots.{IsWritten, IsSlotWrite}
use Rattle.slot_journal.proofs.Writes.{first_leaves, both_leave, both_done_on}
use Rattle.slot_journal.proofs.text.write_slot.Goals as goal

pub returns-in_err-program-clause-any_moment : goal.returns-in_err-program-clause-any_moment
returns-in_err-program-clause-any_moment g c fresh blank =
    let laws = g.met.F.Flash in
    let old = g.F.Flash.chip c.args.flash.now in
    let mid = g.F.Flash.chip c.program.new.self in
    let whole = laws.content c.args.flash.now old.moment old.now fresh.honest (laws.counts_now c.args.flash.now old.moment old.now (omega arith) (laws.reads_image c.args.flash.now fresh.honest)) in
    subst (λ (front : List ℕ). LeavesOnly old mid (IsSlotWrite c.args.n (front ++ 0 ∷ []) old.now)) c.front_of.ensures.value
    (first_leaves old mid mid c.args.n c.front_of.result fresh (laws.only_now c.args.flash.now) whole c.requires (omega arith) c.front_of.ensures.octets blank (c.in_err-program.ensures.any_moment fresh.honest))

pub returns-clause-written : goal.returns-clause-written
returns-clause-written g c fresh blank =
    let laws = g.met.F.Flash in
    let old = g.F.Flash.chip c.args.flash.now in
    let mid = g.F.Flash.chip c.program.new.self in
    let new = g.F.Flash.chip c.program-2.new.self in
    let whole = laws.content c.args.flash.now old.moment old.now fresh.honest (laws.counts_now c.args.flash.now old.moment old.now (omega arith) (laws.reads_image c.args.flash.now fresh.honest)) in
    subst (λ (front : List ℕ). OnOk c.program-2.result (IsWritten c.args.n (front ++ 0 ∷ []) old.now new.now)) c.front_of.ensures.value
    (both_done_on old mid new c.args.n c.front_of.result fresh (laws.only_now c.args.flash.now) whole c.requires (omega arith) c.front_of.ensures.octets blank
    c.program-2.result (c.in_ok-program.ensures.ok fresh.honest) (c.program-2.ensures.ok (c.in_ok-program.ensures.frame.honest ∙ fresh.honest)))

pub returns-clause-any_moment : goal.returns-clause-any_moment
returns-clause-any_moment g c fresh blank =
    let laws = g.met.F.Flash in
    let old = g.F.Flash.chip c.args.flash.now in
    let mid = g.F.Flash.chip c.program.new.self in
    let new = g.F.Flash.chip c.program-2.new.self in
    let whole = laws.content c.args.flash.now old.moment old.now fresh.honest (laws.counts_now c.args.flash.now old.moment old.now (omega arith) (laws.reads_image c.args.flash.now fresh.honest)) in
    subst (λ (front : List ℕ). LeavesOnly old new (IsSlotWrite c.args.n (front ++ 0 ∷ []) old.now)) c.front_of.ensures.value
    (both_leave old mid new c.args.n c.front_of.result fresh (laws.only_now c.args.flash.now) whole c.requires (omega arith) c.front_of.ensures.octets blank
    (c.in_ok-program.ensures.any_moment fresh.honest) (c.in_ok-program.ensures.ok fresh.honest) (c.program-2.ensures.any_moment (c.in_ok-program.ensures.frame.honest ∙ fresh.honest)))

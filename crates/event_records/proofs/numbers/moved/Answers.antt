use Rattle.std.proofs.Common.{ℕ, [], ◌∷◌, subst, sym}
use Rattle.event_records.specs.Putting.{AreMoves, ArePuttable}
use Rattle.event_records.proofs.Puts.{moved_may, moved_move}
use Rattle.node_records.specs.Tables.{config_in}
use Rattle.record_types.specs.declared.records.StoreRecord.TheVariants as R
use Rattle.event_records.proofs.numbers.moved.Goals as goal

pub returns-clause-may : goal.returns-clause-may
returns-clause-may c mark later q same_current same_mark =
    let s = c.args.s.now in
    subst (λ (n : ℕ). ArePuttable q (R.Numbers s.current s.progress n s.hours s.since ∷ [])) (sym c.mark_under.ensures)
    (moved_may c.args.p.now q s c.in_widths.ensures.current c.in_widths.ensures.hours c.in_widths.ensures.since mark later same_current same_mark)

pub returns-clause-moves : goal.returns-clause-moves
returns-clause-moves c later d current progress mark =
    let s = c.args.s.now in
    subst (λ (n : ℕ). AreMoves d (R.Numbers s.current s.progress n s.hours s.since ∷ [])) (sym c.mark_under.ensures)
    (moved_move (config_in c.args.p.now) d s later current progress mark)

use Rattle.std.proofs.Common.{◌≡◌, ℕ, ◌≤◌, ◌++◌, true, false, sym, ap, ◌∙◌, subst, arith}
use Rattle.std.specs.Prelude.{All, cond}
use Rattle.std.proofs.lemmas.List.{append-nil}
use Rattle.seq_word.specs.Rule.{IsEndOf, times, once_below, passed_over}
use Rattle.seq_word.proofs.Sums.{distinct}
use Rattle.seq_word.proofs.Moves.{joins, both_keeps, ends}
use Rattle.seq_word.proofs.numbers.Numbers.close.Goals as goal

pub join_seat-requires : goal.join_seat-requires
join_seat-requires c =
    let own = ap (λ d. d.which) c.d.view_is ∙ c.requires.drawer_made ∙ sym (ap (λ n. n.which) c.self.view_is) in
    let theirs = ap (λ k. k.which) c.k.view_is ∙ c.requires.keeper_made ∙ sym (ap (λ n. n.which) c.self.view_is) in
    (own, theirs, c.k.invariant.1, omega (arith, c.self.invariant.0), joins _ _ _ _ _)

drawn_is : (c : goal.After-free) → c.join_seat.new.seat.me.0.drawn ≡ c.args.d.drawn
drawn_is c = ap (λ m. m.0.drawn) c.join_seat.ensures.2 ∙ ap (λ l. c.d.inside.seat.me.0.drawn ++ l) c.k.invariant.0.drawn ∙ append-nil _ ∙ ap (λ d. d.drawn) c.d.view_is

once : (c : goal.After-free) (x : ℕ) → times x c.args.d.drawn ≤ 1
once c =
    let last = ends _ _ _ _ _ _ _ c.close_with-words.ensures.values.2 c.word-next.ensures c.word-mark.ensures in
    λ x. subst (λ l. times x l ≤ 1) (drawn_is c) (last.once x)

pub returns-clause-once : goal.returns-clause-once
returns-clause-once c = once c

pub returns-clause-distinct : goal.returns-clause-distinct
returns-clause-distinct c = distinct c.args.d.drawn (once c)

advances_is : (c : goal.After-free) → c.join_seat.new.seat.me.0.advances ≡ c.args.k.advances
advances_is c = ap (λ m. m.0.advances) c.join_seat.ensures.2 ∙ ap (λ l. l ++ c.k.inside.seat.me.0.advances) c.d.invariant.0.advances ∙ ap (λ k. k.advances) c.k.view_is

looks_is : (c : goal.After-free) → c.join_seat.new.seat.me.0.looks ≡ c.args.d.looks
looks_is c = ap (λ m. m.0.looks) c.join_seat.ensures.2 ∙ ap (λ l. c.d.inside.seat.me.0.looks ++ l) c.k.invariant.0.looks ∙ append-nil _ ∙ ap (λ d. d.looks) c.d.view_is

keeper_is : (c : goal.After-free) → c.join_seat.new.seat.me.0.keeps ≡ true
keeper_is c = ap (λ m. m.0.keeps) c.join_seat.ensures.2 ∙ both_keeps c.d.inside.seat.me.0 c.k.inside.seat.me.0 c.k.invariant.0.keeps

parts_are : (c : goal.After-free) → c.args.d.parts ≡ 1024 → c.join_seat.new.seat.me.0.parts ≡ 1024
parts_are c whole = omega (arith, ap (λ m. m.0.parts) c.join_seat.ensures.2, c.k.invariant.0.parts, ap (λ d. d.parts) c.d.view_is, whole)

pub returns-clause-all : goal.returns-clause-all
returns-clause-all c = λ whole x.
    let last = ends _ _ _ _ _ _ _ c.close_with-words.ensures.values.2 c.word-next.ensures c.word-mark.ensures in
    omega (arith, last.all (keeper_is c) (parts_are c whole) x, ap (times x) (drawn_is c), ap (passed_over x) (advances_is c), ap (λ n. once_below x n.opened) c.self.view_is)

pub returns-clause-ends : goal.returns-clause-ends
returns-clause-ends c = λ whole.
    let last = ends _ _ _ _ _ _ _ c.close_with-words.ensures.values.2 c.word-next.ensures c.word-mark.ensures in
    let at : All (IsEndOf c.args.self.opened c.join_seat.new.seat.me.0.drawn) c.join_seat.new.seat.me.0.looks =
    subst (λ o. All (IsEndOf o c.join_seat.new.seat.me.0.drawn) c.join_seat.new.seat.me.0.looks) (ap (λ n. n.opened) c.self.view_is) (last.found (keeper_is c) (parts_are c whole)) in
    subst (λ ws. All (IsEndOf c.args.self.opened ws) c.args.d.looks) (drawn_is c)
    (subst (All (IsEndOf c.args.self.opened c.join_seat.new.seat.me.0.drawn)) (looks_is c) at)

still_is : (c : goal.After-free) → c.join_seat.new.seat.me.0.lifted ≡ false
still_is c = ap (λ m. m.0.lifted) c.join_seat.ensures.2 ∙ ap (λ b. cond b c.k.inside.seat.me.0.lifted c.d.inside.seat.me.0.lifted) c.k.invariant.0.keeps ∙ c.k.invariant.0.still

pub returns-clause-paid : goal.returns-clause-paid
returns-clause-paid c = λ whole none.
    let last = ends _ _ _ _ _ _ _ c.close_with-words.ensures.values.2 c.word-next.ensures c.word-mark.ensures in
    last.paid (keeper_is c) (parts_are c whole) (still_is c) (omega (arith, ap (λ m. m.0.owes) c.join_seat.ensures.2, c.k.invariant.0.owes, ap (λ d. d.owes) c.d.view_is, none))

use Rattle.std.proofs.Common.{◌≡◌, ◌+◌, ◌||◌, sym, ap, ◌∙◌, subst, arith}
use Rattle.std.specs.Prelude.{max}
use Rattle.seq_word.specs.Rule.{above_last, both}
use Rattle.seq_word.specs.Word.{IsWord}
use Rattle.seq_word.proofs.Moves.{promises, tells, joins, publishes, last_is}
use Rattle.seq_word.proofs.numbers.Numbers.publish.Goals as goal

pub split_seat-promise-requires : goal.split_seat-promise-requires
split_seat-promise-requires c =
    let own = ap (λ d. d.which) c.d.view_is ∙ c.requires.drawer_made ∙ sym (ap (λ n. n.which) c.self.view_is) in
    (own, omega (arith, c.self.invariant.0), promises _ _ _ c.d.invariant.0.draws)

pub join_seat-requires : goal.join_seat-requires
join_seat-requires c =
    let own = ap (λ k. k.which) c.k.view_is ∙ c.requires.made ∙ sym (ap (λ n. n.which) c.self.view_is) in
    let theirs = ap (λ d. d.which) c.d.view_is ∙ c.requires.drawer_made ∙ sym (ap (λ n. n.which) c.self.view_is) in
    let told = c.split_seat-promise.ensures in
    (own, told.3 ∙ theirs, ap (λ m. m.1) told.4, omega (arith, c.self.invariant.0), joins _ _ _ _ _)

-- the keeper is told what the seat owes, which is above the mark that was reached
pub store-requires : goal.store-requires
store-requires c =
    let v = c.k.inside.seat.me.0 in
    let d = c.d.inside.seat.me.0 in
    let promise = ap (λ m. m.0) c.split_seat-promise.ensures.4 in
    let own = c.join_seat.ensures.0 ∙ ap (λ k. k.which) c.k.view_is ∙ c.requires.made ∙ sym (ap (λ n. n.which) c.self.view_is) in
    let keeps = ap (λ m. m.0.keeps) c.join_seat.ensures.2 ∙ ap (λ b. b || c.split_seat-promise.result.me.0.keeps) c.k.invariant.0.keeps in
    let mark = ap (λ m. m.0.mark) c.join_seat.ensures.2 ∙ ap (λ w. (both v w).mark) promise ∙ ap (λ k. k.mark) c.k.view_is ∙ sym c.requires.at ∙ sym c.mark-mark.ensures.value in
    let found : above_last d.looks ≡ c.args.dry.next + 1 = ap above_last (ap (λ x. x.looks) c.d.view_is ∙ c.requires.found.1) ∙ last_is c.requires.found.0 c.args.dry.mark c.args.dry.next in
    let told : c.join_seat.new.seat.me.0.promised ≡ max v.promised (max d.owes (above_last d.looks)) = ap (λ m. m.0.promised) c.join_seat.ensures.2 ∙ ap (λ w. (both v w).promised) promise in
    let word = subst (λ m. IsWord (m + 256)) (sym c.mark-mark.ensures.value) c.requires.word in
    (own, omega (arith, c.self.invariant.0), publishes _ _ _ _ (c.mark-mark.result + 256) keeps (omega (arith, mark)) word (omega (arith, told, found, c.mark-mark.ensures.value, c.mark-mark.ensures.reached)))

pub split_seat-told-requires : goal.split_seat-told-requires
split_seat-told-requires c =
    let own = c.store.ensures.0 ∙ c.join_seat.ensures.0 ∙ ap (λ k. k.which) c.k.view_is ∙ c.requires.made ∙ sym (ap (λ n. n.which) c.self.view_is) in
    let keeps = ap (λ m. m.0.keeps) c.store.ensures.2.0 ∙ ap (λ m. m.0.keeps) c.join_seat.ensures.2 ∙ ap (λ b. b || c.split_seat-promise.result.me.0.keeps) c.k.invariant.0.keeps in
    (own, omega (arith, c.self.invariant.0), tells _ _ _ keeps)

pub join_seat-requires-2 : goal.join_seat-requires-2
join_seat-requires-2 c =
    let own = c.split_seat-promise.ensures.0 ∙ ap (λ d. d.which) c.d.view_is ∙ c.requires.drawer_made ∙ sym (ap (λ n. n.which) c.self.view_is) in
    let keepers = c.store.ensures.0 ∙ c.join_seat.ensures.0 ∙ ap (λ k. k.which) c.k.view_is ∙ c.requires.made ∙ sym (ap (λ n. n.which) c.self.view_is) in
    let told = c.split_seat-told.ensures in
    (own, told.3 ∙ keepers, ap (λ m. m.1) told.4, omega (arith, c.self.invariant.0), joins _ _ _ _ _)

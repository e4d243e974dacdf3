use Rattle.std.proofs.Common.{◌≡◌, ◌+◌, ◌-◌, [], ◌∷◌, length, Some, true, refl, subst, sym, ap, ◌∙◌, arith}
use Rattle.atomic_table.specs.Table.{rest}
use Rattle.turn_lock.specs.Entries.{IsPrefix}
use Rattle.turn_lock.specs.Views.{IsAtRest, adding, leaving}
use Rattle.turn_lock.specs.Plays.{in_hand}
use Rattle.turn_lock.proofs.Places.{prefix_length}
use Rattle.turn_lock.proofs.Moves.{counts_entries, passes_on}
use Rattle.turn_lock.proofs.Rests.{left_rests}
use Rattle.turn_lock.proofs.turn.Turn.leave.Goals as goal

pub fetch_add-requires : goal.fetch_add-requires
fetch_add-requires g c =
    let v = c.p.inside.seat.me.0 in
    let entries = g.T.Logged.entries in
    let own = c.exchange.ensures.0 ∙ ap (λ p. p.which) c.p.view_is ∙ c.requires.pass.which ∙ sym (ap (λ t. t.which) c.self.view_is) in
    let inside : v.inside ≡ true = ap (λ p. p.inside) c.p.view_is ∙ c.requires.inside in
    let has : c.exchange.new.seat.me ≡ (v, (0, Some c.args.value) ∷ []) = c.exchange.ensures.3 ∙ ap (λ slots. (v, (0, Some c.args.value) ∷ rest slots)) (c.p.invariant.slot inside) in
    let grows : IsPrefix v.seen (entries c.args.value) = subst (λ l. IsPrefix l (entries c.args.value)) (sym (ap (λ p. p.seen) c.p.view_is)) c.requires.seen in
    let more : length v.seen + (c.count.result - c.p.inside.found) ≡ length (entries c.args.value) = omega (arith, c.count.ensures.value, c.p.invariant.found inside, prefix_length v.seen (entries c.args.value) grows) in
    (own, omega (arith, c.self.invariant.0), counts_entries _ _ _ _ _ c.exchange.new.seat.me _ v c.args.value has inside grows c.requires.few more)

pub fetch_add-requires-2 : goal.fetch_add-requires-2
fetch_add-requires-2 g c =
    let v = c.p.inside.seat.me.0 in
    let entries = g.T.Logged.entries in
    let own = c.fetch_add.ensures.0 ∙ c.exchange.ensures.0 ∙ ap (λ p. p.which) c.p.view_is ∙ c.requires.pass.which ∙ sym (ap (λ t. t.which) c.self.view_is) in
    let inside : v.inside ≡ true = ap (λ p. p.inside) c.p.view_is ∙ c.requires.inside in
    let had : c.exchange.new.seat.me ≡ (v, (0, Some c.args.value) ∷ []) = c.exchange.ensures.3 ∙ ap (λ slots. (v, (0, Some c.args.value) ∷ rest slots)) (c.p.invariant.slot inside) in
    let has : c.fetch_add.new.seat.me ≡ (adding v (entries c.args.value), (0, Some c.args.value) ∷ []) = c.fetch_add.ensures.2 ∙ ap (λ m. (adding m.0 (in_hand entries m.1), m.1)) had in
    let began = c.requires.origin ∙ ap g.T.Logged.origin (sym (ap (λ t. t.first) c.self.view_is)) in
    (own, omega (arith, c.self.invariant.0), passes_on _ _ _ _ _ c.fetch_add.new.seat.me (adding v (entries c.args.value)) c.args.value has c.self.invariant.1 inside refl began)

pub invariant_of-p : goal.invariant_of-p
invariant_of-p g c =
    let v = c.p.inside.seat.me.0 in
    let entries = g.T.Logged.entries in
    let inside : v.inside ≡ true = ap (λ p. p.inside) c.p.view_is ∙ c.requires.inside in
    let had : c.exchange.new.seat.me ≡ (v, (0, Some c.args.value) ∷ []) = c.exchange.ensures.3 ∙ ap (λ slots. (v, (0, Some c.args.value) ∷ rest slots)) (c.p.invariant.slot inside) in
    let has : c.fetch_add.new.seat.me ≡ (adding v (entries c.args.value), (0, Some c.args.value) ∷ []) = c.fetch_add.ensures.2 ∙ ap (λ m. (adding m.0 (in_hand entries m.1), m.1)) had in
    let after : c.fetch_add-2.new.seat.me ≡ (leaving (adding v (entries c.args.value)), []) = c.fetch_add-2.ensures.2 ∙ ap (λ m. (leaving m.0, rest m.1)) has in
    let grows : IsPrefix v.seen (entries c.args.value) = subst (λ l. IsPrefix l (entries c.args.value)) (sym (ap (λ p. p.seen) c.p.view_is)) c.requires.seen in
    subst (λ m. IsAtRest m c.p.inside.found) (sym after) (left_rests v _ _ (entries c.args.value) c.p.invariant grows)

pub returns-clause-stands : goal.returns-clause-stands
returns-clause-stands g c = (invariant_of-p g c).own

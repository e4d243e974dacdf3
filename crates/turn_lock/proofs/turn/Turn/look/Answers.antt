use Rattle.std.proofs.Common.{◌≡◌, ℕ, List, ◌∷◌, ◌%◌, ◌^◌, Some, sym, ap, ◌∙◌, arith, subst}
use Rattle.atomic_table.specs.Table.{rest}
use Rattle.turn_lock.specs.Plays.{Finds}
use Rattle.turn_lock.proofs.Moves.{looks_at_serving}
use Rattle.turn_lock.proofs.turn.Turn.look.Goals as goal

pub load-requires : goal.load-requires
load-requires g c =
    let own = c.requires.table ∙ sym (ap (λ t. t.which) c.self.view_is) in
    (own, omega (arith, c.self.invariant.0), looks_at_serving _ _ _ _ _ c.args.seat.now.me c.requires.waits.0 c.requires.waits.1)

-- the value that the slot has
slot_has : {A : Type 0} (x y : ℕ × A) (xs ys : List (ℕ × A)) → x ∷ xs ≡ y ∷ ys → x.1 ≡ y.1
slot_has x y xs ys e = let same : x ≡ y = cc in ap (λ z. z.1) same

pub exchange-requires : goal.exchange-requires
exchange-requires g c =
    let own = c.load.ensures.0 ∙ c.requires.table ∙ sym (ap (λ t. t.which) c.self.view_is) in
    let served : c.load.result ≡ c.args.seat.now.me.0.ticket % 2 ^ 64 = c.if-load-ticket.false ∙ c.requires.ticket in
    let came = c.load.ensures.2.0 served in
    let slots = ap (λ m. m.1) came.1 in
    (own, (Some came.0, slots ∙ ap (λ l. (0, Some came.0) ∷ l) (sym (ap rest slots))))

pub returns-clause-finds : goal.returns-clause-finds
returns-clause-finds g c =
    let first = c.args.self.now.first in
    let served : c.load.result ≡ c.args.seat.now.me.0.ticket % 2 ^ 64 = c.if-load-ticket.false ∙ c.requires.ticket in
    let came = c.load.ensures.2.0 served in
    let handed : Some came.0 ≡ Some c.in-Some.value = slot_has _ _ _ _ (sym (ap (λ m. m.1) came.1) ∙ c.exchange.ensures.2) ∙ c.in-Some.is in
    let same : came.0 ≡ c.in-Some.value = cc in
    subst (λ x. Finds g.T.Logged.entries g.T.Logged.origin c.args.seat.now.me.0 first x) same (came.2 first c.requires.first)

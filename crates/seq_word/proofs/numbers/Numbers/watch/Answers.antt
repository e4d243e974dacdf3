use Rattle.std.proofs.Common.{◌≡◌, ◌≤◌, ℕ, [], ◌∷◌, ◌++◌, append-nil, sym, ap, ◌∙◌, subst, arith}
use Rattle.std.specs.Prelude.{All}
use Rattle.std.proofs.lemmas.List.Sums.{fold-append}
use Rattle.seq_word.specs.declared.rule.View.{View}
use Rattle.seq_word.specs.Rule.{both, draws_of}
use Rattle.seq_word.specs.Seen.{IsAbove, last_word}
use Rattle.seq_word.proofs.Moves.{counts, joins, recalls, shows}
use Rattle.seq_word.proofs.Shown.{shown_above}
use Rattle.seq_word.proofs.numbers.Numbers.watch.Goals as goal

pub split_seat-shown-requires : goal.split_seat-shown-requires
split_seat-shown-requires c =
    let own = ap (λ d. d.which) c.d.view_is ∙ c.requires.drawer_made ∙ sym (ap (λ n. n.which) c.self.view_is) in
    (own, omega (arith, c.self.invariant.0), shows _ _ _)

pub join_seat-requires : goal.join_seat-requires
join_seat-requires c =
    let own = ap (λ w. w.which) c.w.view_is ∙ c.requires.made ∙ sym (ap (λ n. n.which) c.self.view_is) in
    let drawers = ap (λ d. d.which) c.d.view_is ∙ c.requires.drawer_made ∙ sym (ap (λ n. n.which) c.self.view_is) in
    let shown = c.split_seat-shown.ensures in
    (own, shown.3 ∙ drawers, ap (λ m. m.1) shown.4, omega (arith, c.self.invariant.0), joins _ _ _ _ _)

pub load-requires : goal.load-requires
load-requires c =
    let own = c.join_seat.ensures.0 ∙ ap (λ w. w.which) c.w.view_is ∙ c.requires.made ∙ sym (ap (λ n. n.which) c.self.view_is) in
    (own, omega (arith, c.self.invariant.0), counts _ _ _ _)

pub split_seat-counters-requires : goal.split_seat-counters-requires
split_seat-counters-requires c =
    let own = c.load.ensures.0 ∙ c.join_seat.ensures.0 ∙ ap (λ w. w.which) c.w.view_is ∙ c.requires.made ∙ sym (ap (λ n. n.which) c.self.view_is) in
    (own, omega (arith, c.self.invariant.0), recalls _ _ _)

pub join_seat-requires-2 : goal.join_seat-requires-2
join_seat-requires-2 c =
    let own = c.split_seat-shown.ensures.0 ∙ ap (λ d. d.which) c.d.view_is ∙ c.requires.drawer_made ∙ sym (ap (λ n. n.which) c.self.view_is) in
    let watchers = c.load.ensures.0 ∙ c.join_seat.ensures.0 ∙ ap (λ w. w.which) c.w.view_is ∙ c.requires.made ∙ sym (ap (λ n. n.which) c.self.view_is) in
    let told = c.split_seat-counters.ensures in
    (own, told.3 ∙ watchers, ap (λ m. m.1) told.4, omega (arith, c.self.invariant.0), joins _ _ _ _ _)

module _ (c : goal.After-join_seat-2) where
  abbrev v : View
  v = c.w.inside.seat.me.0

  met : c.join_seat.new.seat.me.0 ≡ both v (draws_of c.d.inside.seat.me.0)
  met = ap (λ m. m.0) c.join_seat.ensures.2 ∙ ap (λ m. both v m.0) c.split_seat-shown.ensures.4

  abbrev found : ℕ
  found = c.load.result

  before : c.join_seat.new.seat.me.0.counters ≡ c.args.w.now.counters
  before = ap (λ w. w.counters) met ∙ append-nil v.counters ∙ ap (λ w. w.counters) c.w.view_is

  counters : c.split_seat-counters.new.seat.me.0.counters ≡ c.args.w.now.counters ++ found ∷ []
  counters = ap (λ m. m.0.counters) c.split_seat-counters.ensures.2 ∙ ap (λ m. m.0.counters) c.load.ensures.2.0 ∙ ap (λ l. l ++ found ∷ []) before

  last : found ≡ last_word c.split_seat-counters.new.seat.me.0.counters
  last = sym (ap last_word counters ∙ fold-append (λ (before word : ℕ). word) 0 c.args.w.now.counters (found ∷ []))

  tables : c.split_seat-counters.new.seat.table_id ≡ c.args.w.now.which
  tables = c.split_seat-counters.ensures.0 ∙ c.load.ensures.0 ∙ c.join_seat.ensures.0 ∙ ap (λ w. w.which) c.w.view_is

-- what is found is noted
pub returns-clause-watcher : goal.returns-clause-watcher
returns-clause-watcher c =
    let words = counters c ∙ ap (λ x. c.args.w.now.counters ++ x ∷ []) (last c) in
    λ i. record { which = tables c i; counters = words i }

-- it isn't below what was found before
pub returns-clause-rise : goal.returns-clause-rise
returns-clause-rise c = subst (λ x. All (λ y. y ≤ x) c.args.w.now.counters) (last c) (subst (All (λ y. y ≤ found c)) (before c) c.load.ensures.2.2)

-- and it is over what the seat was told
pub returns-clause-above : goal.returns-clause-above
returns-clause-above c =
    let above = shown_above _ (v c) c.d.inside.seat.me.0 c.join_seat.new.seat.me.0 (found c) (met c) c.load.ensures.2.1 in
    subst (IsAbove c.args.d.now) (last c) (subst (λ y. IsAbove y (found c)) c.d.view_is above)

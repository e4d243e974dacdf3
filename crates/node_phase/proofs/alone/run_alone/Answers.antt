use Rattle.std.proofs.Common.{◌≡◌, ◌∙◌, ℕ, zero, suc, ◌++◌, ◌∷◌, ◌<◌, [], None, ap, append-nil, arith, refl, subst, sym}
use Rattle.std.specs.Prelude.{slice_index_or}
use Rattle.std.specs.List.{filter}
use Rattle.std.proofs.lemmas.List.Elements.{All-cons, All-nil}
use Rattle.report_definitions.specs.Record.{list_at}
use Rattle.turn_lock.specs.Entries.{Holds, IsPrefix, added, entries_of}
use Rattle.locked_node.specs.Node.{node_marks}
use Rattle.node_bearer.specs.Did.{BearerOf}
use Rattle.node_phase.specs.Worked.{Worked}
use Rattle.node_phase.proofs.Fresh.{kept_one}
use Rattle.seq_word.proofs.Sums.{part_of-one}
use Rattle.node_phase.proofs.alone.run_alone.Goals as goal

pub returns-clause-was : goal.returns-clause-was
returns-clause-was g c =
    let d = c.args.drawer.now in
    let seat = c.split.ensures in
    let joined = c.join.ensures in
    let entered = c.enter_alone-node.ensures in
    let old : BearerOf g.row.F.Denot = record { drawer = c.split.result; pass = c.in_ok-turn.pass; lines = c.in_ok-lines.lines; number = c.args.number; kept = c.in_ok-seals.seals; stop = None } in
    let b : BearerOf g.row.F.Denot = c.into_parts-bearer.result.0 in
    let same : b.drawer.parts ≡ c.work_phase.new.b.drawer.parts = ap (λ (x : BearerOf g.row.F.Denot). x.drawer.parts) c.into_parts-bearer.ensures.bearer in
    let new = node_marks c.enter_alone-node.result in
    let first = ap node_marks c.in_ok-turn.ensures.first in
    let places : b.pass.own ≡ added (node_marks c.args.node) new = entered.places ∙ ap (λ ms. added ms new) first in
    record {
      before = old ∷ [];
      bearers = b ∷ [];
      long = refl;
      numbers = refl;
      noted = All-cons (λ (x : BearerOf g.row.F.Denot). x.drawer.noted ≡ d.noted ++ d.drawn) old [] (ap (λ x. x.noted) seat.value) (All-nil (λ (x : BearerOf g.row.F.Denot). x.drawer.noted ≡ d.noted ++ d.drawn));
      known = All-cons (λ (x : BearerOf g.row.F.Denot). x.drawer.known ≡ d.known ++ d.looks) old [] (ap (λ x. x.known) seat.value) (All-nil (λ (x : BearerOf g.row.F.Denot). x.drawer.known ≡ d.known ++ d.looks));
      worked = only;
      drawn = joined.drawn ∙ ap (λ x. x.drawn ++ b.drawer.drawn) seat.frame ∙ ap (λ l. d.drawn ++ l) (sym (append-nil b.drawer.drawn));
      looks = joined.looks ∙ ap (λ x. x.looks ++ b.drawer.looks) seat.frame ∙ ap (λ l. d.looks ++ l) (sym (append-nil b.drawer.looks));
      same = joined.noted ∙ ap (λ x. x.noted ++ b.drawer.noted) seat.frame ∙ ap (λ l. d.noted ++ l) (sym (append-nil b.drawer.noted));
      parts = λ few. let one = part_of-one d.parts few in omega (arith, joined.parts, ap (λ x. x.parts) seat.frame, ap (λ x. x.parts) seat.value, one, few, same, c.work_phase.ensures.worked.parts);
      free = λ none. omega (arith, joined.owes, ap (λ x. x.owes) seat.frame, none, ap (λ (x : BearerOf g.row.F.Denot). x.drawer.owes) c.into_parts-bearer.ensures.bearer, c.work_phase.ensures.worked.owes);
      front = record { rest = entries_of b.pass.own; is = entered.whole ∙ ap (λ ms. ms ++ entries_of b.pass.own) first };
      kept = λ keep ys h. ap (filter keep) (sym places) ∙ kept_one keep b.pass.own ys h;
      seen = All-cons (λ (x : BearerOf g.row.F.Denot). IsPrefix x.pass.seen new) b [] entered.seen (All-nil (λ (x : BearerOf g.row.F.Denot). IsPrefix x.pass.seen new));
      holds = All-cons (λ (x : BearerOf g.row.F.Denot). Holds x.pass.own (added (node_marks c.args.node) new)) b [] (subst (λ own. Holds b.pass.own own) places (record { has = λ x h. h }))
          (All-nil (λ (x : BearerOf g.row.F.Denot). Holds x.pass.own (added (node_marks c.args.node) new)));
      left = refl;
    }
  where
    only : (k : ℕ) (x : BearerOf g.row.F.Denot) → k < 1 → Worked k (list_at (c.args.events.now ∷ []) k) (slice_index_or (record { drawer = c.split.result; pass = c.in_ok-turn.pass; lines = c.in_ok-lines.lines; number = c.args.number; kept = c.in_ok-seals.seals; stop = None } ∷ []) k x) (slice_index_or (c.into_parts-bearer.result.0 ∷ []) k x)
    only zero x lt =
        subst (λ (y : BearerOf g.row.F.Denot). Worked 0 c.args.events.now (record { drawer = c.split.result; pass = c.in_ok-turn.pass; lines = c.in_ok-lines.lines; number = c.args.number; kept = c.in_ok-seals.seals; stop = None }) y) (sym c.into_parts-bearer.ensures.bearer) c.work_phase.ensures.worked
    only (suc k) x lt = absurd (omega (arith, lt))

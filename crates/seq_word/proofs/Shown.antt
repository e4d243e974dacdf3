-- What a seat was told of the draws of another.
use Rattle.std.proofs.Common.{◌≡◌, ℕ, ◌<◌, ◌≤◌, ◌++◌, sym, subst}
use Rattle.std.specs.Prelude.{All}
use Rattle.atomic_table.specs.Seated.{TableId}
use Rattle.seq_word.specs.declared.rule.View.{View}
use Rattle.seq_word.specs.Rule.{IsOver, IsPast, both, draws_of}
use Rattle.seq_word.specs.Seen.{DrawerView, IsAbove}
use Rattle.seq_word.proofs.Moves.{all_of_both}

-- a drawer's seat as contracts see it
abbrev drawer_at : TableId → View → DrawerView
drawer_at which v = record {
  which = which;
  drawn = v.drawn;
  raised = v.raised;
  noted = v.noted;
  looks = v.looks;
  known = v.known;
  informed = v.informed;
  parts = v.parts;
  owes = v.owes;
}

-- A word over all that a seat knows which was told of a drawer's draws is above the drawer's.
pub shown_above : (which : TableId) (v d met : View) (word : ℕ) → met ≡ both v (draws_of d) → IsOver word met → IsAbove (drawer_at which d) word
shown_above which v d met word is h =
    let all : IsOver word (both v (draws_of d)) = subst (IsOver word) is h in
    let noted = all_of_both (λ x. x < word) d.noted d.drawn (all_of_both (λ x. x < word) v.noted (d.noted ++ d.drawn) all.noted).1 in
    let known = all_of_both (IsPast word) d.known d.looks (all_of_both (IsPast word) v.known (d.known ++ d.looks) all.known).1 in
    record {
      drawn = noted.1;
      noted = noted.0;
      looks = known.1;
      known = known.0;
      informed = (all_of_both (λ x. x ≤ word) v.informed d.informed all.informed).1;
    }

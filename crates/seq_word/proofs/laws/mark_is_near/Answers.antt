use Rattle.std.proofs.Common.{◌≤◌, ◌<◌, ◌+◌, ◌⊎◌, ℕ, List, inl, inr, ⊎_elim, sym, subst, arith}
use Rattle.std.specs.Prelude.{slice_index, sum_by}
use Rattle.seq_word.specs.Rule.{owes_above}
use Rattle.seq_word.proofs.laws.mark_is_near.Goals as goal

pub returns : goal.returns
returns c = λ opened s h by v at is still.
    let fits = h.stands.each by v at in
    let near = fits.near is still in
    let paid = ⊎_elim (λ reached. inl (omega (arith, near, reached))) (λ owed. inr owed) (h.stands.promises by v at) in
    subst (λ (ws : List ℕ). (slice_index ws 1 ≤ slice_index ws 0 + 256) × ((slice_index ws 1 < slice_index ws 0 + 256) ⊎ (1 ≤ sum_by (owes_above (slice_index ws 0)) s.views))) (sym h.words) (omega (arith, near, fits.promised), paid)

use Rattle.std.proofs.Common.{ℕ, List, sym, ap, ◌∙◌}
use Rattle.std.specs.Prelude.{slice_index}
use Rattle.seq_word.proofs.laws.mark_is_kept.Goals as goal

pub returns : goal.returns
returns c = λ opened s h by by' v w at at' is is'.
    let mine = (h.stands.each by v at).keeps is in
    let theirs = (h.stands.each by' w at').keeps is' in
    (mine.0 ∙ sym theirs.0, ap (λ (ws : List ℕ). slice_index ws 1) h.words ∙ sym mine.1)

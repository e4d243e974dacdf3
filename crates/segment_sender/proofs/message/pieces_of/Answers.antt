use Rattle.std.proofs.Common.{◌∙◌, ◌++◌, ◌∷◌, [], List, ℕ, ap, sym, arith}
use Rattle.std.specs.Prelude.{length}
use Rattle.std.proofs.lemmas.List.{length-append}
use Rattle.segment_sender.proofs.Messages.{range_more}
use Rattle.segment_sender.proofs.message.pieces_of.Goals as goal

pub loop-i-preserved : goal.loop-i-preserved
loop-i-preserved c =
    let i = c.loop-i.i in
    record {
      pieces = c.push_piece.ensures ∙ ap (λ (l : List ℕ). l ++ i ∷ []) c.loop-i.invariant.pieces ∙ sym (range_more i);
      length = omega (arith, ap (λ (l : List ℕ). length l) c.push_piece.ensures, length-append c.loop-i.pieces (i ∷ []), c.loop-i.invariant.length);
    }

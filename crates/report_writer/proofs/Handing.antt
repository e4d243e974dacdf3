-- A text that is handed to a sink piece by piece.
use Rattle.std.proofs.Common.{◌≡◌, ◌<◌, ◌≤◌, ℕ, List, [], ◌∷◌, ◌++◌, length, arith, take, drop, refl, sym, ap, subst, ◌∙◌, append_assoc, append-nil}
use Rattle.std.proofs.lemmas.List.{take-append-drop}
use Rattle.std.proofs.Math.Seq.{drop-length}
use Rattle.mesh_base.specs.Outside.{Grows}
use Rattle.mesh_base.proofs.OutsideLemmas.{Grows-append, Grows-nil}
use Rattle.report_writer.specs.Handing.{HandedFront, IsHanded}
use Rattle.report_writer.specs.Writing.{HandsOver, SinkView, WritesUpTo}

-- What was offered of a text before this rest: pieces that hand the text over, whatever pieces hand the rest over behind them.
pub record HandsUpTo (text rest : List ℕ) (old new : SinkView) : Type 0 where
  pub held : WritesUpTo old.held new.held text rest
  pub pieces : List (List ℕ)
  pub offered : Grows old.pieces new.pieces pieces
  pub handed : (more : List (List ℕ)) → HandsOver rest more → HandsOver text (pieces ++ more)

pub hands_nothing : (text : List ℕ) (v : SinkView) → HandsUpTo text text v v
hands_nothing text v = record {
  held = ([], refl, Grows-nil v.held);
  pieces = [];
  offered = Grows-nil v.pieces;
  handed = λ more h. h;
}

-- a piece is offered, and these octets of it are taken
pub hands_step : (text rest : List ℕ) (n : ℕ) (old mid new : SinkView) → 0 < n → n ≤ length rest
    → HandsUpTo text rest old mid → Grows mid.held new.held (take n rest) → Grows mid.pieces new.pieces (rest ∷ [])
    → HandsUpTo text (drop n rest) old new
hands_step text rest n old mid new some few h taken offered =
    let (front, e, k) = h.held in
    record {
      held = (
        front ++ take n rest,
        e ∙ ap (λ (v : List ℕ). front ++ v) (sym (take-append-drop n rest)) ∙ sym (append_assoc front (take n rest) (drop n rest)),
        Grows-append old.held mid.held new.held front (take n rest) k taken,
      );
      pieces = h.pieces ++ rest ∷ [];
      offered = Grows-append old.pieces mid.pieces new.pieces h.pieces (rest ∷ []) h.offered offered;
      handed = λ more hs. rw (append_assoc h.pieces (rest ∷ []) more) (h.handed (rest ∷ more) (refl, (n, some, few, hs)));
    }

-- all is taken
pub hands_whole : (text rest : List ℕ) (old new : SinkView) → length rest ≤ 0 → HandsUpTo text rest old new → IsHanded text old new
hands_whole text [] old new k h =
    let (front, e, grown) = h.held in
    record {
      held = rw (e, append-nil) grown;
      pieces = h.pieces;
      offered = h.offered;
      handed = subst (HandsOver text) (append-nil h.pieces) (h.handed [] refl);
    }
hands_whole text (x ∷ rest) old new k h = absurd (omega arith)

-- the last piece is offered, and nothing of it is taken
pub hands_stop : (text rest : List ℕ) (old mid new : SinkView) → 0 < length rest
    → HandsUpTo text rest old mid → new.held ≡ mid.held → Grows mid.pieces new.pieces (rest ∷ [])
    → HandedFront text old new
hands_stop text rest old mid new some h same offered = record {
  front = (rest, rw same h.held);
  pieces = h.pieces ++ rest ∷ [];
  offered = Grows-append old.pieces mid.pieces new.pieces h.pieces (rest ∷ []) h.offered offered;
  rest = [];
  handed = rw (append-nil (h.pieces ++ rest ∷ [])) (h.handed (rest ∷ []) (refl, (length rest, some, omega arith, drop-length rest)));
}

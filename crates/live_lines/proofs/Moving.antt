-- Moves made one after another.
use Rattle.std.proofs.Common.{◌≡◌, ℕ, ◌+◌, List, [], ◌∷◌, ◌++◌, length, refl, subst, arith}
use Rattle.std.proofs.lemmas.List.{length-append}
use Rattle.live_lines.specs.Moves.{Does, DoesAll, LinesAt, Move}
use Rattle.live_lines.specs.Turns.{IsFrontOf, IsTurn}
use Rattle.live_lines.specs.declared.lines.Turn.{Turn}
use Rattle.live_lines.specs.declared.lines.Turn.TheVariants as T

-- so many moves were made, and these octets of the next line were used, of which this front is kept
pub record HasMoved (bearers elements count : ℕ) (front : List ℕ) (old : LinesAt) (new : List ℕ → LinesAt) : Type 0 where
  pub used : List ℕ
  pub is : IsFrontOf front used
  pub moves : List Move
  pub many : length moves ≡ count
  pub did : DoesAll bearers elements moves old (new used)

module _ (bearers elements : ℕ) where
  pub does_more : (moves : List Move) (move : Move) (old mid new : LinesAt)
      → DoesAll bearers elements moves old mid → Does bearers elements move mid new → DoesAll bearers elements (moves ++ move ∷ []) old new
  does_more [] move old mid new before h = (new, subst (λ (s : LinesAt). Does bearers elements move s new) before h, refl)
  does_more (first ∷ moves) move old mid new before h =
      (before.0, before.1, does_more moves move before.0 mid new before.2 h)

  module _ (count : ℕ) (front next : List ℕ) (old : LinesAt) (mid new : List ℕ → LinesAt) (h : HasMoved bearers elements count front old mid) where
    pub moved_more : IsTurn bearers elements T.Moved next (mid h.used) new → HasMoved bearers elements (count + 1) next old new
    moved_more t = record {
      used = t.0;
      is = t.1;
      moves = h.moves ++ t.2.0 ∷ [];
      many = omega (arith, length-append h.moves (t.2.0 ∷ []), h.many);
      did = does_more h.moves t.2.0 old (mid h.used) (new t.0) h.did t.2.1;
    }

-- the same node
pub turn_of : (bearers elements b e : ℕ) (turn : Turn) (front : List ℕ) (old : LinesAt) (new : List ℕ → LinesAt) → b ≡ bearers → e ≡ elements
    → IsTurn b e turn front old new → IsTurn bearers elements turn front old new
turn_of bearers elements b e turn front old new is same h =
    subst (λ (n : ℕ). IsTurn n elements turn front old new) is (subst (λ (n : ℕ). IsTurn b n turn front old new) same h)

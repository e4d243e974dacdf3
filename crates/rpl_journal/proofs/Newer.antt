-- What isn't refused is newer.
use Rattle.std.proofs.Common.{◌≡◌, Bool, true, false, refl, Option, Some, None}
use Rattle.std.specs.Prelude.{IsTrue}
use Rattle.mesh_base.specs.declared.pair.Pair.{Pair}
use Rattle.mesh_base.specs.Pairs.{is_newer}
use Rattle.rpl_journal.specs.Accepting.{IsNoNewer}
use Rattle.store_world.specs.Standing.{IsAboveKept}

pub above_of : (entry : Option Pair) (p : Pair) → (IsNoNewer entry p → ⊥) → IsAboveKept entry p
above_of None p h = tt
above_of (Some kept) p h = by_test (is_newer p kept) h
  where
    by_test : (b : Bool) → (b ≡ false → ⊥) → IsTrue b
    by_test true h = refl
    by_test false h = absurd (h refl)

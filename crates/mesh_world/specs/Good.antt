-- Good worlds: what each step keeps, and what makes a node safe.
use Rattle.std.specs.Prelude.{◌≢◌, ◌<◌, ◌≤◌, ◌⊎◌, All, AllPairs, Contains, IfSome, IsSomeAnd, IsFalse}
use Rattle.mesh_base.specs.declared.pair.Name.{Name}
use Rattle.mesh_base.specs.declared.pair.Pair.{Pair}
use Rattle.mesh_base.specs.Pairs.{word_of, IsPair, is_newer}
use Rattle.mesh_base.specs.Safety.{AtMostOnce}
use Rattle.mesh_world.specs.World.{World, HasNonce, IsExpired, IsOf}

-- p is q or below it: p isn't newer
abbrev pub IsUpTo : Pair → Pair → Type 0
IsUpTo p q = IsFalse (is_newer p q)

-- The message would not be accepted again: its pair is expired, or it is at most the entry of its source.
abbrev pub IsSpent : World → Name → Type 0
IsSpent w name = IsExpired w.current name.pair ⊎ IsSomeAnd (w.entry name.src) (λ kept. IsUpTo name.pair kept)

pub record IsGood (w : World) : Type 0 where
  -- pairs are drawn below the mark, and the mark is durable
  pub next_marked : w.next ≤ w.mark
  pub mark_kept : w.mark ≤ w.kept
  -- no pair is drawn twice; each is in its widths and below the next one; each held pair was drawn
  pub drawn_once : AllPairs (λ p q. p ≢ q) w.drawn
  pub drawn_pairs : All IsPair w.drawn
  pub drawn_below : All (λ p. word_of p < w.next) w.drawn
  pub held_drawn : All (Contains w.drawn) w.held
  -- each seal has a drawn pair and a nonce of its layer with that pair, and no two seals of one layer have one pair
  pub seals_drawn : All (λ s. Contains w.drawn s.pair) w.seals
  pub seals_nonce : All (λ s. HasNonce s.layer s.pair s.made.nonce) w.seals
  pub seals_once : AllPairs (λ s t. IsOf s.layer s.pair t → ⊥) w.seals
  -- no message is delivered twice, and the pending one isn't delivered yet; none of them would be accepted again
  pub delivered_once : AtMostOnce w.delivered
  pub delivered_spent : All (IsSpent w) w.delivered
  pub pending_spent : IfSome w.pending (IsSpent w)
  pub pending_new : IfSome w.pending (λ name. All (λ n. n ≢ name) w.delivered)

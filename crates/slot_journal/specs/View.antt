-- A journal as contracts see it.
use Rattle.std.specs.Prelude.{ℕ, Bool}

pub record JournalView : Type 0 where
  -- the bank that counts, 0 or 1
  pub bank : ℕ
  -- its slots up to the last that has an octet other than ff, at most 1,023
  pub used : ℕ
  -- a write failed
  pub closed : Bool
  -- the generation of its bank's header, below 2 ^ 32
  pub generation : ℕ
  -- the format of its bank's header, 1 or 2
  pub version : ℕ

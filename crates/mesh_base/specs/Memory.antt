-- What sources and sinks in memory are.
use Rattle.std.specs.Prelude.{Bool, ℕ, ◌+◌, nat_le, List, ◌++◌, length, Option, Some, None, if◌then◌else◌}

-- A source that fails at the calls of a list: the octets that it still gives, the numbers of the calls that fail, how many calls
-- were made, and how many of them failed. Calls are counted from 1.
pub record Script : Type 0 where
  pub octets : List ℕ
  pub failing : List ℕ
  pub calls : ℕ
  pub faults : ℕ

-- A sink that fails at the calls of a list: the octets that it holds, the pieces that it was offered, and the rest as for a source. It
-- also fails where it finds no memory, and tells whether the last call did.
pub record Ledger : Type 0 where
  pub octets : List ℕ
  pub pieces : List (List ℕ)
  pub failing : List ℕ
  pub calls : ℕ
  pub faults : ℕ
  pub lacked_memory : Bool

-- A sink that never fails: for how many octets it has room, the pieces that it was offered, and what it holds as long as that fits.
pub record Shelf : Type 0 where
  pub room : ℕ
  pub pieces : List (List ℕ)
  pub held : Option (List ℕ)

-- bs behind what is held, where that fits into the room
unfoldable pub shelved : ℕ → Option (List ℕ) → List ℕ → Option (List ℕ)
shelved room None bs = None
shelved room (Some xs) bs = if nat_le (length xs + length bs) room then Some (xs ++ bs) else None

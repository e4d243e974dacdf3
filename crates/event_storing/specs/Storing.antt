-- The IV state that a record says, and where the counter goes with it.
use Rattle.std.specs.Prelude.{◌≡◌, ◌⊎◌, ℕ, map, nat_lt, if◌then◌else◌, List, [], ◌∷◌, ◌++◌, Option, Some, None}
use Rattle.mesh_base.specs.IvState.{transmit_of}
use Rattle.mesh_base.specs.declared.iv_state.IvState.{IvState}
use Rattle.record_types.specs.declared.records.StoreRecord.{StoreRecord}
use Rattle.record_types.specs.declared.records.StoreRecord.TheVariants as R
use Rattle.seq_reserve.specs.Reserving.{first_word}
use Rattle.seq_word.specs.Seen.{KeeperView, last_word}
use Rattle.store_definitions.specs.Config.{Config, changed}

-- the IV state of a Numbers record
abbrev pub state_said : StoreRecord → Option IvState
state_said (R.Numbers current progress mark hours since) =
    Some (record { current = current; progress = progress; hours = hours; since = since })
state_said _ = None

-- the words that a keeper's seat moved the counter of sequence numbers to
abbrev pub moved_to : KeeperView → List ℕ
moved_to keeper = map (λ (move : ℕ × ℕ). move.1) keeper.advances

-- the seat is as it was, or its mark is the word that it moved the counter to last
abbrev pub HasRisen : KeeperView → KeeperView → Type 0
HasRisen old new = (new ≡ old) ⊎ (new.mark ≡ last_word (moved_to new))

-- The words that records move it to, one after another: with each that raises the IV Index to send with, the first word under the new one.

abbrev pub advance_to : Config → Option IvState → List ℕ
advance_to c None = []
advance_to c (Some to) = if nat_lt (transmit_of c.iv) (transmit_of to) then first_word to ∷ [] else []

abbrev pub advances_of : Config → List StoreRecord → List ℕ
advances_of c [] = []
advances_of c (item ∷ items) = advance_to c (state_said item) ++ advances_of (changed c item) items

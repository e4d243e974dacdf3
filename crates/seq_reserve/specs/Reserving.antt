-- What a reserve keeps, and the steps of the world that its calls take.
use Rattle.std.specs.Prelude.{◌≡◌, ℕ, ◌+◌, ◌*◌, ◌^◌, nat_lt, if◌then◌else◌, ⊤, List, [], ◌∷◌}
use Rattle.flash_model.specs.Chip.{Chip}
use Rattle.mesh_base.specs.IvState.{transmit_of}
use Rattle.mesh_base.specs.declared.iv_state.IvState.{IvState}
use Rattle.mesh_world.specs.World.{WorldStep}
use Rattle.mesh_world.specs.World.WorldStep.{Advance, Publish, Reserve}
use Rattle.node_records.specs.declared.persist.Persist.{Persist}
use Rattle.node_store.specs.Tie.{HasMarkFrom}
use Rattle.node_store.specs.View.{StoreView}
use Rattle.record_types.specs.declared.records.StoreRecord.{StoreRecord}
use Rattle.record_types.specs.declared.records.StoreRecord.TheVariants as R
use Rattle.seq_word.specs.Seen.{KeeperView}

-- The keeper's mark is the stored one. `Reserve::start` gives it, `refill` and `move_iv` keep it, also where they fail, and so does
-- whoever puts a record without a mark into the store.
abbrev pub IsPublished : StoreView → KeeperView → Type 0
IsPublished store keeper = keeper.mark ≡ store.persist.mark

-- whatever a cut leaves of the flash, the mark that is recovered is this or above
abbrev pub IsDurable : Chip → ℕ → Type 0
IsDurable chip mark = (c : List ℕ) → chip.images c → HasMarkFrom mark c

-- it says an IV state and a mark
abbrev pub IsNumbers : StoreRecord → Type 0
IsNumbers (R.Numbers current progress mark hours since) = ⊤
IsNumbers _ = ⊥

-- the step of a record of numbers that becomes durable
abbrev pub numbers_step : StoreRecord → List WorldStep
numbers_step (R.Numbers current progress mark hours since) = Reserve current mark ∷ []
numbers_step _ = []

-- the steps of a refill: a mark 256 higher is durable, and then published
abbrev pub refilling : Persist → List WorldStep
refilling p = Reserve p.iv.current (p.mark + 256) ∷ Publish (p.mark + 256) ∷ []

-- the first word of the transmit IV Index of a state
abbrev pub first_word : IvState → ℕ
first_word s = transmit_of s * 2 ^ 25

-- The steps of a move to this state: it is durable, and where the transmit IV Index rises its first word is the mark, which is published,
-- and then the counter goes there.
abbrev pub moving : Persist → IvState → List WorldStep
moving p to =
    if nat_lt (transmit_of p.iv) (transmit_of to)
    then Reserve to.current (first_word to) ∷ Publish (first_word to) ∷ Advance (transmit_of to) ∷ []
    else Reserve to.current p.mark ∷ []

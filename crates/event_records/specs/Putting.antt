-- What the store asks of records that are put one after another.
use Rattle.std.specs.Prelude.{◌≡◌, ◌≤◌, ⊤, List, [], ◌∷◌}
use Rattle.mesh_base.specs.IvState.{HasTransmit, transmit_of}
use Rattle.mesh_base.specs.declared.iv_state.IvState.{IvState}
use Rattle.node_records.specs.Full.{IsFull}
use Rattle.node_records.specs.Tables.{config_in}
use Rattle.node_records.specs.declared.persist.Persist.{Persist}
use Rattle.node_store.specs.Tie.{IsNotBelow}
use Rattle.record_types.specs.declared.records.StoreRecord.{StoreRecord}
use Rattle.record_types.specs.declared.records.StoreRecord.TheVariants as R
use Rattle.store_definitions.specs.Config.{Config, changed}
use Rattle.store_definitions.specs.Numbers.{moved}
use Rattle.store_definitions.specs.Ranges.{IsInRange}

-- Each record is in range, lowers neither the known IV Index nor the mark, and finds a place, over what those before it leave.
abbrev pub ArePuttable : Persist → List StoreRecord → Type 0
ArePuttable p [] = ⊤
ArePuttable p (item ∷ items) =
    IsInRange item × IsNotBelow p item × (IsFull p item → ⊥)
    × ((q : Persist) → config_in q ≡ changed (config_in p) item → ArePuttable q items)

-- A record is that of a new IV state that may follow: neither the known IV Index nor the one to send with falls, and the mark is that of the move.
pub record IsMoveTo (c : Config) (to : IvState) (item : StoreRecord) : Type 0 where
  pub transmit : HasTransmit to
  pub current : c.iv.current ≤ to.current
  pub rises : transmit_of c.iv ≤ transmit_of to
  pub item_is : item ≡ moved c to

-- a Numbers record is the one of a move to the state that it says
abbrev pub IsMove : Config → StoreRecord → Type 0
IsMove c (R.Numbers current progress mark hours since) =
    IsMoveTo c (record { current = current; progress = progress; hours = hours; since = since })
    (R.Numbers current progress mark hours since)
IsMove c _ = ⊤

-- each is, over what those before it leave
abbrev pub AreMoves : Config → List StoreRecord → Type 0
AreMoves c [] = ⊤
AreMoves c (item ∷ items) = IsMove c item × AreMoves (changed c item) items

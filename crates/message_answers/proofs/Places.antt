-- Where the table of answers says that there is a place for a message, the replay list has one.
use Rattle.std.proofs.Common.{◌≡◌, inl, inr, Bool, true, false, ◌||◌, Option, Some, None}
use Rattle.std.specs.Prelude.{IsTrue, is_some}
use Rattle.event_definitions.proofs.Accepting.{HasPlace}
use Rattle.event_definitions.specs.History.{Past}
use Rattle.mesh_base.specs.declared.pair.Name.{Name}
use Rattle.mesh_base.specs.declared.pair.Pair.{Pair}
use Rattle.node_records.proofs.Room.{full_passes}
use Rattle.node_records.specs.Full.{IsFull}
use Rattle.node_records.specs.Meaning.{IsMeaningOf}
use Rattle.node_records.specs.declared.persist.Persist.{Persist}
use Rattle.record_types.specs.declared.records.StoreRecord.TheVariants as R
use Rattle.store_definitions.specs.Entries.{entry_of, has_room}
use Rattle.store_definitions.specs.Following.{PassesLimit}

has_no : (o : Option Pair) (room : Bool) → IsTrue (is_some o || room) → o ≡ None → room ≡ false → ⊥
has_no None true h e f = absurd cc
has_no None false h e f = absurd cc
has_no (Some p) room h e f = absurd cc

pub not_full : (past : Past) (p : Persist) (n : Name) → IsMeaningOf past.records p → HasPlace past n → IsFull p (R.Replay n None) → ⊥
not_full past p n m place full = no_limit ((full_passes past.records p (R.Replay n None) m).0 full)
  where
    no_limit : PassesLimit past.records (R.Replay n None) → ⊥
    no_limit (inl h) = has_no (entry_of past.records n.src.0) (has_room past.records n.src.0) place h.0 h.1
    no_limit (inr h) = absurd h

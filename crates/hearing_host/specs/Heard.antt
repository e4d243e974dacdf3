-- A source of PDUs, a sink that keeps, and the life between them.
use Rattle.std.specs.Prelude.{◌≡◌, ℕ, List, [], ◌∷◌, ◌++◌, map, ⊤}
use Rattle.flash_model.specs.Chip.{Chip}
use Rattle.mesh_types.specs.declared.events.Event.{Event}
use Rattle.mesh_types.specs.declared.events.Event.TheVariants as E
use Rattle.mesh_types.specs.declared.report.End.TheVariants as F
use Rattle.record_types.specs.declared.records.StoreRecord.{StoreRecord}
use Rattle.event_definitions.specs.Role.{Role}
use Rattle.seq_word.specs.Seen.{ClosedView}
use Rattle.store_definitions.specs.Recovered.{IsRecovered}
use Rattle.mesh_node.specs.Lived.{IsLifeTold, life_told}
use Rattle.mesh_node.specs.Told.{PhaseDid, SinkSteps, SourceSteps, did_of}
use Rattle.hearing_host.specs.declared.ends.HeardPdus.{HeardPdus}
use Rattle.hearing_host.specs.declared.ends.KeptLogs.{KeptLogs}

-- the phase in which the one bearer hears a PDU
abbrev pub heard : List ℕ → List (List Event)
heard pdu = (E.Net pdu ∷ []) ∷ []

-- A phase, of one bearer, is the first of the PDUs that are left, and takes it off; at the end none is left. A failure says nothing.
abbrev pub heard_steps : SourceSteps HeardPdus
heard_steps = record {
  gives = λ bearers elements due old events new.
      (bearers ≡ 1) × ((pdu : List ℕ) × (old.left.items ≡ pdu ∷ new.left.items) × (events ≡ heard pdu));
  ends = λ old new. old.left.items ≡ [];
  fails = λ bearers elements due old new. ⊤;
}

abbrev pub dids : KeptLogs → List PhaseDid
dids kept = map did_of kept.logs.items

-- what a phase did is kept behind the others; where there is no memory for it, the others are
abbrev pub kept_steps : SinkSteps KeptLogs
kept_steps = record {
  takes = λ old did new. dids new ≡ dids old ++ did ∷ [];
  fails = λ old did new. dids new ≡ dids old;
}

-- A life that wasn't cut, in which a node heard these PDUs, one in each phase, and did this. Whatever an image of the flash recovers
-- now, it is a life of these phases over what the flash recovered at first.
pub record HeardAll (role : Role) (pdus : List (List ℕ)) (did : List PhaseDid) (start new : Chip) (refills : ℕ)
    (words : ClosedView) : Type 0 where
  pub over : List StoreRecord
  pub recovered : IsRecovered start.now over
  pub life : IsLifeTold role (map heard pdus) over (life_told over 1 refills did F.Ended) new words

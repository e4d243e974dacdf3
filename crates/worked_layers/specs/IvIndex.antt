-- The IV Index that a PDU heard is read under, and an IV Update that a beacon ends.
use Rattle.std.specs.Prelude.{◌≡◌, ℕ, ◌+◌, ◌*◌, ◌^◌, ◌↔◌, false, true, List, [], ◌∷◌, Some, None}
use Rattle.layer_definitions.specs.KeyRefresh.{master_material}
use Rattle.layer_definitions.specs.Network.{IsHeardUnder}
use Rattle.mesh_base.specs.declared.fields.NetFields.{NetFields}
use Rattle.mesh_base.specs.declared.iv_state.IvStep.{IvStep}
use Rattle.mesh_base.specs.declared.iv_state.IvStep.TheVariants as I
use Rattle.mesh_types.specs.declared.answers.Answer.{Answer}
use Rattle.mesh_types.specs.declared.answers.Answer.TheVariants as A
use Rattle.mesh_types.specs.declared.answers.KeyStep.TheVariants as S
use Rattle.mesh_types.specs.declared.events.Event.{Event}
use Rattle.mesh_types.specs.declared.events.Event.TheVariants as E
use Rattle.mesh_types.specs.declared.jobs.Job.TheVariants as J
use Rattle.record_types.specs.declared.records.StoreRecord.{StoreRecord}
use Rattle.record_types.specs.declared.records.StoreRecord.TheVariants as R
use Rattle.event_definitions.specs.History.{Insight, OfBeacon, OfNothing, OfPdu, Past}
use Rattle.worked_layers.specs.Walk.{address, handled, heard, stored, then_at}

module _ (net_key dev_key pdu rest : List ℕ) where
  -- the node under the IV Index 5
  abbrev under_five : Past
  under_five =
      record {
        told = [];
        records = R.Identity (address 0x1201) 1 dev_key ∷ R.Numbers 5 false (5 * 2 ^ 25) 0 192 ∷ R.NetKey 1 0 net_key
            ∷ [];
      }

  -- a control PDU of 0005 to 0009 under an IV Index, and octets that read as nothing
  abbrev passing : ℕ → NetFields
  passing iv = record { iv = iv; ctl = true; ttl = 0; seq = 1; src = address 5; dst = address 9; tpdu = 0x7f ∷ [] }

  abbrev passed : ℕ → Insight
  passed iv = OfPdu (Some (heard 0 net_key (passing iv))) None None

  abbrev nothing : Insight
  nothing = OfPdu None None None

  abbrev after_newer : Past
  after_newer = then_at under_five (E.Net pdu) (passed 5) A.NotMine []

  abbrev after_older : Past
  after_older = then_at after_newer (E.Net pdu) (passed 4) A.NotMine []

  pub record IsReadUnder : Type 0 where
    -- IVI 1 and NID 68: the known IV Index; IVI 0: the one before it; and 3 is none of the two
    pub newer : (iv : ℕ) → IsHeardUnder 5 (0xe8 ∷ rest) iv ↔ (iv ≡ 5)
    pub older : (iv : ℕ) → IsHeardUnder 5 (0x68 ∷ rest) iv ↔ (iv ≡ 4)
    pub neither : (octets : List ℕ) → IsHeardUnder 5 octets 3 → ⊥
    -- one SEQ under both: two PDUs, of which the message cache has none
    pub hears_newer : handled under_five (E.Net pdu) (passed 5) ≡ record { answer = A.NotMine; jobs = [] }
    pub hears_older : handled after_newer (E.Net pdu) (passed 4) ≡ record { answer = A.NotMine; jobs = [] }
    pub hears_nothing : handled after_older (E.Net pdu) nothing ≡ record { answer = A.Unread; jobs = [] }

module _ (net_key dev_key octets : List ℕ) where
  -- the node is provisioned in progress from 5 to 6, and sends a PDU, for which 256 numbers are reserved
  abbrev provisioned : Past
  provisioned =
      record {
        told = [];
        records = R.Identity (address 0x1201) 1 dev_key ∷ R.Numbers 6 true (5 * 2 ^ 25) 0 192 ∷ R.NetKey 1 0 net_key
            ∷ [];
      }

  abbrev raw : Event
  raw = E.Raw (address 0xfffd) 0 (0x7f ∷ [])

  abbrev sent : Past
  sent = then_at provisioned raw OfNothing A.Planned (R.Numbers 6 true (5 * 2 ^ 25 + 256) 0 192 ∷ [])

  -- so many ticks later, where so many hours are stored
  abbrev later : ℕ → ℕ → ℕ → Past
  later ticks hours since = then_at sent (E.Tick ticks) OfNothing (A.Ticked ticks) (R.Hour hours since ∷ [])

  -- flags 00 and the IV Index 6
  abbrev beacon : Insight
  beacon = OfBeacon (Some (record { index = 0; fresh = false; refresh = false; update = false; iv = 6 }))

  abbrev answer : IvStep → Answer
  answer step = A.Beacon 0 S.Same step

  abbrev finish : IvStep
  finish = I.Finish (record { current = 6; progress = false; hours = 0; since = 288 })

  abbrev kept : List StoreRecord
  kept = R.Numbers 6 false (6 * 2 ^ 25) 0 288 ∷ []

  pub record IsEnded : Type 0 where
    pub sends : handled provisioned raw OfNothing
        ≡ record {
          answer = A.Planned;
          jobs = J.Control (master_material net_key) 0 (address 0x1201) (address 0xfffd) (0x7f ∷ []) None ∷ [];
        }
    -- a tick short of 96 hours
    pub counts_early : stored sent (E.Tick 34559999) OfNothing ≡ R.Hour 95 287 ∷ []
    pub early : handled (later 34559999 95 287) (E.Bcn octets) beacon
        ≡ record { answer = answer (I.Ignore 4); jobs = [] }
    -- 96 hours of 360,000 ticks
    pub ticks : handled sent (E.Tick 34560000) OfNothing ≡ record { answer = A.Ticked 34560000; jobs = [] }
    pub counts : stored sent (E.Tick 34560000) OfNothing ≡ R.Hour 96 288 ∷ []
    pub ends : handled (later 34560000 96 288) (E.Bcn octets) beacon ≡ record { answer = answer finish; jobs = [] }
    -- SEQ starts at 0 under 6
    pub keeps : stored (later 34560000 96 288) (E.Bcn octets) beacon ≡ kept
    -- the same beacon once more
    pub again : handled (then_at (later 34560000 96 288) (E.Bcn octets) beacon (answer finish) kept)
        (E.Bcn octets) beacon
        ≡ record { answer = answer (I.Ignore 5); jobs = [] }

abbrev pub PdusAreReadUnder : Type 0
PdusAreReadUnder = (net_key dev_key pdu rest : List ℕ) → IsReadUnder net_key dev_key pdu rest

abbrev pub UpdateEnds : Type 0
UpdateEnds = (net_key dev_key octets : List ℕ) → IsEnded net_key dev_key octets

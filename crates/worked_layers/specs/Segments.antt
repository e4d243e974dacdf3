-- Segmented messages heard: an AppKey Add in two pieces, in either order, its acknowledgment, and the time that passes between them.
use Rattle.std.specs.Prelude.{◌≡◌, ℕ, false, List, [], ◌∷◌, Option, Some, None}
use Rattle.layer_definitions.specs.KeyRefresh.{master_material}
use Rattle.mesh_base.specs.declared.fields.NetFields.{NetFields}
use Rattle.mesh_base.specs.declared.keys.UpperKey.TheVariants as U
use Rattle.mesh_base.specs.declared.lower.Lower.{Lower}
use Rattle.mesh_base.specs.declared.lower.Lower.TheVariants.{AccessPart}
use Rattle.mesh_types.specs.declared.answers.Answer.TheVariants as A
use Rattle.mesh_types.specs.declared.answers.KeyName.TheVariants as N
use Rattle.mesh_types.specs.declared.events.Event.TheVariants as E
use Rattle.mesh_types.specs.declared.jobs.Job.{Job}
use Rattle.mesh_types.specs.declared.jobs.Job.TheVariants as J
use Rattle.record_types.specs.declared.records.StoreRecord.{StoreRecord}
use Rattle.record_types.specs.declared.records.StoreRecord.TheVariants as R
use Rattle.event_definitions.specs.History.{Insight, OfNothing, OfPdu, Past}
use Rattle.worked_layers.specs.Walk.{Handled, address, handled, heard, iv, name, start, stored, then_at}

-- 00, the indexes 456 and 123, and the application key
abbrev pub app_key : List ℕ
app_key =
    0x63 ∷ 0x96 ∷ 0x47 ∷ 0x71 ∷ 0x73 ∷ 0x4f ∷ 0xbd ∷ 0x76 ∷ 0xe3 ∷ 0xb4 ∷ 0x05 ∷ 0x19 ∷ 0xd1 ∷ 0xd9 ∷ 0x4a ∷ 0x48 ∷ []

abbrev pub add : List ℕ
add = 0x00 ∷ 0x56 ∷ 0x34 ∷ 0x12 ∷ app_key

-- Over any keys, and any octets of the two pieces and of the two PDUs, which are read as what follows.
module _ (net_key dev_key a b piece_a piece_b : List ℕ) where
  abbrev part : ℕ → ℕ → List ℕ → Lower
  part seq_zero seg_o piece = AccessPart false 0 false seq_zero seg_o 1 piece

  abbrev pdu : ℕ → NetFields
  pdu seq = record { iv = iv; ctl = false; ttl = 4; seq = seq; src = address 3; dst = address 0x1201; tpdu = [] }

  abbrev insight_of : ℕ → ℕ → ℕ → List ℕ → Option (List ℕ) → Insight
  insight_of seq_zero seq seg_o piece None =
      OfPdu (Some (heard 0x456 net_key (pdu seq))) (Some (part seq_zero seg_o piece)) None
  insight_of seq_zero seq seg_o piece (Some payload) =
      OfPdu (Some (heard 0x456 net_key (pdu seq))) (Some (part seq_zero seg_o piece))
      (Some (record { key = U.Device dev_key; label = None; payload = payload }))

  -- SeqZero of 3129ab is 09ab
  abbrev insight : ℕ → ℕ → List ℕ → Option (List ℕ) → Insight
  insight = insight_of 0x9ab

  abbrev first : Past
  first = start 0x456 net_key dev_key

  abbrev after_a : Past
  after_a = then_at first (E.Net a) (insight 0x3129ab 0 piece_a None) (A.Waiting 1) []

  abbrev after_b : Past
  after_b = then_at first (E.Net b) (insight 0x3129ac 1 piece_b None) (A.Waiting 1) []

  abbrev acknowledged : List ℕ → Job
  acknowledged tpdu = J.Control (master_material net_key) 7 (address 0x1201) (address 3) tpdu None

  -- delivered under the name of this SEQ, with this acknowledgment, and answered by a Status
  abbrev delivered_as : ℕ → List ℕ → Handled
  delivered_as seq tpdu = record {
    answer = A.Delivered (name 3 seq) (address 0x1201) N.Dev add;
    jobs =
        acknowledged tpdu
        ∷ J.Message 0x456 (master_material net_key) (U.Device dev_key) 7 (address 0x1201) (address 3)
        (0x80 ∷ 0x03 ∷ 0x00 ∷ 0x56 ∷ 0x34 ∷ 0x12 ∷ []) None
        ∷ [];
  }

  abbrev delivered : Handled
  delivered = delivered_as 0x3129ab (0x00 ∷ 0x26 ∷ 0xac ∷ 0x00 ∷ 0x00 ∷ 0x00 ∷ 0x03 ∷ [])

  -- what is stored: the name that was accepted, and the application key
  abbrev kept : List StoreRecord
  kept = R.Replay (name 3 0x3129ab) None ∷ R.AppKey 1 0x456 0x123 app_key ∷ []

  pub record IsAddHeard : Type 0 where
    -- piece 0, then piece 1
    pub waits : handled first (E.Net a) (insight 0x3129ab 0 piece_a None) ≡ record { answer = A.Waiting 1; jobs = [] }
    pub delivers : handled after_a (E.Net b) (insight 0x3129ac 1 piece_b (Some add)) ≡ delivered
    pub stores : stored after_a (E.Net b) (insight 0x3129ac 1 piece_b (Some add)) ≡ kept
    -- piece 1, then piece 0
    pub waits_too : handled first (E.Net b) (insight 0x3129ac 1 piece_b None)
        ≡ record { answer = A.Waiting 1; jobs = [] }
    pub delivers_too : handled after_b (E.Net a) (insight 0x3129ab 0 piece_a (Some add)) ≡ delivered

  abbrev after_no_key : Past
  after_no_key = then_at after_a (E.Net b) (insight 0x3129ac 1 piece_b None) A.NoKey []

  -- the message under the next name: SeqZero of 3129ad is 09ad
  abbrev anew : ℕ → ℕ → List ℕ → Option (List ℕ) → Insight
  anew = insight_of 0x9ad

  abbrev after_next : Past
  after_next = then_at after_no_key (E.Net a) (anew 0x3129ad 0 piece_a None) (A.Waiting 1) []

  -- piece 1, by which no key opens the message: acknowledged all the same, and the message is done
  pub record IsUnopened : Type 0 where
    pub no_key : handled after_a (E.Net b) (insight 0x3129ac 1 piece_b None)
        ≡ record { answer = A.NoKey; jobs = acknowledged (0x00 ∷ 0x26 ∷ 0xac ∷ 0x00 ∷ 0x00 ∷ 0x00 ∷ 0x03 ∷ []) ∷ [] }
    pub begins_anew : handled after_no_key (E.Net a) (insight 0x3129ad 0 piece_a None)
        ≡ record { answer = A.Waiting 1; jobs = [] }
    -- the two pieces under the next name, by which it opens: delivered, acknowledged by its own SeqZero, stored
    pub waits_anew : handled after_no_key (E.Net a) (anew 0x3129ad 0 piece_a None)
        ≡ record { answer = A.Waiting 1; jobs = [] }
    pub delivers_anew : handled after_next (E.Net b) (anew 0x3129ae 1 piece_b (Some add))
        ≡ delivered_as 0x3129ad (0x00 ∷ 0x26 ∷ 0xb4 ∷ 0x00 ∷ 0x00 ∷ 0x00 ∷ 0x03 ∷ [])
    pub stores_anew : stored after_next (E.Net b) (anew 0x3129ae 1 piece_b (Some add))
        ≡ R.Replay (name 3 0x3129ad) None ∷ R.AppKey 1 0x456 0x123 app_key ∷ []

  abbrev after_both : Past
  after_both = then_at after_a (E.Net b) (insight 0x3129ac 1 piece_b (Some add)) delivered.answer kept

  pub record IsAddRepeated : Type 0 where
    -- piece 0 as it was: in the message cache
    pub cached : handled after_both (E.Net a) (insight 0x3129ab 0 piece_a None)
        ≡ record { answer = A.Cached; jobs = [] }
    -- piece 1 in a new PDU: acknowledged once more
    pub again : handled after_both (E.Net b) (insight 0x3129ad 1 piece_b None)
        ≡ record { answer = A.Again; jobs = acknowledged (0x00 ∷ 0x26 ∷ 0xac ∷ 0x00 ∷ 0x00 ∷ 0x00 ∷ 0x03 ∷ []) ∷ [] }

  abbrev after_ticks : ℕ → Past
  after_ticks n = then_at after_a (E.Tick n) OfNothing (A.Ticked n) []

  pub record IsTimePassed : Type 0 where
    -- 999 ticks on, the acknowledgment timer has ended, and the message is still in progress
    pub acknowledges : handled after_a (E.Tick 999) OfNothing
        ≡ record {
          answer = A.Ticked 999;
          jobs = acknowledged (0x00 ∷ 0x26 ∷ 0xac ∷ 0x00 ∷ 0x00 ∷ 0x00 ∷ 0x01 ∷ []) ∷ [];
        }
    pub delivers : handled (after_ticks 999) (E.Net b) (insight 0x3129ac 1 piece_b (Some add)) ≡ delivered
    -- 1000 ticks on it is gone, with its timer
    pub forgets : handled after_a (E.Tick 1000) OfNothing ≡ record { answer = A.Ticked 1000; jobs = [] }
    pub waits : handled (after_ticks 1000) (E.Net b) (insight 0x3129ac 1 piece_b None)
        ≡ record { answer = A.Waiting 1; jobs = [] }

abbrev pub SegmentsHeard : Type 0
SegmentsHeard = (net_key dev_key a b piece_a piece_b : List ℕ) → IsAddHeard net_key dev_key a b piece_a piece_b

abbrev pub SegmentsRepeated : Type 0
SegmentsRepeated = (net_key dev_key a b piece_a piece_b : List ℕ) → IsAddRepeated net_key dev_key a b piece_a piece_b

abbrev pub SegmentsTimed : Type 0
SegmentsTimed = (net_key dev_key a b piece_a piece_b : List ℕ) → IsTimePassed net_key dev_key a b piece_a piece_b

abbrev pub SegmentsUnopened : Type 0
SegmentsUnopened = (net_key dev_key a b piece_a piece_b : List ℕ) → IsUnopened net_key dev_key a b piece_a piece_b

-- Own segmented messages, and PDUs that go on.
use Rattle.std.specs.Prelude.{◌≡◌, ℕ, ◌*◌, ◌^◌, Bool, false, true, List, [], ◌∷◌, ◌++◌, Some, None, replicate}
use Rattle.layer_definitions.specs.KeyRefresh.{master_material}
use Rattle.mesh_base.specs.declared.fields.NetFields.{NetFields}
use Rattle.mesh_base.specs.declared.iv_state.IvStep.TheVariants as I
use Rattle.mesh_base.specs.declared.keys.UpperKey.TheVariants as U
use Rattle.mesh_base.specs.declared.lower.Lower.TheVariants.{AccessPart, Control}
use Rattle.mesh_base.specs.declared.pair.Name.{Name}
use Rattle.mesh_types.specs.declared.answers.Answer.TheVariants as A
use Rattle.mesh_types.specs.declared.answers.KeyStep.TheVariants as S
use Rattle.mesh_types.specs.declared.events.Event.{Event}
use Rattle.mesh_types.specs.declared.events.Event.TheVariants as E
use Rattle.mesh_types.specs.declared.events.SendKey.TheVariants as K
use Rattle.mesh_types.specs.declared.jobs.Job.{Job}
use Rattle.mesh_types.specs.declared.jobs.Job.TheVariants as J
use Rattle.record_types.specs.declared.records.StoreRecord.TheVariants as R
use Rattle.event_definitions.specs.History.{Insight, OfBeacon, OfNothing, OfPdu, Past}
use Rattle.worked_layers.specs.Walk.{address, handled, heard, iv, name, start, then_at}

module _ (net_key dev_key pdu : List ℕ) where
  -- a control PDU of 0005 to 0009
  abbrev passing : ℕ → ℕ → NetFields
  passing ttl seq =
      record { iv = iv; ctl = true; ttl = ttl; seq = seq; src = address 5; dst = address 9; tpdu = 0x7f ∷ [] }

  abbrev passed : ℕ → ℕ → Insight
  passed ttl seq = OfPdu (Some (heard 0 net_key (passing ttl seq))) None None

  pub record IsRelay : Type 0 where
    pub goes_on : handled (start 0 net_key dev_key) (E.Net pdu) (passed 2 0x10)
        ≡ record { answer = A.NotMine; jobs = J.Relay (master_material net_key) (passing 1 0x10) ∷ [] }
    pub with_one : handled (start 0 net_key dev_key) (E.Net pdu) (passed 1 0x11)
        ≡ record { answer = A.NotMine; jobs = [] }
    pub with_none : handled (start 0 net_key dev_key) (E.Net pdu) (passed 0 0x12)
        ≡ record { answer = A.NotMine; jobs = [] }

  -- first segments of messages from eight sources, and from a ninth one
  abbrev piece : List ℕ
  piece = replicate 12 0

  abbrev part : ℕ → ℕ → Insight
  part src seq =
      OfPdu
      (Some
      (heard 0 net_key
      (record {
        iv = iv;
        ctl = false;
        ttl = 4;
        seq = seq;
        src = address src;
        dst = address 0x1201;
        tpdu = [];
      }))) (Some (AccessPart false 0 false 0 0 1 piece)) None

  abbrev waiting : Past → ℕ → Past
  waiting past src = then_at past (E.Net pdu) (part src 0) (A.Waiting 1) []

  abbrev eight : Past
  eight =
      waiting
      (waiting
      (waiting
      (waiting
      (waiting
      (waiting
      (waiting (waiting (start 0 net_key dev_key) 0x0101) 0x0102) 0x0103) 0x0104) 0x0105) 0x0106) 0x0107) 0x0108

  abbrev names : List Name
  names =
      name 0x0101 0 ∷ name 0x0102 0 ∷ name 0x0103 0 ∷ name 0x0104 0 ∷ name 0x0105 0 ∷ name 0x0106 0 ∷ name 0x0107 0
      ∷ name 0x0108 0 ∷ []

  pub record IsFull : Type 0 where
    pub waits : handled (waiting (waiting (start 0 net_key dev_key) 0x0101) 0x0102) (E.Net pdu) (part 0x0103 0)
        ≡ record { answer = A.Waiting 1; jobs = [] }
    pub no_room : handled eight (E.Net pdu) (part 0x0109 0)
        ≡ record {
          answer = A.NoRoom names;
          jobs = J.Control (master_material net_key) 7 (address 0x1201) (address 0x0109) (replicate 7 0) None ∷ [];
        }
    pub room_again : handled (then_at eight (E.Tick 1000) OfNothing (A.Ticked 1000) []) (E.Net pdu) (part 0x0109 1)
        ≡ record { answer = A.Waiting 1; jobs = [] }

module _ (net_key dev_key pdu : List ℕ) (u v : ℕ) where
  -- an upper PDU of 16 octets: twelve, and four
  abbrev upper : List ℕ
  upper = replicate 12 u ++ replicate 4 v

  abbrev begin : ℕ → ℕ → Event
  begin at seq =
      E.Begin
      (record {
        name = record { src = address 0x1201; pair = record { iv = at; seq = seq } };
        dst = address 3;
        ttl = 7;
        net = 0;
        akf = false;
        aid = 0;
        upper = upper;
      })

  abbrev segment : ℕ → ℕ → List ℕ → Bool → Job
  segment at seg_o tpdu first =
      J.Segment
      (record {
        material = master_material net_key;
        name = record { src = address 0x1201; pair = record { iv = at; seq = 0 } };
        ttl = 7;
        dst = address 3;
        seg_o = seg_o;
        seg_n = 1;
        tpdu = tpdu;
        first = first;
      })

  -- SEG, then SeqZero 0, SegO and SegN, and the octets
  abbrev segments : ℕ → Bool → List Job
  segments at first =
      segment at 0 (0x80 ∷ 0x00 ∷ 0x00 ∷ 0x01 ∷ replicate 12 u) first
      ∷ segment at 1 (0x80 ∷ 0x00 ∷ 0x00 ∷ 0x21 ∷ replicate 4 v) false ∷ []

  abbrev begun : Past → ℕ → ℕ → Past
  begun past at seq = then_at past (begin at seq) OfNothing A.Begun []

  pub record IsBegun : Type 0 where
    pub plans : handled (start 0 net_key dev_key) (E.Send 0 (address 3) 7 K.Own (replicate 12 0x7f)) OfNothing
        ≡ record {
          answer = A.Planned;
          jobs = J.Sent 0 (master_material net_key) (U.Device dev_key) 7 (address 0x1201) (address 3) ∷ [];
        }
    pub begins : handled (start 0 net_key dev_key) (begin iv 0) OfNothing
        ≡ record { answer = A.Begun; jobs = segments iv true }
    -- a fifth one
    pub full : handled (begun (begun (begun (begun (start 0 net_key dev_key) iv 0) iv 3) iv 6) iv 9)
        (begin iv 12) OfNothing ≡ record { answer = A.SendFull 4; jobs = [] }

  -- An IV Update ends once an own message is acknowledged: the node is in progress from 5 to 6, for 96 hours.

  abbrev updating : Past
  updating =
      record {
        told = [];
        records = R.Identity (address 0x1201) 1 dev_key ∷ R.Numbers 6 true (5 * 2 ^ 25) 96 288 ∷ R.NetKey 1 0 net_key
            ∷ [];
      }

  abbrev beacon : Insight
  beacon = OfBeacon (Some (record { index = 0; fresh = false; refresh = false; update = false; iv = 6 }))

  abbrev block : List ℕ
  block = 0x00 ∷ 0x00 ∷ 0x00 ∷ 0x00 ∷ 0x00 ∷ 0x03 ∷ []

  abbrev acknowledged : Past
  acknowledged =
      then_at (begun updating 5 0) (E.Net pdu)
      (OfPdu
      (Some
      (heard 0 net_key
      (record {
        iv = 5;
        ctl = true;
        ttl = 7;
        seq = 1;
        src = address 3;
        dst = address 0x1201;
        tpdu = [];
      }))) (Some (Control 0 block)) None)
      (A.Control (record { src = address 3; pair = record { iv = 5; seq = 1 } }) (address 0x1201) 0 block)
      (R.Replay (record { src = address 3; pair = record { iv = 5; seq = 1 } }) None ∷ [])

  pub record IsUpdated : Type 0 where
    pub waits : handled (begun updating 5 0) (E.Bcn pdu) beacon
        ≡ record { answer = A.Beacon 0 S.Same I.Wait; jobs = [] }
    pub ends : handled acknowledged (E.Bcn pdu) beacon
        ≡ record {
          answer = A.Beacon 0 S.Same
              (I.Finish (record { current = 6; progress = false; hours = 0; since = 288 }));
          jobs = [];
        }
    -- before that, what isn't acknowledged goes once more when the round is due
    pub sends_again : handled (begun updating 5 0) (E.Tick 55) OfNothing
        ≡ record { answer = A.Ticked 55; jobs = segments 5 false }
    pub not_before : handled (begun updating 5 0) (E.Tick 54) OfNothing ≡ record { answer = A.Ticked 54; jobs = [] }
    pub not_acknowledged : handled acknowledged (E.Tick 55) OfNothing ≡ record { answer = A.Ticked 55; jobs = [] }

abbrev pub PdusGoOn : Type 0
PdusGoOn = (net_key dev_key pdu : List ℕ) → IsRelay net_key dev_key pdu

abbrev pub EightAreHeld : Type 0
EightAreHeld = (net_key dev_key pdu : List ℕ) → IsFull net_key dev_key pdu

abbrev pub SegmentsAreSent : Type 0
SegmentsAreSent = (net_key dev_key pdu : List ℕ) (u v : ℕ) → IsBegun net_key dev_key pdu u v

abbrev pub UpdateWaits : Type 0
UpdateWaits = (net_key dev_key pdu : List ℕ) (u v : ℕ) → IsUpdated net_key dev_key pdu u v

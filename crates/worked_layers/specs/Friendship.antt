-- A friendship: Request and Offer, Poll and Update, octets once more, a message that is stored, and what goes on.
use Rattle.std.specs.Prelude.{◌≡◌, ℕ, Bool, false, true, List, [], ◌∷◌, Some, None, replicate}
use Rattle.layer_definitions.specs.KeyRefresh.{friendship_material, master_material}
use Rattle.mesh_base.specs.declared.fields.NetFields.{NetFields}
use Rattle.mesh_base.specs.declared.fields.NetMaterial.{NetMaterial}
use Rattle.mesh_base.specs.declared.keys.UpperKey.TheVariants as U
use Rattle.mesh_base.specs.declared.lower.Lower.TheVariants.{Control}
use Rattle.mesh_base.specs.declared.pair.Pair.{Pair}
use Rattle.mesh_types.specs.declared.answers.Answer.{Answer}
use Rattle.mesh_types.specs.declared.answers.Answer.TheVariants as A
use Rattle.mesh_types.specs.declared.events.Event.{Event}
use Rattle.mesh_types.specs.declared.events.Event.TheVariants as E
use Rattle.mesh_types.specs.declared.events.Outgoing.{Outgoing}
use Rattle.mesh_types.specs.declared.events.SendKey.TheVariants as K
use Rattle.mesh_types.specs.declared.jobs.Job.{Job}
use Rattle.mesh_types.specs.declared.jobs.Job.TheVariants as J
use Rattle.record_types.specs.declared.records.StoreRecord.TheVariants as R
use Rattle.event_definitions.specs.History.{Insight, OfNothing, OfPdu, Past}
use Rattle.worked_layers.specs.Walk.{address, handled, heard, iv, name, start, then_at}

module _ (net_key dev_key pdu octets : List ℕ) where
  -- a control PDU of the node 0201, under the master credentials, or those of its friendship
  abbrev fields : ℕ → ℕ → ℕ → NetFields
  fields ttl seq dst =
      record { iv = iv; ctl = true; ttl = ttl; seq = seq; src = address 0x0201; dst = address dst; tpdu = [] }

  abbrev material : NetMaterial
  material = friendship_material net_key 0x0201 0x1201 0 0

  abbrev by_friend : ℕ → ℕ → ℕ → ℕ → List ℕ → Insight
  by_friend ttl seq dst opcode params =
      OfPdu
      (Some
      (record {
        fields = fields ttl seq dst;
        by = record {
          index = 0;
          lpn = Some (address 0x0201);
          fresh = false;
          material = material;
        };
      })) (Some (Control opcode params)) None

  abbrev answer : ℕ → ℕ → ℕ → List ℕ → Answer
  answer seq dst opcode params = A.Control (name 0x0201 seq) (address dst) opcode params

  abbrev then_control : Past → ℕ → ℕ → ℕ → List ℕ → Insight → Past
  then_control past seq dst opcode params insight =
      then_at past (E.Net pdu) insight (answer seq dst opcode params) (R.Replay (name 0x0201 seq) None ∷ [])

  abbrev request : List ℕ
  request = 0x4b ∷ 0x50 ∷ 0x05 ∷ 0x7e ∷ 0x40 ∷ 0x00 ∷ 0x00 ∷ 0x01 ∷ 0x00 ∷ 0x00 ∷ []

  abbrev requested : Insight
  requested = OfPdu (Some (heard 0 net_key (fields 0 1 0xfffd))) (Some (Control 3 request)) None

  abbrev offered : Past
  offered = then_control (start 0 net_key dev_key) 1 0xfffd 3 request requested

  abbrev poll : ℕ → ℕ → Insight
  poll seq fsn = by_friend 0 seq 0x1201 1 (fsn ∷ [])

  abbrev polled : Past → ℕ → ℕ → Past
  polled past seq fsn = then_control past seq 0x1201 1 (fsn ∷ []) (poll seq fsn)

  abbrev update : Bool → Job
  update fsn =
      J.Control material 0 (address 0x1201) (address 0x0201) (0x02 ∷ 0x00 ∷ 0x12 ∷ 0x34 ∷ 0x56 ∷ 0x78 ∷ 0x00 ∷ [])
      (Some (address 0x0201, fsn))

  abbrev kept : Past
  kept = then_at (polled offered 2 0) (E.Kept (address 0x0201) false (name 0x1201 1) octets) OfNothing A.Kept []

  pub record IsFriendship : Type 0 where
    pub offer : handled (start 0 net_key dev_key) (E.Net pdu) requested
        ≡ record {
          answer = answer 1 0xfffd 3 request;
          jobs = J.Control (master_material net_key) 0 (address 0x1201) (address 0x0201)
              (0x04 ∷ 0x64 ∷ 0x10 ∷ 0x10 ∷ 0x7f ∷ 0x00 ∷ 0x00 ∷ []) None ∷ [];
        }
    pub updates : handled offered (E.Net pdu) (poll 2 0)
        ≡ record { answer = answer 2 0x1201 1 (0 ∷ []); jobs = update false ∷ [] }
    pub keeps : handled (polled offered 2 0) (E.Kept (address 0x0201) false (name 0x1201 1) octets) OfNothing
        ≡ record { answer = A.Kept; jobs = [] }
    -- the same FSN: the octets once more; another one: an Update anew
    pub repeats : handled kept (E.Net pdu) (poll 3 0)
        ≡ record { answer = answer 3 0x1201 1 (0 ∷ []); jobs = J.Repeat (name 0x1201 1) octets ∷ [] }
    pub goes_on : handled (polled kept 3 0) (E.Net pdu) (poll 4 1)
        ≡ record { answer = answer 4 0x1201 1 (1 ∷ []); jobs = update true ∷ [] }

  abbrev befriended : Past
  befriended = polled (polled kept 3 0) 4 1

  abbrev send : List ℕ → Event
  send payload = E.Send 0 (address 0x0201) 7 K.Own payload

  -- a message to the Low Power node that goes in segments
  abbrev begun : Pair → List ℕ → Outgoing
  begun pair upper =
      record {
        name = record { src = address 0x1201; pair = pair };
        dst = address 0x0201;
        ttl = 7;
        net = 0;
        akf = false;
        aid = 0;
        upper = upper;
      }

  abbrev sent : Past
  sent = then_at befriended (send (0x7f ∷ [])) OfNothing A.Planned []

  pub record IsStored : Type 0 where
    -- a short message is stored, and answers the next Poll
    pub stores : handled befriended (send (0x7f ∷ [])) OfNothing ≡ record { answer = A.Planned; jobs = [] }
    pub answers : handled sent (E.Net pdu) (poll 5 0)
        ≡ record {
          answer = answer 5 0x1201 1 (0 ∷ []);
          jobs = J.Message 0 material (U.Device dev_key) 7 (address 0x1201) (address 0x0201) (0x7f ∷ [])
              (Some (address 0x0201, false)) ∷ [];
        }
    -- a long one is sent, and its segments are not begun
    pub sends : handled (polled sent 5 0) (send (replicate 12 0x7f)) OfNothing
        ≡ record {
          answer = A.Planned;
          jobs = J.Sent 0 (master_material net_key) (U.Device dev_key) 7 (address 0x1201) (address 0x0201) ∷ [];
        }
    pub refuses : (pair : Pair) → pair.iv ≡ iv → (upper : List ℕ)
        → handled (polled sent 5 0) (E.Begin (begun pair upper)) OfNothing
        ≡ record { answer = A.Befriended; jobs = [] }
    -- what came under the friendship goes on under the master credentials
    pub relays : handled (polled sent 5 0) (E.Net pdu)
        (OfPdu
        (Some
        (record {
          fields = fields 2 6 9;
          by = record { index = 0; lpn = Some (address 0x0201); fresh = false; material = material };
        })) None None)
        ≡ record { answer = A.NotMine; jobs = J.Relay (master_material net_key) (fields 1 6 9) ∷ [] }

abbrev pub FriendshipStands : Type 0
FriendshipStands = (net_key dev_key pdu octets : List ℕ) → IsFriendship net_key dev_key pdu octets

abbrev pub MessagesAreStored : Type 0
MessagesAreStored = (net_key dev_key pdu octets : List ℕ) → IsStored net_key dev_key pdu octets

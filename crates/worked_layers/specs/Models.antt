-- The configuration, the models and the heartbeat, in layers of some kind.
use Rattle.std.specs.Prelude.{◌≡◌, ℕ, ◌+◌, false, List, [], ◌∷◌, ◌++◌, Some, None}
use Rattle.layer_definitions.specs.KeyRefresh.{master_material}
use Rattle.mesh_base.specs.declared.keys.UpperKey.{UpperKey}
use Rattle.mesh_base.specs.declared.keys.UpperKey.TheVariants as U
use Rattle.mesh_base.specs.declared.lower.Lower.TheVariants.{Access}
use Rattle.mesh_types.specs.KeyName.{key_name_of}
use Rattle.mesh_types.specs.declared.answers.Answer.{Answer}
use Rattle.mesh_types.specs.declared.answers.Answer.TheVariants as A
use Rattle.mesh_types.specs.declared.events.Event.{Event}
use Rattle.mesh_types.specs.declared.events.Event.TheVariants as E
use Rattle.mesh_types.specs.declared.jobs.Job.{Job}
use Rattle.mesh_types.specs.declared.jobs.Job.TheVariants as J
use Rattle.record_types.specs.declared.records.StoreRecord.{StoreRecord}
use Rattle.record_types.specs.declared.records.StoreRecord.TheVariants as R
use Rattle.event_definitions.specs.History.{Insight, OfNothing, OfPdu, Past}
use Rattle.event_definitions.specs.Layers.{Layers}
use Rattle.worked_layers.specs.Walk.{Handled, address, handled_by, heard, iv, name, start, stored_by, then_at}

module _ (layers : Layers) (net_key dev_key app_key pdu : List ℕ) (aid : ℕ) where
  abbrev handled : Past → Event → Insight → Handled
  handled past event insight = handled_by layers past event insight

  abbrev stored : Past → Event → Insight → List StoreRecord
  stored past event insight = stored_by layers past event insight

  -- an unsegmented message of the node 0003, under a key
  abbrev insight : ℕ → ℕ → UpperKey → List ℕ → Insight
  insight index seq key payload =
      OfPdu
      (Some
      (heard index net_key
      (record {
        iv = iv;
        ctl = false;
        ttl = 4;
        seq = seq;
        src = address 3;
        dst = address 0x1201;
        tpdu = [];
      }))) (Some (Access false 0 []))
      (Some (record { key = key; label = None; payload = payload }))

  abbrev answer : ℕ → UpperKey → List ℕ → Answer
  answer seq key payload = A.Delivered (name 3 seq) (address 0x1201) (key_name_of key) payload

  abbrev reply : ℕ → UpperKey → List ℕ → Job
  reply index key payload = J.Message index (master_material net_key) key 7 (address 0x1201) (address 3) payload None

  abbrev answered : ℕ → ℕ → UpperKey → List ℕ → List ℕ → Handled
  answered index seq key payload replied =
      record { answer = answer seq key payload; jobs = reply index key replied ∷ [] }

  abbrev then_message : Past → ℕ → UpperKey → List ℕ → List StoreRecord → Past
  then_message past seq key payload more =
      then_at past (E.Net pdu) (insight 0x456 seq key payload) (answer seq key payload)
      (R.Replay (name 3 seq) None ∷ more)

  abbrev device : UpperKey
  device = U.Device dev_key

  abbrev app : UpperKey
  app = U.App 0x123 aid app_key

  -- the node has the application key 123 under the network key 456
  abbrev configured : Past
  configured =
      record { told = []; records = (start 0x456 net_key dev_key).records ++ R.AppKey 1 0x456 0x123 app_key ∷ [] }

  abbrev bind : ℕ → List ℕ
  bind low = 0x80 ∷ 0x3d ∷ 0x01 ∷ 0x12 ∷ 0x23 ∷ 0x01 ∷ low ∷ 0x10 ∷ []

  abbrev bound : ℕ → Past
  bound low = then_message configured 0x3129ad device (bind low) (R.Bind 1 (address 0x1201) (0x1000 + low) 0x123 ∷ [])

  abbrev on : List ℕ
  on = 0x82 ∷ 0x02 ∷ 0x01 ∷ 0x01 ∷ []

  pub record IsSwitchedOn : Type 0 where
    pub binds : handled configured (E.Net pdu) (insight 0x456 0x3129ad device (bind 0x00))
        ≡ answered 0x456 0x3129ad device (bind 0x00) (0x80 ∷ 0x3e ∷ 0x00 ∷ 0x01 ∷ 0x12 ∷ 0x23 ∷ 0x01 ∷ 0x00 ∷ 0x10 ∷ [])
    pub stores : stored configured (E.Net pdu) (insight 0x456 0x3129ad device (bind 0x00))
        ≡ R.Replay (name 3 0x3129ad) None ∷ R.Bind 1 (address 0x1201) 0x1000 0x123 ∷ []
    pub turns_on : handled (bound 0x00) (E.Net pdu) (insight 0x456 0x3129ae app on)
        ≡ answered 0x456 0x3129ae app on (0x82 ∷ 0x04 ∷ 0x01 ∷ [])
    pub keeps : stored (bound 0x00) (E.Net pdu) (insight 0x456 0x3129ae app on)
        ≡ R.Replay (name 3 0x3129ae) None ∷ R.Model 0 0x1000 1 ∷ []
    -- the next life opens with it
    pub opens : handled
        (record {
          told = [];
          records = (bound 0x00).records
              ++ R.Replay (name 3 0x3129ae) None ∷ R.Model 0 0x1000 1
              ∷ [];
        }) (E.Net pdu) (insight 0x456 0x3129af app (0x82 ∷ 0x01 ∷ []))
        ≡ answered 0x456 0x3129af app (0x82 ∷ 0x01 ∷ []) (0x82 ∷ 0x04 ∷ 0x01 ∷ [])

  abbrev level : List ℕ
  level = 0x82 ∷ 0x06 ∷ 0x64 ∷ 0x00 ∷ 0x01 ∷ 0x0a ∷ 0x00 ∷ []

  abbrev moving : Past
  moving =
      then_at (then_message (bound 0x02) 0x3129ae app level (R.Model 0 0x1002 100 ∷ [])) (E.Tick 50) OfNothing
      (A.Ticked 50) []

  pub record IsMoved : Type 0 where
    pub binds : handled configured (E.Net pdu) (insight 0x456 0x3129ad device (bind 0x02))
        ≡ answered 0x456 0x3129ad device (bind 0x02) (0x80 ∷ 0x3e ∷ 0x00 ∷ 0x01 ∷ 0x12 ∷ 0x23 ∷ 0x01 ∷ 0x02 ∷ 0x10 ∷ [])
    pub begins : handled (bound 0x02) (E.Net pdu) (insight 0x456 0x3129ae app level)
        ≡ answered 0x456 0x3129ae app level (0x82 ∷ 0x08 ∷ 0x00 ∷ 0x00 ∷ 0x64 ∷ 0x00 ∷ 0x0a ∷ [])
    -- half of the way after half of the time
    pub moves : handled moving (E.Net pdu) (insight 0x456 0x3129af app (0x82 ∷ 0x05 ∷ []))
        ≡ answered 0x456 0x3129af app (0x82 ∷ 0x05 ∷ []) (0x82 ∷ 0x08 ∷ 0x32 ∷ 0x00 ∷ 0x64 ∷ 0x00 ∷ 0x05 ∷ [])

  -- A heartbeat to all friends, two of them, each second.

  abbrev set : List ℕ
  set = 0x80 ∷ 0x39 ∷ 0xfd ∷ 0xff ∷ 0x02 ∷ 0x01 ∷ 0x00 ∷ 0x00 ∷ 0x00 ∷ 0x00 ∷ 0x00 ∷ []

  abbrev beating : Past
  beating =
      then_at (start 0 net_key dev_key) (E.Net pdu) (insight 0 1 device set) (answer 1 device set)
      (R.Replay (name 3 1) None ∷ [])

  abbrev ticked : Past → ℕ → ℕ → Past
  ticked past n now = then_at past (E.Tick n) OfNothing (A.Ticked now) []

  abbrev beat : Job
  beat = J.Control (master_material net_key) 0 (address 0x1201) (address 0xfffd) (0x0a ∷ 0x00 ∷ 0x00 ∷ 0x05 ∷ []) None

  pub record IsBeating : Type 0 where
    pub sets : handled (start 0 net_key dev_key) (E.Net pdu) (insight 0 1 device set)
        ≡ answered 0 1 device set (0x06 ∷ 0x00 ∷ 0xfd ∷ 0xff ∷ 0x02 ∷ 0x01 ∷ 0x00 ∷ 0x00 ∷ 0x00 ∷ 0x00 ∷ 0x00 ∷ [])
    pub first : handled beating (E.Tick 1) OfNothing ≡ record { answer = A.Ticked 1; jobs = beat ∷ [] }
    pub waits : handled (ticked beating 1 1) (E.Tick 98) OfNothing ≡ record { answer = A.Ticked 99; jobs = [] }
    pub second : handled (ticked (ticked beating 1 1) 98 99) (E.Tick 1) OfNothing
        ≡ record { answer = A.Ticked 100; jobs = beat ∷ [] }
    pub ends : handled (ticked (ticked (ticked beating 1 1) 98 99) 1 100) (E.Tick 500) OfNothing
        ≡ record { answer = A.Ticked 600; jobs = [] }

abbrev pub OnOffSwitches : Layers → Type 0
OnOffSwitches layers =
    (net_key dev_key app_key pdu : List ℕ) (aid : ℕ) → IsSwitchedOn layers net_key dev_key app_key pdu aid

abbrev pub LevelMoves : Layers → Type 0
LevelMoves layers = (net_key dev_key app_key pdu : List ℕ) (aid : ℕ) → IsMoved layers net_key dev_key app_key pdu aid

abbrev pub HeartBeats : Layers → Type 0
HeartBeats layers = (net_key dev_key app_key pdu : List ℕ) (aid : ℕ) → IsBeating layers net_key dev_key app_key pdu aid

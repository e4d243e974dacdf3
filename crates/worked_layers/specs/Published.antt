-- A label that a model subscribes to, and what a model publishes.
use Rattle.std.specs.Prelude.{◌≡◌, ℕ, false, List, [], ◌∷◌, ◌++◌, Some, None}
use Rattle.cipher_definitions.specs.Kdf.{aid, virtual_address}
use Rattle.layer_definitions.specs.KeyRefresh.{master_material}
use Rattle.mesh_base.specs.declared.keys.UpperKey.{UpperKey}
use Rattle.mesh_base.specs.declared.keys.UpperKey.TheVariants as U
use Rattle.mesh_base.specs.declared.lower.Lower.TheVariants.{Access}
use Rattle.mesh_types.specs.KeyName.{key_name_of}
use Rattle.mesh_types.specs.declared.answers.Answer.TheVariants as A
use Rattle.mesh_types.specs.declared.events.Event.TheVariants as E
use Rattle.mesh_types.specs.declared.jobs.Job.TheVariants as J
use Rattle.record_types.specs.declared.records.StoreRecord.TheVariants as R
use Rattle.event_definitions.specs.History.{Insight, OfNothing, OfPdu, Past}
use Rattle.worked_layers.specs.Walk.{address, handled, heard, iv, name, start, stored, then_at}

-- a Label UUID; its virtual address is b529
abbrev pub label : List ℕ
label =
    0x00 ∷ 0x73 ∷ 0xe7 ∷ 0xe4 ∷ 0xd8 ∷ 0xb9 ∷ 0x44 ∷ 0x0f ∷ 0xaf ∷ 0x84 ∷ 0x15 ∷ 0xdf ∷ 0x4c ∷ 0x56 ∷ 0xc0 ∷ 0xe1 ∷ []

module _ (net_key dev_key app_key pdu : List ℕ) where
  abbrev app : UpperKey
  app = U.App 0x123 (aid app_key) app_key

  abbrev device : UpperKey
  device = U.Device dev_key

  abbrev message : ℕ → ℕ → UpperKey → List ℕ → Insight
  message dst seq key payload =
      OfPdu
      (Some
      (heard 0x456 net_key
      (record {
        iv = iv;
        ctl = false;
        ttl = 4;
        seq = seq;
        src = address 3;
        dst = address dst;
        tpdu = [];
      }))) (Some (Access false 0 []))
      (Some (record { key = key; label = None; payload = payload }))

  abbrev by_label : ℕ → List ℕ → Insight
  by_label seq payload =
      OfPdu
      (Some
      (heard 0x456 net_key
      (record {
        iv = iv;
        ctl = false;
        ttl = 0;
        seq = seq;
        src = address 3;
        dst = address 0xb529;
        tpdu = [];
      }))) (Some (Access false 0 []))
      (Some (record { key = app; label = Some label; payload = payload }))

  -- the OnOff Server of the node is bound to the application key 123
  abbrev bound : Past
  bound =
      record {
        told = [];
        records = (start 0x456 net_key dev_key).records
            ++ R.AppKey 1 0x456 0x123 app_key ∷ R.Bind 1 (address 0x1201) 0x1000 0x123 ∷ [];
      }

  abbrev add : List ℕ
  add = 0x80 ∷ 0x20 ∷ 0x01 ∷ 0x12 ∷ label ++ 0x00 ∷ 0x10 ∷ []

  abbrev off_to_on : List ℕ
  off_to_on = 0x82 ∷ 0x03 ∷ 0x01 ∷ 0x01 ∷ []

  abbrev subscribed : Past
  subscribed =
      then_at bound (E.Net pdu) (message 0x1201 0x3129ae device add)
      (A.Delivered (name 3 0x3129ae) (address 0x1201) (key_name_of device) add)
      (R.Replay (name 3 0x3129ae) None ∷ R.Label 1 (address 0x1201) 0x1000 label ∷ [])

  pub record IsLabelled : Type 0 where
    pub adds : handled bound (E.Net pdu) (message 0x1201 0x3129ae device add) ≡ record {
      answer = A.Delivered (name 3 0x3129ae) (address 0x1201) (key_name_of device) add;
      jobs =
          J.Message 0x456 (master_material net_key) device 7 (address 0x1201) (address 3)
          (0x80 ∷ 0x1f ∷ 0x00 ∷ 0x01 ∷ 0x12 ∷ 0x29 ∷ 0xb5 ∷ 0x00 ∷ 0x10 ∷ []) None ∷ [];
    }
    pub stores : stored bound (E.Net pdu) (message 0x1201 0x3129ae device add)
        ≡ R.Replay (name 3 0x3129ae) None ∷ R.Label 1 (address 0x1201) 0x1000 label ∷ []
    -- a message by the label is delivered and taken; without it to the same address it isn't this node's
    pub delivers : handled subscribed (E.Net pdu) (by_label 0x3129b1 off_to_on)
        ≡ record { answer = A.Delivered (name 3 0x3129b1) (address 0xb529) (key_name_of app) off_to_on; jobs = [] }
    pub takes : stored subscribed (E.Net pdu) (by_label 0x3129b1 off_to_on)
        ≡ R.Replay (name 3 0x3129b1) None ∷ R.Model 0 0x1000 1 ∷ []
    pub passes : handled bound (E.Net pdu) (by_label 0x3129b1 off_to_on) ≡ record { answer = A.NotMine; jobs = [] }

  -- What the OnOff Server publishes to c000 each second, from the moment at which it was set.

  abbrev set : List ℕ
  set = 0x03 ∷ 0x01 ∷ 0x12 ∷ 0x00 ∷ 0xc0 ∷ 0x23 ∷ 0x01 ∷ 0x00 ∷ 0x41 ∷ 0x00 ∷ 0x00 ∷ 0x10 ∷ []

  abbrev replied : List ℕ
  replied = 0x80 ∷ 0x19 ∷ 0x00 ∷ 0x01 ∷ 0x12 ∷ 0x00 ∷ 0xc0 ∷ 0x23 ∷ 0x01 ∷ 0x00 ∷ 0x41 ∷ 0x00 ∷ 0x00 ∷ 0x10 ∷ []

  abbrev switched_on : Past
  switched_on =
      then_at bound (E.Net pdu) (message 0x1201 0x3129ae app (0x82 ∷ 0x02 ∷ 0x01 ∷ 0x01 ∷ []))
      (A.Delivered (name 3 0x3129ae) (address 0x1201) (key_name_of app) (0x82 ∷ 0x02 ∷ 0x01 ∷ 0x01 ∷ []))
      (R.Replay (name 3 0x3129ae) None ∷ R.Model 0 0x1000 1 ∷ [])

  abbrev publishing : Past
  publishing =
      then_at switched_on (E.Net pdu) (message 0x1201 0x3129af device set)
      (A.Delivered (name 3 0x3129af) (address 0x1201) (key_name_of device) set)
      (R.Replay (name 3 0x3129af) None
      ∷ R.Publish
      (record {
        element = address 0x1201;
        model = 0x1000;
        address = address 0xc000;
        app = 0x123;
        ttl = 0;
        period = 0x41;
        retransmit = 0;
      })
      ∷ [])

  pub record IsPublished : Type 0 where
    pub sets : handled switched_on (E.Net pdu) (message 0x1201 0x3129af device set) ≡ record {
      answer = A.Delivered (name 3 0x3129af) (address 0x1201) (key_name_of device) set;
      jobs = J.Message 0x456 (master_material net_key) device 7 (address 0x1201) (address 3) replied None ∷ [];
    }
    pub waits : handled publishing (E.Tick 99) OfNothing ≡ record { answer = A.Ticked 99; jobs = [] }
    pub publishes : handled publishing (E.Tick 100) OfNothing
        ≡ record {
          answer = A.Ticked 100;
          jobs = J.Message 0x456 (master_material net_key) app 0 (address 0x1201) (address 0xc000)
              (0x82 ∷ 0x04 ∷ 0x01 ∷ []) None ∷ [];
        }

abbrev pub LabelsAreHeard : Type 0
LabelsAreHeard =
    virtual_address label ≡ 0xb529 → (net_key dev_key app_key pdu : List ℕ) → IsLabelled net_key dev_key app_key pdu

abbrev pub StatusIsPublished : Type 0
StatusIsPublished = (net_key dev_key app_key pdu : List ℕ) → IsPublished net_key dev_key app_key pdu

-- A run, written down: a message is delivered, a PDU of another node goes on, numbers are reserved, and a message of
-- twelve octets goes out as a long one; after its first segment power is cut. It shows that the rules of a run don't
-- exclude each other.
use Rattle.std.specs.Prelude.{ℕ, ◌+◌, ◌*◌, ◌^◌, Bool, true, false, List, [], ◌∷◌, ◌++◌, None, replicate}
use Rattle.layer_definitions.specs.KeyRefresh.{master_material}
use Rattle.layer_definitions.specs.Lower.{lower_text, segment}
use Rattle.layer_definitions.specs.Network.{net_text}
use Rattle.mesh_base.specs.declared.fields.Heard.{Heard}
use Rattle.mesh_base.specs.declared.fields.NetFields.{NetFields}
use Rattle.mesh_base.specs.declared.fields.NetMaterial.{NetMaterial}
use Rattle.mesh_base.specs.declared.iv_state.IvState.{IvState}
use Rattle.mesh_base.specs.declared.keys.UpperKey.TheVariants as U
use Rattle.mesh_base.specs.declared.pair.Name.{Name}
use Rattle.mesh_base.specs.declared.pair.Pair.{Pair}
use Rattle.mesh_types.specs.declared.answers.Answer.TheVariants as A
use Rattle.mesh_types.specs.declared.answers.KeyName.TheVariants as N
use Rattle.mesh_types.specs.declared.events.Event.{Event}
use Rattle.mesh_types.specs.declared.events.Event.TheVariants as E
use Rattle.mesh_types.specs.declared.events.SendKey.TheVariants as K
use Rattle.mesh_types.specs.declared.history.Entry.{Entry}
use Rattle.mesh_types.specs.declared.history.Sent.{Sent}
use Rattle.mesh_types.specs.declared.jobs.Job.{Job}
use Rattle.mesh_types.specs.declared.jobs.Job.TheVariants as J
use Rattle.mesh_types.specs.declared.lines.Outcome.TheVariants as O
use Rattle.record_types.specs.declared.records.StoreRecord.{StoreRecord}
use Rattle.record_types.specs.declared.records.StoreRecord.TheVariants as R
use Rattle.mesh_types.specs.declared.report.End.TheVariants as F
use Rattle.mesh_types.specs.declared.report.Opened.TheVariants as W
use Rattle.event_definitions.specs.Layers.{quiet_layers}
use Rattle.run_definitions.specs.Order.{Step, phase}
use Rattle.report_definitions.specs.Record.{Life, Run}
use Rattle.event_definitions.specs.Role.{node_role}
use Rattle.run_definitions.specs.RunOf.{RunOf, Script}
use Rattle.store_definitions.specs.Provisioning.{Provisioning, provisioned}
use Rattle.event_definitions.specs.Safe.{AreSafe}
use Rattle.run_definitions.specs.Seals.{own_fields}
pub use Rattle.report_definitions.specs.WorkedReports.{address}

abbrev pub pair : ℕ → Pair
pair seq = record { iv = 5; seq = seq }

-- The node: one element, 1201, with one network key, under the IV Index 5.

abbrev pub net_key : List ℕ
net_key =
    0x7d ∷ 0xd7 ∷ 0x36 ∷ 0x4c ∷ 0xd8 ∷ 0x42 ∷ 0xad ∷ 0x18 ∷ 0xc1 ∷ 0x7c ∷ 0x2b ∷ 0x82 ∷ 0x0c ∷ 0x84 ∷ 0xc3 ∷ 0xd6 ∷ []

abbrev pub dev_key : List ℕ
dev_key =
    0x9d ∷ 0x6d ∷ 0xd0 ∷ 0xe9 ∷ 0x6e ∷ 0xb2 ∷ 0x5d ∷ 0xc1 ∷ 0x9a ∷ 0x40 ∷ 0xed ∷ 0x99 ∷ 0x14 ∷ 0xf8 ∷ 0xf0 ∷ 0x3f ∷ []

abbrev pub node : Provisioning
node =
    record {
      unicast = address 0x1201;
      elements = 1;
      iv = 5;
      in_progress = false;
      net_index = 0;
      net_key = net_key;
      dev_key = dev_key;
    }

-- what its PDUs are read and sealed with
abbrev pub material : NetMaterial
material = master_material net_key

abbrev pub key_heard : Heard
key_heard = record { index = 0; lpn = None; fresh = false; material = material }

-- What is heard: an access message of three octets under the device key, of the node 0003; and a control message of
-- another node to another one.

abbrev pub asked : List ℕ
asked = 0x80 ∷ 0x08 ∷ 0x00 ∷ []

abbrev pub asked_upper : List ℕ
asked_upper = 0x17 ∷ 0xd3 ∷ 0x28 ∷ 0x9b ∷ 0x43 ∷ 0x47 ∷ 0xda ∷ []

abbrev pub asked_fields : NetFields
asked_fields =
    record { iv = 5; ctl = false; ttl = 4; seq = 1; src = address 3; dst = address 0x1201; tpdu = 0 ∷ asked_upper }

abbrev pub asked_name : Name
asked_name = record { src = address 3; pair = pair 1 }

abbrev pub passing_fields : ℕ → NetFields
passing_fields ttl =
    record { iv = 5; ctl = true; ttl = ttl; seq = 16; src = address 5; dst = address 9; tpdu = 0x7f ∷ [] }

-- What the node sends: twelve octets under its device key, in two segments.

abbrev pub said : List ℕ
said = replicate 12 0x7f

abbrev pub said_upper : List ℕ
said_upper =
    0xaa ∷ 0x0c ∷ 0xe4 ∷ 0x87 ∷ 0x5f ∷ 0x89 ∷ 0xd6 ∷ 0x62 ∷ 0x18 ∷ 0xa4 ∷ 0x89 ∷ 0x0c ∷ 0xce ∷ 0x72 ∷ 0x53 ∷ 0x0e ∷ []

abbrev pub said_name : Name
said_name = record { src = address 0x1201; pair = pair 0 }

abbrev pub said_segment : ℕ → Bool → Job
said_segment seg_o first =
    J.Segment
    (record {
      material = material;
      name = said_name;
      ttl = 7;
      dst = address 3;
      seg_o = seg_o;
      seg_n = 1;
      tpdu = lower_text (segment false 0 0 said_upper seg_o);
      first = first;
    })

-- The events, and the entries of them.

abbrev pub asked_event : Event
asked_event = E.Net (net_text material asked_fields)

abbrev pub passing_event : Event
passing_event = E.Net (net_text material (passing_fields 2))

abbrev pub said_event : Event
said_event = E.Send 0 (address 3) 7 K.Own said

abbrev pub begin_event : Event
begin_event =
    E.Begin
    (record {
      name = said_name;
      dst = address 3;
      ttl = 7;
      net = 0;
      akf = false;
      aid = 0;
      upper = said_upper;
    })

abbrev pub entries : List Entry
entries =
    record {
      bearer = 0;
      number = 1;
      event = asked_event;
      fills = 0;
      answer = A.Delivered asked_name (address 0x1201) N.Dev asked;
      jobs = [];
    }
    ∷ record {
      bearer = 0;
      number = 2;
      event = passing_event;
      fills = 0;
      answer = A.NotMine;
      jobs = J.Relay material (passing_fields 1) ∷ [];
    }
    ∷ record {
      bearer = 0;
      number = 3;
      event = said_event;
      fills = 0;
      answer = A.Planned;
      jobs = J.Sent 0 material (U.Device dev_key) 7 (address 0x1201) (address 3) ∷ [];
    }
    ∷ record {
      bearer = 0;
      number = 4;
      event = begin_event;
      fills = 1;
      answer = A.Begun;
      jobs = said_segment 0 true ∷ said_segment 1 false ∷ [];
    }
    ∷ []

-- The lines: the PDU goes on, the message is sealed, and its first segment goes out.
abbrev pub lines : List Sent
lines =
    record {
      entry = 1;
      job = 0;
      outcome = O.Relay (pair 16) true 1 (address 5) (address 9) (0x7f ∷ []) (net_text material (passing_fields 1));
    }
    ∷ record { entry = 2; job = 0; outcome = O.Long (pair 0) 7 (address 0x1201) (address 3) N.Dev said }
    ∷ record {
      entry = 3;
      job = 0;
      outcome =
          O.Seg (pair 0) 7 (address 0x1201) (address 3) 0 1 0
          (net_text material
          (own_fields (pair 0) false 7 (address 0x1201) (address 3) (lower_text (segment false 0 0 said_upper 0))));
    }
    ∷ []

abbrev pub opened_state : IvState
opened_state = record { current = 5; progress = false; hours = 0; since = 192 }

abbrev pub life : Life
life =
    record {
      opened = W.On opened_state (5 * 2 ^ 25);
      entries = entries;
      refills = 0;
      sends = lines ∷ [];
      end = F.Cut 12;
    }

-- what it leaves: the records of provisioning, the name of the message, and the numbers reserved
abbrev pub left : List StoreRecord
left = provisioned node ++ R.Replay asked_name None ∷ R.Numbers 5 false (5 * 2 ^ 25 + 256) 0 192 ∷ []

abbrev pub plan : List Step
plan = phase ((asked_event ∷ passing_event ∷ said_event ∷ []) ∷ []) ∷ []

abbrev pub script : Script
script = record { node = node; lives = plan ∷ [] }

abbrev pub run : Run
run = record { lives = record { over = provisioned node; life = life } ∷ []; last = left }

-- it is a run of its script
pub record IsWritten : Type 0 where
  pub safe : AreSafe quiet_layers
  pub run_of : RunOf (node_role quiet_layers) script run

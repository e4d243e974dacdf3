-- Two reports, each as the text of its record: the second worked example of the report's format, and one of a life that power cut.
use Rattle.std.specs.Prelude.{◌≡◌, ℕ, ◌*◌, ◌^◌, true, false, List, [], ◌∷◌, ◌++◌, None, codes, replicate}
use Rattle.std.specs.List.{flat_map}
use Rattle.mesh_base.specs.declared.address.Address.{Address}
use Rattle.mesh_base.specs.declared.fields.NetMaterial.{NetMaterial}
use Rattle.mesh_base.specs.declared.pair.Pair.{Pair}
use Rattle.mesh_types.specs.declared.answers.Answer.{Answer}
use Rattle.mesh_types.specs.declared.answers.Answer.TheVariants as A
use Rattle.mesh_types.specs.declared.answers.KeyName.TheVariants as N
use Rattle.mesh_types.specs.declared.events.Event.{Event}
use Rattle.mesh_types.specs.declared.events.Event.TheVariants as E
use Rattle.mesh_types.specs.declared.events.Outgoing.{Outgoing}
use Rattle.mesh_types.specs.declared.events.SendKey.TheVariants as S
use Rattle.mesh_types.specs.declared.history.Entry.{Entry}
use Rattle.mesh_types.specs.declared.history.Sent.{Sent}
use Rattle.mesh_types.specs.declared.jobs.Job.TheVariants as J
use Rattle.mesh_types.specs.declared.lines.Outcome.TheVariants as O
use Rattle.mesh_types.specs.declared.report.Opened.{Opened}
use Rattle.mesh_types.specs.declared.report.Opened.TheVariants as W
use Rattle.mesh_types.specs.declared.report.End.TheVariants as F
use Rattle.report_definitions.specs.Record.{Run}
use Rattle.report_definitions.specs.Report.{report_text}

-- lines, each with its LF
abbrev pub lines_text : List (List ℕ) → List ℕ
lines_text lines = flat_map (λ line. line ++ 10 ∷ []) lines

abbrev pub address : ℕ → Address
address n = record { 0 = n }

-- a pair under the IV Index 12345678
abbrev pub pair : ℕ → Pair
pair seq = record { iv = 0x12345678; seq = seq }

-- how a life opens first: with the IV state and the mark of provisioning under the IV Index 12345678
abbrev pub opened : Opened
opened = W.On (record { current = 0x12345678; progress = false; hours = 0; since = 192 }) (0x12345678 * 2 ^ 25)

-- the master credentials of the network key 7dd7364cd842ad18c17c2b820c84c3d6
abbrev pub material : NetMaterial
material = record {
  nid = 0x68;
  encryption =
      0x09 ∷ 0x53 ∷ 0xfa ∷ 0x93 ∷ 0xe7 ∷ 0xca ∷ 0xac ∷ 0x96 ∷ 0x38 ∷ 0xf5 ∷ 0x88 ∷ 0x20 ∷ 0x22 ∷ 0x0a ∷ 0x39 ∷ 0x8e
      ∷ [];
  privacy =
      0x8b ∷ 0x84 ∷ 0xee ∷ 0xde ∷ 0xc1 ∷ 0x00 ∷ 0x06 ∷ 0x7d ∷ 0x67 ∷ 0x09 ∷ 0x71 ∷ 0xdd ∷ 0x2a ∷ 0xa7 ∷ 0x00 ∷ 0xcf
      ∷ [];
}

-- The node 1201 sends a control PDU twice.

-- a Friend Request
abbrev pub request : List ℕ
request = 0x03 ∷ 0x4b ∷ 0x50 ∷ 0x05 ∷ 0x7e ∷ 0x40 ∷ 0x00 ∷ 0x00 ∷ 0x01 ∷ 0x00 ∷ 0x00 ∷ []

abbrev pub first_pdu : List ℕ
first_pdu =
    0x68 ∷ 0xff ∷ 0xb8 ∷ 0xa0 ∷ 0x74 ∷ 0xaa ∷ 0xf6 ∷ 0xaa ∷ 0xe4 ∷ 0x4a ∷ 0x1d ∷ 0x1d ∷ 0xab ∷ 0x0f ∷ 0xdb ∷ 0x37 ∷ 0xff
    ∷ 0x52 ∷ 0x6b ∷ 0x27 ∷ 0x39 ∷ 0x84 ∷ 0x0e ∷ 0xe0 ∷ 0xf0 ∷ 0xde ∷ 0x9a ∷ 0xf6 ∷ []

abbrev pub second_pdu : List ℕ
second_pdu =
    0x68 ∷ 0xec ∷ 0xa4 ∷ 0x87 ∷ 0x51 ∷ 0x67 ∷ 0x65 ∷ 0xb5 ∷ 0xe5 ∷ 0xbf ∷ 0xda ∷ 0xcb ∷ 0xaf ∷ 0x6c ∷ 0xb7 ∷ 0xfb ∷ 0x6b
    ∷ 0xff ∷ 0x87 ∷ 0x1f ∷ 0x03 ∷ 0x54 ∷ 0x44 ∷ 0xce ∷ 0x83 ∷ 0xa6 ∷ 0x70 ∷ 0xdf ∷ []

abbrev pub request_entry : ℕ → Entry
request_entry number = record {
  bearer = 0;
  number = number;
  event = E.Raw (address 0xfffd) 0 request;
  fills = 0;
  answer = A.Planned;
  jobs = J.Control material 0 (address 0x1201) (address 0xfffd) request None ∷ [];
}

abbrev pub request_line : ℕ → ℕ → List ℕ → Sent
request_line entry seq pdu = record {
  entry = entry;
  job = 0;
  outcome = O.Ctl (pair seq) 0 (address 0x1201) (address 0xfffd) request pdu;
}

abbrev pub two_requests : Run
two_requests = record {
  lives = record {
    over = [];
    life = record {
      opened = opened;
      entries = request_entry 1 ∷ request_entry 2 ∷ [];
      refills = 0;
      sends = (request_line 0 0 first_pdu ∷ request_line 1 1 second_pdu ∷ []) ∷ [];
      end = F.Ended;
    };
  } ∷ [];
  last = [];
}

-- its report, where the lines of its jobs have these words at their ends
abbrev pub request_lines : List ℕ → List ℕ → List ℕ
request_lines first second = lines_text (
    codes "life 1 12345678 n 12345678 000000"
    ∷ codes "e 1 b0 1 raw planned"
    ∷ codes "e 2 b0 2 raw planned"
    ∷ (codes "s b0 1.1 ctl 12345678 000000 00 1201 fffd 034b50057e400000010000" ++ first)
    ∷ (codes "s b0 2.1 ctl 12345678 000001 00 1201 fffd 034b50057e400000010000" ++ second)
    ∷ codes "end"
    ∷ [])

-- A Poll is answered, and the answer is kept; a message of twelve octets goes out in two segments, and power is cut after the first.

-- the node's Friend Update for the Low Power node 0201
abbrev pub update : List ℕ
update = 0x02 ∷ 0x00 ∷ 0x12 ∷ 0x34 ∷ 0x56 ∷ 0x78 ∷ 0x00 ∷ []

-- twelve octets that a message carries
abbrev pub payload : List ℕ
payload = replicate 12 0x7f

-- an entry of bearer 0
abbrev pub entry_of : ℕ → Event → Answer → Entry
entry_of number event answer =
    record { bearer = 0; number = number; event = event; fills = 0; answer = answer; jobs = [] }

-- a message to address 3 that goes in segments
abbrev pub begun : Outgoing
begun =
    record {
      name = record { src = address 0x1201; pair = pair 1 };
      dst = address 3;
      ttl = 7;
      net = 0;
      akf = false;
      aid = 0;
      upper = [];
    }

abbrev pub cut_entries : List Entry
cut_entries =
    entry_of 1 (E.Net []) (A.Control (record { src = address 0x0201; pair = pair 2 }) (address 0x1201) 1 (0 ∷ []))
    ∷ entry_of 2 (E.Kept (address 0x0201) false (record { src = address 0x1201; pair = pair 0 }) []) A.Kept
    ∷ entry_of 3 (E.Send 0 (address 3) 7 S.Own payload) A.Planned
    ∷ entry_of 4 (E.Begin begun) A.Begun
    ∷ []

abbrev pub cut_lines : List Sent
cut_lines =
    record { entry = 0; job = 0; outcome = O.Ctl (pair 0) 0 (address 0x1201) (address 0x0201) update [] }
    ∷ record { entry = 2; job = 0; outcome = O.Long (pair 1) 7 (address 0x1201) (address 3) N.Dev payload }
    ∷ record { entry = 3; job = 0; outcome = O.Seg (pair 1) 7 (address 0x1201) (address 3) 0 1 1 [] }
    ∷ []

abbrev pub cut_run : Run
cut_run = record {
  lives = record {
    over = [];
    life = record { opened = opened; entries = cut_entries; refills = 0; sends = cut_lines ∷ []; end = F.Cut 4 };
  } ∷ record {
    over = [];
    life = record { opened = W.CutAtStart; entries = []; refills = 0; sends = []; end = F.Cut 0 };
  } ∷ record {
    over = [];
    life = record { opened = W.WasReset; entries = []; refills = 0; sends = []; end = F.Ended };
  } ∷ [];
  last = [];
}

abbrev pub cut_text : List ℕ
cut_text = lines_text (
    codes "life 1 12345678 n 12345678 000000"
    ∷ codes "e 1 b0 1 net control 0201 1201 12345678 000002 01 00"
    ∷ codes "e 2 b0 2 kept kept"
    ∷ codes "e 3 b0 3 send planned"
    ∷ codes "e 4 b0 4 begin begun"
    ∷ codes "s b0 1.1 ctl 12345678 000000 00 1201 0201 02001234567800"
    ∷ codes "s b0 3.1 long 12345678 000001 07 1201 0003 dev 7f7f7f7f7f7f7f7f7f7f7f7f"
    ∷ codes "s b0 4.1 seg 12345678 000001 07 1201 0003 0 1 000001"
    ∷ codes "cut 4"
    ∷ codes "life 2 cut"
    ∷ codes "cut 0"
    ∷ codes "life 3 wasreset"
    ∷ [])

-- each record has its report
pub record AreWorkedReports : Type 0 where
  pub requests : report_text two_requests false ≡ request_lines [] []
  pub requests_with_octets :
      report_text two_requests true
      ≡ request_lines (codes " 68ffb8a074aaf6aae44a1d1dab0fdb37ff526b2739840ee0f0de9af6")
      (codes " 68eca487516765b5e5bfdacbaf6cb7fb6bff871f035444ce83a670df")
  pub cut : report_text cut_run false ≡ cut_text

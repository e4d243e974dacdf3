-- Scripts that are generated: so many lines of bearers, which follow from numbers one behind another.
use Rattle.std.specs.Prelude.{ℕ, zero, suc, ◌+◌, ◌-◌, ◌*◌, ◌/◌, ◌%◌, ◌^◌, ◌==◌, min, true, if◌then◌else◌, List, [], ◌∷◌, map}
use Rattle.std.specs.List.{range_with_len}
use Rattle.mesh_base.specs.declared.address.Address.{Address}
use Rattle.script_definitions.specs.declared.line.ScriptLine.{ScriptLine}
use Rattle.script_definitions.specs.declared.line.ScriptLine.TheVariants as L
use Rattle.script_definitions.specs.declared.line.ScriptNet.TheVariants as N
use Rattle.script_definitions.specs.declared.script.ProvisionLine.{ProvisionLine}
use Rattle.script_definitions.specs.declared.script.Script.{Script}

-- the number behind a number
abbrev pub next_number : ℕ → ℕ
next_number x = (1664525 * x + 1013904223) % 2 ^ 32

-- the number of line i, from 1 on
abbrev pub number_at : ℕ → ℕ → ℕ
number_at start zero = start
number_at start (suc i) = next_number (number_at start i)

-- What a number says of its line: the highest 3 bits are the bearer, and the lowest 2 of the highest octet the kind.

abbrev pub bearer_of : ℕ → ℕ
bearer_of x = x / 2 ^ 29

abbrev pub kind_of : ℕ → ℕ
kind_of x = x / 2 ^ 24 % 4

-- eight sources on each bearer
abbrev pub source_of : ℕ → Address
source_of x = record { 0 = 0x100 + 8 * bearer_of x + x / 2 ^ 16 % 8 }

-- The lines.

abbrev pub net_key : List ℕ
net_key =
    0x7d ∷ 0xd7 ∷ 0x36 ∷ 0x4c ∷ 0xd8 ∷ 0x42 ∷ 0xad ∷ 0x18 ∷ 0xc1 ∷ 0x7c ∷ 0x2b ∷ 0x82 ∷ 0x0c ∷ 0x84 ∷ 0xc3 ∷ 0xd6 ∷ []

abbrev pub dev_key : List ℕ
dev_key =
    0x9d ∷ 0x6d ∷ 0xd0 ∷ 0xe9 ∷ 0x6e ∷ 0xb2 ∷ 0x5d ∷ 0xc1 ∷ 0x9a ∷ 0x40 ∷ 0xed ∷ 0x99 ∷ 0x14 ∷ 0xf8 ∷ 0xf0 ∷ 0x3f ∷ []

-- `provision 1201 1 12345678 00 000 ..`: one element
abbrev pub provision_line : ProvisionLine
provision_line = record {
  unicast = record { 0 = 0x1201 };
  elements = 1;
  iv = 0x12345678;
  flags = 0;
  net_index = 0;
  net_key = net_key;
  dev_key = dev_key;
}

-- `bK raw fffd 00 034b50057e400000010000`: the node sends a Friend Request
abbrev pub raw_line : ℕ → ScriptLine
raw_line x =
    L.Raw (bearer_of x)
    (record {
      dst = record { 0 = 0xfffd };
      ttl = 0;
      tpdu = 0x03 ∷ 0x4b ∷ 0x50 ∷ 0x05 ∷ 0x7e ∷ 0x40 ∷ 0x00 ∷ 0x00 ∷ 0x01 ∷ 0x00 ∷ 0x00 ∷ [];
    })

-- `bK peer KEY 12345678 1 TTL SEQ SRC DST 7f`: a control PDU is heard
abbrev pub peer_line : ℕ → ℕ → ℕ → ℕ → ScriptLine
peer_line seq x ttl dst =
    L.Peer (bearer_of x)
    (record {
      net = N.Master net_key;
      fields = record {
        iv = 0x12345678;
        ctl = true;
        ttl = ttl;
        seq = seq;
        src = source_of x;
        dst = record { 0 = dst };
        tpdu = 0x7f ∷ [];
      };
    })

-- line i by its number: one of four is heard for the node itself, one of four is to be relayed, and the others are sent
unfoldable pub line_of : ℕ → ℕ → ScriptLine
line_of i x =
    if kind_of x == 2 then peer_line i x 0 0x1201
    else if kind_of x == 3 then peer_line i x 2 0x0009
    else raw_line x

abbrev pub line_at : ℕ → ℕ → ScriptLine
line_at start i = line_of i (number_at start i)

-- Life k, from 0 on, begins before line 4096 k + 1, and has 4,096 lines or those that are left.
abbrev pub life_at : ℕ → ℕ → ℕ → List ScriptLine
life_at count start k = map (line_at start) (range_with_len (4096 * k + 1) (min 4096 (count - 4096 * k)))

abbrev pub lives_of : ℕ → ℕ → List (List ScriptLine)
lives_of count start = map (life_at count start) (range_with_len 0 ((count + 4095) / 4096))

-- the script of so many lines, which begin behind the number `start`
abbrev pub generated : ℕ → ℕ → Script
generated count start = record { provision = provision_line; lives = lives_of count start }

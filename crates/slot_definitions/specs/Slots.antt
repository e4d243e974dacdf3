-- The octets of the node's flash: slots, the headers of the two banks, and the slots that an image recovers. An image is the 65,536
-- octets of the chip as they are read; erased octets are ff. (The layout is this project's own.)
use Rattle.std.specs.Prelude.{◌≡◌, ◌≢◌, ℕ, zero, suc, ◌+◌, ◌*◌, ◌-◌, ◌%◌, ◌<◌, ◌≤◌, List, [], ◌∷◌, ◌++◌, slice_index, slice_range, replicate, ◌&&◌, ◌||◌, ◌==◌, nat_lt, Bool, if◌then◌else◌, Option, Some, None, option_map, option_to_list}
use Rattle.std.specs.Int.{to_be_bytes, w32}
use Rattle.mesh_base.specs.declared.slot.Slot.{Slot}

-- Slots of 32 octets: a kind, 30 octets, and a gate. Slot number n of the flash lies from octet 32 n on; bank 0 has the slots 0 to 1,023
-- and bank 1 the next 1,024.

-- the 32 octets of a slot
abbrev pub text_at : List ℕ → ℕ → List ℕ
text_at content n = slice_range content (32 * n) (32 * n + 32)

-- of an erased slot
abbrev pub blank_text : List ℕ
blank_text = replicate 32 255

-- a slot with this record, its gate open
abbrev pub text_of : Slot → List ℕ
text_of slot = (slot.kind ∷ slot.body) ++ 0 ∷ []

abbrev pub gate_of : List ℕ → ℕ
gate_of text = slice_index text 31

-- what a text holds: only gate 00 counts
abbrev pub gated : List ℕ → Option Slot
gated text =
    if gate_of text == 0 then Some (record { kind = slice_index text 0; body = slice_range text 1 31 }) else None

-- what the slots 1 to n of a bank hold, in order
abbrev pub slots_to : List ℕ → ℕ → ℕ → List Slot
slots_to content bank zero = []
slots_to content bank (suc n) =
    slots_to content bank n ++ option_to_list (gated (text_at content (1024 * bank + suc n)))

-- all that the slots of a bank hold
unfoldable pub slots_of : List ℕ → ℕ → List Slot
slots_of content bank = slots_to content bank 1023

-- Slot 0 of a bank is its header: kind f0, the format 01 or 02, the generation in 4 octets and its complement in 4, zeros. Generations
-- tell which bank counts, and the format how its slots are read.

abbrev pub format_of : List ℕ → ℕ
format_of text = slice_index text 1

-- the number in 4 octets, the high one first
abbrev pub number_at : List ℕ → ℕ → ℕ
number_at text at =
    16777216 * slice_index text at + 65536 * slice_index text (at + 1) + 256 * slice_index text
    (at + 2) + slice_index text (at + 3)

abbrev pub generation_of : List ℕ → ℕ
generation_of text = number_at text 2

-- gate 00, format 01 or 02, and a true complement
unfoldable pub is_sound : List ℕ → Bool
is_sound text =
    (gate_of text == 0) && (format_of text == 1 || format_of text == 2)
    && (number_at text 2 + number_at text 6 == 4294967295)

abbrev pub header_of : ℕ → ℕ → Slot
header_of format generation =
    record {
      kind = 240;
      body = format ∷ to_be_bytes w32 generation ++ to_be_bytes w32 (4294967295 - generation) ++ replicate 21 0;
    }

-- Of two sound headers the one counts whose generation is the other's plus one, modulo 2 ^ 32; where neither is, the greater, and bank 0
-- where they are equal.
abbrev pub newer : ℕ → ℕ → ℕ
newer first second =
    if second == (first + 1) % 4294967296 then 1
    else (if first == (second + 1) % 4294967296 then 0
    else (if nat_lt first second then 1 else 0))

-- the bank that counts, by the headers of both
unfoldable pub counting_by : List ℕ → List ℕ → Option ℕ
counting_by first second =
    if is_sound first
    then (if is_sound second then Some (newer (generation_of first) (generation_of second)) else Some 0)
    else (if is_sound second then Some 1 else None)

abbrev pub counting : List ℕ → Option ℕ
counting content = counting_by (text_at content 0) (text_at content 1024)

-- what a bank holds: its format, and its slots in order
pub record Held : Type 0 where
  pub format : ℕ
  pub slots : List Slot

abbrev pub held_by : List ℕ → ℕ → Held
held_by content bank = record { format = format_of (text_at content (1024 * bank)); slots = slots_of content bank }

-- What an image recovers: what the bank that counts holds, and nothing where no header is sound.
abbrev pub recovered : List ℕ → Option Held
recovered content = option_map (held_by content) (counting content)

-- the bank that counts has this format
abbrev pub HasFormat : ℕ → List ℕ → Type 0
HasFormat format content = option_map (λ (h : Held). h.format) (recovered content) ≡ Some format

-- so many slots of the bank are used: behind them all is ff, and the last isn't
pub record IsUsed (content : List ℕ) (bank used : ℕ) : Type 0 where
  pub few : used ≤ 1023
  pub blank : (n : ℕ) → used < n → n ≤ 1023 → text_at content (1024 * bank + n) ≡ blank_text
  pub last : 0 < used → text_at content (1024 * bank + used) ≢ blank_text

-- Opcodes of access messages and the Composition Data (Mesh Profile 1.0.1). Section numbers are the profile's.
use Rattle.std.specs.Prelude.{◌≡◌, ℕ, zero, suc, ◌+◌, ◌*◌, ◌/◌, ◌%◌, ◌==◌, ◌&&◌, ◌||◌, nat_lt, nat_le, Bool, true, IsTrue, if◌then◌else◌, List, [], ◌∷◌, ◌++◌, Option, Some, None, length, take, drop, fold, replicate}
use Rattle.std.specs.List.{flat_map}
use Rattle.cipher_definitions.specs.Octets.{two_octets, three_octets}
use Rattle.model_states.specs.declared.access.Opcode.{Opcode}

-- two octets of a number, the low one first, as in all access messages (3.1.1.2)
abbrev pub two_low_first : ℕ → List ℕ
two_low_first n = n % 256 ∷ n / 256 % 256 ∷ []

-- Opcodes (3.7.3.1).

-- The numbers that are opcodes: one octet 00 to 7e, as 7f is reserved; two octets, the first 80 to bf; three octets, the first c0 to ff.
abbrev pub is_opcode : ℕ → Bool
is_opcode n = nat_lt n 0x7f || (nat_le 0x8000 n && nat_lt n 0xc000) || (nat_le 0xc00000 n && nat_lt n 0x1000000)

-- the octets of an opcode, the high one first
abbrev pub opcode_text : ℕ → List ℕ
opcode_text n = if nat_lt n 0x100 then n ∷ [] else if nat_lt n 0x10000 then two_octets n else three_octets n

-- The first octets of a payload, so many, are this opcode.
pub record ReadsOpcode (payload : List ℕ) (opcode : Opcode) (count : ℕ) : Type 0 where
  pub is : IsTrue (is_opcode opcode.0)
  pub text : opcode_text opcode.0 ≡ take count payload
  pub size : length (opcode_text opcode.0) ≡ count

-- how many octets an opcode has, by the first of them
abbrev pub opcode_size : ℕ → ℕ
opcode_size first = if nat_lt first 0x80 then 1 else if nat_lt first 0xc0 then 2 else 3

-- a payload is shorter than its first octet says, or begins with 7f
abbrev pub has_no_opcode : List ℕ → Bool
has_no_opcode [] = true
has_no_opcode (first ∷ rest) = first == 0x7f || nat_lt (suc (length rest)) (opcode_size first)

-- the opcode that a payload begins with, as a number, and the parameters behind it
abbrev pub opcode_in : List ℕ → Option (ℕ × List ℕ)
opcode_in [] = None
opcode_in (first ∷ rest) =
    if has_no_opcode (first ∷ rest) then None
    else Some (
      fold (λ n octet. n * 256 + octet) 0 (take (opcode_size first) (first ∷ rest)),
      drop (opcode_size first) (first ∷ rest),
    )

-- Composition Data Page 0 (4.2.1).

-- one element: its location 0000, how many SIG models and vendor models it has, and the SIG models (4.2.1.1)
abbrev pub element_text : List ℕ → List ℕ
element_text models = two_low_first 0 ++ length models ∷ 0 ∷ flat_map two_low_first models

-- the Generic OnOff Server and the Generic Level Server
abbrev pub generic_servers : List ℕ
generic_servers = 0x1000 ∷ 0x1002 ∷ []

-- the first element has the Configuration Server, 0000, beside them
abbrev pub elements_text : ℕ → List ℕ
elements_text zero = []
elements_text (suc others) =
    element_text (0x0000 ∷ generic_servers) ++ flat_map element_text (replicate others generic_servers)

-- CID ffff, PID 0001, VID 0001, CRPL, which is the size of the replay list, and Features 0005, Relay and Friend; then the elements
unfoldable pub composition : ℕ → ℕ → List ℕ
composition elements crpl =
    flat_map two_low_first (0xffff ∷ 0x0001 ∷ 0x0001 ∷ crpl ∷ 0x0005 ∷ []) ++ elements_text elements

-- Headers octet by octet.
use Rattle.std.proofs.Common.{◌≡◌, ℕ, ◌+◌, ◌*◌, ◌/◌, ◌%◌, ◌<◌, List, [], ◌∷◌, ◌++◌, length, get_or, nat_le, if◌then◌else◌, sym, ◌∙◌, refl, arith, ap}
use Rattle.cipher_definitions.proofs.Octets.{three_octets-of, two_octets-of}
use Rattle.cipher_definitions.specs.Octets.{two_octets, three_octets}
use Rattle.layer_definitions.proofs.OctetLaws.{six_octets}

-- an octet of CTL and TTL, taken apart and put together
pub control_octet : (a : ℕ) → a < 256 → (if nat_le 128 a then 128 else 0) + a % 128 ≡ a
control_octet a h = grind arith

-- a header, taken apart and put together
pub header_of : (h : List ℕ) (seq src : ℕ) → length h ≡ 6 → ((i : ℕ) → get_or h i 0 < 256)
    → seq ≡ get_or h 1 0 * 65536 + (get_or h 2 0 * 256 + get_or h 3 0) → src ≡ get_or h 4 0 * 256 + get_or h 5 0
    → ((if nat_le 128 (get_or h 0 0) then 128 else 0) + get_or h 0 0 % 128) ∷ three_octets seq ++ two_octets src ≡ h
header_of h seq src e fits s t =
    ap (λ x. x ∷ three_octets seq ++ two_octets src) (control_octet (get_or h 0 0) (fits 0))
    ∙ ap (λ l. get_or h 0 0 ∷ l ++ two_octets src) (three_octets-of seq (get_or h 1 0) (get_or h 2 0) (get_or h 3 0) (fits 1) (fits 2) (fits 3) s)
    ∙ ap (λ l. get_or h 0 0 ∷ get_or h 1 0 ∷ get_or h 2 0 ∷ get_or h 3 0 ∷ l) (two_octets-of src (get_or h 4 0) (get_or h 5 0) (fits 4) (fits 5) t)
    ∙ sym (six_octets h e)

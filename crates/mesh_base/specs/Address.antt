-- The kinds of addresses (Mesh Profile 1.0.1, section 3.4.2).
use Rattle.std.specs.Prelude.{◌/◌, ◌==◌, ◌&&◌, nat_le, nat_lt, Bool, if◌then◌else◌, ◌^◌, ℕ}
use Rattle.mesh_base.specs.declared.address.Address.{Address}
use Rattle.mesh_base.specs.declared.address.AddressKind.{AddressKind}
use Rattle.mesh_base.specs.declared.address.AddressKind.TheVariants.{Unassigned, Unicast, Virtual, Group}

-- the number in the two highest bits of an address
abbrev pub high_bits : Address → ℕ
high_bits a = a.0 / 2 ^ 14

-- The unassigned address is 0. A unicast address has bit 15 clear and isn't 0; a virtual address has bit 15 set and bit 14
-- clear; a group address has both set.
unfoldable pub kind_of : Address → AddressKind
kind_of a =
    if a.0 == 0 then Unassigned
    else if nat_lt (high_bits a) 2 then Unicast
    else if high_bits a == 2 then Virtual
    else Group

-- The same by the ranges of the numbers; `value`, and the clauses beside it, of `Address::kind` say that both are one.

-- 0000: the address of no element yet (section 3.4.2.1)
abbrev pub is_unassigned : Address → Bool
is_unassigned a = a.0 == 0

-- 0001 to 7fff: the address of one element (section 3.4.2.2)
abbrev pub is_unicast : Address → Bool
is_unicast a = nat_le 1 a.0 && nat_lt a.0 0x8000

-- 8000 to bfff: the address of a label (section 3.4.2.3)
abbrev pub is_virtual : Address → Bool
is_virtual a = nat_le 0x8000 a.0 && nat_lt a.0 0xc000

-- c000 to ffff: the address of a group (section 3.4.2.4)
abbrev pub is_group : Address → Bool
is_group a = nat_le 0xc000 a.0

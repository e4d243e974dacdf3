-- The addresses so far are written.
use Rattle.std.proofs.Common.{◌≡◌, ◌∷◌, take}
use Rattle.layer_definitions.specs.Control.{address_octets}
use Rattle.upper_transport.proofs.control_writing.list_octets.Given as goal

abbrev pub invariant-loop-address : goal.invariant-loop-address
invariant-loop-address l = record {
  value : l.out ≡ l.opcode ∷ l.l.transaction ∷ address_octets (take l.address-index l.address-items);
  items : l.address-items ≡ l.l.addresses;
}

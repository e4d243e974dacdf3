-- The addresses so far, and the octets that are left, are all the octets.
use Rattle.std.proofs.Common.{◌≡◌, ◌+◌, ◌*◌, ◌%◌, ◌++◌, length}
use Rattle.layer_definitions.specs.Control.{AreAddresses, address_octets}
use Rattle.upper_transport.proofs.ControlRows.{AreOctets}
use Rattle.upper_transport.proofs.control_reading.addresses_of.Given as goal

abbrev pub invariant-loop-rest : goal.invariant-loop-rest
invariant-loop-rest l = record {
  value : address_octets l.addresses ++ l.rest ≡ l.octets;
  widths : AreAddresses l.addresses;
  octets : AreOctets l.rest;
  count : 2 * length l.addresses + length l.rest ≡ length l.octets;
  even : length l.rest % 2 ≡ 0;
}

abbrev pub decreases-loop-rest : goal.decreases-loop-rest
decreases-loop-rest l = length l.rest

use Rattle.mesh_kdf.proofs.Parts.{first_part, second_part, third_part}
use Rattle.std.proofs.Common.{sym}
use Rattle.mesh_kdf.proofs.derivations.last_263_bits.Goals as goal

pub returns-clause-nid : goal.returns-clause-nid
returns-clause-nid c = sym (first_part c.args.first.now c.args.second.now c.args.third.now (record {
  first = record { each = c.are_octets.ensures };
  second = record { each = c.are_octets-2.ensures };
  third = record { each = c.are_octets-3.ensures };
  first_length = c.told-first;
  second_length = c.told-second;
  third_length = c.told-third;
}))

pub returns-clause-encryption : goal.returns-clause-encryption
returns-clause-encryption c = sym (second_part c.args.first.now c.args.second.now c.args.third.now (record {
  first = record { each = c.are_octets.ensures };
  second = record { each = c.are_octets-2.ensures };
  third = record { each = c.are_octets-3.ensures };
  first_length = c.told-first;
  second_length = c.told-second;
  third_length = c.told-third;
}))

pub returns-clause-privacy : goal.returns-clause-privacy
returns-clause-privacy c = sym (third_part c.args.first.now c.args.second.now c.args.third.now (record {
  first = record { each = c.are_octets.ensures };
  second = record { each = c.are_octets-2.ensures };
  third = record { each = c.are_octets-3.ensures };
  first_length = c.told-first;
  second_length = c.told-second;
  third_length = c.told-third;
}))

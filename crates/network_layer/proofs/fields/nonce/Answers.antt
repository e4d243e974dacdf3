use Rattle.std.proofs.Common.{refl}
use Rattle.layer_definitions.proofs.OctetLaws.{six_octets}
use Rattle.network_layer.proofs.fields.nonce.Goals as goal

pub returns-clause-value : goal.returns-clause-value
returns-clause-value c = rw (c.write_u32.ensures, c.copy_from_slice.ensures.after, six_octets c.args.header.now c.told-header) refl

pub returns-clause-length : goal.returns-clause-length
returns-clause-length c = rw (c.write_u32.ensures, c.copy_from_slice.ensures.after, six_octets c.args.header.now c.told-header) refl

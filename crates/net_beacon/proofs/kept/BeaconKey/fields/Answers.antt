use Rattle.std.proofs.Common.{◌≡◌, ◌∙◌, ap, refl}
use Rattle.cipher_definitions.specs.Kdf.{network_id}
use Rattle.net_beacon.proofs.Texts.{eight_octets, length-network_id}
use Rattle.net_beacon.proofs.kept.BeaconKey.fields.Goals as goal

pub returns-clause-value : goal.returns-clause-value
returns-clause-value c =
    let id : c.self.inside.id ≡ network_id c.args.self.now = c.self.invariant.0 ∙ ap network_id c.self.view_is in
    rw (c.write_u32.ensures, c.copy_from_slice.ensures.after, id, eight_octets _ (length-network_id c.args.self.now)) refl

pub returns-clause-length : goal.returns-clause-length
returns-clause-length c =
    let id : c.self.inside.id ≡ network_id c.args.self.now = c.self.invariant.0 ∙ ap network_id c.self.view_is in
    rw (c.write_u32.ensures, c.copy_from_slice.ensures.after, id, eight_octets _ (length-network_id c.args.self.now)) refl

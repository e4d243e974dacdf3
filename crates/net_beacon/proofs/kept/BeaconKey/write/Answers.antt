use Rattle.std.proofs.Common.{◌≡◌, ◌∙◌, ap, refl}
use Rattle.cipher_definitions.specs.Kdf.{beacon_key}
use Rattle.layer_definitions.specs.Beacon.{beacon_text}
use Rattle.net_beacon.proofs.Texts.{joined}
use Rattle.net_beacon.proofs.kept.BeaconKey.write.Goals as goal

pub returns : goal.returns
unfolding beacon_text
returns c =
    let key : c.self.inside.schedule ≡ beacon_key c.args.self.now = c.self.invariant.1 ∙ ap beacon_key c.self.view_is in
    record {
      value =
          rw (c.copy_from_slice.ensures.after, c.copy_from_slice-2.ensures.after)
          (joined c.fields-fields.result _ c.fields-fields.ensures.length ∙ rw (c.cmac_kept-mac.ensures.value, key, c.fields-fields.ensures.value) refl);
    }

-- What is sealed has enough octets for Privacy Random.
use Rattle.layer_definitions.proofs.NetworkLaws.{length-sealed_part-least}
use Rattle.network_layer.proofs.sealing.seal_kept.Goals as goal

pub mask-mask-requires : goal.mask-mask-requires
mask-mask-requires c =
    rw (c.as_slice.ensures.value, c.sealed-sealed.ensures) (length-sealed_part-least c.args.m.now c.args.f.now c.requires.fields)

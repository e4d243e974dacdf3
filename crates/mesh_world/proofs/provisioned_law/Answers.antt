use Rattle.std.proofs.Common.{◌≡◌, inl, refl, lit<, lit≤, []}
use Rattle.std.proofs.lemmas.List.Elements.{All-cons, All-nil}
use Rattle.mesh_base.specs.declared.keys.UpperKey.TheVariants.{Device}
use Rattle.mesh_world.specs.Examples.{first_pair, network_fields, network_seal, upper_fields}
use Rattle.mesh_world.specs.World.{IsOf, Sealing}
use Rattle.mesh_world.specs.World.Layer.{Network, Upper}
use Rattle.mesh_world.proofs.provisioned_law.Goals as goal

-- the network seal isn't one of the upper transport layer
other_layer : Network ≡ Upper → ⊥
other_layer e = cc

pub returns-clause-steps : goal.returns-clause-steps
returns-clause-steps c =
    let of_network = λ (s : Sealing). IsOf Network first_pair s → ⊥ in
    let of_upper = λ (s : Sealing). IsOf Upper first_pair s → ⊥ in (
      (lit≤ tt, lit≤ tt),
      (
        (lit≤ tt, lit≤ tt),
        (
          (lit< tt, (lit< tt, lit< tt)),
          (
            ((0, lit< tt, refl), All-nil of_network, (network_fields, refl, refl, refl)),
            (
              ((0, lit< tt, refl), All-cons of_upper network_seal [] (λ e. other_layer e.0) (All-nil of_upper), (Device [], upper_fields, refl, refl)),
              ((inl refl, tt), (refl, ((lit≤ tt, lit≤ tt), (refl, ((lit≤ tt, lit≤ tt), (lit≤ tt, (lit≤ tt, tt))))))),
            ),
          ),
        ),
      ),
    )

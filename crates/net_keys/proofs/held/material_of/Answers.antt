use Rattle.std.proofs.Common.{[], ◌∙◌, ap, refl}
use Rattle.mesh_base.specs.declared.fields.Heard.{Heard}
use Rattle.layer_definitions.specs.KeyRefresh.{master_material}
use Rattle.net_keys.proofs.Kept.{material_at}
use Rattle.net_keys.proofs.held.material_of.Goals as goal

pub returns-then-are_same : goal.returns-then-are_same
returns-then-are_same c =
    ap (λ (h : Heard). h.material) c.heard.ensures.value
    ∙ ap (λ (h : Heard). h.material) c.index-before-place.is
    ∙ material_at c.args.octets.now c.args.before.now c.loop-place.place c.index-before-place.result [] c.requires c.loop-place-test.true
    ∙ ap master_material (c.if-are_same.ensures refl)

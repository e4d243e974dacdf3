use Rattle.std.proofs.Common.{ap, ◌∙◌}
use Rattle.std.specs.Prelude.{◌==◌}
use Rattle.std.specs.List.{list_any}
use Rattle.mesh_base.specs.declared.address.Address.{Address}
use Rattle.virtual_labels.specs.Addresses.{has_address}
use Rattle.virtual_labels.proofs.Addresses.{any_address}
use Rattle.virtual_labels.proofs.kept.Labels.has.Goals as goal

pub returns : goal.returns
returns c = record {
  value =
      c.is_among.ensures
      ∙ ap (λ addresses. list_any (λ (a : Address). a.0 == c.args.address.0) addresses) (c.as_slice.ensures.value ∙ c.self.invariant)
      ∙ any_address c.self.inside.labels c.args.address
      ∙ ap (λ labels. has_address labels c.args.address) c.self.view_is;
}

use Rattle.std.proofs.Common.{ap, ◌∙◌}
use Rattle.layer_definitions.specs.KeyRefresh.{app_keys}
use Rattle.mesh_reading.proofs.Places.{opened_labelled}
use Rattle.mesh_reading.specs.Keys.{HeldKeys}
use Rattle.mesh_reading.proofs.keys.Keys.open_labelled.Goals as goal

pub returns-in-Ok : goal.returns-in-Ok
returns-in-Ok c =
    let keys = ap (λ (k : HeldKeys). app_keys k.apps c.args.net c.args.aid) c.self.view_is in
    let labels = ap (λ (k : HeldKeys). k.labels) c.self.view_is in
    record {
      value = opened_labelled (app_keys c.args.self.now.apps c.args.net c.args.aid) _ c.as_slice.result.now c.args.self.now.labels c.self.inside.labels c.as_slice-in-Ok.result.now
          c.args.f.now c.args.upper.now c.in-Ok.found.label c.in-Ok.found.opened.at c.in-Ok.found.opened.payload _ _
          (c.values.ensures.fitting c.args.net c.args.aid ∙ keys) (c.as_slice.ensures.value ∙ c.candidates-keys.ensures.value ∙ keys) labels
          (c.as_slice-in-Ok.ensures.value ∙ labels) c.in-Ok.ensures.ok;
    }

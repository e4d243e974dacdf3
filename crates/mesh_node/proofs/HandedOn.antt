-- The writes of a held life were handed out: what it lived stays.
use Rattle.std.proofs.Common.{◌≡◌, ℕ, List, subst, sym}
use Rattle.flash_model.specs.Chip.{Chip}
use Rattle.event_definitions.specs.Role.{Role}
use Rattle.mesh_types.specs.declared.events.Event.{Event}
use Rattle.locked_node.specs.Node.{NodeView}
use Rattle.locked_node.specs.Stands.{IsNode}
use Rattle.mesh_node.specs.Held.{HasLived, HeldView}
use Rattle.mesh_node.specs.Told.{PhaseDid}
use Rattle.mesh_node.proofs.Holding.{held_handed}

pub handed_on : {F : Type 0} {role : Role} {image : List ℕ → Type 0} {chip : F → Chip} (self life : HeldView F) → life ≡ self → (phases : List (List (List Event))) (did : List PhaseDid) → HasLived role image chip self phases did
    → (node : NodeView F) → node ≡ record life.node { flash = node.flash } → IsNode role image chip node → HasLived role image chip (record life { node = node }) phases did
handed_on {role = role} {image = image} {chip = chip} self life is phases did h node frame known =
    let told : HasLived role image chip life phases did = subst (λ l. HasLived role image chip l phases did) (sym is) h in
    subst (λ n. HasLived role image chip (record life { node = n }) phases did) (sym frame) (held_handed role image chip life phases did told node.flash (subst (λ n. IsNode role image chip n) frame known))

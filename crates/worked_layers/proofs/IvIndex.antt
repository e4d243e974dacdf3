-- By computation.
use Rattle.std.proofs.Common.{◌≡◌, ℕ, ◌↔◌, List, ◌∷◌, refl, inl, inr, arith}
use Rattle.layer_definitions.specs.IvIndex.{iv_due, iv_next}
use Rattle.layer_definitions.specs.Network.{IsHeardUnder}
use Rattle.mesh_base.specs.IvState.{transmit_of}
use Rattle.node_layers.specs.BuiltLayers.{built_layers}
use Rattle.node_layers.specs.ConfiguredLayers.{configured_layers}
use Rattle.node_layers.specs.NodeLayers.{node_layers}
use Rattle.event_definitions.specs.Answers.{answer_of}
use Rattle.event_definitions.specs.Jobs.{jobs_of}
use Rattle.event_definitions.specs.Stores.{stores}
use Rattle.store_definitions.specs.Config.{changed}
use Rattle.worked_layers.specs.IvIndex.{PdusAreReadUnder, UpdateEnds}

newer_only : (rest : List ℕ) (iv : ℕ) → IsHeardUnder 5 (0xe8 ∷ rest) iv → iv ≡ 5
newer_only rest iv (inl e, ivi) = e
newer_only rest iv (inr e, ivi) = absurd (omega (arith, e, ivi))

older_only : (rest : List ℕ) (iv : ℕ) → IsHeardUnder 5 (0x68 ∷ rest) iv → iv ≡ 4
older_only rest iv (inl e, ivi) = absurd (omega (arith, e, ivi))
older_only rest iv (inr e, ivi) = omega (arith, e)

newer : (rest : List ℕ) (iv : ℕ) → IsHeardUnder 5 (0xe8 ∷ rest) iv ↔ (iv ≡ 5)
newer rest iv = (newer_only rest iv, λ e. rw e (inl refl, refl))

older : (rest : List ℕ) (iv : ℕ) → IsHeardUnder 5 (0x68 ∷ rest) iv ↔ (iv ≡ 4)
older rest iv = (older_only rest iv, λ e. rw e (inr refl, refl))

neither : (octets : List ℕ) → IsHeardUnder 5 octets 3 → ⊥
neither octets (inl e, ivi) = omega (arith, e)
neither octets (inr e, ivi) = omega (arith, e)

pub pdus_are_read_under : PdusAreReadUnder
unfolding node_layers configured_layers built_layers answer_of jobs_of stores changed
pdus_are_read_under net_key dev_key pdu rest =
    record { newer = newer rest; older = older rest; neither = neither; hears_newer = refl; hears_older = refl; hears_nothing = refl }

pub update_ends : UpdateEnds
unfolding node_layers configured_layers built_layers answer_of jobs_of stores changed transmit_of iv_next iv_due
update_ends net_key dev_key octets =
    record { sends = refl; counts_early = refl; early = refl; ticks = refl; counts = refl; ends = refl; keeps = refl; again = refl }

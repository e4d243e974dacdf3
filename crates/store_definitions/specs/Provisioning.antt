-- What a node is provisioned with, and the records of it (Mesh Profile 1.0.1, section 5.4.2.5).
use Rattle.std.specs.Prelude.{ℕ, ◌*◌, ◌^◌, Bool, List, [], ◌∷◌}
use Rattle.mesh_base.specs.IvState.{transmit_of}
use Rattle.mesh_base.specs.declared.address.Address.{Address}
use Rattle.mesh_base.specs.declared.iv_state.IvState.{IvState}
use Rattle.record_types.specs.declared.records.StoreRecord.{StoreRecord}
use Rattle.record_types.specs.declared.records.StoreRecord.TheVariants as R

-- FLAGS has IV Update in Progress in bit 1
pub record Provisioning : Type 0 where
  pub unicast : Address
  pub elements : ℕ
  pub iv : ℕ
  pub in_progress : Bool
  pub net_index : ℕ
  pub net_key : List ℕ
  pub dev_key : List ℕ

-- the IV state at provisioning: IV Index Recovery is allowed at once, and an IV Update in progress takes its time
abbrev pub first_state : Provisioning → IvState
first_state p = record { current = p.iv; progress = p.in_progress; hours = 0; since = 192 }

-- the records of provisioning
abbrev pub provisioned : Provisioning → List StoreRecord
provisioned p =
    R.Identity p.unicast p.elements p.dev_key
    ∷ R.Numbers p.iv p.in_progress (transmit_of (first_state p) * 2 ^ 25) 0 192
    ∷ R.NetKey 1 p.net_index p.net_key
    ∷ []

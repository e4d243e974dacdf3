-- What a node is provisioned with (Mesh Profile 1.0.1, section 5.4.2.5).
use Rattle.std.specs.Prelude.{ℕ, ◌+◌, ◌^◌, ◌≤◌, ◌==◌, ◌/◌, ◌%◌}
use Rattle.node_store.specs.declared.provision.Provision.{Provision}
use Rattle.mesh_base.specs.IvState.{HasTransmit}
use Rattle.mesh_base.specs.declared.iv_state.IvState.{IvState}
use Rattle.store_definitions.specs.Provisioning.{Provisioning, first_state}

-- the IV state at provisioning: bit 1 of the flags is IV Update in Progress, and IV Index Recovery is allowed at once
abbrev pub state_of : ℕ → ℕ → IvState
state_of iv flags = record { current = iv; progress = flags / 2 % 2 == 1; hours = 0; since = 192 }

-- bit 1 of the flags is IV Update in Progress; bit 0, a Key Refresh, isn't asked, since the node holds the new key alone
abbrev pub provisioning : Provision → Provisioning
provisioning p = record {
  unicast = p.unicast;
  elements = p.elements;
  iv = p.iv;
  in_progress = p.flags / 2 % 2 == 1;
  net_index = p.net_index;
  net_key = p.net_key;
  dev_key = p.dev_key;
}

-- 1 to 4 elements whose addresses are 0001 to 7fff; flags of two bits, of which bit 1 needs an IV Index of at least 1; an index of 12 bits
pub record IsProvision (p : Provision) : Type 0 where
  pub some : 1 ≤ p.elements
  pub few : p.elements ≤ 4
  pub unicast : 1 ≤ p.unicast.0
  pub last : p.unicast.0 + p.elements ≤ 2 ^ 15
  pub flags : p.flags ≤ 3
  pub transmit : HasTransmit (first_state (provisioning p))
  pub index : p.net_index ≤ 0xfff

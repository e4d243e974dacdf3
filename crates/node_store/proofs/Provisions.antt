-- The records of provisioning are those of a node that can be run.
use Rattle.std.proofs.Common.{◌≡◌, [], ◌∷◌, true, refl, arith, None}
use Rattle.std.specs.Prelude.{All}
use Rattle.std.proofs.lemmas.List.Elements.{All-from_recursion}
use Rattle.mesh_base.specs.declared.keys.AppKeyRow.{AppKeyRow}
use Rattle.mesh_base.specs.declared.keys.NetKeyRow.{NetKeyRow}
use Rattle.store_definitions.specs.Config.{changed, config_of}
use Rattle.store_definitions.specs.Node.{IsPhased, IsWhole, is_held}
use Rattle.store_definitions.specs.Provisioning.{provisioned}
use Rattle.store_definitions.specs.Ranges.{IsInRange}
use Rattle.node_records.proofs.Said.{iv_of}
use Rattle.node_store.specs.Provisioning.{IsProvision, provisioning}
use Rattle.node_store.specs.declared.provision.Provision.{Provision}

pub provisioned_whole : (p : Provision) → IsProvision p → All IsInRange (provisioned (provisioning p)) → IsWhole (config_of (provisioned (provisioning p)))
unfolding changed
provisioned_whole p h ranges =
    let row : NetKeyRow = record { index = p.net_index; phase = 0; key = p.net_key; next = None } in
    let iv = iv_of (provisioned (provisioning p)) ranges in
    record {
      some = h.some;
      few = h.few;
      unicast = h.unicast;
      last = h.last;
      current = iv.current;
      transmit = iv.transmit;
      mark = iv.mark;
      nets = λ e. absurd cc;
      phased = All-from_recursion IsPhased (row ∷ []) (record { phase = omega arith; next = refl }, tt);
      bound = All-from_recursion (λ (a : AppKeyRow). is_held (config_of (provisioned (provisioning p))).nets a.net ≡ true) [] tt;
    }

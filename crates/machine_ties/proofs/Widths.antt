-- Widths of what is sent under a key, and of its key.
use Rattle.std.proofs.Common.{ℕ, zero, suc, ◌<◌, ◌≤◌, ◌^◌, List, [], ◌∷◌, length, take, arith, Option, Some, None}
use Rattle.std.specs.Prelude.{option_and_then}
use Rattle.std.specs.List.{AllByRecursion as Every}
use Rattle.std.specs.Option.{option_map, option_to_list}
use Rattle.layer_definitions.proofs.KeyLaws.{aid_width, nid_width}
use Rattle.layer_definitions.specs.KeyRefresh.{app_key, app_row, master_material, net_row, transmit_app, transmit_key, transmit_value}
use Rattle.machine_contract.specs.Ranges.{IsUpperKey}
use Rattle.mesh_base.proofs.Every.{Inside}
use Rattle.mesh_base.specs.declared.fields.NetMaterial.{NetMaterial}
use Rattle.mesh_base.specs.declared.keys.AppKeyRow.{AppKeyRow}
use Rattle.mesh_base.specs.declared.keys.NetKeyRow.{NetKeyRow}
use Rattle.mesh_base.specs.declared.keys.UpperKey.{UpperKey}
use Rattle.mesh_types.specs.declared.jobs.Job.{Job}
use Rattle.event_definitions.specs.Jobs.{under}
use Rattle.store_definitions.specs.Config.{Config}

pub every_under : (P : Job → Type 0) (c : Config) (net : ℕ) (job : NetMaterial → Job)
    → ((m : NetMaterial) → m.nid < 2 ^ 7 → P (job m)) → Every P (under c net job)
every_under P c net job k = made (net_row c.nets net)
  where
    made : (o : Option NetKeyRow)
        → Every P (option_to_list (option_map job (option_map (λ (r : NetKeyRow). master_material (transmit_key r)) o)))
    made None = tt
    made (Some r) = (k (master_material (transmit_key r)) (nid_width (transmit_key r)), tt)

-- the key with which a message is sent, beside its network key index
abbrev pub HasUpperKey : ℕ × UpperKey → Type 0
HasUpperKey keys = IsUpperKey keys.1

pub app_width : (c : Config) (index : ℕ) → Inside HasUpperKey (transmit_app c.apps c.nets index)
app_width c index = pick (app_row c.apps index)
  where
    sent : AppKeyRow → NetKeyRow → ℕ × UpperKey
    sent r net = (r.net, app_key index (transmit_value r net))

    rows : (r : AppKeyRow) (o : Option NetKeyRow) → Inside HasUpperKey (option_map (sent r) o)
    rows r None = tt
    rows r (Some net) = aid_width (transmit_value r net)

    pick : (o : Option AppKeyRow)
        → Inside HasUpperKey (option_and_then (λ (r : AppKeyRow). option_map (sent r) (net_row c.nets r.net)) o)
    pick None = tt
    pick (Some r) = rows r (net_row c.nets r.net)

pub take_few : (n : ℕ) (xs : List ℕ) → length (take n xs) ≤ n
take_few zero xs = omega arith
take_few (suc n) [] = omega arith
take_few (suc n) (x ∷ xs) = omega (arith, take_few n xs)

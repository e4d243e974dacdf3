-- What is kept in memory fits the store as long as that says the same keys.
use Rattle.std.proofs.Common.{◌≡◌, refl, ap, sym, ◌∙◌, arith, Option, Some, None}
use Rattle.std.specs.List.{slice_get}
use Rattle.std.specs.Option.{option_to_list}
use Rattle.layer_definitions.specs.KeyRefresh.{net_index}
use Rattle.layer_definitions.specs.Order.{IsByIndex, IsByIndexFrom}
use Rattle.low_power_machine.specs.Memory.{IsFitFor}
use Rattle.low_power_machine.specs.declared.memory.Memory.{Memory}
use Rattle.low_power_role.specs.Readings.{friend_keys, own_nets}
use Rattle.mesh_base.specs.declared.keys.NetKeyRow.{NetKeyRow}
use Rattle.mesh_base.specs.declared.keys.UpperKey.TheVariants as U
use Rattle.node_records.specs.Tables.{config_in}
use Rattle.node_records.specs.declared.persist.Persist.{Persist}
use Rattle.store_definitions.specs.Config.{Config, changed}
use Rattle.store_definitions.specs.Numbers.{fill_of}

-- the same network keys and the same device key
pub record HasSameKeys (c d : Config) : Type 0 where
  pub nets : d.nets ≡ c.nets
  pub device : d.dev_key ≡ c.dev_key

pub fit_same : (memory : Memory) (p q : Persist) → HasSameKeys (config_in p) (config_in q) → IsFitFor memory p → IsFitFor memory q
fit_same memory p q same fit = record {
  nets = fit.nets ∙ ap (λ l. own_nets (record (config_in p) { nets = l })) (sym same.nets);
  friend = fit.friend ∙ ap (λ l. friend_keys (record (config_in p) { nets = l }) memory.lpn) (sym same.nets);
  device = fit.device ∙ ap (λ k. U.Device k) (sym same.device);
}

pub fit_said : (memory : Memory) (p q : Persist) → config_in q ≡ config_in p → IsFitFor memory p → IsFitFor memory q
fit_said memory p q is fit = fit_same memory p q (record { nets = ap (λ (c : Config). c.nets) is; device = ap (λ (c : Config). c.dev_key) is }) fit

-- a refill leaves them, and the elements
filled_keys : (c : Config) → HasSameKeys c (changed c (fill_of c))
unfolding changed
filled_keys c = record { nets = refl; device = refl }

pub filled_elements : (c : Config) → (changed c (fill_of c)).elements ≡ c.elements
unfolding changed
filled_elements c = refl

pub fit_filled : (memory : Memory) (p q : Persist) → config_in q ≡ changed (config_in p) (fill_of (config_in p)) → IsFitFor memory p → IsFitFor memory q
fit_filled memory p q is fit =
    let same : HasSameKeys (config_in p) (changed (config_in p) (fill_of (config_in p))) = filled_keys (config_in p) in
    fit_same memory p q
    (record { nets = ap (λ (c : Config). c.nets) is ∙ same.nets; device = ap (λ (c : Config). c.dev_key) is ∙ same.device }) fit

-- one network key stands by index
pub own_in_order : (c : Config) → IsByIndex net_index (own_nets c)
unfolding IsByIndexFrom
own_in_order c = pick (slice_get c.nets 0)
  where
    pick : (o : Option NetKeyRow) → IsByIndex net_index (option_to_list o)
    pick None = tt
    pick (Some row) = (omega arith, tt)

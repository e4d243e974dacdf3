-- How a message ends, where what it stores, if it does, is so: outcome by outcome, by what is known where a record is stored.
use Rattle.std.proofs.Common.{◌≡◌, ℕ, ◌+◌, ◌^◌, ◌<◌, ◌≤◌, ◌⊎◌, inl, inr, Bool, true, false, not, ◌&&◌, ◌||◌, eqb, leb, List, length, filter, refl, subst, sym, arith, Option, Some, None, Result, Ok, Err, is_some, bytes_eq}
use Rattle.std.specs.List.{list_any}
use Rattle.std.proofs.lemmas.Bool.Decides.{nat_tests}
use Rattle.config_definitions.proofs.Cases.{Inside, option_cases, when}
use Rattle.config_definitions.specs.Keys.{app_key_add, app_key_delete, app_key_update, has_net, is_next, net_key_add, net_key_delete, net_key_update, no_key, phase_end, phase_of, phase_two}
use Rattle.config_definitions.specs.Models.{app_bind, app_unbind, count_of_model, has_app, is_subscribed, group_add, group_delete, group_overwrite, has_model, is_full, is_full_of_others, label_add, label_delete, label_overwrite, model_number, model_of, on_model, subscriptions_delete}
use Rattle.config_definitions.specs.Publishing.{is_same_row, is_model_row, row_set}
use Rattle.config_definitions.specs.declared.acts.Outcome.{Outcome}
use Rattle.config_definitions.specs.declared.acts.Status.{Status}
use Rattle.config_definitions.specs.declared.messages.ElementModel.{ElementModel}
use Rattle.layer_definitions.specs.KeyRefresh.{app_row, net_row}
use Rattle.layer_definitions.specs.Labels.{is_virtual}
use Rattle.mesh_base.specs.declared.address.Address.{Address}
use Rattle.node_limits.specs.declared.TheConstants.{APPLICATION_KEYS, BINDINGS, NETWORK_KEYS, PUBLICATIONS}
use Rattle.record_types.specs.declared.records.PublishRow.{PublishRow}
use Rattle.record_types.specs.declared.records.StoreRecord.{StoreRecord}
use Rattle.record_types.specs.declared.records.StoreRecord.TheVariants as R
use Rattle.store_definitions.specs.Config.{Config, is_element, is_label, is_sub, is_bind}

pub record Done (P : StoreRecord → Type 0) (o : Outcome) : Type 0 where
  pub change : Inside P o.change

-- The outcomes, by what holds where a record is stored.
module _ (P : StoreRecord → Type 0) (c : Config) where
  pub app_added : (net app : ℕ) (key : List ℕ) → (not (has_net c net) ≡ false → leb APPLICATION_KEYS (length c.apps) ≡ false → P (R.AppKey 1 net app key)) → Done P (app_key_add c net app key)
  app_added net app key k =
      when _ (not (has_net c net))
      (λ e1. rw e1 (record { change = tt }))
      (λ e2. rw e2 (option_cases _ (app_row c.apps app)
      (λ e7. rw e7 (when _ (leb APPLICATION_KEYS (length c.apps))
      (λ e3. rw e3 (record { change = tt }))
      (λ e4. rw e4 (record { change = k e2 e4 }))))
      (λ x e8. rw e8 (when _ (eqb x.net net && bytes_eq x.key key)
      (λ e5. rw e5 (record { change = tt }))
      (λ e6. rw e6 (record { change = tt }))))))

  pub app_updated : (net app : ℕ) (key : List ℕ) → P (R.AppKey 2 net app key) → Done P (app_key_update c net app key)
  app_updated net app key k =
      option_cases _ (app_row c.apps app)
      (λ e9. rw e9 (record { change = tt }))
      (λ x e10. rw e10 (when _ (not (eqb x.net net))
      (λ e7. rw e7 (record { change = tt }))
      (λ e8. rw e8 (when _ (not (eqb (phase_of c net) 1))
      (λ e5. rw e5 (record { change = tt }))
      (λ e6. rw e6 (when _ (is_next key x.next)
      (λ e3. rw e3 (record { change = tt }))
      (λ e4. rw e4 (when _ (is_some x.next)
      (λ e1. rw e1 (record { change = tt }))
      (λ e2. rw e2 (record { change = k }))))))))))

  pub app_deleted : (net app : ℕ) → P (R.AppKey 3 net app no_key) → Done P (app_key_delete c net app)
  app_deleted net app k =
      when _ (not (has_net c net))
      (λ e5. rw e5 (record { change = tt }))
      (λ e6. rw e6 (option_cases _ (app_row c.apps app)
      (λ e3. rw e3 (record { change = tt }))
      (λ x e4. rw e4 (when _ (not (eqb x.net net))
      (λ e1. rw e1 (record { change = tt }))
      (λ e2. rw e2 (record { change = k }))))))

  pub net_added : (net : ℕ) (key : List ℕ) → (leb NETWORK_KEYS (length c.nets) ≡ false → P (R.NetKey 1 net key)) → Done P (net_key_add c net key)
  net_added net key k =
      option_cases _ (net_row c.nets net)
      (λ e5. rw e5 (when _ (leb NETWORK_KEYS (length c.nets))
      (λ e1. rw e1 (record { change = tt }))
      (λ e2. rw e2 (record { change = k e2 }))))
      (λ x e6. rw e6 (when _ (bytes_eq x.key key)
      (λ e3. rw e3 (record { change = tt }))
      (λ e4. rw e4 (record { change = tt }))))

  pub net_updated : (net : ℕ) (key : List ℕ) → P (R.NetKey 2 net key) → Done P (net_key_update c net key)
  net_updated net key k =
      option_cases _ (net_row c.nets net)
      (λ e5. rw e5 (record { change = tt }))
      (λ x e6. rw e6 (when _ (eqb x.phase 1 && is_next key x.next)
      (λ e3. rw e3 (record { change = tt }))
      (λ e4. rw e4 (when _ (not (eqb x.phase 0))
      (λ e1. rw e1 (record { change = tt }))
      (λ e2. rw e2 (record { change = k }))))))

  pub net_deleted : (under net : ℕ) → ((eqb net under || leb (length c.nets) 1) ≡ false → P (R.NetKey 5 net no_key)) → Done P (net_key_delete c under net)
  net_deleted under net k =
      when _ (not (has_net c net))
      (λ e3. rw e3 (record { change = tt }))
      (λ e4. rw e4 (when _ (eqb net under || leb (length c.nets) 1)
      (λ e1. rw e1 (record { change = tt }))
      (λ e2. rw e2 (record { change = k e2 }))))

  pub phase_two_set : (net : ℕ) → (not (has_net c net) ≡ false → eqb (phase_of c net) 0 ≡ false → eqb (phase_of c net) 2 ≡ false → P (R.NetKey 3 net no_key)) → Done P (phase_two c net)
  phase_two_set net k =
      when _ (not (has_net c net))
      (λ e1. rw e1 (record { change = tt }))
      (λ e2. rw e2 (when _ (eqb (phase_of c net) 0)
      (λ e3. rw e3 (record { change = tt }))
      (λ e4. rw e4 (when _ (eqb (phase_of c net) 2)
      (λ e5. rw e5 (record { change = tt }))
      (λ e6. rw e6 (record { change = k e2 e4 e6 }))))))

  pub phase_ended : (net : ℕ) → P (R.NetKey 4 net no_key) → Done P (phase_end c net)
  phase_ended net k =
      when _ (not (has_net c net))
      (λ e3. rw e3 (record { change = tt }))
      (λ e4. rw e4 (when _ (eqb (phase_of c net) 0)
      (λ e1. rw e1 (record { change = tt }))
      (λ e2. rw e2 (record { change = k }))))

  pub group_added : (element group : Address) (model : ℕ) → (is_full c.subs c.labels ≡ false → P (R.Subscribe 1 element model group)) → Done P (group_add c element group model)
  group_added element group model k =
      when _ (not (is_subscribed group))
      (λ e5. rw e5 (record { change = tt }))
      (λ e6. rw e6 (when _ (list_any (is_sub element model group) c.subs)
      (λ e3. rw e3 (record { change = tt }))
      (λ e4. rw e4 (when _ (is_full c.subs c.labels)
      (λ e1. rw e1 (record { change = tt }))
      (λ e2. rw e2 (record { change = k e2 }))))))

  pub group_deleted : (element group : Address) (model : ℕ) → P (R.Subscribe 2 element model group) → Done P (group_delete c element group model)
  group_deleted element group model k =
      when _ (not (is_subscribed group))
      (λ e3. rw e3 (record { change = tt }))
      (λ e4. rw e4 (when _ (list_any (is_sub element model group) c.subs)
      (λ e1. rw e1 (record { change = k }))
      (λ e2. rw e2 (record { change = tt }))))

  pub group_overwritten : (element group : Address) (model : ℕ) → (is_full_of_others c element model ≡ false → P (R.Subscribe 4 element model group)) → Done P (group_overwrite c element group model)
  group_overwritten element group model k =
      when _ (not (is_subscribed group))
      (λ e5. rw e5 (record { change = tt }))
      (λ e6. rw e6 (when _ (list_any (is_sub element model group) c.subs && eqb (count_of_model c element model) 1)
      (λ e3. rw e3 (record { change = tt }))
      (λ e4. rw e4 (when _ (is_full_of_others c element model)
      (λ e1. rw e1 (record { change = tt }))
      (λ e2. rw e2 (record { change = k e2 }))))))

  pub groups_deleted : (element : Address) (model : ℕ) → P (R.Subscribe 3 element model (record { 0 = 0 })) → Done P (subscriptions_delete c element model)
  groups_deleted element model k =
      when _ (eqb (count_of_model c element model) 0) (λ e1. rw e1 (record { change = tt })) (λ e2. rw e2 (record { change = k }))

  pub label_added : (element : Address) (label : List ℕ) (model : ℕ) → (is_full c.subs c.labels ≡ false → P (R.Label 1 element model label)) → Done P (label_add c element label model)
  label_added element label model k =
      when _ (list_any (is_label element model label) c.labels)
      (λ e3. rw e3 (record { change = tt }))
      (λ e4. rw e4 (when _ (is_full c.subs c.labels)
      (λ e1. rw e1 (record { change = tt }))
      (λ e2. rw e2 (record { change = k e2 }))))

  pub label_deleted : (element : Address) (label : List ℕ) (model : ℕ) → P (R.Label 2 element model label) → Done P (label_delete c element label model)
  label_deleted element label model k =
      when _ (list_any (is_label element model label) c.labels) (λ e1. rw e1 (record { change = k })) (λ e2. rw e2 (record { change = tt }))

  pub label_overwritten : (element : Address) (label : List ℕ) (model : ℕ) → (is_full_of_others c element model ≡ false → P (R.Label 4 element model label)) → Done P (label_overwrite c element label model)
  label_overwritten element label model k =
      when _ (list_any (is_label element model label) c.labels && eqb (count_of_model c element model) 1)
      (λ e3. rw e3 (record { change = tt }))
      (λ e4. rw e4 (when _ (is_full_of_others c element model)
      (λ e1. rw e1 (record { change = tt }))
      (λ e2. rw e2 (record { change = k e2 }))))

  pub app_bound : (element : Address) (app model : ℕ) → (leb BINDINGS (length c.binds) ≡ false → P (R.Bind 1 element model app)) → Done P (app_bind c element app model)
  app_bound element app model k =
      when _ (not (has_app c app))
      (λ e5. rw e5 (record { change = tt }))
      (λ e6. rw e6 (when _ (list_any (is_bind element model app) c.binds)
      (λ e3. rw e3 (record { change = tt }))
      (λ e4. rw e4 (when _ (leb BINDINGS (length c.binds))
      (λ e1. rw e1 (record { change = tt }))
      (λ e2. rw e2 (record { change = k e2 }))))))

  pub app_unbound : (element : Address) (app model : ℕ) → P (R.Bind 2 element model app) → Done P (app_unbind c element app model)
  app_unbound element app model k =
      when _ (not (has_app c app))
      (λ e3. rw e3 (record { change = tt }))
      (λ e4. rw e4 (when _ (list_any (is_bind element model app) c.binds)
      (λ e1. rw e1 (record { change = k }))
      (λ e2. rw e2 (record { change = tt }))))

  pub row_is_set : (row : PublishRow) → (leb PUBLICATIONS (length (filter (λ r. not (is_model_row row.element row.model r)) c.publications)) ≡ false → P (R.Publish row)) → Done P (row_set c row)
  row_is_set row k =
      when _ (is_virtual row.address)
      (λ e9. rw e9 (record { change = tt }))
      (λ e10. rw e10 (when _ (not (eqb row.address.0 0) && not (has_app c row.app))
      (λ e7. rw e7 (record { change = tt }))
      (λ e8. rw e8 (when _ (not (eqb row.address.0 0) && not (list_any (is_bind row.element row.model row.app) c.binds))
      (λ e5. rw e5 (record { change = tt }))
      (λ e6. rw e6 (when _ (leb PUBLICATIONS (length (filter (λ r. not (is_model_row row.element row.model r)) c.publications)))
      (λ e1. rw e1 (record { change = tt }))
      (λ e2. rw e2 (when _ (list_any (is_same_row row) c.publications)
      (λ e3. rw e3 (record { change = tt }))
      (λ e4. rw e4 (record { change = k e2 }))))))))))

-- The model that is meant: one of the node's own, the Generic OnOff Server or the Generic Level Server of an element.

pub record IsOwnModel (c : Config) (holder : ElementModel) (n : ℕ) : Type 0 where
  pub least : c.unicast.0 ≤ holder.element.0
  pub most : holder.element.0 < c.unicast.0 + c.elements
  pub model : (n ≡ 0x1000) ⊎ (n ≡ 0x1002)

pub own_small : (c : Config) (holder : ElementModel) (n : ℕ) → IsOwnModel c holder n → n < 2 ^ 16
own_small c holder n h = by_model h.model
  where
    by_model : (n ≡ 0x1000) ⊎ (n ≡ 0x1002) → n < 2 ^ 16
    by_model (inl e) = omega (arith, e)
    by_model (inr e) = omega (arith, e)

own_model : (c : Config) (holder : ElementModel) (status : Status) (n : ℕ) → model_of c holder status ≡ Ok n → IsOwnModel c holder n
own_model c holder status n e = record {
  least = grind (arith, nat_tests, e);
  most = grind (arith, nat_tests, e);
  model = grind (arith, nat_tests, e);
}

on_model_by : (P : StoreRecord → Type 0) (r : Result ℕ Status) (outcome : ℕ → Outcome) → ((n : ℕ) → r ≡ Ok n → Done P (outcome n))
    → Done P (on_model r outcome)
on_model_by P (Ok n) outcome k = k n refl
on_model_by P (Err status) outcome k = record { change = tt }

-- done to an own model, or refused
pub on_own : (P : StoreRecord → Type 0) (c : Config) (holder : ElementModel) (status : Status) (outcome : ℕ → Outcome)
    → ((n : ℕ) → IsOwnModel c holder n → Done P (outcome n)) → Done P (on_model (model_of c holder status) outcome)
on_own P c holder status outcome k =
    on_model_by P (model_of c holder status) outcome (λ n e. k n (own_model c holder status n e))

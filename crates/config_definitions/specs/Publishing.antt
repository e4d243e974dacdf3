-- Messages about publications and heartbeats (Mesh Profile 1.0.1, sections 4.3.2.15 to 4.3.2.18 and 4.3.2.61 to 4.3.2.63). The first test that
-- holds decides.
use Rattle.std.specs.Prelude.{ℕ, ◌+◌, ◌*◌, ◌==◌, ◌&&◌, ◌||◌, not, nat_le, Bool, if◌then◌else◌, List, [], ◌∷◌, ◌++◌, Option, Some, None, Result, Ok, Err, length, filter}
use Rattle.std.specs.List.{list_any, find}
use Rattle.node_limits.specs.declared.TheConstants.{PUBLICATIONS}
use Rattle.config_definitions.specs.Keys.{has_net}
use Rattle.config_definitions.specs.Models.{model_of, on_model, has_app}
use Rattle.config_definitions.specs.Params.{model_text, status_octet, refused, unchanged, stored, replied, acted}
use Rattle.config_definitions.specs.declared.acts.ConfigAct.{ConfigAct}
use Rattle.config_definitions.specs.declared.acts.Outcome.{Outcome}
use Rattle.config_definitions.specs.declared.acts.Status.{Status}
use Rattle.config_definitions.specs.declared.acts.Status.TheVariants as S
use Rattle.config_definitions.specs.declared.messages.ElementModel.{ElementModel}
use Rattle.config_definitions.specs.declared.messages.PublicationValue.{PublicationValue}
use Rattle.layer_definitions.specs.Labels.{is_virtual}
use Rattle.mesh_base.specs.declared.address.Address.{Address}
use Rattle.model_states.specs.Access.{two_low_first}
use Rattle.model_states.specs.declared.publication.HeartbeatRow.{HeartbeatRow}
use Rattle.record_types.specs.declared.records.PublishRow.{PublishRow}
use Rattle.record_types.specs.declared.records.StoreRecord.TheVariants as R
use Rattle.store_definitions.specs.Config.{Config, is_bind}

-- Model Publication.

abbrev pub is_model_row : Address → ℕ → PublishRow → Bool
is_model_row element model r = r.element.0 == element.0 && r.model == model

abbrev pub is_same_row : PublishRow → PublishRow → Bool
is_same_row a b =
    is_model_row a.element a.model b && a.address.0 == b.address.0 && a.app == b.app && a.ttl == b.ttl
    && a.period == b.period
    && a.retransmit == b.retransmit

-- A row is set. Publish addresses aren't virtual here; where there is one, its application key is held and bound to the model. There is a
-- place for the row.
abbrev pub row_set : Config → PublishRow → Outcome
row_set c row =
    if is_virtual row.address then refused S.InvalidAddress
    else if not (row.address.0 == 0) && not (has_app c row.app) then refused S.InvalidAppKey
    else if not (row.address.0 == 0) && not (list_any (is_bind row.element row.model row.app) c.binds)
    then refused S.InvalidPublish
    else if nat_le PUBLICATIONS (length (filter (λ r. not (is_model_row row.element row.model r)) c.publications))
    then refused S.InsufficientResources
    else if list_any (is_same_row row) c.publications then unchanged
    else stored (R.Publish row)

-- no publication: zeros
abbrev pub no_row : Address → ℕ → PublishRow
no_row element model =
    record {
      element = element;
      model = model;
      address = record { 0 = 0 };
      app = 0;
      ttl = 0;
      period = 0;
      retransmit = 0;
    }

-- what the model publishes, and nothing where it can't
abbrev pub row_of : Config → Address → ℕ → PublishRow
row_of c element model = held (find (is_model_row element model) c.publications)
  where
    held : Option PublishRow → PublishRow
    held None = no_row element model
    held (Some r) = r

-- Model Publication Status 8019: status, element, address, application key, TTL, period, retransmissions, model
abbrev pub publication_act : Outcome → ElementModel → PublishRow → ConfigAct
publication_act o holder r =
    acted o.change
    (0x80 ∷ 0x19 ∷ status_octet o.status ∷ two_low_first holder.element.0 ++ two_low_first r.address.0 ++ two_low_first r.app
    ++ r.ttl ∷ r.period ∷ r.retransmit ∷ model_text holder.model)

-- of a Get: a refused one shows zeros
abbrev pub publication_shown : Config → ElementModel → ConfigAct
publication_shown c holder = by_model (model_of c holder S.InvalidPublish)
  where
    by_model : Result ℕ Status → ConfigAct
    by_model (Err status) = publication_act (refused status) holder (no_row holder.element 0)
    by_model (Ok n) = publication_act unchanged holder (row_of c holder.element n)

-- the row that a Set asks for, of the model of this number
abbrev pub row_asked : PublicationValue → ℕ → PublishRow
row_asked v n = record {
  element = v.holder.element;
  model = n;
  address = v.address;
  app = v.app;
  ttl = v.ttl;
  period = v.period;
  retransmit = v.retransmit;
}

-- The Status of a Set shows the fields of the message.
abbrev pub publication_set : Config → PublicationValue → ConfigAct
publication_set c v =
    publication_act (on_model (model_of c v.holder S.InvalidPublish) (λ n. row_set c (row_asked v n))) v.holder
    (row_asked v 0)

-- Heartbeat Publication.

-- Heartbeat Publication Status 06: status, destination, Count Log, Period Log, TTL, features, network key
abbrev pub heartbeat_shown : Status → HeartbeatRow → ConfigAct
heartbeat_shown status h =
    replied
    (0x06 ∷ status_octet status ∷ two_low_first h.dst.0 ++ h.count ∷ h.period ∷ h.ttl ∷ two_low_first h.features
    ++ two_low_first h.net)

-- A heartbeat is set: its destination isn't virtual, and its network key is held. It is no record. The Status shows the fields of the message.
abbrev pub heartbeat_set : Config → HeartbeatRow → ConfigAct
heartbeat_set c h =
    if is_virtual h.dst then heartbeat_shown S.InvalidAddress h
    else if not (has_net c h.net) then heartbeat_shown S.InvalidNetKey h
    else record (heartbeat_shown S.Success h) { beat = Some h }

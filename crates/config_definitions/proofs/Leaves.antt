-- What is known of the fields of a message, and so of each record that one may store.
use Rattle.std.proofs.Common.{◌≡◌, ℕ, ◌+◌, ◌*◌, ◌^◌, ◌<◌, ◌≤◌, Bool, true, false, not, ◌||◌, eqb, leb, List, length, filter}
use Rattle.std.specs.Bool.{⊤}
use Rattle.std.specs.Prelude.{IsTrue}
use Rattle.config_definitions.proofs.Outcomes.{IsOwnModel}
use Rattle.config_definitions.specs.Keys.{has_net, no_key, phase_of}
use Rattle.config_definitions.specs.Messages.{is_default_ttl, is_publish_ttl}
use Rattle.config_definitions.specs.Models.{is_full, is_full_of_others}
use Rattle.config_definitions.specs.Params.{switch_octet}
use Rattle.config_definitions.specs.Publishing.{is_model_row, row_asked}
use Rattle.config_definitions.specs.declared.messages.AppBinding.{AppBinding}
use Rattle.config_definitions.specs.declared.messages.AppKeyIndexes.{AppKeyIndexes}
use Rattle.config_definitions.specs.declared.messages.AppKeyValue.{AppKeyValue}
use Rattle.config_definitions.specs.declared.messages.ConfigMessage.{ConfigMessage}
use Rattle.config_definitions.specs.declared.messages.ConfigMessage.TheVariants as M
use Rattle.config_definitions.specs.declared.messages.ElementModel.{ElementModel}
use Rattle.config_definitions.specs.declared.messages.GroupSubscription.{GroupSubscription}
use Rattle.config_definitions.specs.declared.messages.LabelSubscription.{LabelSubscription}
use Rattle.config_definitions.specs.declared.messages.NetKeyValue.{NetKeyValue}
use Rattle.config_definitions.specs.declared.messages.PublicationValue.{PublicationValue}
use Rattle.config_definitions.specs.declared.messages.RelayValue.{RelayValue}
use Rattle.model_states.specs.declared.publication.HeartbeatRow.{HeartbeatRow}
use Rattle.node_limits.specs.declared.TheConstants.{APPLICATION_KEYS, BINDINGS, NETWORK_KEYS, PUBLICATIONS}
use Rattle.record_types.specs.declared.records.StoreRecord.{StoreRecord}
use Rattle.record_types.specs.declared.records.StoreRecord.TheVariants as R
use Rattle.store_definitions.specs.Config.{Config}
use Rattle.store_definitions.specs.Ranges.{IsKey}

-- Fields of a message that was read. What `O` comes before holds where the payload is of octets.
module _ (O : Type 0) where
  pub record AreIndexes (k : AppKeyIndexes) : Type 0 where
    pub net : O → k.net ≤ 0xfff
    pub app : O → k.app ≤ 0xfff

  pub record IsAppKey (k : AppKeyValue) : Type 0 where
    pub indexes : AreIndexes k.indexes
    pub key : O → IsKey k.key

  pub record IsNetKey (k : NetKeyValue) : Type 0 where
    pub net : k.net ≤ 0xfff
    pub key : O → IsKey k.key

  pub record IsHolder (h : ElementModel) : Type 0 where
    pub element : O → h.element.0 < 2 ^ 16

  pub record IsGroup (s : GroupSubscription) : Type 0 where
    pub holder : IsHolder s.holder
    pub group : O → s.group.0 < 2 ^ 16

  pub record IsLabelled (s : LabelSubscription) : Type 0 where
    pub holder : IsHolder s.holder
    pub label : O → IsKey s.label

  pub record IsBinding (b : AppBinding) : Type 0 where
    pub holder : IsHolder b.holder
    pub app : b.app ≤ 0xfff

  pub record IsPublication (v : PublicationValue) : Type 0 where
    pub holder : IsHolder v.holder
    pub address : O → v.address.0 < 2 ^ 16
    pub app : v.app ≤ 0xfff
    pub ttl : IsTrue (is_publish_ttl v.ttl)
    pub period : O → v.period < 2 ^ 8
    pub retransmit : O → v.retransmit < 2 ^ 8

  pub record IsOctet (n : ℕ) : Type 0 where
    pub small : O → n < 2 ^ 8

  abbrev pub IsRead : ConfigMessage → Type 0
  IsRead (M.AppKeyAdd k) = IsAppKey k
  IsRead (M.AppKeyUpdate k) = IsAppKey k
  IsRead (M.PublicationSet v) = IsPublication v
  IsRead (M.AppKeyDelete k) = AreIndexes k
  IsRead (M.DefaultTtlSet ttl) = is_default_ttl ttl ≡ true
  IsRead (M.PhaseSet net transition) = net ≤ 0xfff
  IsRead (M.SubscriptionAdd s) = IsGroup s
  IsRead (M.SubscriptionDelete s) = IsGroup s
  IsRead (M.SubscriptionDeleteAll h) = IsHolder h
  IsRead (M.SubscriptionOverwrite s) = IsGroup s
  IsRead (M.LabelAdd s) = IsLabelled s
  IsRead (M.LabelDelete s) = IsLabelled s
  IsRead (M.LabelOverwrite s) = IsLabelled s
  IsRead (M.TransmitSet transmit) = IsOctet transmit
  IsRead (M.RelaySet relay) = IsOctet relay.retransmit
  IsRead (M.HeartbeatSet h) = h.ttl < 2 ^ 7
  IsRead (M.AppBind b) = IsBinding b
  IsRead (M.AppUnbind b) = IsBinding b
  IsRead (M.NetKeyAdd k) = IsNetKey k
  IsRead (M.NetKeyDelete net) = net ≤ 0xfff
  IsRead (M.NetKeyUpdate k) = IsNetKey k
  IsRead _ = ⊤

  -- What is so of each record that a message may store in a node of which the records say `c`.
  pub record Leaves (P : StoreRecord → Type 0) (c : Config) : Type 0 where
    pub app_added : (k : AppKeyValue) → IsAppKey k → not (has_net c k.indexes.net) ≡ false → leb APPLICATION_KEYS (length c.apps) ≡ false
        → P (R.AppKey 1 k.indexes.net k.indexes.app k.key)
    pub app_updated : (k : AppKeyValue) → IsAppKey k → P (R.AppKey 2 k.indexes.net k.indexes.app k.key)
    pub app_deleted : (k : AppKeyIndexes) → AreIndexes k → P (R.AppKey 3 k.net k.app no_key)
    pub net_added : (k : NetKeyValue) → IsNetKey k → leb NETWORK_KEYS (length c.nets) ≡ false → P (R.NetKey 1 k.net k.key)
    pub net_updated : (k : NetKeyValue) → IsNetKey k → P (R.NetKey 2 k.net k.key)
    pub phase_two : (net : ℕ) → net ≤ 0xfff → eqb (phase_of c net) 0 ≡ false → eqb (phase_of c net) 2 ≡ false
        → P (R.NetKey 3 net no_key)
    pub phase_ended : (net : ℕ) → net ≤ 0xfff → P (R.NetKey 4 net no_key)
    pub net_deleted : (under net : ℕ) → net ≤ 0xfff → (eqb net under || leb (length c.nets) 1) ≡ false
        → P (R.NetKey 5 net no_key)
    pub group_added : (s : GroupSubscription) → IsGroup s → (n : ℕ) → IsOwnModel c s.holder n
        → is_full c.subs c.labels ≡ false → P (R.Subscribe 1 s.holder.element n s.group)
    pub group_deleted : (s : GroupSubscription) → IsGroup s → (n : ℕ) → IsOwnModel c s.holder n
        → P (R.Subscribe 2 s.holder.element n s.group)
    pub all_deleted : (h : ElementModel) → IsHolder h → (n : ℕ) → IsOwnModel c h n
        → P (R.Subscribe 3 h.element n (record { 0 = 0 }))
    pub group_overwritten : (s : GroupSubscription) → IsGroup s → (n : ℕ) → IsOwnModel c s.holder n
        → is_full_of_others c s.holder.element n ≡ false → P (R.Subscribe 4 s.holder.element n s.group)
    pub label_added : (s : LabelSubscription) → IsLabelled s → (n : ℕ) → IsOwnModel c s.holder n
        → is_full c.subs c.labels ≡ false → P (R.Label 1 s.holder.element n s.label)
    pub label_deleted : (s : LabelSubscription) → IsLabelled s → (n : ℕ) → IsOwnModel c s.holder n
        → P (R.Label 2 s.holder.element n s.label)
    pub label_overwritten : (s : LabelSubscription) → IsLabelled s → (n : ℕ) → IsOwnModel c s.holder n
        → is_full_of_others c s.holder.element n ≡ false → P (R.Label 4 s.holder.element n s.label)
    pub bound : (b : AppBinding) → IsBinding b → (n : ℕ) → IsOwnModel c b.holder n → leb BINDINGS (length c.binds) ≡ false
        → P (R.Bind 1 b.holder.element n b.app)
    pub unbound : (b : AppBinding) → IsBinding b → (n : ℕ) → IsOwnModel c b.holder n → P (R.Bind 2 b.holder.element n b.app)
    pub published : (v : PublicationValue) → IsPublication v → (n : ℕ) → IsOwnModel c v.holder n
        → leb PUBLICATIONS (length (filter (λ r. not (is_model_row v.holder.element n r)) c.publications)) ≡ false
        → P (R.Publish (row_asked v n))
    pub beacon : (on : Bool) → P (R.Feature 1 (switch_octet on))
    pub ttl : (ttl : ℕ) → is_default_ttl ttl ≡ true → P (R.Feature 2 ttl)
    pub friend : (on : Bool) → P (R.Feature 3 (switch_octet on))
    pub relay : (on : Bool) (retransmit : ℕ) → IsOctet retransmit → P (R.Feature 4 (switch_octet on * 256 + retransmit))
    pub transmit : (transmit : ℕ) → IsOctet transmit → P (R.Feature 5 transmit)
    pub reset : P R.Reset

-- What each message does is proper, by cases: what it stores is so of its record, its reply has an octet, a heartbeat that it sets has a TTL of
-- 7 bits. But for its reply it is the same whatever a Status shows of friendships and of the heartbeat.
use Rattle.std.proofs.Common.{◌≡◌, ℕ, ◌+◌, ◌*◌, ◌^◌, ◌<◌, ◌≤◌, Bool, true, false, cond, not, eqb, List, [], ◌∷◌, length, refl, arith, Option, Some, None, Result, Ok, Err}
use Rattle.std.specs.Option.{option_map}
use Rattle.config_definitions.proofs.Cases.{Inside, when}
use Rattle.config_definitions.proofs.Leaves.{IsRead, Leaves}
use Rattle.config_definitions.proofs.Outcomes.{Done, app_added, app_bound, app_deleted, app_unbound, app_updated, group_added, group_deleted, group_overwritten, groups_deleted, label_added, label_deleted, label_overwritten, net_added, net_deleted, net_updated, on_own, phase_ended, phase_two_set, row_is_set}
use Rattle.config_definitions.specs.Answers.{config_answer, message_act}
use Rattle.config_definitions.specs.Features.{feature_record}
use Rattle.config_definitions.specs.Keys.{app_key_add, app_key_delete, app_key_list, app_key_update, has_net, net_key_add, net_key_delete, net_key_update, phase_end, phase_shown, phase_two}
use Rattle.config_definitions.specs.Messages.{config_message}
use Rattle.config_definitions.specs.Models.{app_bind, app_unbind, bind_act, group_act, group_add, group_delete, group_overwrite, label_act, label_add, label_delete, label_overwrite, model_of, on_model, subscriptions_delete}
use Rattle.config_definitions.specs.Params.{switch_octet}
use Rattle.config_definitions.specs.Publishing.{heartbeat_set, publication_shown, row_asked, row_set}
use Rattle.config_definitions.specs.declared.acts.ConfigAct.{ConfigAct}
use Rattle.config_definitions.specs.declared.acts.Outcome.{Outcome}
use Rattle.config_definitions.specs.declared.acts.Status.{Status}
use Rattle.config_definitions.specs.declared.acts.Status.TheVariants as S
use Rattle.config_definitions.specs.declared.messages.ConfigMessage.{ConfigMessage}
use Rattle.config_definitions.specs.declared.messages.ConfigMessage.TheVariants as M
use Rattle.config_definitions.specs.declared.messages.ElementModel.{ElementModel}
use Rattle.config_definitions.specs.declared.messages.PhaseTransition.TheVariants as T
use Rattle.layer_definitions.specs.Labels.{is_virtual}
use Rattle.mesh_base.specs.declared.address.Address.{Address}
use Rattle.model_states.specs.declared.publication.HeartbeatRow.{HeartbeatRow}
use Rattle.record_types.specs.declared.records.StoreRecord.{StoreRecord}
use Rattle.record_types.specs.declared.records.StoreRecord.TheVariants as R
use Rattle.store_definitions.specs.Config.{Config}

pub record IsProper (P : StoreRecord → Type 0) (act : ConfigAct) : Type 0 where
  pub change : Inside P act.change
  pub octet : 1 ≤ length act.reply
  pub beat : Inside (λ (row : HeartbeatRow). row.ttl < 2 ^ 7) act.beat

module _ (P : StoreRecord → Type 0) where
  -- an outcome with a Status
  done : (o : Outcome) (x : ℕ) (rest : List ℕ) → Done P o
      → IsProper P (record { change = o.change; reply = x ∷ rest; beat = None; ends_friendships = false })
  done o x rest h = record { change = h.change; octet = omega arith; beat = tt }

  shown : (x : ℕ) (rest : List ℕ) → IsProper P (record { change = None; reply = x ∷ rest; beat = None; ends_friendships = false })
  shown x rest = record { change = tt; octet = omega arith; beat = tt }

  feature : (which before value : ℕ) → P (R.Feature which value) → Inside P (feature_record which before value)
  feature which before value h = made (eqb before value)
    where
      made : (b : Bool) → Inside P (cond b None (Some (R.Feature which value)))
      made true = tt
      made false = h

  set : (which before value x : ℕ) (rest : List ℕ) (ends : Bool) → P (R.Feature which value)
      → IsProper P (record { change = feature_record which before value; reply = x ∷ rest; beat = None; ends_friendships = ends })
  set which before value x rest ends h = record { change = feature which before value h; octet = omega arith; beat = tt }

  publication : (c : Config) (holder : ElementModel) → IsProper P (publication_shown c holder)
  publication c holder = by_model (model_of c holder S.InvalidPublish) refl
    where
      by_model : (r : Result ℕ Status) → model_of c holder S.InvalidPublish ≡ r → IsProper P (publication_shown c holder)
      by_model (Ok n) e = rw e (record { change = tt; octet = omega arith; beat = tt })
      by_model (Err status) e = rw e (record { change = tt; octet = omega arith; beat = tt })

  listed : (c : Config) (net : ℕ) → IsProper P (app_key_list c net)
  listed c net = when _ (has_net c net) (λ e. rw e (shown _ _)) (λ e. rw e (shown _ _))

  phase : (c : Config) (net : ℕ) → IsProper P (phase_shown c net)
  phase c net = when _ (has_net c net) (λ e. rw e (shown _ _)) (λ e. rw e (shown _ _))

  heartbeat : (c : Config) (h : HeartbeatRow) → h.ttl < 2 ^ 7 → IsProper P (heartbeat_set c h)
  heartbeat c h short =
      when _ (is_virtual h.dst) (λ e. rw e (shown _ _))
      (λ e. rw e (when _ (not (has_net c h.net)) (λ f. rw f (shown _ _))
      (λ f. rw f (record { change = tt; octet = omega arith; beat = short }))))

  module _ (O : Type 0) (c : Config) (leaves : Leaves O P c) (under : ℕ) (polls : List (Address × ℕ)) (beat : HeartbeatRow) where
    pub proper : (m : ConfigMessage) → IsRead O m → IsProper P (message_act c under polls beat m)
    unfolding message_act
    proper (M.AppKeyAdd k) h =
        done (app_key_add c k.indexes.net k.indexes.app k.key) _ _
        (app_added P c k.indexes.net k.indexes.app k.key (leaves.app_added k h))
    proper (M.AppKeyUpdate k) h =
        done (app_key_update c k.indexes.net k.indexes.app k.key) _ _
        (app_updated P c k.indexes.net k.indexes.app k.key (leaves.app_updated k h))
    proper (M.AppKeyDelete k) h =
        done (app_key_delete c k.net k.app) _ _ (app_deleted P c k.net k.app (leaves.app_deleted k h))
    proper (M.AppKeyGet net) h = listed c net
    proper (M.PublicationSet v) h =
        done (on_model (model_of c v.holder S.InvalidPublish) (λ n. row_set c (row_asked v n))) _ _
        (on_own P c v.holder S.InvalidPublish (λ n. row_set c (row_asked v n))
        (λ n own. row_is_set P c (row_asked v n) (leaves.published v h n own)))
    proper (M.BeaconSet on) h = set 1 c.beacon (switch_octet on) _ _ _ (leaves.beacon on)
    proper (M.DefaultTtlSet ttl) h = set 2 c.ttl ttl _ _ _ (leaves.ttl ttl h)
    proper (M.FriendSet on) h = set 3 c.friend (switch_octet on) _ _ _ (leaves.friend on)
    proper (M.PhaseGet net) h = phase c net
    proper (M.PhaseSet net T.ToPhaseTwo) h =
        done (phase_two c net) _ _ (phase_two_set P c net (λ held zero two. leaves.phase_two net h zero two))
    proper (M.PhaseSet net T.ToEnd) h = done (phase_end c net) _ _ (phase_ended P c net (leaves.phase_ended net h))
    proper (M.PublicationGet holder) h = publication c holder
    proper (M.SubscriptionAdd s) h =
        done (on_model (model_of c s.holder S.NotSubscribe) (group_add c s.holder.element s.group)) _ _
        (on_own P c s.holder S.NotSubscribe (group_add c s.holder.element s.group)
        (λ n own. group_added P c s.holder.element s.group n (leaves.group_added s h n own)))
    proper (M.SubscriptionDelete s) h =
        done (on_model (model_of c s.holder S.NotSubscribe) (group_delete c s.holder.element s.group)) _ _
        (on_own P c s.holder S.NotSubscribe (group_delete c s.holder.element s.group)
        (λ n own. group_deleted P c s.holder.element s.group n (leaves.group_deleted s h n own)))
    proper (M.SubscriptionDeleteAll holder) h =
        done (on_model (model_of c holder S.NotSubscribe) (subscriptions_delete c holder.element)) _ _
        (on_own P c holder S.NotSubscribe (subscriptions_delete c holder.element)
        (λ n own. groups_deleted P c holder.element n (leaves.all_deleted holder h n own)))
    proper (M.SubscriptionOverwrite s) h =
        done (on_model (model_of c s.holder S.NotSubscribe) (group_overwrite c s.holder.element s.group)) _ _
        (on_own P c s.holder S.NotSubscribe (group_overwrite c s.holder.element s.group)
        (λ n own. group_overwritten P c s.holder.element s.group n (leaves.group_overwritten s h n own)))
    proper (M.LabelAdd s) h =
        done (on_model (model_of c s.holder S.NotSubscribe) (label_add c s.holder.element s.label)) _ _
        (on_own P c s.holder S.NotSubscribe (label_add c s.holder.element s.label)
        (λ n own. label_added P c s.holder.element s.label n (leaves.label_added s h n own)))
    proper (M.LabelDelete s) h =
        done (on_model (model_of c s.holder S.NotSubscribe) (label_delete c s.holder.element s.label)) _ _
        (on_own P c s.holder S.NotSubscribe (label_delete c s.holder.element s.label)
        (λ n own. label_deleted P c s.holder.element s.label n (leaves.label_deleted s h n own)))
    proper (M.LabelOverwrite s) h =
        done (on_model (model_of c s.holder S.NotSubscribe) (label_overwrite c s.holder.element s.label)) _ _
        (on_own P c s.holder S.NotSubscribe (label_overwrite c s.holder.element s.label)
        (λ n own. label_overwritten P c s.holder.element s.label n (leaves.label_overwritten s h n own)))
    proper (M.TransmitSet transmit) h = set 5 c.transmit transmit _ _ _ (leaves.transmit transmit h)
    proper (M.RelaySet relay) h =
        set 4 (c.relay * 256 + c.retransmit) (switch_octet relay.on * 256 + relay.retransmit) _ _ _
        (leaves.relay relay.on relay.retransmit h)
    proper (M.HeartbeatSet row) h = heartbeat c row h
    proper (M.AppBind b) h =
        done (on_model (model_of c b.holder S.CannotBind) (app_bind c b.holder.element b.app)) _ _
        (on_own P c b.holder S.CannotBind (app_bind c b.holder.element b.app)
        (λ n own. app_bound P c b.holder.element b.app n (leaves.bound b h n own)))
    proper (M.AppUnbind b) h =
        done (on_model (model_of c b.holder S.CannotBind) (app_unbind c b.holder.element b.app)) _ _
        (on_own P c b.holder S.CannotBind (app_unbind c b.holder.element b.app)
        (λ n own. app_unbound P c b.holder.element b.app n (leaves.unbound b h n own)))
    proper (M.NetKeyAdd k) h = done (net_key_add c k.net k.key) _ _ (net_added P c k.net k.key (leaves.net_added k h))
    proper (M.NetKeyDelete net) h =
        done (net_key_delete c under net) _ _ (net_deleted P c under net (leaves.net_deleted under net h))
    proper (M.NetKeyUpdate k) h =
        done (net_key_update c k.net k.key) _ _ (net_updated P c k.net k.key (leaves.net_updated k h))
    proper M.NodeReset h = record { change = leaves.reset; octet = omega arith; beat = tt }
    proper _ h = record { change = tt; octet = omega arith; beat = tt }

-- What Statuses show.

pub record AreAlike (a b : ConfigAct) : Type 0 where
  pub change : a.change ≡ b.change
  pub beat : a.beat ≡ b.beat
  pub ends : a.ends_friendships ≡ b.ends_friendships

pub alike : (c : Config) (under : ℕ) (polls others : List (Address × ℕ)) (beat other : HeartbeatRow) (m : ConfigMessage)
    → AreAlike (message_act c under polls beat m) (message_act c under others other m)
unfolding message_act
alike c under polls others beat other (M.PollTimeoutGet lpn) = record { change = refl; beat = refl; ends = refl }
alike c under polls others beat other M.HeartbeatGet = record { change = refl; beat = refl; ends = refl }
alike c under polls others beat other _ = record { change = refl; beat = refl; ends = refl }

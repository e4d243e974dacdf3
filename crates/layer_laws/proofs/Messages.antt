-- What a configuration message stores is a change that fits a sound node: record by record.
use Rattle.std.proofs.Common.{◌≡◌, ℕ, ◌+◌, ◌*◌, ◌^◌, ◌<◌, Bool, true, false, List, refl, arith, Option, None}
use Rattle.std.proofs.lemmas.Bool.Decides.{nat_tests}
use Rattle.config_definitions.proofs.Answered.{answer_proper}
use Rattle.config_definitions.proofs.Cases.{Inside, inside_weaker}
use Rattle.config_definitions.proofs.Leaves.{Leaves}
use Rattle.config_definitions.proofs.Outcomes.{own_small}
use Rattle.config_definitions.proofs.Proper.{IsProper}
use Rattle.config_definitions.proofs.Reading.{Octets}
use Rattle.config_definitions.specs.Answers.{config_answer}
use Rattle.config_definitions.specs.Params.{switch_octet}
use Rattle.config_definitions.specs.Publishing.{row_asked}
use Rattle.config_definitions.specs.declared.acts.ConfigAct.{ConfigAct}
use Rattle.mesh_base.specs.declared.address.Address.{Address}
use Rattle.model_states.specs.declared.publication.HeartbeatRow.{HeartbeatRow}
use Rattle.node_layers.specs.Configuration.{config_act, is_for_server}
use Rattle.record_types.specs.declared.records.StoreRecord.{StoreRecord}
use Rattle.record_types.specs.declared.records.StoreRecord.TheVariants as R
use Rattle.event_definitions.specs.Layers.{AccessMessage}
use Rattle.store_definitions.specs.Config.{Config}
use Rattle.store_definitions.specs.Ranges.{IsInRange}
use Rattle.layer_laws.proofs.Acts.{Acted, acted_pick, nothing}
use Rattle.layer_laws.proofs.Stored.{Leaf, app_add_leaf, app_delete_leaf, app_update_leaf, bind_leaf, feature_leaf, label_leaf, label_overwrite_leaf, net_add_leaf, net_delete_leaf, net_update_leaf, none_leaf, overwrite_leaf, phase_end_leaf, phase_two_leaf, publish_leaf, reset_leaf, subscribe_leaf, unbind_leaf, unlabel_leaf, unsubscribe_leaf}

beacon_in_range : (on : Bool) → IsInRange (R.Feature 1 (switch_octet on))
beacon_in_range true = refl
beacon_in_range false = refl

friend_in_range : (on : Bool) → IsInRange (R.Feature 3 (switch_octet on))
friend_in_range true = refl
friend_in_range false = refl

relay_in_range : (on : Bool) (retransmit : ℕ) → retransmit < 2 ^ 8 → IsInRange (R.Feature 4 (switch_octet on * 256 + retransmit))
relay_in_range true retransmit h = grind (arith, nat_tests, h)
relay_in_range false retransmit h = grind (arith, nat_tests, h)

transmit_in_range : (transmit : ℕ) → transmit < 2 ^ 8 → IsInRange (R.Feature 5 transmit)
transmit_in_range transmit h = grind (arith, nat_tests, h)

module _ (c : Config) (O : Type 0) where
  leaves : Leaves O (Leaf c O) c
  leaves = record {
    app_added = λ k h held full. app_add_leaf c O k.indexes.net k.indexes.app k.key h.indexes.net h.indexes.app h.key held full;
    app_updated = λ k h. app_update_leaf c O k.indexes.net k.indexes.app k.key h.indexes.net h.indexes.app h.key;
    app_deleted = λ k h. app_delete_leaf c O k.net k.app h.net h.app;
    net_added = λ k h full. net_add_leaf c O k.net k.key h.net h.key full;
    net_updated = λ k h. net_update_leaf c O k.net k.key h.net h.key;
    phase_two = λ net h zero two. phase_two_leaf c O net h zero two;
    phase_ended = λ net h. phase_end_leaf c O net h;
    net_deleted = λ under net h kept. net_delete_leaf c O net under h kept;
    group_added = λ s h n own full. subscribe_leaf c O s.holder.element n s.group h.holder.element (own_small c s.holder n own) h.group full;
    group_deleted = λ s h n own. unsubscribe_leaf c O s.holder.element n s.group h.holder.element (own_small c s.holder n own) h.group;
    all_deleted = λ holder h n own. none_leaf c O holder.element n h.element (own_small c holder n own);
    group_overwritten = λ s h n own full. overwrite_leaf c O s.holder.element n s.group h.holder.element (own_small c s.holder n own) h.group full;
    label_added = λ s h n own full. label_leaf c O s.holder.element n s.label h.holder.element (own_small c s.holder n own) h.label full;
    label_deleted = λ s h n own. unlabel_leaf c O s.holder.element n s.label h.holder.element (own_small c s.holder n own) h.label;
    label_overwritten = λ s h n own full. label_overwrite_leaf c O s.holder.element n s.label h.holder.element (own_small c s.holder n own) h.label full;
    bound = λ b h n own full. bind_leaf c O b.holder.element n b.app h.holder.element (own_small c b.holder n own) h.app full;
    unbound = λ b h n own. unbind_leaf c O b.holder.element n b.app h.holder.element (own_small c b.holder n own) h.app;
    published = λ v h n own full. publish_leaf c O (row_asked v n)
        (λ w. (h.holder.element w, own_small c v.holder n own, h.address w, h.app, h.ttl, h.period w, h.retransmit w)) full;
    beacon = λ on. feature_leaf c O 1 (switch_octet on) (λ w. beacon_in_range on);
    ttl = λ ttl e. feature_leaf c O 2 ttl (λ w. e);
    friend = λ on. feature_leaf c O 3 (switch_octet on) (λ w. friend_in_range on);
    relay = λ on retransmit h. feature_leaf c O 4 (switch_octet on * 256 + retransmit) (λ w. relay_in_range on retransmit (h.small w));
    transmit = λ transmit h. feature_leaf c O 5 transmit (λ w. transmit_in_range transmit (h.small w));
    reset = reset_leaf c O;
  }

pub act_acted : (c : Config) (polls : List (Address × ℕ)) (beat : HeartbeatRow) (m : AccessMessage)
    → Acted (Leaf c (Octets m.payload)) (config_act c polls beat m)
act_acted c polls beat m = acted_pick P (is_for_server c m) (config_answer c m.net polls beat m.payload) None answered (nothing P)
  where
    P : StoreRecord → Type 0
    P = Leaf c (Octets m.payload)

    answered : Acted P (config_answer c m.net polls beat m.payload)
    answered = record {
      change = inside_weaker (IsProper P) (λ (a : ConfigAct). Inside P a.change) (λ a h. h.change)
          (config_answer c m.net polls beat m.payload)
          (answer_proper P (Octets m.payload) c (leaves c (Octets m.payload)) m.net polls beat m.payload (λ o. o));
    }

-- What a configuration message does, but for its reply, is the same whatever a Status shows of friendships and of the heartbeat.
use Rattle.std.proofs.Common.{◌≡◌, ℕ, Bool, true, false, cond, List, [], refl, ap, ◌∙◌, Option, Some, None}
use Rattle.std.specs.Option.{option_map, option_map_or, option_to_list}
use Rattle.config_definitions.proofs.Proper.{AreAlike, alike}
use Rattle.config_definitions.specs.Answers.{message_act}
use Rattle.config_definitions.specs.Messages.{config_message}
use Rattle.config_definitions.specs.declared.acts.ConfigAct.{ConfigAct}
use Rattle.config_definitions.specs.declared.messages.ConfigMessage.{ConfigMessage}
use Rattle.mesh_base.specs.declared.address.Address.{Address}
use Rattle.model_states.specs.Publication.{Published, heartbeat_set, row_set}
use Rattle.model_states.specs.declared.publication.HeartbeatRow.{HeartbeatRow}
use Rattle.record_types.specs.declared.records.StoreRecord.{StoreRecord}
use Rattle.node_layers.specs.Configuration.{config_act, ends_in, is_for_server}
use Rattle.node_layers.specs.Publishing.{published_by_act, stored_row}
use Rattle.node_models.specs.Acts.{change_in}
use Rattle.event_definitions.specs.Layers.{AccessMessage}
use Rattle.store_definitions.specs.Config.{Config}

module _ {X : Type 0} (f : Option StoreRecord → Option HeartbeatRow → Bool → X) (d : X) where
  abbrev said : ConfigAct → X
  said act = f act.change act.beat act.ends_friendships

  -- two acts do the same
  abbrev Alike : Option ConfigAct → Option ConfigAct → Type 0
  Alike a b = option_map_or said a d ≡ option_map_or said b d

  same_said : (a b : ConfigAct) → AreAlike a b → said a ≡ said b
  same_said a b h =
      ap (λ change. f change a.beat a.ends_friendships) h.change ∙ ap (λ beat. f b.change beat a.ends_friendships) h.beat
      ∙ ap (λ ends. f b.change b.beat ends) h.ends

  pick : (b : Bool) (x u : Option ConfigAct) → Alike x u → Alike (cond b x None) (cond b u None)
  pick true x u h = h
  pick false x u h = refl

  module _ (c : Config) (polls others : List (Address × ℕ)) (beat other : HeartbeatRow) where
    answers_alike : (under : ℕ) (m : Option ConfigMessage)
        → Alike (option_map (message_act c under polls beat) m) (option_map (message_act c under others other) m)
    answers_alike under None = refl
    answers_alike under (Some m) = same_said _ _ (alike c under polls others beat other m)

    acts_alike : (m : AccessMessage) → Alike (config_act c polls beat m) (config_act c others other m)
    acts_alike m = pick (is_for_server c m) _ _ (answers_alike m.net (config_message m.payload))

-- So are what a message stores, what is published by it, and whether it ends the friendships.

pub same_changes : (c : Config) (polls others : List (Address × ℕ)) (beat other : HeartbeatRow) (m : AccessMessage)
    → change_in (config_act c polls beat m) ≡ change_in (config_act c others other m)
same_changes c polls others beat other m = acts_alike (λ change set ends. option_to_list change) [] c polls others beat other m

pub same_published : (p : Published) (now : ℕ) (c : Config) (polls others : List (Address × ℕ)) (beat other : HeartbeatRow)
    (m : AccessMessage)
    → option_map_or (published_by_act p now) (config_act c polls beat m) p
    ≡ option_map_or (published_by_act p now) (config_act c others other m) p
same_published p now c polls others beat other m = acts_alike by_act p c polls others beat other m
  where
    by_act : Option StoreRecord → Option HeartbeatRow → Bool → Published
    by_act change set ends =
        let with_row = option_map_or (row_set p now) (stored_row change) p in
        option_map_or (heartbeat_set with_row now) set with_row

pub same_ends : (c : Config) (polls others : List (Address × ℕ)) (beat other : HeartbeatRow) (m : AccessMessage)
    → ends_in (config_act c polls beat m) ≡ ends_in (config_act c others other m)
same_ends c polls others beat other m = acts_alike (λ change set ends. ends) false c polls others beat other m

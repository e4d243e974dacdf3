-- The Generic OnOff Servers and Generic Level Servers of a life: which messages they take, and the state that each is in (Mesh Model 1.0.1,
-- sections 3.3.1 and 3.3.2; Mesh Profile 1.0.1, section 3.7).
use Rattle.std.specs.Prelude.{ℕ, ◌==◌, ◌&&◌, ◌||◌, Bool, false, if◌then◌else◌, List, [], ◌∷◌, ◌++◌, bytes_eq, slice_index, map, fold, Option, None}
use Rattle.std.specs.Int.{cast_signed, cast_unsigned, w16}
use Rattle.std.specs.List.{flat_map, list_any, range_with_len}
use Rattle.std.specs.Option.{option_map_or, option_to_list}
use Rattle.mesh_base.specs.declared.address.Address.{Address}
use Rattle.mesh_base.specs.declared.keys.UpperKey.{UpperKey}
use Rattle.mesh_base.specs.declared.keys.UpperKey.TheVariants as U
use Rattle.mesh_types.specs.declared.answers.Answer.{Answer}
use Rattle.mesh_types.specs.declared.answers.Answer.TheVariants as A
use Rattle.model_states.specs.Level.{level_after_payload, level_kept, level_opened, level_reply}
use Rattle.model_states.specs.OnOff.{onoff_after, onoff_kept, onoff_octet, onoff_opened, onoff_reply}
use Rattle.model_states.specs.declared.models.LevelState.{LevelState}
use Rattle.model_states.specs.declared.models.OnOffState.{OnOffState}
use Rattle.record_types.specs.declared.records.StoreRecord.{StoreRecord}
use Rattle.record_types.specs.declared.records.StoreRecord.TheVariants as R
use Rattle.event_definitions.specs.Answers.{config_before, is_group}
use Rattle.event_definitions.specs.History.{Past, Told, now_of, ticks_after}
use Rattle.event_definitions.specs.Jobs.{element_address}
use Rattle.event_definitions.specs.Layers.{AccessMessage}
use Rattle.event_definitions.specs.Stores.{message_of}
use Rattle.store_definitions.specs.Config.{Config, config_of}

-- the models by their numbers
abbrev pub onoff_server : ℕ
onoff_server = 0x1000

abbrev pub level_server : ℕ
level_server = 0x1002

-- The message that an entry delivered.

abbrev pub delivered_by : Told → Option AccessMessage
delivered_by t = by_answer t.entry.answer
  where
    by_answer : Answer → Option AccessMessage
    by_answer (A.Delivered name dst key payload) = message_of t.insight name dst
    by_answer _ = None

-- Which models take it (3.7.4.1).

-- the model's element is the DST
abbrev pub is_to_element : Config → ℕ → AccessMessage → Bool
is_to_element c element m = (element_address c element).0 == m.dst.0

-- the model subscribes to the group that is the DST; a virtual address among the subscriptions stands for no label
abbrev pub is_to_group : Config → ℕ → ℕ → AccessMessage → Bool
is_to_group c element model m =
    list_any (λ s. s.0.0 == (element_address c element).0 && s.1 == model && is_group s.2 && s.2.0 == m.dst.0) c.subs

-- the model subscribes to the label by which the message was opened
abbrev pub is_to_label : Config → ℕ → ℕ → AccessMessage → Bool
is_to_label c element model m = option_map_or (λ label. has_label label) m.label false
  where
    has_label : List ℕ → Bool
    has_label label =
        list_any (λ l. l.0.0 == (element_address c element).0 && l.1 == model && bytes_eq l.2 label) c.labels

-- the models of the first element take what goes to all nodes, to all friends where this node is one, and to all relays likewise
abbrev pub is_fixed_group : Config → Address → Bool
is_fixed_group c dst = dst.0 == 0xffff || (dst.0 == 0xfffd && c.friend == 1) || (dst.0 == 0xfffe && c.relay == 1)

-- the application key is bound to the model (3.7.4.2)
abbrev pub is_bound : Config → ℕ → ℕ → UpperKey → Bool
is_bound c element model (U.Device key) = false
is_bound c element model (U.App index aid key) =
    list_any (λ b. b.0.0 == (element_address c element).0 && b.1 == model && b.2 == index) c.binds

abbrev pub takes : Config → ℕ → ℕ → AccessMessage → Bool
takes c element model m =
    is_bound c element model m.key
    && (is_to_element c element m || is_to_group c element model m || is_to_label c element model m
    || (element == 0 && is_fixed_group c m.dst))

-- The states of a life.

-- the records that it opened over, as far as the models' values: no refill is one of these
abbrev pub first_records : Past → List StoreRecord
first_records past = records_from past.told
  where
    records_from : List Told → List StoreRecord
    records_from [] = past.records
    records_from (t ∷ ts) = t.records

abbrev pub onoff_first : Config → ℕ → OnOffState
onoff_first c element = onoff_opened (slice_index c.onoffs element == 1)

abbrev pub level_first : Config → ℕ → LevelState
level_first c element = level_opened (cast_signed w16 (slice_index c.levels element))

-- the messages delivered in this life that a model takes, each with the moment and the SRC
pub record TakenMessage : Type 0 where
  pub now : ℕ
  pub message : AccessMessage

abbrev pub taken_one : ℕ → ℕ → ℕ → Told → List TakenMessage
taken_one element model now t = option_map_or taken_if (delivered_by t) []
  where
    taken_if : AccessMessage → List TakenMessage
    taken_if m = if takes (config_of t.records) element model m then record { now = now; message = m } ∷ [] else []

abbrev pub taken_from : ℕ → ℕ → ℕ → List Told → List TakenMessage
taken_from element model now [] = []
taken_from element model now (t ∷ ts) =
    taken_one element model now t ++ taken_from element model (ticks_after now t.entry.answer) ts

abbrev pub onoff_with : OnOffState → TakenMessage → OnOffState
onoff_with s t = onoff_after s t.now t.message.name.src t.message.dst t.message.payload

abbrev pub level_with : LevelState → TakenMessage → LevelState
level_with s t = level_after_payload s t.now t.message.name.src t.message.dst t.message.payload

abbrev pub onoff_state : Past → ℕ → OnOffState
onoff_state past element =
    fold onoff_with (onoff_first (config_of (first_records past)) element) (taken_from element onoff_server 0 past.told)

abbrev pub level_state : Past → ℕ → LevelState
level_state past element =
    fold level_with (level_first (config_of (first_records past)) element) (taken_from element level_server 0 past.told)

-- What a message stores: the value of each model that takes it, where the value to be kept changes by it.

abbrev pub onoff_records : Past → Config → ℕ → AccessMessage → List StoreRecord
onoff_records past c element m =
    if takes c element onoff_server m then changed_value (onoff_state past element) else []
  where
    changed_value : OnOffState → List StoreRecord
    changed_value s =
        let before = onoff_octet (onoff_kept s) in
        let after = onoff_octet (onoff_kept (onoff_after s (now_of past.told) m.name.src m.dst m.payload)) in
        if before == after then [] else R.Model element onoff_server after ∷ []

abbrev pub level_records : Past → Config → ℕ → AccessMessage → List StoreRecord
level_records past c element m =
    if takes c element level_server m then changed_value (level_state past element) else []
  where
    changed_value : LevelState → List StoreRecord
    changed_value s =
        let before = cast_unsigned w16 (level_kept s) in
        let after =
        cast_unsigned w16 (level_kept (level_after_payload s (now_of past.told) m.name.src m.dst m.payload)) in
        if before == after then [] else R.Model element level_server after ∷ []

-- the places of the elements
abbrev pub elements_of : Config → List ℕ
elements_of c = range_with_len 0 c.elements

abbrev pub model_records : Past → AccessMessage → List StoreRecord
model_records past m =
    let c = config_before past in
    flat_map (λ element. onoff_records past c element m ++ level_records past c element m) (elements_of c)

-- What the models reply, each with the place of its element.

abbrev pub onoff_answer : Past → Config → ℕ → AccessMessage → Option (List ℕ)
onoff_answer past c element m =
    if takes c element onoff_server m
    then onoff_reply (onoff_state past element) (now_of past.told) m.name.src m.dst m.payload else None

abbrev pub level_answer : Past → Config → ℕ → AccessMessage → Option (List ℕ)
level_answer past c element m =
    if takes c element level_server m
    then level_reply (level_state past element) (now_of past.told) m.name.src m.dst m.payload else None

abbrev pub element_replies : Past → Config → AccessMessage → ℕ → List (ℕ × List ℕ)
element_replies past c m element =
    map (λ payload. (element, payload))
    (option_to_list (onoff_answer past c element m) ++ option_to_list (level_answer past c element m))

abbrev pub model_replies : Past → AccessMessage → List (ℕ × List ℕ)
model_replies past m = let c = config_before past in flat_map (element_replies past c m) (elements_of c)

-- An entry more is one step of each state: so tables keep up with a life entry by entry.
use Rattle.std.specs.Prelude.{◌≡◌, ℕ, List, [], ◌∷◌, ◌++◌, fold, filter_map, Option, Some, None, if◌then◌else◌}
use Rattle.std.specs.List.{list_any}
use Rattle.std.specs.Option.{option_to_list}
use Rattle.layer_states.specs.Cache.{last_of}
use Rattle.layer_states.specs.Reassembly as reassembly
use Rattle.layer_states.specs.Sending as sending
use Rattle.mesh_base.specs.declared.pair.Name.{Name}
use Rattle.mesh_types.specs.declared.answers.Answer.{Answer}
use Rattle.node_layers.specs.Friendship.{friends, friends_with}
use Rattle.node_layers.specs.Models.{level_server, level_state, level_with, onoff_server, onoff_state, onoff_with, taken_one}
use Rattle.node_layers.specs.Publishing.{published, published_with}
use Rattle.node_layers.specs.Reassembly as parts
use Rattle.node_layers.specs.Sending as own
use Rattle.record_types.specs.declared.records.StoreRecord.{StoreRecord}
use Rattle.layer_states.specs.Names.{is_name}
use Rattle.layer_states.specs.Reassembly.{is_segment}
use Rattle.event_definitions.specs.Answers.{accepted, cached_name, is_accepted_segmented, is_before_cache}
use Rattle.event_definitions.specs.Handling.{past_of}
use Rattle.event_definitions.specs.History.{Insight, OfPdu, Past, Told, now_of, ticks_after}
use Rattle.node_limits.specs.declared.TheConstants.{MESSAGE_CACHE}

-- what stands before the event after an entry, over some records
abbrev pub with_entry : List Told → Told → List StoreRecord → Past
with_entry told t records = record { told = told ++ t ∷ []; records = records }

-- the time
abbrev pub TimeGoesOn : Type 0
TimeGoesOn = (told : List Told) (t : Told) → now_of (told ++ t ∷ []) ≡ ticks_after (now_of told) t.entry.answer

-- messages of which segments were heard, and own segmented messages
abbrev pub PartsGoOn : Type 0
PartsGoOn =
    (told : List Told) (t : Told) (records : List StoreRecord)
    → parts.messages (with_entry told t records)
    ≡ fold reassembly.after (parts.messages (past_of told t)) (parts.calls_at (now_of told) t)

abbrev pub OwnGoOn : Type 0
OwnGoOn =
    (told : List Told) (t : Told) (records : List StoreRecord)
    → own.messages (with_entry told t records)
    ≡ fold sending.after (own.messages (past_of told t)) (own.calls_at (now_of told) t)

-- friendships and offers
abbrev pub FriendsGoOn : Type 0
FriendsGoOn =
    (told : List Told) (t : Told) (records : List StoreRecord)
    → friends (with_entry told t records) ≡ friends_with (friends (past_of told t)) (past_of told t) t

-- the models of an element, and what is published
abbrev pub OnOffGoesOn : Type 0
OnOffGoesOn =
    (told : List Told) (t : Told) (records : List StoreRecord) (element : ℕ)
    → onoff_state (with_entry told t records) element
    ≡ fold onoff_with (onoff_state (past_of told t) element) (taken_one element onoff_server (now_of told) t)

abbrev pub LevelGoesOn : Type 0
LevelGoesOn =
    (told : List Told) (t : Told) (records : List StoreRecord) (element : ℕ)
    → level_state (with_entry told t records) element
    ≡ fold level_with (level_state (past_of told t) element) (taken_one element level_server (now_of told) t)

abbrev pub PublishedGoesOn : Type 0
PublishedGoesOn =
    (told : List Told) (t : Told) (records : List StoreRecord)
    → published (with_entry told t records) ≡ published_with (published (past_of told t)) (now_of told) t

-- The message cache needs the last names alone, as many as it holds.

-- the names of the PDUs that got into it
abbrev pub cached_names : List Told → List Name
cached_names told = filter_map (λ t. cached_name t.insight (is_before_cache t.entry.answer)) told

abbrev pub CacheGoesOn : Type 0
CacheGoesOn =
    (told : List Told) (t : Told)
    → last_of MESSAGE_CACHE (cached_names (told ++ t ∷ []))
    ≡ last_of MESSAGE_CACHE
    (last_of MESSAGE_CACHE (cached_names told) ++ option_to_list (cached_name t.insight (is_before_cache t.entry.answer)))

-- The names of the messages that were accepted from segments.

abbrev pub segmented_name : Insight → Answer → Option Name
segmented_name (OfPdu reading (Some low) opening) answer = if is_segment low then accepted answer else None
segmented_name _ answer = None

abbrev pub segmented_names : List Told → List Name
segmented_names told = filter_map (λ t. segmented_name t.insight t.entry.answer) told

abbrev pub SegmentedGoesOn : Type 0
SegmentedGoesOn =
    (told : List Told) (t : Told)
    → segmented_names (told ++ t ∷ [])
    ≡ segmented_names told ++ option_to_list (segmented_name t.insight t.entry.answer)

-- they are those that are asked for
abbrev pub SegmentedIsAny : Type 0
SegmentedIsAny =
    (told : List Told) (n : Name)
    → list_any (λ (t : Told). is_accepted_segmented n t.insight t.entry.answer) told
    ≡ list_any (is_name n) (segmented_names told)

-- An entry more is one step of each state.
use Rattle.std.proofs.Common.{◌≡◌, ℕ, Bool, true, false, cond, ◌&&◌, ◌||◌, List, [], ◌∷◌, ◌++◌, refl, sym, ap, ◌∙◌, append_assoc, append-nil, fold, filter_map, Option, Some, None}
use Rattle.std.specs.List.{cons_option, list_any}
use Rattle.std.specs.Option.{option_to_list}
use Rattle.std.proofs.lemmas.List.Sums.{fold-append}
use Rattle.std.proofs.lemmas.List.Elements.{filter_map-append}
use Rattle.layer_states.proofs.CacheLaws.{last_more}
use Rattle.layer_states.specs.Cache.{last_of}
use Rattle.layer_states.specs.Friends.{FriendsState}
use Rattle.layer_states.specs.Reassembly as reassembly
use Rattle.layer_states.specs.Sending as sending
use Rattle.mesh_base.specs.declared.pair.Name.{Name}
use Rattle.mesh_types.specs.declared.answers.Answer.{Answer}
use Rattle.model_states.specs.Publication.{Published}
use Rattle.node_layers.specs.Friendship.{friends_from, friends_with, no_friends}
use Rattle.node_layers.specs.Models.{first_records, level_first, level_server, level_with, onoff_first, onoff_server, onoff_with, taken_from, taken_one}
use Rattle.node_layers.specs.Publishing.{published_after, published_with}
use Rattle.node_layers.specs.Reassembly as parts
use Rattle.node_layers.specs.Sending as own
use Rattle.node_layers.specs.Steps.{CacheGoesOn, FriendsGoOn, LevelGoesOn, OnOffGoesOn, OwnGoOn, PartsGoOn, PublishedGoesOn, SegmentedGoesOn, SegmentedIsAny, TimeGoesOn, cached_names, segmented_name, segmented_names, with_entry}
use Rattle.record_types.specs.declared.records.StoreRecord.{StoreRecord}
use Rattle.layer_states.specs.Names.{is_name}
use Rattle.layer_states.specs.Reassembly.{is_segment}
use Rattle.event_definitions.specs.Answers.{accepted, cached_name, is_accepted_segmented, is_before_cache}
use Rattle.event_definitions.specs.Handling.{past_of}
use Rattle.event_definitions.specs.History.{Insight, OfBeacon, OfNothing, OfPdu, Told, now_of, ticks_after}
use Rattle.store_definitions.specs.Config.{config_of}

-- the time of these entries, from a time on
abbrev later_of : ℕ → List Told → ℕ
later_of now told = fold (λ now (t : Told). ticks_after now t.entry.answer) now told

pub time_goes_on : TimeGoesOn
time_goes_on told t = fold-append (λ now (t : Told). ticks_after now t.entry.answer) 0 told (t ∷ [])

-- Calls, from a time on.

part_calls_more : (now : ℕ) (told : List Told) (t : Told) → parts.calls_from now (told ++ t ∷ []) ≡ parts.calls_from now told ++ parts.calls_at (later_of now told) t
part_calls_more now [] t = append-nil (parts.calls_at now t)
part_calls_more now (e ∷ told) t =
    ap (λ l. parts.calls_at now e ++ l) (part_calls_more (ticks_after now e.entry.answer) told t)
    ∙ sym (append_assoc (parts.calls_at now e) (parts.calls_from (ticks_after now e.entry.answer) told) (parts.calls_at (later_of now (e ∷ told)) t))

pub parts_go_on : PartsGoOn
parts_go_on told t records =
    ap (λ calls. fold reassembly.after [] calls) (part_calls_more 0 told t)
    ∙ fold-append reassembly.after [] (parts.calls_from 0 told) (parts.calls_at (now_of told) t)

own_calls_more : (now : ℕ) (told : List Told) (t : Told) → own.calls_from now (told ++ t ∷ []) ≡ own.calls_from now told ++ own.calls_at (later_of now told) t
own_calls_more now [] t = append-nil (own.calls_at now t)
own_calls_more now (e ∷ told) t =
    ap (λ l. own.calls_at now e ++ l) (own_calls_more (ticks_after now e.entry.answer) told t)
    ∙ sym (append_assoc (own.calls_at now e) (own.calls_from (ticks_after now e.entry.answer) told) (own.calls_at (later_of now (e ∷ told)) t))

pub own_go_on : OwnGoOn
own_go_on told t records =
    ap (λ calls. fold sending.after [] calls) (own_calls_more 0 told t)
    ∙ fold-append sending.after [] (own.calls_from 0 told) (own.calls_at (now_of told) t)

-- Friendships.

friends_more : (st : FriendsState) (before told : List Told) (t : Told)
    → friends_from st before (told ++ t ∷ []) ≡ friends_with (friends_from st before told) (past_of (before ++ told) t) t
friends_more st before [] t = ap (λ l. friends_with st (past_of l t) t) (sym (append-nil before))
friends_more st before (e ∷ told) t =
    friends_more (friends_with st (past_of before e) e) (before ++ e ∷ []) told t
    ∙ ap (λ l. friends_with (friends_from st before (e ∷ told)) (past_of l t) t) (append_assoc before (e ∷ []) told)

pub friends_go_on : FriendsGoOn
friends_go_on told t records = friends_more no_friends [] told t

-- The models, and what is published.

taken_more : (element model now : ℕ) (told : List Told) (t : Told)
    → taken_from element model now (told ++ t ∷ []) ≡ taken_from element model now told ++ taken_one element model (later_of now told) t
taken_more element model now [] t = append-nil (taken_one element model now t)
taken_more element model now (e ∷ told) t =
    ap (λ l. taken_one element model now e ++ l) (taken_more element model (ticks_after now e.entry.answer) told t)
    ∙ sym (append_assoc (taken_one element model now e) (taken_from element model (ticks_after now e.entry.answer) told) (taken_one element model (later_of now (e ∷ told)) t))

first_same : (told : List Told) (t : Told) (records : List StoreRecord) → first_records (with_entry told t records) ≡ first_records (past_of told t)
first_same [] t records = refl
first_same (e ∷ told) t records = refl

pub onoff_goes_on : OnOffGoesOn
onoff_goes_on told t records element =
    rw (first_same told t records, taken_more element onoff_server 0 told t)
    (fold-append onoff_with (onoff_first (config_of (first_records (past_of told t))) element) (taken_from element onoff_server 0 told) (taken_one element onoff_server (now_of told) t))

pub level_goes_on : LevelGoesOn
level_goes_on told t records element =
    rw (first_same told t records, taken_more element level_server 0 told t)
    (fold-append level_with (level_first (config_of (first_records (past_of told t))) element) (taken_from element level_server 0 told) (taken_one element level_server (now_of told) t))

published_more : (p : Published) (now : ℕ) (told : List Told) (t : Told)
    → published_after p now (told ++ t ∷ []) ≡ published_with (published_after p now told) (later_of now told) t
published_more p now [] t = refl
published_more p now (e ∷ told) t = published_more (published_with p now e) (ticks_after now e.entry.answer) told t

pub published_goes_on : PublishedGoesOn
published_goes_on told t records = rw (first_same told t records) (published_more _ 0 told t)

-- The message cache, and the names accepted from segments.

-- what one item more gives
one_given : {X Y : Type 0} (h : X → Option Y) (x : X) → filter_map h (x ∷ []) ≡ option_to_list (h x)
one_given {Y = Y} h x = given (h x)
  where
    given : (o : Option Y) → cons_option o [] ≡ option_to_list o
    given None = refl
    given (Some y) = refl

names_more : {Y : Type 0} (h : Told → Option Y) (told : List Told) (t : Told) → filter_map h (told ++ t ∷ []) ≡ filter_map h told ++ option_to_list (h t)
names_more h told t = filter_map-append h told (t ∷ []) ∙ ap (λ l. filter_map h told ++ l) (one_given h t)

pub cache_goes_on : CacheGoesOn
cache_goes_on told t =
    ap (λ l. last_of 128 l) (names_more (λ (e : Told). cached_name e.insight (is_before_cache e.entry.answer)) told t)
    ∙ sym (last_more 128 (cached_names told) (option_to_list (cached_name t.insight (is_before_cache t.entry.answer))))

pub segmented_goes_on : SegmentedGoesOn
segmented_goes_on told t = names_more (λ (e : Told). segmented_name e.insight e.entry.answer) told t

any_of_option : (n : Name) (o : Option Name) (names : List Name) → list_any (is_name n) (cons_option o names) ≡ (list_any (is_name n) (option_to_list o) || list_any (is_name n) names)
any_of_option n None names = refl
any_of_option n (Some m) names = step (is_name n m) (list_any (is_name n) names)
  where
    step : (a b : Bool) → (a || b) ≡ ((a || false) || b)
    step true b = refl
    step false b = refl

segmented_test : (n : Name) (insight : Insight) (answer : Answer) → is_accepted_segmented n insight answer ≡ list_any (is_name n) (option_to_list (segmented_name insight answer))
segmented_test n (OfPdu reading (Some low) opening) answer = pick (is_segment low) (accepted answer)
  where
    pick : (b : Bool) (o : Option Name) → (b && list_any (is_name n) (option_to_list o)) ≡ list_any (is_name n) (option_to_list (cond b o None))
    pick true o = refl
    pick false o = refl
segmented_test n (OfPdu reading None opening) answer = refl
segmented_test n (OfBeacon b) answer = refl
segmented_test n OfNothing answer = refl

pub segmented_is_any : SegmentedIsAny
segmented_is_any [] n = refl
segmented_is_any (t ∷ told) n =
    ap (λ b. b || list_any (λ (e : Told). is_accepted_segmented n e.insight e.entry.answer) told) (segmented_test n t.insight t.entry.answer)
    ∙ ap (λ b. list_any (is_name n) (option_to_list (segmented_name t.insight t.entry.answer)) || b) (segmented_is_any told n)
    ∙ sym (any_of_option n (segmented_name t.insight t.entry.answer) (segmented_names told))

-- The servers of a life: at its opening, and after a message.
use Rattle.std.proofs.Common.{◌≡◌, ℕ, ◌-◌, ◌<◌, Bool, true, false, if◌then◌else◌, length, get_or, arith, List, [], ◌∷◌, refl, sym, ap, subst, ◌∙◌, fold, map, Option, Some}
use Rattle.std.specs.List.{range_with_len}
use Rattle.std.specs.Option.{option_map_or, option_to_list}
use Rattle.std.specs.Prelude.{◌==◌}
use Rattle.std.proofs.lemmas.List.{map-append}
use Rattle.std.proofs.lemmas.List.FromFn.{get_or-map-range_with_len, length-map-range_with_len}
use Rattle.element_models.proofs.Lists.{flat_from_range, flat_map_same, map_from_range, map_same}
use Rattle.element_models.specs.Models.{AreModelsOf, servers_of}
use Rattle.element_models.specs.Stepping.{all_replied, all_step, all_stored, level_step, onoff_step, servers_first, servers_replied, servers_step, servers_stored}
use Rattle.element_models.specs.declared.servers.Servers.{Servers}
use Rattle.model_states.specs.Level.{level_status}
use Rattle.model_states.specs.OnOff.{onoff_status}
use Rattle.model_states.specs.declared.models.LevelState.{LevelState}
use Rattle.model_states.specs.declared.models.OnOffState.{OnOffState}
use Rattle.node_layers.proofs.Steps.{level_goes_on, onoff_goes_on}
use Rattle.node_layers.specs.Models.{TakenMessage, delivered_by, element_replies, elements_of, level_answer, level_server, level_state, level_with, model_records, model_replies, onoff_answer, onoff_server, onoff_state, onoff_with, taken_one, takes}
use Rattle.node_layers.specs.Publishing.{status_of}
use Rattle.node_layers.specs.Steps.{with_entry}
use Rattle.node_records.specs.Meaning.{IsMeaningOf}
use Rattle.node_records.specs.Tables.{config_in}
use Rattle.node_records.specs.declared.persist.Persist.{Persist}
use Rattle.record_types.specs.declared.records.PublishRow.{PublishRow}
use Rattle.record_types.specs.declared.records.StoreRecord.{StoreRecord}
use Rattle.event_definitions.specs.Answers.{config_before}
use Rattle.event_definitions.specs.Handling.{past_of}
use Rattle.event_definitions.specs.History.{Past, Told, now_of}
use Rattle.event_definitions.specs.Layers.{AccessMessage}
use Rattle.store_definitions.specs.Config.{Config, config_of}

-- At the opening.

first_states : (told : List Told) (records : List StoreRecord) (e : ℕ) → told ≡ []
    → servers_first (config_of records) e ≡ servers_of (record { told = told; records = records }) e
first_states told records e none =
    let P : List Told → Type 0 = λ l. servers_first (config_of records) e ≡ servers_of (record { told = l; records = records }) e in
    subst P (sym none) refl

pub opened : (p : Persist) (servers : List Servers) → servers ≡ map (servers_first (config_in p)) (range_with_len 0 p.elements)
    → (past : Past) → IsMeaningOf past.records p → past.told ≡ [] → AreModelsOf servers past
opened p servers e past means none = record {
  states =
      e
      ∙ ap (λ (c : Config). map (servers_first c) (range_with_len 0 c.elements)) means.config
      ∙ map_same (servers_first (config_before past)) (servers_of past) (elements_of (config_before past)) (λ n. first_states past.told past.records n none);
}

-- How many they are, and the servers at a place.

pub as_many_as : (servers : List Servers) (past : Past) → AreModelsOf servers past → length servers ≡ (config_before past).elements
as_many_as servers past are =
    ap (λ ss. length ss) are.states ∙ length-map-range_with_len (servers_of past) 0 (config_before past).elements

pub at_place : (servers : List Servers) (past : Past) (element : ℕ) (d : Servers) → AreModelsOf servers past → element < length servers
    → d ≡ get_or servers element d → d ≡ servers_of past element
at_place servers past element d are l at =
    let many = as_many_as servers past are in
    at
    ∙ ap (λ ss. get_or ss element d) are.states
    ∙ get_or-map-range_with_len (servers_of past) 0 (config_before past).elements element element d (omega (arith, many)) (omega arith)

-- The Status that a publication shows, by the place of its element and its model.
abbrev status_by : Past → ℕ → ℕ → ℕ → List ℕ
status_by past element model now =
    if model == onoff_server then onoff_status (onoff_state past element) now else level_status (level_state past element) now

abbrev status_if : Past → ℕ → Bool → ℕ → List ℕ
status_if past element is_onoff now = if is_onoff then onoff_status (onoff_state past element) now else level_status (level_state past element) now

of_row : (past : Past) (c : Config) (row : PublishRow) (element model now : ℕ) → row.element.0 - c.unicast.0 ≡ element → row.model ≡ model
    → status_by past element model now ≡ status_of past c row now
of_row past c row element model now at is =
    ap (λ m. status_by past element m now) (sym is) ∙ ap (λ e. status_by past e row.model now) (sym at)

pub onoff_shown : (past : Past) (c : Config) (row : PublishRow) (element model now : ℕ) (d : Servers) → (model == 0x1000) ≡ true
    → d ≡ servers_of past element → row.element.0 - c.unicast.0 ≡ element → row.model ≡ model
    → onoff_status d.onoff now ≡ status_of past c row now
onoff_shown past c row element model now d test stands at is =
    ap (λ (s : Servers). onoff_status s.onoff now) stands
    ∙ ap (λ b. status_if past element b now) (sym test)
    ∙ of_row past c row element model now at is

pub level_shown : (past : Past) (c : Config) (row : PublishRow) (element model now : ℕ) (d : Servers) → (model == 0x1000) ≡ false
    → d ≡ servers_of past element → row.element.0 - c.unicast.0 ≡ element → row.model ≡ model
    → level_status d.level now ≡ status_of past c row now
level_shown past c row element model now d test stands at is =
    ap (λ (s : Servers). level_status s.level now) stands
    ∙ ap (λ b. status_if past element b now) (sym test)
    ∙ of_row past c row element model now at is

-- A message, after one past.

abbrev alone : ℕ → AccessMessage → List TakenMessage
alone now m = record { now = now; message = m } ∷ []

module _ (p : Persist) (past : Past) (now : ℕ) (m : AccessMessage) (servers : List Servers) (means : IsMeaningOf past.records p)
    (are : AreModelsOf servers past) (time : now ≡ now_of past.told) where
  abbrev c : Config
  c = config_before past

  pub records_are : all_stored (config_in p) now m servers ≡ model_records past m
  records_are =
      ap (λ (d : Config). all_stored d now m servers) means.config
      ∙ ap (λ n. all_stored c n m servers) time
      ∙ ap (λ ss. all_stored c (now_of past.told) m ss) are.states
      ∙ flat_from_range (servers_stored c (now_of past.told) m) (servers_of past) 0 c.elements

  one_replied : (e : ℕ) → servers_replied c (now_of past.told) m e (servers_of past e) ≡ element_replies past c m e
  one_replied e = sym (map-append (λ payload. (e, payload)) (option_to_list (onoff_answer past c e m)) (option_to_list (level_answer past c e m)))

  pub replies_are : all_replied (config_in p) now m servers ≡ model_replies past m
  replies_are =
      ap (λ (d : Config). all_replied d now m servers) means.config
      ∙ ap (λ n. all_replied c n m servers) time
      ∙ ap (λ ss. all_replied c (now_of past.told) m ss) are.states
      ∙ flat_from_range (servers_replied c (now_of past.told) m) (servers_of past) 0 c.elements
      ∙ flat_map_same (λ e. servers_replied c (now_of past.told) m e (servers_of past e)) (element_replies past c m) (elements_of c) one_replied

  -- The states behind an entry that delivers it.
  module _ (t : Told) (records : List StoreRecord) (same : t.records ≡ past.records) (delivers : delivered_by t ≡ Some m) where
    one_taken : (element model : ℕ) → taken_one element model (now_of past.told) t
        ≡ (if takes c element model m then alone (now_of past.told) m else [])
    one_taken element model =
        let P : Option AccessMessage → Type 0 =
        λ o. option_map_or (λ x. if takes (config_of t.records) element model x then alone (now_of past.told) x else []) o []
        ≡ (if takes (config_of t.records) element model m then alone (now_of past.told) m else []) in
        let Q : List StoreRecord → Type 0 =
        λ rs. taken_one element model (now_of past.told) t ≡ (if takes (config_of rs) element model m then alone (now_of past.told) m else []) in
        subst Q same (subst P (sym delivers) refl)

    onoff_one : (b : Bool) (s : OnOffState) (x : TakenMessage) → fold onoff_with s (if b then x ∷ [] else []) ≡ (if b then onoff_with s x else s)
    onoff_one true s x = refl
    onoff_one false s x = refl

    level_one : (b : Bool) (s : LevelState) (x : TakenMessage) → fold level_with s (if b then x ∷ [] else []) ≡ (if b then level_with s x else s)
    level_one true s x = refl
    level_one false s x = refl

    onoff_more : (e : ℕ) → onoff_state (with_entry past.told t records) e ≡ onoff_step c (now_of past.told) m e (onoff_state past e)
    onoff_more e =
        onoff_goes_on past.told t records e
        ∙ ap (λ ms. fold onoff_with (onoff_state (past_of past.told t) e) ms) (one_taken e onoff_server)
        ∙ onoff_one (takes c e onoff_server m) (onoff_state (past_of past.told t) e) (record { now = now_of past.told; message = m })
        ∙ ap (λ rs. onoff_step c (now_of past.told) m e (onoff_state (record { told = past.told; records = rs }) e)) same

    level_more : (e : ℕ) → level_state (with_entry past.told t records) e ≡ level_step c (now_of past.told) m e (level_state past e)
    level_more e =
        level_goes_on past.told t records e
        ∙ ap (λ ms. fold level_with (level_state (past_of past.told t) e) ms) (one_taken e level_server)
        ∙ level_one (takes c e level_server m) (level_state (past_of past.told t) e) (record { now = now_of past.told; message = m })
        ∙ ap (λ rs. level_step c (now_of past.told) m e (level_state (record { told = past.told; records = rs }) e)) same

    states_more : (e : ℕ) → servers_step c (now_of past.told) m e (servers_of past e) ≡ servers_of (with_entry past.told t records) e
    states_more e = λ i. record { onoff = sym (onoff_more e) i; level = sym (level_more e) i }

    pub models_more : (config_of records).elements ≡ (config_before past).elements
        → AreModelsOf (all_step (config_in p) now m servers) (with_entry past.told t records)
    models_more elements = record {
      states =
          ap (λ (d : Config). all_step d now m servers) means.config
          ∙ ap (λ n. all_step c n m servers) time
          ∙ ap (λ ss. all_step c (now_of past.told) m ss) are.states
          ∙ map_from_range (servers_step c (now_of past.told) m) (servers_of past) 0 c.elements
          ∙ map_same (λ e. servers_step c (now_of past.told) m e (servers_of past e)) (servers_of (with_entry past.told t records)) (elements_of c) states_more
          ∙ ap (λ n. map (servers_of (with_entry past.told t records)) (range_with_len 0 n)) (sym elements);
    }

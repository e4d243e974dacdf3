-- What leaves the servers of a life as they are.
use Rattle.std.proofs.Common.{◌≡◌, ℕ, zero, suc, ◌≤◌, true, if◌then◌else◌, List, [], ◌∷◌, ◌++◌, refl, sym, ap, subst, ◌∙◌, arith, rules, fold, map, Option, None, true≢false}
use Rattle.std.specs.Prelude.{All, IsTrue}
use Rattle.std.specs.List.{range_with_len}
use Rattle.std.specs.Option.{option_map_or}
use Rattle.std.proofs.lemmas.List.Elements.{All-head, All-tail}
use Rattle.std.proofs.lemmas.List.Sums.{fold-append}
use Rattle.element_models.proofs.Lists.{map_same}
use Rattle.element_models.specs.Models.{AreFew, AreModelsOf, GoOn, KeepElements, StandOver, StandRefilled, StandWith, is_apart, is_no_identity, over, servers_of}
use Rattle.element_models.specs.declared.servers.Servers.{Servers}
use Rattle.node_layers.proofs.Steps.{level_goes_on, onoff_goes_on}
use Rattle.node_layers.specs.Models.{TakenMessage, delivered_by, elements_of, level_first, level_server, level_state, level_with, onoff_first, onoff_server, onoff_state, onoff_with, taken_one, takes}
use Rattle.node_layers.specs.Steps.{with_entry}
use Rattle.record_types.specs.declared.records.StoreRecord.{StoreRecord}
use Rattle.record_types.specs.declared.records.StoreRecord.TheVariants as R
use Rattle.event_definitions.specs.Answers.{config_before}
use Rattle.event_definitions.specs.Handling.{past_of}
use Rattle.event_definitions.specs.History.{Past, Told, now_of}
use Rattle.event_definitions.specs.Layers.{AccessMessage}
use Rattle.store_definitions.specs.Config.{Config, changed, config_of, no_config}
use Rattle.store_definitions.specs.Numbers.{fill_of}
use Rattle.store_definitions.specs.Ranges.{IsInRange}

-- The servers of as many elements, whose states are the same.
pub as_many : (servers : List Servers) (past later : Past) → AreModelsOf servers past
    → (config_before later).elements ≡ (config_before past).elements
    → ((e : ℕ) → servers_of past e ≡ servers_of later e) → AreModelsOf servers later
as_many servers past later are same states = record {
  states =
      are.states
      ∙ map_same (servers_of past) (servers_of later) (elements_of (config_before past)) states
      ∙ ap (λ n. map (servers_of later) (range_with_len 0 n)) (sym same);
}

-- An entry that delivers no message.

abbrev alone : ℕ → AccessMessage → List TakenMessage
alone now m = record { now = now; message = m } ∷ []

none_taken : (element model now : ℕ) (t : Told) → delivered_by t ≡ None → taken_one element model now t ≡ []
none_taken element model now t e =
    let P : Option AccessMessage → Type 0 =
    λ o. option_map_or (λ m. if takes (config_of t.records) element model m then alone now m else []) o [] ≡ [] in
    subst P (sym e) refl

states_stay : (past : Past) (t : Told) (records : List StoreRecord) → t.records ≡ past.records → delivered_by t ≡ None
    → (e : ℕ) → servers_of past e ≡ servers_of (with_entry past.told t records) e
states_stay past t records same none e =
    let onoff : onoff_state (with_entry past.told t records) e ≡ onoff_state past e =
    onoff_goes_on past.told t records e
    ∙ ap (λ ms. fold onoff_with (onoff_state (past_of past.told t) e) ms) (none_taken e onoff_server (now_of past.told) t none)
    ∙ ap (λ rs. onoff_state (record { told = past.told; records = rs }) e) same in
    let level : level_state (with_entry past.told t records) e ≡ level_state past e =
    level_goes_on past.told t records e
    ∙ ap (λ ms. fold level_with (level_state (past_of past.told t) e) ms) (none_taken e level_server (now_of past.told) t none)
    ∙ ap (λ rs. level_state (record { told = past.told; records = rs }) e) same in
    λ i. record { onoff = sym onoff i; level = sym level i }

pub go_on : GoOn
go_on servers past t records are same none elements =
    as_many servers past (with_entry past.told t records) are elements (states_stay past t records same none)

-- Other records, before the first entry and behind it.

states_over : (told : List Told) (before after : List StoreRecord)
    → (told ≡ [] → ((config_of after).onoffs ≡ (config_of before).onoffs) × ((config_of after).levels ≡ (config_of before).levels))
    → (e : ℕ) → servers_of (record { told = told; records = before }) e ≡ servers_of (record { told = told; records = after }) e
states_over [] before after kept e =
    let same = kept refl in
    λ i. record {
      onoff = ap (λ onoffs. onoff_first (record (config_of before) { onoffs = onoffs }) e) (sym same.0) i;
      level = ap (λ levels. level_first (record (config_of before) { levels = levels }) e) (sym same.1) i;
    }
states_over (t ∷ ts) before after kept e = refl

pub stand_over : StandOver
stand_over servers past records are elements kept =
    as_many servers past (over past records) are elements (states_over past.told past.records records kept)

-- What a record keeps that is no Identity, and no value of a model.
pub record IsAlike (c d : Config) : Type 0 where
  pub elements : d.elements ≡ c.elements
  pub onoffs : d.onoffs ≡ c.onoffs
  pub levels : d.levels ≡ c.levels

one_apart : (c : Config) (item : StoreRecord) → is_apart item ≡ true → IsAlike c (changed c item)
unfolding changed
one_apart c (R.Identity unicast elements dev_key) h = absurd (true≢false (sym h))
one_apart c (R.Numbers current progress mark hours since) h = record { elements = refl; onoffs = refl; levels = refl }
one_apart c (R.Hour hours since) h = record { elements = refl; onoffs = refl; levels = refl }
one_apart c (R.Replay first second) h = record { elements = refl; onoffs = refl; levels = refl }
one_apart c (R.NetKey op index key) h = record { elements = refl; onoffs = refl; levels = refl }
one_apart c (R.AppKey op net index key) h = record { elements = refl; onoffs = refl; levels = refl }
one_apart c (R.Bind op element model app) h = record { elements = refl; onoffs = refl; levels = refl }
one_apart c (R.Subscribe op element model address) h = record { elements = refl; onoffs = refl; levels = refl }
one_apart c (R.Feature which value) h = record { elements = refl; onoffs = refl; levels = refl }
one_apart c R.Reset h = record { elements = refl; onoffs = refl; levels = refl }
one_apart c (R.Model element model value) h = absurd (true≢false (sym h))
one_apart c (R.Label op element model label) h = record { elements = refl; onoffs = refl; levels = refl }
one_apart c (R.Publish row) h = record { elements = refl; onoffs = refl; levels = refl }

all_apart : (c : Config) (items : List StoreRecord) → All (λ item. IsTrue (is_apart item)) items → IsAlike c (fold changed c items)
all_apart c [] h = record { elements = refl; onoffs = refl; levels = refl }
all_apart c (item ∷ items) h =
    let one = one_apart c item (All-head (λ r. IsTrue (is_apart r)) item items h) in
    let rest = all_apart (changed c item) items (All-tail (λ r. IsTrue (is_apart r)) item items h) in
    record { elements = rest.elements ∙ one.elements; onoffs = rest.onoffs ∙ one.onoffs; levels = rest.levels ∙ one.levels }

pub stand_with : StandWith
stand_with servers past items are h =
    let more = fold-append changed no_config past.records items in
    let alike = all_apart (config_of past.records) items h in
    stand_over servers past (past.records ++ items) are
    (ap (λ (c : Config). c.elements) more ∙ alike.elements)
    (λ none. (ap (λ (c : Config). c.onoffs) more ∙ alike.onoffs, ap (λ (c : Config). c.levels) more ∙ alike.levels))

pub stand_refilled : StandRefilled
stand_refilled servers past zero are = are
stand_refilled servers past (suc fills) are =
    stand_refilled servers (over past (past.records ++ fill_of (config_of past.records) ∷ [])) fills
    (stand_with servers past (fill_of (config_of past.records) ∷ []) are (search rules))

-- The number of elements.

one_keeps : (c : Config) (item : StoreRecord) → is_no_identity item ≡ true → (changed c item).elements ≡ c.elements
unfolding changed
one_keeps c (R.Identity unicast elements dev_key) h = absurd (true≢false (sym h))
one_keeps c (R.Numbers current progress mark hours since) h = refl
one_keeps c (R.Hour hours since) h = refl
one_keeps c (R.Replay first second) h = refl
one_keeps c (R.NetKey op index key) h = refl
one_keeps c (R.AppKey op net index key) h = refl
one_keeps c (R.Bind op element model app) h = refl
one_keeps c (R.Subscribe op element model address) h = refl
one_keeps c (R.Feature which value) h = refl
one_keeps c R.Reset h = refl
one_keeps c (R.Model element model value) h = refl
one_keeps c (R.Label op element model label) h = refl
one_keeps c (R.Publish row) h = refl

all_keep : (c : Config) (items : List StoreRecord) → All (λ item. IsTrue (is_no_identity item)) items → (fold changed c items).elements ≡ c.elements
all_keep c [] h = refl
all_keep c (item ∷ items) h =
    all_keep (changed c item) items (All-tail (λ r. IsTrue (is_no_identity r)) item items h)
    ∙ one_keeps c item (All-head (λ r. IsTrue (is_no_identity r)) item items h)

pub keep_elements : KeepElements
keep_elements records items h =
    ap (λ (c : Config). c.elements) (fold-append changed no_config records items) ∙ all_keep (config_of records) items h

few_more : (c : Config) (item : StoreRecord) → IsInRange item → c.elements ≤ 4 → (changed c item).elements ≤ 4
unfolding changed
few_more c (R.Identity unicast elements dev_key) r h = r.1
few_more c (R.Numbers current progress mark hours since) r h = h
few_more c (R.Hour hours since) r h = h
few_more c (R.Replay first second) r h = h
few_more c (R.NetKey op index key) r h = h
few_more c (R.AppKey op net index key) r h = h
few_more c (R.Bind op element model app) r h = h
few_more c (R.Subscribe op element model address) r h = h
few_more c (R.Feature which value) r h = h
few_more c R.Reset r h = h
few_more c (R.Model element model value) r h = h
few_more c (R.Label op element model label) r h = h
few_more c (R.Publish row) r h = h

few_all : (c : Config) (records : List StoreRecord) → All IsInRange records → c.elements ≤ 4 → (fold changed c records).elements ≤ 4
few_all c [] r h = h
few_all c (item ∷ records) r h =
    few_all (changed c item) records (All-tail IsInRange item records r) (few_more c item (All-head IsInRange item records r) h)

pub are_few : AreFew
are_few p said =
    subst (λ (c : Config). c.elements ≤ 4) (sym said.meaning.config) (few_all no_config said.records said.ranges (omega arith))

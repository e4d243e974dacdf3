-- Records that lead from what a config says, with names that were put, to what another says: each is in range, and may follow those before.
use Rattle.std.proofs.Common.{◌≡◌, inl, inr, ℕ, ◌+◌, ◌<◌, ◌≤◌, Bool, true, false, List, [], ◌∷◌, ◌++◌, length, refl, ap, sym, subst, ◌∙◌, arith, append_assoc, append-nil, length-append}
use Rattle.std.specs.Prelude.{⊤, ◌==◌, Option, Some, None, fold, All, nat_lt, if◌then◌else◌}
use Rattle.std.specs.Option.{option_to_list}
use Rattle.std.specs.List.{flat_map, list_any}
use Rattle.std.proofs.lemmas.Bool.Decides.{nat_tests}
use Rattle.std.proofs.lemmas.List.Elements.{All-nil, All-cons}
use Rattle.std.proofs.lemmas.List.Sums.{fold-append}
use Rattle.node_limits.specs.declared.TheConstants.{REPLAY_ENTRIES}
use Rattle.layer_definitions.specs.Order.{put_by}
use Rattle.mesh_base.specs.declared.pair.Name.{Name}
use Rattle.mesh_base.specs.declared.pair.Pair.{Pair}
use Rattle.record_types.specs.declared.records.StoreRecord.{StoreRecord}
use Rattle.record_types.specs.declared.records.StoreRecord.TheVariants as R
use Rattle.store_definitions.specs.Config.{Config, no_config, config_of, changed, nets_after, apps_after, binds_after, subs_after, labels_after, publication_index}
use Rattle.store_definitions.specs.Entries.{kept_with, kept_after, names_in, sources_with, sources_after, sources_of, others_held}
use Rattle.store_definitions.specs.Following.{HasNoPlace, Follows, AreInOrder}
use Rattle.store_definitions.specs.Ranges.{IsInRange}
use Rattle.node_records.proofs.Changes.{filter_few}

-- the names put, with those of one record more
abbrev pub names_after : List Name → StoreRecord → List Name
names_after names (R.Replay first second) = names ++ first ∷ option_to_list second
names_after names _ = names

-- there is a place for what a record adds, and the known IV Index doesn't fall
abbrev pub Fits : Config → List Name → StoreRecord → Type 0
Fits c names (R.NetKey op index key) = length (nets_after op index key c.nets) ≤ 4
Fits c names (R.AppKey op net index key) = length (apps_after op net index key c.apps) ≤ 8
Fits c names (R.Bind op element model app) = length (binds_after op element model app c.binds) ≤ 32
Fits c names (R.Subscribe op element model address) = length (subs_after op element model address c.subs) ≤ 32
Fits c names (R.Label op element model label) = length (labels_after op element model label c.labels) ≤ 32
Fits c names (R.Publish row) = length (put_by publication_index row c.publications) ≤ 8
Fits c names (R.Replay first second) = length (names ++ first ∷ option_to_list second) ≤ REPLAY_ENTRIES
Fits c names (R.Numbers current progress mark hours since) = c.iv.current ≤ current
Fits c names _ = ⊤

abbrev pub Leads : Config → List Name → List StoreRecord → Config → List Name → Type 0
Leads c names [] d more = (c ≡ d) × (names ≡ more)
Leads c names (item ∷ items) d more = IsInRange item × Fits c names item × Leads (changed c item) (names_after names item) items d more

-- One list after another, and the ends.

pub leads_then : (c d e : Config) (names more most : List Name) (xs ys : List StoreRecord) → Leads c names xs d more → Leads d more ys e most → Leads c names (xs ++ ys) e most
leads_then c d e names more most [] ys h k = subst (λ (b : Config). Leads b names ys e most) (sym h.0) (subst (λ ns. Leads d ns ys e most) (sym h.1) k)
leads_then c d e names more most (x ∷ xs) ys h k = (h.0, h.1, leads_then (changed c x) d e (names_after names x) more most xs ys h.2 k)

-- nothing changes
pub leads_none : (c : Config) (names : List Name) → Leads c names [] c names
leads_none c names = (refl, refl)

-- one record that puts no name, then others
pub leads_step : (c d e : Config) (names more : List Name) (item : StoreRecord) (items : List StoreRecord) → IsInRange item → Fits c names item
    → changed c item ≡ d → names_after names item ≡ names → Leads d names items e more → Leads c names (item ∷ items) e more
leads_step c d e names more item items range fits to same rest =
    (range, fits, subst (λ (b : Config). Leads b (names_after names item) items e more) (sym to) (subst (λ ns. Leads d ns items e more) (sym same) rest))

-- a table that is built row by row
pub extend : {A : Type 0} (state : List A → Config) (names : List Name) (texts : A → List StoreRecord) (all : List A)
    → ((done : List A) (r : A) (rest : List A) → done ++ r ∷ rest ≡ all → Leads (state done) names (texts r) (state (done ++ r ∷ [])) names)
    → (done rows : List A) → done ++ rows ≡ all → Leads (state done) names (flat_map texts rows) (state all) names
extend state names texts all one done [] e = (ap state (sym (append-nil done) ∙ e), refl)
extend state names texts all one done (r ∷ rows) e =
    leads_then (state done) (state (done ++ r ∷ [])) (state all) names names names (texts r) (flat_map texts rows) (one done r rows e)
    (extend state names texts all one (done ++ r ∷ []) rows (append_assoc done (r ∷ []) rows ∙ e))

-- Ranges, the config, the names.

pub leads_ranges : (c d : Config) (names more : List Name) (xs : List StoreRecord) → Leads c names xs d more → All IsInRange xs
leads_ranges c d names more [] h = All-nil IsInRange
leads_ranges c d names more (x ∷ xs) h = All-cons IsInRange x xs h.0 (leads_ranges (changed c x) d (names_after names x) more xs h.2)

pub leads_config : (c d : Config) (names more : List Name) (xs : List StoreRecord) → Leads c names xs d more → fold changed c xs ≡ d
leads_config c d names more [] h = h.0
leads_config c d names more (x ∷ xs) h = leads_config (changed c x) d (names_after names x) more xs h.2

-- the greatest pair of a source among names
abbrev pub kept_by : List Name → ℕ → Option Pair
kept_by names src = fold (kept_with src) None names

names_list : (names : List Name) (item : StoreRecord) → names_after names item ≡ names ++ names_in item
names_list names (R.Replay first second) = refl
names_list names (R.Identity unicast elements dev_key) = sym (append-nil names)
names_list names (R.Numbers current progress mark hours since) = sym (append-nil names)
names_list names (R.Hour hours since) = sym (append-nil names)
names_list names (R.NetKey op index key) = sym (append-nil names)
names_list names (R.AppKey op net index key) = sym (append-nil names)
names_list names (R.Bind op element model app) = sym (append-nil names)
names_list names (R.Subscribe op element model address) = sym (append-nil names)
names_list names (R.Feature which value) = sym (append-nil names)
names_list names R.Reset = sym (append-nil names)
names_list names (R.Model element model value) = sym (append-nil names)
names_list names (R.Label op element model label) = sym (append-nil names)
names_list names (R.Publish row) = sym (append-nil names)

pub leads_kept : (c d : Config) (names more : List Name) (xs : List StoreRecord) → Leads c names xs d more → (src : ℕ)
    → fold (kept_after src) (kept_by names src) xs ≡ kept_by more src
leads_kept c d names more [] h src = ap (λ ns. kept_by ns src) h.1
leads_kept c d names more (x ∷ xs) h src =
    let one : kept_after src (kept_by names src) x ≡ kept_by (names_after names x) src =
    sym (ap (λ ns. kept_by ns src) (names_list names x) ∙ fold-append (kept_with src) None names (names_in x)) in
    ap (λ o. fold (kept_after src) o xs) one ∙ leads_kept (changed c x) d (names_after names x) more xs h.2 src

-- The order.

few_sources : (b : Bool) (s : ℕ) (srcs : List ℕ) → length (if b then srcs else s ∷ srcs) ≤ length srcs + 1
few_sources true s srcs = omega arith
few_sources false s srcs = omega arith

sources_few : (names : List Name) (srcs : List ℕ) → length (fold sources_with srcs names) ≤ length srcs + length names
sources_few [] srcs = omega arith
sources_few (name ∷ names) srcs = omega (arith, sources_few names (sources_with srcs name), few_sources (list_any (λ s. s == name.src.0) srcs) name.src.0 srcs)

sources_push : (records : List StoreRecord) (item : StoreRecord) → length (sources_of (records ++ item ∷ [])) ≤ length (sources_of records) + length (names_in item)
sources_push records item =
    let e : sources_of (records ++ item ∷ []) ≡ sources_after (sources_of records) item = fold-append sources_after [] records (item ∷ []) in
    omega (arith, ap (λ l. length l) e, sources_few (names_in item) (sources_of records))

has_place : (records : List StoreRecord) (name : Name) → length (sources_of records) < REPLAY_ENTRIES → HasNoPlace records name → ⊥
has_place records name few h =
    let most : others_held records name.src.0 ≤ length (sources_of records) = filter_few _ (sources_of records) in
    let least : REPLAY_ENTRIES ≤ others_held records name.src.0 = at_least (others_held records name.src.0) h.1 in
    omega (arith, few, most, least)
  where
    at_least : (n : ℕ) → nat_lt n REPLAY_ENTRIES ≡ false → REPLAY_ENTRIES ≤ n
    at_least n e = grind (arith, nat_tests)

follows : (before : List StoreRecord) (names : List Name) (item : StoreRecord) → length (sources_of before) ≤ length names → Fits (config_of before) names item → Follows before item
follows before names (R.NetKey op index key) few fits = record { within = λ h. omega (arith, h, fits); rises = tt }
follows before names (R.AppKey op net index key) few fits = record { within = λ h. omega (arith, h, fits); rises = tt }
follows before names (R.Bind op element model app) few fits = record { within = λ h. omega (arith, h, fits); rises = tt }
follows before names (R.Subscribe op element model address) few fits = record { within = λ h. omega (arith, h, fits); rises = tt }
follows before names (R.Label op element model label) few fits = record { within = λ h. omega (arith, h, fits); rises = tt }
follows before names (R.Publish row) few fits = record { within = λ h. omega (arith, h, fits); rises = tt }
follows before names (R.Replay first None) few fits = record {
  within = λ h. elim h [
    | inl k ↦ has_place before first (omega (arith, few, fits, length-append names (first ∷ []))) k
    | inr k ↦ absurd k
  ];
  rises = tt;
}
follows before names (R.Replay first (Some second)) few fits = record {
  within = λ h. elim h [
    | inl k ↦ has_place before first (omega (arith, few, fits, length-append names (first ∷ second ∷ []))) k
    | inr k ↦ has_place (before ++ R.Replay first None ∷ []) second (omega (arith, few, fits, length-append names (first ∷ second ∷ []), sources_push before (R.Replay first None))) k
  ];
  rises = tt;
}
follows before names (R.Numbers current progress mark hours since) few fits = record { within = λ h. h; rises = fits }
follows before names (R.Identity unicast elements dev_key) few fits = record { within = λ h. h; rises = tt }
follows before names (R.Hour hours since) few fits = record { within = λ h. h; rises = tt }
follows before names (R.Feature which value) few fits = record { within = λ h. h; rises = tt }
follows before names R.Reset few fits = record { within = λ h. h; rises = tt }
follows before names (R.Model element model value) few fits = record { within = λ h. h; rises = tt }

pub leads_order : (before : List StoreRecord) (c d : Config) (names more : List Name) (xs : List StoreRecord) → config_of before ≡ c → length (sources_of before) ≤ length names
    → Leads c names xs d more → AreInOrder before xs
leads_order before c d names more [] e few h = tt
leads_order before c d names more (x ∷ xs) e few h =
    let fits : Fits (config_of before) names x = subst (λ (b : Config). Fits b names x) (sym e) h.1 in
    let to : config_of (before ++ x ∷ []) ≡ changed c x = fold-append changed no_config before (x ∷ []) ∙ ap (λ (b : Config). changed b x) e in
    let size : length (names_after names x) ≡ length names + length (names_in x) = ap (λ ns. length ns) (names_list names x) ∙ length-append names (names_in x) in (
      follows before names x few fits,
      leads_order (before ++ x ∷ []) (changed c x) d (names_after names x) more xs to (omega (arith, few, size, sources_push before x)) h.2,
    )

-- What was accepted from segments stays recorded: records are only put behind others, and the pair of a source only rises.
use Rattle.std.proofs.Common.{◌≡◌, ℕ, Bool, true, false, cond, ◌&&◌, List, [], ◌∷◌, ◌++◌, refl, ap, ◌∙◌, arith, Option, Some, None}
use Rattle.std.specs.Prelude.{◌==◌, fold, not}
use Rattle.std.specs.List.{list_all}
use Rattle.std.specs.Option.{option_map_or, option_to_list}
use Rattle.std.proofs.lemmas.Grind.{fold-append}
use Rattle.std.proofs.lemmas.Bool.Decides.{nat_tests}
use Rattle.mesh_base.proofs.Pairs.{not_newer_itself, not_newer_left}
use Rattle.mesh_base.specs.Pairs.{is_newer}
use Rattle.mesh_base.specs.declared.pair.Name.{Name}
use Rattle.mesh_base.specs.declared.pair.Pair.{Pair}
use Rattle.layer_states.specs.Reassembly.{is_segment}
use Rattle.mesh_hearing.specs.Again.{AreRecorded, is_recorded}
use Rattle.mesh_types.specs.declared.answers.Answer.{Answer}
use Rattle.mesh_types.specs.declared.answers.Answer.TheVariants as A
use Rattle.mesh_types.specs.declared.events.Event.{Event}
use Rattle.mesh_types.specs.declared.events.Event.TheVariants as E
use Rattle.node_layers.proofs.Steps.{segmented_goes_on}
use Rattle.node_layers.specs.NodeLayers.{node_layers}
use Rattle.node_layers.specs.Steps.{segmented_name, segmented_names, with_entry}
use Rattle.record_types.specs.declared.records.StoreRecord.{StoreRecord}
use Rattle.record_types.specs.declared.records.StoreRecord.TheVariants as R
use Rattle.event_definitions.proofs.Accepting.{some_is}
use Rattle.event_definitions.specs.Answers.{accepted}
use Rattle.event_definitions.specs.History.{Insight, OfPdu, Past, Told}
use Rattle.event_definitions.specs.Readings.{Sees, sees_beacon, sees_nothing, sees_pdu}
use Rattle.event_definitions.specs.Stores.{asked, message_of, stores}
use Rattle.store_definitions.specs.Entries.{greatest_with, kept_after, kept_of, kept_with, names_in}

-- a pair that isn't above the one that is kept
abbrev covers : Pair → Option Pair → Bool
covers p kept = option_map_or (λ k. not (is_newer p k)) kept false

not_true : (b : Bool) → not b ≡ true → b ≡ false
not_true true e = absurd (cc)
not_true false e = refl

covers_more : (p q : Pair) (kept : Option Pair) → covers p kept ≡ true → covers p (greatest_with kept q) ≡ true
covers_more p q None e = absurd (cc)
covers_more p q (Some k) e = ap (λ b. not b) (not_newer_left p k q (not_true (is_newer p k) e))

covers_itself : (p : Pair) (kept : Option Pair) → covers p (greatest_with kept p) ≡ true
covers_itself p None = ap (λ b. not b) (not_newer_itself p)
covers_itself p (Some k) = either (is_newer p k) refl
  where
    either : (b : Bool) → is_newer p k ≡ b → not (is_newer p (cond b p k)) ≡ true
    either true e = ap (λ b. not b) (not_newer_itself p)
    either false e = ap (λ b. not b) e

covers_name : (src : ℕ) (p : Pair) (kept : Option Pair) (name : Name) → covers p kept ≡ true → covers p (kept_with src kept name) ≡ true
covers_name src p kept name e = either (name.src.0 == src)
  where
    either : (b : Bool) → covers p (cond b (greatest_with kept name.pair) kept) ≡ true
    either true = covers_more p name.pair kept e
    either false = e

covers_names : (src : ℕ) (p : Pair) (names : List Name) (kept : Option Pair) → covers p kept ≡ true → covers p (fold (kept_with src) kept names) ≡ true
covers_names src p [] kept e = e
covers_names src p (n ∷ ns) kept e = covers_names src p ns (kept_with src kept n) (covers_name src p kept n e)

covers_records : (src : ℕ) (p : Pair) (records : List StoreRecord) (kept : Option Pair) → covers p kept ≡ true → covers p (fold (kept_after src) kept records) ≡ true
covers_records src p [] kept e = e
covers_records src p (r ∷ rs) kept e = covers_records src p rs (kept_after src kept r) (covers_names src p (names_in r) kept e)

kept_more : (records more : List StoreRecord) (src : ℕ) → kept_of (records ++ more) src ≡ fold (kept_after src) (kept_of records src) more
kept_more records more src = fold-append (kept_after src) None records more

still_recorded : (records more : List StoreRecord) (n : Name) → is_recorded records n ≡ true → is_recorded (records ++ more) n ≡ true
still_recorded records more n e = ap (λ o. covers n.pair o) (kept_more records more n.src.0) ∙ covers_records n.src.0 n.pair more (kept_of records n.src.0) e

all_still : (records more : List StoreRecord) (names : List Name) → list_all (is_recorded records) names ≡ true → list_all (is_recorded (records ++ more)) names ≡ true
all_still records more [] e = refl
all_still records more (n ∷ ns) e = both (λ g. all_still records more ns g) (is_recorded records n) refl e
  where
    both : (list_all (is_recorded records) ns ≡ true → list_all (is_recorded (records ++ more)) ns ≡ true) → (b : Bool) → is_recorded records n ≡ b
        → (b && list_all (is_recorded records) ns) ≡ true → list_all (is_recorded (records ++ more)) (n ∷ ns) ≡ true
    both next true f g = ap (λ b. b && list_all (is_recorded (records ++ more)) ns) (still_recorded records more n f) ∙ next g
    both next false f g = absurd (cc)

-- A past with more records.
pub more_recorded : (past : Past) (more : List StoreRecord) → AreRecorded past → AreRecorded (record past { records = past.records ++ more })
more_recorded past more e = all_still past.records more (segmented_names past.told) e

-- The record of a message that was accepted is the first of those that its event stores.

abbrev IsFirst : List StoreRecord → Name → Type 0
IsFirst records n = (rest : List StoreRecord) × (records ≡ R.Replay n None ∷ rest)

pdu_stored : (past : Past) (octets : List ℕ) (insight : Insight) (answer : Answer) (n : Name) → accepted answer ≡ Some n
    → IsFirst (stores node_layers past (E.Net octets) insight answer) n
unfolding stores
pdu_stored past octets insight (A.Delivered name dst key payload) n e =
    let rest = asked node_layers past (message_of insight name dst) in (rest, ap (λ m. R.Replay m None ∷ rest) (some_is e))
pdu_stored past octets insight (A.Control name dst opcode params) n e = ([], ap (λ m. R.Replay m None ∷ []) (some_is e))
pdu_stored past octets insight _ n e = absurd (cc)

stored : (past : Past) (event : Event) (insight : Insight) (answer : Answer) (n : Name) → Sees node_layers past event insight → segmented_name insight answer ≡ Some n
    → IsFirst (stores node_layers past event insight answer) n
stored past _ _ answer n (sees_pdu {octets = octets} {reading = reading} {low = Some low} {opening = opening} reset r l o) e =
    pdu_stored past octets (OfPdu reading (Some low) opening) answer n (of_segment (is_segment low) e)
  where
    of_segment : (b : Bool) → cond b (accepted answer) None ≡ Some n → accepted answer ≡ Some n
    of_segment true f = f
    of_segment false f = absurd (cc)
stored past _ _ answer n (sees_pdu {octets = octets} {reading = reading} {low = None} {opening = opening} reset r l o) e = absurd (cc)
stored past _ _ answer n (sees_beacon {octets = octets} {b = b} reset h) e = absurd (cc)
stored past _ _ answer n (sees_nothing {event = event} h) e = absurd (cc)

first_recorded : (records : List StoreRecord) (n : Name) (items : List StoreRecord) → IsFirst items n → is_recorded (records ++ items) n ≡ true
first_recorded records n items (rest, e) =
    let same : (n.src.0 == n.src.0) ≡ true = grind (arith, nat_tests) in
    let first : covers n.pair (cond (n.src.0 == n.src.0) (greatest_with (kept_of records n.src.0) n.pair) (kept_of records n.src.0)) ≡ true =
    ap (λ b. covers n.pair (cond b (greatest_with (kept_of records n.src.0) n.pair) (kept_of records n.src.0))) same ∙ covers_itself n.pair (kept_of records n.src.0) in
    ap (λ o. covers n.pair o) (kept_more records items n.src.0 ∙ ap (λ rs. fold (kept_after n.src.0) (kept_of records n.src.0) rs) e)
    ∙ covers_records n.src.0 n.pair rest (kept_with n.src.0 (kept_of records n.src.0) n) first

all_both : (p : Name → Bool) (xs ys : List Name) → list_all p xs ≡ true → list_all p ys ≡ true → list_all p (xs ++ ys) ≡ true
all_both p [] ys e f = f
all_both p (x ∷ xs) ys e f = both (λ h. all_both p xs ys h f) (p x) refl e
  where
    both : (list_all p xs ≡ true → list_all p (xs ++ ys) ≡ true) → (b : Bool) → p x ≡ b → (b && list_all p xs) ≡ true → list_all p (x ∷ xs ++ ys) ≡ true
    both next true g h = ap (λ b. b && list_all p (xs ++ ys)) g ∙ next h
    both next false g h = absurd (cc)

-- A past with an entry more, and what its event stores.
pub entry_recorded : (past : Past) (t : Told) → Sees node_layers past t.entry.event t.insight → AreRecorded past
    → AreRecorded (with_entry past.told t (past.records ++ stores node_layers past t.entry.event t.insight t.entry.answer))
entry_recorded past t sees e =
    let items = stores node_layers past t.entry.event t.insight t.entry.answer in
    ap (λ names. list_all (is_recorded (past.records ++ items)) names) (segmented_goes_on past.told t)
    ∙ all_both (is_recorded (past.records ++ items)) (segmented_names past.told) (option_to_list (segmented_name t.insight t.entry.answer))
    (all_still past.records items (segmented_names past.told) e) (new (segmented_name t.insight t.entry.answer) refl)
  where
    new : (o : Option Name) → segmented_name t.insight t.entry.answer ≡ o
        → list_all (is_recorded (past.records ++ stores node_layers past t.entry.event t.insight t.entry.answer)) (option_to_list o) ≡ true
    new None f = refl
    new (Some n) f =
        let first = stored past t.entry.event t.insight t.entry.answer n sees f in
        ap (λ b. b && true) (first_recorded past.records n (stores node_layers past t.entry.event t.insight t.entry.answer) first)

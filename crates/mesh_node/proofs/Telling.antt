-- One phase more of a life that goes on.
use Rattle.std.proofs.Common.{◌≡◌, ◌∙◌, ℕ, ◌+◌, ◌<◌, ◌≤◌, Bool, true, false, List, [], ◌∷◌, ◌++◌, length, map, drop, refl, sym, ap, subst, append-nil, append_assoc, length-append, Ok, Err, Result, arith}
use Rattle.std.specs.Prelude.{◌^◌, All, OnErr, replicate}
use Rattle.std.proofs.lemmas.List.Elements.{All-cons, All-head, All-nil, All-tail}
use Rattle.std.proofs.lemmas.Grind.{flat_map-append}
use Rattle.std.proofs.lemmas.List.{map-append}
use Rattle.flash_model.specs.Chip.{Chip}
use Rattle.event_definitions.specs.Role.{Role}
use Rattle.locked_node.specs.Stands.{IsNode}
use Rattle.mesh_types.specs.declared.events.Event.{Event}
use Rattle.mesh_types.specs.declared.history.Entry.{Entry}
use Rattle.mesh_types.specs.declared.history.Sent.{Sent}
use Rattle.record_types.specs.declared.records.StoreRecord.{StoreRecord}
use Rattle.run_definitions.specs.Order.{Does, Part, PartsOf, broken, ends, phase, phases_of, whole}
use Rattle.store_definitions.specs.Recovered.{IsRecovered}
use Rattle.seq_word.specs.Seen.{DrawerView}
use Rattle.locked_node.specs.Node.{NodeView}
use Rattle.life_laws.specs.Phases.{PhasesDone, both_of}
use Rattle.life_laws.proofs.Placing.{CameTo}
use Rattle.mesh_node.specs.Going.{AreTold, IsGoing, IsOver}
use Rattle.mesh_node.specs.Due.{AreDue}
use Rattle.mesh_node.specs.Lived.{FellShort, IsUnderWay, WentOn}
use Rattle.mesh_node.specs.Told.{ArePlaced, AreToldEach, BySteps, GivesEach, GivesNone, IsLastTold, IsPartDone, PhaseDid, SinkSteps, SourceSteps, entries_told, more_sends, part_told, sends_told}
use Rattle.mesh_node.specs.Lives.{IsShort}
use Rattle.mesh_node.specs.declared.told.LastStep.{LastStep}
use Rattle.mesh_node.specs.declared.told.LastStep.TheVariants as L
use Rattle.mesh_node.proofs.Printing.{sends_short}
use Rattle.mesh_node.proofs.Stepping.{length_both}
use Rattle.seq_word.specs.declared.looks.Look.{Look}
use Rattle.life_laws.specs.Pairs.{AreShownBy}
use Rattle.mesh_node.proofs.Asking.{due_more, due_still, given_many, gives_more}
use Rattle.mesh_node.proofs.Following.{going_first, over_whole}

pub steps_more : {S A : Type 0} (step : S → A → S → Type 0) (old : S) (xs : List A) (mid : S) (x : A) (new : S) → BySteps step old xs mid → step mid x new → BySteps step old (xs ++ x ∷ []) new
steps_more step old [] mid x new h s = (new, subst (λ m. step m x new) h s, refl)
steps_more step old (y ∷ xs) mid x new h s = (h.0, h.1, steps_more step h.0 xs mid x new h.2 s)

pub sends_more : (sends : List (List Sent)) (did : List PhaseDid) (d : PhaseDid) → more_sends sends (did ++ d ∷ []) ≡ both_of (more_sends sends did) d.sends
sends_more sends [] d = refl
sends_more sends (x ∷ did) d = sends_more (both_of sends x.sends) did d

pub entries_more : (did : List PhaseDid) (d : PhaseDid) → entries_told (did ++ d ∷ []) ≡ entries_told did ++ d.entries
entries_more did d = flat_map-append (λ (x : PhaseDid). x.entries) did (d ∷ []) ∙ ap (λ l. entries_told did ++ l) (append-nil d.entries)

pub phases_are : (phases : List (List (List Event))) → phases_of (map phase phases) ≡ phases
phases_are [] = refl
phases_are (p ∷ ps) = ap (λ l. p ∷ l) (phases_are ps)

pub drop_front : {A : Type 0} (xs ys : List A) → drop (length xs) (xs ++ ys) ≡ ys
drop_front [] ys = refl
drop_front (x ∷ xs) ys = drop_front xs ys

-- all entries were taken of it
abbrev pub taken_of : {F : Type 0} → NodeView F → NodeView F
taken_of n = record n { machine = record n.machine { taken = length n.machine.entries } }

pub going_taken : {F : Type 0} (phases : List (List (List Event))) (n : NodeView F) (d : DrawerView) (sends : List (List Sent)) (counts : List ℕ) → IsGoing phases n d sends counts → IsGoing phases (taken_of n) d sends counts
going_taken phases n d sends counts h = record { ends = h.ends; done = h.done; pairs = h.pairs; timed = h.timed; handled = h.handled; live = h.live; many = h.many }

pub over_taken : {F : Type 0} (phases : List (List (List Event))) (n : NodeView F) (d : DrawerView) (sends : List (List Sent)) → IsOver phases n d sends → IsOver phases (taken_of n) d sends
over_taken phases n d sends h = record { ends = h.ends; ordered = h.ordered; numbers = h.numbers; pairs = h.pairs; timed = h.timed; next = h.next; hand = h.hand }

-- what was taken of it are the entries that came to those of before
pub told_more : {F : Type 0} (entries : List Entry) (old new : NodeView F) → AreTold entries old → CameTo old new → new.machine.taken ≡ old.machine.taken
    → AreTold (entries ++ drop new.machine.taken new.machine.entries) (taken_of new)
told_more entries old new h came same =
    let more : drop new.machine.taken new.machine.entries ≡ came.more =
    ap (λ n. drop n new.machine.entries) (same ∙ h.taken) ∙ ap (drop (length old.machine.entries)) came.is ∙ drop_front old.machine.entries came.more in
    record { entries_are = came.is ∙ ap (λ l. l ++ came.more) h.entries_are ∙ ap (λ l. entries ++ l) (sym more); taken = refl }

-- the flash failed exactly where a bearer stopped
pub closed_by : {F : Type 0} {role : Role} {image : List ℕ → Type 0} {chip : F → Chip} (n : NodeView F) (known : IsNode role image chip n) (closed : Bool) → (closed ≡ false → n.stops ≡ 0) → (closed ≡ true → 0 < n.stops) → closed ≡ n.machine.closed
closed_by n known closed none some = by_both closed n.machine.closed refl refl where
  by_both : (a b : Bool) → closed ≡ a → n.machine.closed ≡ b → closed ≡ n.machine.closed
  by_both true true a b = a ∙ sym b
  by_both false false a b = a ∙ sym b
  by_both true false a b = absurd (omega (arith, some a, known.live b))
  by_both false true a b = absurd (omega (arith, none a, known.stopped b))

-- phases with their places, and one more
pub placed_more : (n : ℕ) (did : List PhaseDid) (d : PhaseDid) → ArePlaced n did → d.first ≡ n + length (entries_told did) → ArePlaced n (did ++ d ∷ [])
placed_more n [] d h at = (at ∙ omega arith, tt)
placed_more n (x ∷ did) d h at =
    (h.0, placed_more (n + length x.entries) did d h.1 (at ∙ (let long : length (x.entries ++ entries_told did) ≡ length x.entries + length (entries_told did) = length-append x.entries (entries_told did) in omega (arith, long))))

all_behind : {A : Type 0} (P : A → Type 0) (xs ys : List A) → All P (xs ++ ys) → All P ys
all_behind P [] ys h = h
all_behind P (x ∷ xs) ys h = all_behind P xs ys (All-tail P x (xs ++ ys) h)

-- the lines of one phase among those of each bearer
both_short : (xs ys : List (List Sent)) → All (All IsShort) (both_of xs ys) → length ys ≤ length xs → All (All IsShort) ys
both_short [] ys h few = h
both_short (x ∷ xs) [] h few = All-nil (All IsShort)
both_short (x ∷ xs) (y ∷ ys) h few =
    All-cons (All IsShort) y ys (all_behind IsShort x y (All-head (All IsShort) (x ++ y) (both_of xs ys) h)) (both_short xs ys (All-tail (All IsShort) (x ++ y) (both_of xs ys) h) (omega (arith, few)))

pub phase_short : (es : List Entry) (ms : List ℕ) (sends lines : List (List Sent)) (drawns : List (List ℕ)) (looks : List Look) → length es < 2 ^ 32 → AreShownBy es ms (both_of sends lines) drawns looks → length lines ≤ length sends → All (All IsShort) lines
phase_short es ms sends lines drawns looks few h long = both_short sends lines (sends_short es ms (both_of sends lines) drawns looks few h) long

-- behind a phase more there is one
not_none : {A : Type 0} (xs : List A) (x : A) → xs ++ x ∷ [] ≡ [] → ⊥
not_none [] x none = absurd cc
not_none (y ∷ xs) x none = absurd cc

-- each phase by itself, and one more
parts_more : (did : List PhaseDid) (d : PhaseDid) (tail : List Part) → map part_told did ++ part_told d ∷ tail ≡ map part_told (did ++ d ∷ []) ++ tail
parts_more did d tail = sym (append_assoc (map part_told did) (part_told d ∷ []) tail) ∙ ap (λ l. l ++ tail) (sym (map-append part_told did (d ∷ [])))

count_more : (phases : List (List (List Event))) (events : List (List Event)) (did : List PhaseDid) (d : PhaseDid) → length did ≡ length phases → length (did ++ d ∷ []) ≡ length (phases ++ events ∷ [])
count_more phases events did d same = length-append did (d ∷ []) ∙ ap (λ n. n + 1) same ∙ sym (length-append phases (events ∷ []))

pub each_more : (phases : List (List (List Event))) (events : List (List Event)) (did : List PhaseDid) (d : PhaseDid) → PhasesDone phases (map part_told did) → ((k : ℕ) → Does events (part_told d) k [])
    → PhasesDone (phases ++ events ∷ []) (map part_told (did ++ d ∷ []))
each_more phases events did d h all = record {
  before = λ is_cut rest tail more.
      subst (λ ps. PartsOf is_cut ps (map part_told (did ++ d ∷ []) ++ tail)) (sym (append_assoc phases (events ∷ []) rest))
      (subst (PartsOf is_cut (phases ++ events ∷ rest)) (parts_more did d tail) (h.before is_cut (events ∷ rest) (part_told d ∷ tail) (whole all more)));
}

each_whole : (closed : Bool) (phases : List (List (List Event))) (did : List PhaseDid) → length did ≡ length phases → PhasesDone phases (map part_told did) → AreToldEach closed phases did
each_whole closed phases did same h = record {
  count = same;
  parts = subst (PartsOf closed phases) (append-nil (map part_told did)) (subst (λ ps. PartsOf closed ps (map part_told did ++ [])) (append-nil phases) (h.before closed [] [] ends));
}

pub each_last : (closed : Bool) (phases : List (List (List Event))) (events : List (List Event)) (did : List PhaseDid) (d : PhaseDid) → length did ≡ length phases → PhasesDone phases (map part_told did) → IsPartDone closed events d
    → (b : Bool) → closed ≡ b → AreToldEach b (phases ++ events ∷ []) (did ++ d ∷ [])
each_last closed phases events did d same h part true on = record {
  count = count_more phases events did d same;
  parts = subst (PartsOf true (phases ++ events ∷ [])) (parts_more did d [] ∙ append-nil (map part_told (did ++ d ∷ []))) (h.before true (events ∷ []) (part_told d ∷ []) (broken part.some));
}
each_last closed phases events did d same h part false off = each_whole false (phases ++ events ∷ []) (did ++ d ∷ []) (count_more phases events did d same) (each_more phases events did d h (part.all off))

module _ {F S T : Type 0} (IsDue : List Entry → ℕ → Type 0) (source : SourceSteps S) (sink : SinkSteps T) (from to : S) (began now : T) (bearers : ℕ) (node : NodeView F) (d : DrawerView) (opened : F) (counts : List ℕ) (long : length counts ≡ bearers) where
  -- where the source gave no phase more
  module _ (h : IsUnderWay IsDue source sink from to began now bearers node d opened counts) (usable : node.machine.closed ≡ false) (after : S) where
    asked_each : length h.dues ≡ length h.did
    asked_each = given_many source bearers node.machine.elements from h.dues h.phases to h.gave ∙ sym h.count

    over_here : IsOver h.phases node d (sends_told bearers h.did)
    over_here = over_whole h.phases node d (sends_told bearers h.did) counts h.going

    pub went_ended : source.ends to after → WentOn IsDue source sink from after began now bearers node d opened L.Ended node.machine.closed
    went_ended end = record {
      phases = h.phases;
      did = h.did;
      dues = h.dues;
      gave = (to, h.gave, end);
      due = h.due;
      took = h.took;
      over = over_here;
      told = h.told;
      placed = h.placed;
      each = each_whole node.machine.closed h.phases h.did h.count h.each;
      many = h.going.many ∙ long;
      end = usable;
      idle = h.idle;
    }

    pub went_unread : (due : ℕ) → IsDue (entries_told h.did) due → source.fails bearers node.machine.elements due to after → WentOn IsDue source sink from after began now bearers node d opened L.Unread node.machine.closed
    went_unread due is end = record {
      phases = h.phases;
      did = h.did;
      dues = h.dues ++ due ∷ [];
      gave = record { before = h.dues; due = due; is = refl; mid = to; gave = h.gave; failed = end };
      due = due_more IsDue [] h.dues h.did due asked_each h.due is;
      took = h.took;
      over = over_here;
      told = h.told;
      placed = h.placed;
      each = each_whole node.machine.closed h.phases h.did h.count h.each;
      many = h.going.many ∙ long;
      end = usable;
      idle = h.idle;
    }

    pub went_none : (due : ℕ) → IsDue (entries_told h.did) due → (last : LastStep) → GivesNone source bearers node.machine.elements due last to after → WentOn IsDue source sink from after began now bearers node d opened last node.machine.closed
    went_none due is L.Ended end = went_ended end
    went_none due is L.Unread end = went_unread due is end
    went_none due is L.Cut end = absurd end
    went_none due is L.Untold end = absurd end

  -- behind one phase more
  module _ (h : IsUnderWay IsDue source sink from to began now bearers node d opened counts) (due : ℕ) (is_due : IsDue (entries_told h.did) due) (events : List (List Event)) (did : PhaseDid) (next : NodeView F) (e : DrawerView) (later : List ℕ) (closed : Bool) (after : S) (then : T)
      (gave : source.gives bearers node.machine.elements due to events after) (same : next.machine.elements ≡ node.machine.elements) (first : did.first ≡ length node.machine.entries) (size : length did.sends ≡ length counts) (part : IsPartDone closed events did) (told : AreTold (entries_told h.did ++ did.entries) next)
      (going : closed ≡ false → IsGoing (h.phases ++ events ∷ []) next e (both_of (sends_told bearers h.did) did.sends) later)
      (over : closed ≡ true → IsOver (h.phases ++ events ∷ []) next e (both_of (sends_told bearers h.did) did.sends)) (is : closed ≡ next.machine.closed) where
    gave_all : GivesEach source bearers next.machine.elements from (h.dues ++ due ∷ []) (h.phases ++ events ∷ []) after
    gave_all = subst (λ n. GivesEach source bearers n from (h.dues ++ due ∷ []) (h.phases ++ events ∷ []) after) (sym same)
        (gives_more source bearers node.machine.elements from h.dues h.phases to due events after h.gave gave)

    asked_all : length h.dues ≡ length h.did
    asked_all = given_many source bearers node.machine.elements from h.dues h.phases to h.gave ∙ sym h.count

    due_all : AreDue IsDue [] (h.dues ++ due ∷ []) (h.did ++ did ∷ [])
    due_all =
        let long : length (h.dues ++ due ∷ []) ≡ length h.dues + 1 = length-append h.dues (due ∷ []) in
        due_still IsDue [] (h.dues ++ due ∷ []) h.did did (omega (arith, long, asked_all)) (due_more IsDue [] h.dues h.did due asked_all h.due is_due)

    sends_are : both_of (sends_told bearers h.did) did.sends ≡ sends_told bearers (h.did ++ did ∷ [])
    sends_are = sym (sends_more (replicate bearers []) h.did did)

    told_all : AreTold (entries_told (h.did ++ did ∷ [])) next
    told_all = subst (λ es. AreTold es next) (sym (entries_more h.did did)) told

    placed_all : ArePlaced 0 (h.did ++ did ∷ [])
    placed_all = placed_more 0 h.did did h.placed (first ∙ ap length h.told.entries_are ∙ omega arith)

    many_all : length (sends_told bearers (h.did ++ did ∷ [])) ≡ bearers
    many_all = ap length (sym sends_are) ∙ length_both (sends_told bearers h.did) did.sends (h.going.many ∙ sym size) ∙ h.going.many ∙ long

    pub goes_more : closed ≡ false → sink.takes now did then → IsUnderWay IsDue source sink from after began then bearers next e opened later
    goes_more off took = record {
      phases = h.phases ++ events ∷ [];
      did = h.did ++ did ∷ [];
      dues = h.dues ++ due ∷ [];
      gave = gave_all;
      due = due_all;
      took = steps_more sink.takes began h.did now did then h.took took;
      going = subst (λ ss. IsGoing (h.phases ++ events ∷ []) next e ss later) sends_are (going off);
      told = told_all;
      placed = placed_all;
      count = count_more h.phases events h.did did h.count;
      each = each_more h.phases events h.did did h.each (part.all off);
      idle = λ none. absurd (not_none h.phases events none);
    }

    each_now : AreToldEach next.machine.closed (h.phases ++ events ∷ []) (h.did ++ did ∷ [])
    each_now = each_last closed h.phases events h.did did h.count h.each part next.machine.closed is

    over_all : (b : Bool) → closed ≡ b → IsOver (h.phases ++ events ∷ []) next e (sends_told bearers (h.did ++ did ∷ []))
    over_all true on = subst (IsOver (h.phases ++ events ∷ []) next e) sends_are (over on)
    over_all false off = subst (IsOver (h.phases ++ events ∷ []) next e) sends_are (over_whole (h.phases ++ events ∷ []) next e (both_of (sends_told bearers h.did) did.sends) later (going off))

    pub went_cut : closed ≡ true → sink.takes now did then → WentOn IsDue source sink from after began then bearers next e opened L.Cut next.machine.closed
    went_cut on took = record {
      phases = h.phases ++ events ∷ [];
      did = h.did ++ did ∷ [];
      dues = h.dues ++ due ∷ [];
      gave = gave_all;
      due = due_all;
      took = steps_more sink.takes began h.did now did then h.took took;
      over = over_all true on;
      told = told_all;
      placed = placed_all;
      each = each_now;
      many = many_all;
      end = sym is ∙ on;
      idle = λ none. absurd (not_none h.phases events none);
    }

    pub went_untold : sink.fails now did then → WentOn IsDue source sink from after began then bearers next e opened L.Untold next.machine.closed
    went_untold failed = record {
      phases = h.phases ++ events ∷ [];
      did = h.did ++ did ∷ [];
      dues = h.dues ++ due ∷ [];
      gave = gave_all;
      due = due_all;
      took = record { before = h.did; last = did; is = refl; mid = now; took = h.took; failed = failed };
      over = over_all closed refl;
      told = told_all;
      placed = placed_all;
      each = each_now;
      many = many_all;
      end = tt;
      idle = λ none. absurd (not_none h.phases events none);
    }

    pub went_last : (last : LastStep) → IsLastTold sink last closed now did then → WentOn IsDue source sink from after began then bearers next e opened last next.machine.closed
    went_last L.Ended bad = absurd bad
    went_last L.Unread bad = absurd bad
    went_last L.Cut took = went_cut took.0 took.1
    went_last L.Untold failed = went_untold failed

-- what holds whatever was answered
pub on_err : {A E P : Type 0} (r : Result A E) → P → OnErr r P
on_err (Ok x) p = tt
on_err (Err e) p = p

-- before the first phase
pub first_goes : {F S T : Type 0} (IsDue : List Entry → ℕ → Type 0) (source : SourceSteps S) (sink : SinkSteps T) (from : S) (began : T) (bearers : ℕ) (node : NodeView F) (d : DrawerView) (counts : List ℕ)
    → node.machine.entries ≡ [] → node.counters ≡ [] → node.machine.taken ≡ length node.machine.entries → node.stops ≡ 0 → d.drawn ≡ [] → counts ≡ replicate bearers 0 → IsUnderWay IsDue source sink from from began began bearers node d node.flash counts
first_goes IsDue source sink from began bearers node d counts none uncounted taken live drawn zeros = record {
  phases = [];
  did = [];
  dues = [];
  gave = refl;
  due = tt;
  took = refl;
  going = going_first node d bearers (replicate bearers []) counts none uncounted live drawn refl zeros;
  told = record { entries_are = none; taken = taken };
  placed = tt;
  count = refl;
  each = record { before = λ is_cut rest tail more. more };
  idle = λ none. refl;
}

-- Memory ran out, before a phase came, or in one.
module _ {F S T : Type 0} {role : Role} {image : List ℕ → Type 0} {chip : F → Chip} (IsDue : List Entry → ℕ → Type 0) (source : SourceSteps S) (sink : SinkSteps T) (from to : S) (began now : T) (bearers : ℕ) (node : NodeView F) (d : DrawerView) (opened : F) (counts : List ℕ)
    (known : IsNode role image chip node) (start : F) (is_start : node.start ≡ start) (h : IsUnderWay IsDue source sink from to began now bearers node d opened counts) where
  recovers : IsRecovered (chip start).now known.over
  recovers = subst (λ (s : F). IsRecovered (chip s).now known.over) is_start known.read

  pub short_before : FellShort role IsDue source sink from to began now bearers (chip start)
  short_before = record {
    phases = h.phases;
    in_hand = [];
    one = omega arith;
    did = h.did;
    dues = h.dues;
    gave = subst (λ n. GivesEach source bearers n from h.dues (h.phases ++ []) to) known.life.elements (subst (λ ps. GivesEach source bearers node.machine.elements from h.dues ps to) (sym (append-nil h.phases)) h.gave);
    due = h.due;
    took = h.took;
    placed = h.placed;
    each = each_whole false h.phases h.did h.count h.each;
    over = known.over;
    recovered = recovers;
    told = known.life.told;
    entries = known.life.entries ∙ h.told.entries_are;
    handled = known.life.handled;
  }

  pub short_in : (due : ℕ) → IsDue (entries_told h.did) due → (events : List (List Event)) (after : S) → source.gives bearers node.machine.elements due to events after → FellShort role IsDue source sink from after began now bearers (chip start)
  short_in due is events after gave = record {
    phases = h.phases;
    in_hand = events ∷ [];
    one = omega arith;
    did = h.did;
    dues = h.dues ++ due ∷ [];
    gave = subst (λ n. GivesEach source bearers n from (h.dues ++ due ∷ []) (h.phases ++ events ∷ []) after) known.life.elements
        (gives_more source bearers node.machine.elements from h.dues h.phases to due events after h.gave gave);
    due = due_more IsDue [] h.dues h.did due (given_many source bearers node.machine.elements from h.dues h.phases to h.gave ∙ sym h.count) h.due is;
    took = h.took;
    placed = h.placed;
    each = each_whole false h.phases h.did h.count h.each;
    over = known.over;
    recovered = recovers;
    told = known.life.told;
    entries = known.life.entries ∙ h.told.entries_are;
    handled = known.life.handled;
  }

-- it had no phase yet
pub short_first : {S T : Type 0} (role : Role) (IsDue : List Entry → ℕ → Type 0) (source : SourceSteps S) (sink : SinkSteps T) (from : S) (began : T) (bearers : ℕ) (start : Chip) (over : List StoreRecord) → IsRecovered start.now over → FellShort role IsDue source sink from from began began bearers start
short_first role IsDue source sink from began bearers start over read = record {
  phases = [];
  in_hand = [];
  one = omega arith;
  did = [];
  dues = [];
  gave = refl;
  due = tt;
  took = refl;
  placed = tt;
  each = record { count = refl; parts = ends };
  over = over;
  recovered = read;
  told = [];
  entries = refl;
  handled = tt;
}

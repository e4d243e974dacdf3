-- What lines draw lies between where the counter was behind their entries, and where it was behind entries that come behind them.
use Rattle.std.proofs.Common.{◌≡◌, ◌∙◌, ◌⊎◌, inl, inr, ℕ, zero, suc, ◌<◌, ◌≤◌, List, [], ◌∷◌, ◌++◌, length, map, Some, refl, sym, ap, subst, arith, length-append}
use Rattle.std.specs.Prelude.{All, replicate, slice_index_or}
use Rattle.std.specs.List.{Contains, slice_get}
use Rattle.std.proofs.lemmas.List.{length-map}
use Rattle.std.proofs.lemmas.List.Elements.{All-append, All-cons, All-contains, All-head, All-nil, All-push, All-tail, Contains-push_cases}
use Rattle.mesh_types.specs.declared.events.Event.{Event}
use Rattle.mesh_types.specs.declared.history.Entry.{Entry}
use Rattle.mesh_types.specs.declared.history.Sent.{Sent}
use Rattle.report_definitions.specs.Record.{Shown, list_at, shown_of}
use Rattle.seq_word.specs.Seen.{DrawerView}
use Rattle.seq_word.specs.declared.looks.Look.{Look}
use Rattle.locked_node.specs.declared.marks.Behind.{Behind}
use Rattle.locked_node.specs.Node.{NodeView}
use Rattle.node_bearer.specs.Did.{BearerOf}
use Rattle.node_bearer.specs.Marked.{IsToldBelow}
use Rattle.node_phase.specs.declared.bearers.Done.{Done}
use Rattle.node_phase.specs.Part.{HadMemory, lines_of}
use Rattle.node_phase.specs.Worked.{WasPhase, done_of}
use Rattle.node_phase.proofs.Parting.{first_of, list_at_map, list_at_past}
use Rattle.life_laws.specs.Pairs.{AreShownBy, AreTimed, ComesBehind, HasEndedBetween, IsFromMove, IsUntilCounter, PairsSo, all_of}
use Rattle.life_laws.specs.Phases.{both_of}
use Rattle.life_laws.proofs.Pairing.{AreKept, each_counted, from_more, within_drawn}
use Rattle.life_laws.proofs.Placing.{CameTo, came_to, less_or, list_at_both, word_at}
use Rattle.life_laws.proofs.Rising.{below_before, below_now, bearer_within, count_seen, done_at, entry_before, get_there, lines_behind, no_line, shown_before, within_get}
use Rattle.life_laws.proofs.Showing.{found_each}

-- before any phase there are no lines
no_from : (n : ℕ) → All (All (IsFromMove [] [])) (replicate n [])
no_from zero = All-nil (All (IsFromMove [] []))
no_from (suc n) = All-cons (All (IsFromMove [] [])) [] (replicate n []) (All-nil (IsFromMove [] [])) (no_from n)

pub no_times : (bearers : ℕ) → AreTimed [] [] [] (replicate bearers [])
no_times n = record {
  from = no_from n;
  until = λ k j s lt. absurd (no_line n k j lt);
  long = refl;
  past = All-nil (λ end. end ≤ 0);
}

-- the lines of each bearer, with those of a phase more
all_both : {A : Type 0} (P : A → Type 0) (xs ys : List (List A)) → All (All P) xs → All (All P) ys → All (All P) (both_of xs ys)
all_both P [] ys one other = other
all_both P (x ∷ xs) [] one other = one
all_both P (x ∷ xs) (y ∷ ys) one other =
    All-cons (All P) (x ++ y) (both_of xs ys) (All-append P x y (All-head (All P) x xs one) (All-head (All P) y ys other)) (all_both P xs ys (All-tail (All P) x xs one) (All-tail (All P) y ys other))

all_lines : {F : Type 0} (P : Sent → Type 0) (bs : List (BearerOf F)) → All (λ b. All P b.lines.items) bs → All (All P) (map lines_of (map done_of bs))
all_lines P [] each = All-nil (All P)
all_lines {F} P (b ∷ bs) each =
    let One : BearerOf F → Type 0 = λ x. All P x.lines.items in
    All-cons (All P) b.lines.items (map lines_of (map done_of bs)) (All-head One b bs each) (all_lines P bs (All-tail One b bs each))

-- lines of before, with more entries
from_later : (es new : List Entry) (ms cs bs : List ℕ) (looks : List Look) (came : List Entry) → new ≡ es ++ came → AreKept es cs bs
    → (sends : List (List Sent)) (drawns : List (List ℕ)) → AreShownBy es ms sends drawns looks → All (All (IsFromMove es cs)) sends → All (All (IsFromMove new bs)) sends
from_later es new ms cs bs looks came is kept [] drawns h from = All-nil (All (IsFromMove new bs))
from_later es new ms cs bs looks came is kept (s ∷ sends) [] h from = absurd h
from_later es new ms cs bs looks came is kept (s ∷ sends) (w ∷ drawns) h from =
    let one = All-head (All (IsFromMove es cs)) s sends from in
    All-cons (All (IsFromMove new bs)) s sends
    (λ k x lt. let y = found_each (shown_of es) s h.0.shows h.0.found k x lt in from_more es new cs bs came is kept (slice_index_or s k x) y.0 y.1 (one k x lt))
    (from_later es new ms cs bs looks came is kept sends drawns h.2 (All-tail (All (IsFromMove es cs)) s sends from))

-- one phase more, which ends behind all entries
ended_before : (ends : List ℕ) (end line at : ℕ) → at < end → HasEndedBetween (ends ++ end ∷ []) line at → HasEndedBetween ends line at
ended_before ends end line at early h = record { end = h.end; among = among (Contains-push_cases ends end h.end h.among); behind = h.behind; before = h.before } where
  among : Contains ends h.end ⊎ (end ≡ h.end) → Contains ends h.end
  among (inl c) = c
  among (inr last) = absurd (omega (arith, last, h.before, early))

-- no phase of before ended behind an entry of this one
no_end_behind : (ends : List ℕ) (n line at : ℕ) → All (λ end. end ≤ n) ends → n ≤ line → HasEndedBetween ends line at → ⊥
no_end_behind ends n line at past le h = omega (arith, All-contains (λ end. end ≤ n) ends h.end past h.among, h.behind, le)

module _ {F : Type 0} (old new : NodeView F) (d e : DrawerView) (events : List (List Event)) (counts ends : List ℕ) (dones : List Done) (sends : List (List Sent))
    (timed : AreTimed old.machine.entries old.counters ends sends) (pairs : PairsSo old.machine.entries old.machine.moves sends d) (w : WasPhase old new d e events counts dones) (memory : HadMemory dones)
    (none : old.stops ≡ 0) (many : length sends ≡ length counts) (moved : length new.machine.moves ≡ length new.machine.entries) (counted : length new.counters ≡ length new.machine.entries) where
  abbrev came : CameTo old new
  came = came_to old new none w.front

  within : (x : ℕ) → Contains (all_of pairs.drawns) x → Contains d.drawn x
  within = within_drawn pairs.drawns d.drawn pairs.counted

  abbrev all_ends : List ℕ
  all_ends = ends ++ length new.machine.entries ∷ []

  longer : length old.machine.entries ≤ length new.machine.entries
  longer = omega (arith, ap length came.is, length-append old.machine.entries came.more)

  same_count : length sends ≡ length w.bearers
  same_count = omega (arith, many, ap length w.numbers, length-map w.before (λ b. b.number), w.long)

  dones_long : length dones ≡ length w.bearers
  dones_long = ap length w.left ∙ length-map w.bearers done_of

  -- where the counter was behind an entry of before
  counted_before : (at : ℕ) (entry : Entry) (counter : ℕ) → slice_get old.machine.entries at ≡ Some entry → slice_get new.counters at ≡ Some counter → slice_get old.counters at ≡ Some counter
  counted_before at entry counter here has =
      let there = get_there old.counters at (omega (arith, within_get old.machine.entries at entry here, timed.long)) in
      let same : there.0 ≡ counter = sym (word_at old.counters at there.0 there.1) ∙ sym (ap (λ (b : Behind). b.counter) (came.behind at entry here)) ∙ word_at new.counters at counter has in
      there.1 ∙ ap Some same

  -- lines of this phase: no phase ended behind them but this one, behind which there are no entries
  until_now : (k : ℕ) (b : BearerOf F) (lt : k < length w.bearers) → All (IsUntilCounter k new.machine.entries new.counters all_ends) (slice_index_or w.bearers k b).lines.items
  until_now k b lt j s in_lines = λ line at entry counter shown here has before comes. by_place line at entry counter shown here has before comes where
    by_place : (line : Shown) (at : ℕ) (entry : Entry) (counter : ℕ) → shown_of new.machine.entries (slice_index_or (slice_index_or w.bearers k b).lines.items j s) ≡ Some line
        → slice_get new.machine.entries at ≡ Some entry → slice_get new.counters at ≡ Some counter → (slice_index_or (slice_index_or w.bearers k b).lines.items j s).entry < at
        → ComesBehind k all_ends (slice_index_or (slice_index_or w.bearers k b).lines.items j s).entry at entry → IsToldBelow counter line
    by_place line at entry counter shown here has before (inl (by, out)) =
        below_now old new d e events counts dones sends pairs w memory none many within k b lt j s in_lines line at entry counter shown here by out before
        (λ behind. count_seen old new d e events counts dones sends pairs w memory none many within k b lt at entry counter here by behind has)
    by_place line at entry counter shown here has before (inr ended) =
        let at_entry = slice_index_or (slice_index_or w.bearers k b).lines.items j s in
        absurd (no_end_behind ends (length old.machine.entries) at_entry.entry at timed.past (lines_behind old new d e events counts dones sends pairs w memory none many within k b lt j s in_lines)
        (ended_before ends (length new.machine.entries) at_entry.entry at (within_get new.machine.entries at entry here) ended))

  -- lines of before
  until_before : (k : ℕ) → All (IsUntilCounter k new.machine.entries new.counters all_ends) (list_at sends k)
  until_before k j s in_lines = λ line at entry counter shown here has before comes. by_place line at entry counter shown here has before comes (less_or at (length old.machine.entries)) where
    sent : Sent
    sent = slice_index_or (list_at sends k) j s

    behind_before : (at : ℕ) (entry : Entry) → at < length old.machine.entries → ComesBehind k all_ends sent.entry at entry → ComesBehind k ends sent.entry at entry
    behind_before at entry early (inl same) = inl same
    behind_before at entry early (inr ended) = inr (ended_before ends (length new.machine.entries) sent.entry at (omega (arith, early, longer)) ended)

    by_place : (line : Shown) (at : ℕ) (entry : Entry) (counter : ℕ) → shown_of new.machine.entries sent ≡ Some line → slice_get new.machine.entries at ≡ Some entry → slice_get new.counters at ≡ Some counter
        → sent.entry < at → ComesBehind k all_ends sent.entry at entry → (at < length old.machine.entries) ⊎ (length old.machine.entries ≤ at) → IsToldBelow counter line
    by_place line at entry counter shown here has before comes (inl early) =
        let there = entry_before old new d e events counts dones sends pairs w memory none many within at entry here early in
        timed.until k j s in_lines line at entry counter (shown_before old new d e events counts dones sends pairs w memory none many within k j s in_lines ∙ shown) there
        (counted_before at entry counter there has) before (behind_before at entry early comes)
    by_place line at entry counter shown here has before comes (inr late) =
        let lt = bearer_within old new d e events counts dones sends pairs w memory none many within at entry here late in
        let b = first_of w.bearers entry.bearer lt in
        below_before old new d e events counts dones sends pairs w memory none many within k j s in_lines line shown entry.bearer b lt at entry counter here refl late
        (count_seen old new d e events counts dones sends pairs w memory none many within entry.bearer b lt at entry counter here refl late has)

  until_more : (k : ℕ) → All (IsUntilCounter k new.machine.entries new.counters all_ends) (list_at (both_of sends (map lines_of dones)) k)
  until_more k = subst (All IsUntil) (sym (list_at_both sends (map lines_of dones) k)) (All-append IsUntil (list_at sends k) (list_at (map lines_of dones) k) (until_before k) (by_bearer (less_or k (length w.bearers)))) where
    IsUntil : Sent → Type 0
    IsUntil = IsUntilCounter k new.machine.entries new.counters all_ends

    by_bearer : (k < length w.bearers) ⊎ (length w.bearers ≤ k) → All IsUntil (list_at (map lines_of dones) k)
    by_bearer (inl lt) =
        let b = first_of w.bearers k lt in
        let mine : list_at (map lines_of dones) k ≡ (slice_index_or w.bearers k b).lines.items =
        list_at_map lines_of dones k (done_of b) (omega (arith, lt, dones_long)) ∙ ap lines_of (done_at old new d e events counts dones sends pairs w memory none many within k b lt) in
        subst (All IsUntil) (sym mine) (until_now k b lt)
    by_bearer (inr le) = subst (All IsUntil) (sym (list_at_past (map lines_of dones) k (omega (arith, le, length-map dones lines_of, dones_long)))) (All-nil IsUntil)

  from_all : All (All (IsFromMove new.machine.entries new.counters)) (both_of sends (map lines_of dones))
  from_all =
      let Is = IsFromMove new.machine.entries new.counters in
      all_both Is sends (map lines_of dones)
      (from_later old.machine.entries new.machine.entries old.machine.moves old.counters new.counters d.looks came.more came.is came.counted sends pairs.drawns pairs.shown timed.from)
      (subst (λ ds. All (All Is) (map lines_of ds)) (sym w.left) (all_lines Is w.bearers (each_counted old new d e events counts dones sends pairs w memory none many moved)))

  pub times_more : AreTimed new.machine.entries new.counters all_ends (both_of sends (map lines_of dones))
  times_more = record {
    from = from_all;
    until = until_more;
    long = counted;
    past = All-push (λ end. end ≤ length new.machine.entries) ends (length new.machine.entries)
        (λ k end lt. let before : slice_index_or ends k end ≤ length old.machine.entries = timed.past k end lt in omega (arith, before, longer)) (omega arith);
  }

-- From what the bearers did to the part of a phase.
use Rattle.std.proofs.Common.{◌≡◌, ◌≢◌, ◌∙◌, ℕ, zero, suc, ◌+◌, ◌<◌, ◌≤◌, get_or, Bool, true, false, List, [], ◌∷◌, length, map, Option, Some, None, refl, sym, ap, subst, arith}
use Rattle.std.specs.Prelude.{nat_lt, slice_index_or}
use Rattle.std.specs.Option.{option_map_or}
use Rattle.std.proofs.lemmas.Bool.Decides.{nat_tests}
use Rattle.std.proofs.lemmas.List.{length-map}
use Rattle.std.proofs.lemmas.Option.{slice_get_past}
use Rattle.std.specs.List.{filter, range_with_len, slice_get}
use Rattle.mesh_types.specs.declared.events.Event.{Event}
use Rattle.mesh_types.specs.declared.history.Sent.{Sent}
use Rattle.machine_contract.specs.declared.answers.Stop.{Stop}
use Rattle.machine_contract.specs.declared.answers.Stop.TheVariants as S
use Rattle.report_definitions.specs.Record.{list_at}
use Rattle.run_definitions.specs.Order.{IsStuck, Part, Placed, Task, Walks, handle, of_bearer, stops}
use Rattle.seq_word.specs.Seen.{DrawerView}
use Rattle.locked_node.specs.declared.marks.Mark.{Mark}
use Rattle.node_bearer.specs.Did.{AreMarksAt, BearerOf, Broke, Did}
use Rattle.locked_node.specs.Node.{NodeView, node_marks}
use Rattle.turn_lock.specs.Entries.{added}
use Rattle.turn_lock.proofs.Kept.{kept_at}
use Rattle.node_phase.specs.declared.bearers.Done.{Done}
use Rattle.node_phase.specs.Part.{DoesPart, HadMemory, NumbersPart, lines_of, number_at, part_of}
use Rattle.node_phase.specs.Worked.{WasPhase, Worked, done_of, own_of}
use Rattle.node_phase.proofs.Mine.{drop_mine, entries_of_bearer, is_by, keep_mine, stop_dropped}

-- what a bearer did, whether it stopped or not
pub record DidPart (k first : ℕ) (tasks left : List Task) (own : List (ℕ × Mark)) (lines : List Sent) (number : ℕ) : Type 0 where
  pub entries : List Placed
  pub kept : AreMarksAt (filter (is_by k) own) entries
  pub other : (j : ℕ) → j ≢ k → filter (is_by j) own ≡ []
  pub walks : Walks tasks entries lines left
  pub numbers : map (λ p. p.entry.number) entries ≡ range_with_len (first + 1) (length entries)
  pub count : number ≡ first + length entries

part_of_did : (k first : ℕ) (tasks left : List Task) (own : List (ℕ × Mark)) (marks : List Mark) (lines : List Sent) (number : ℕ) (d : DrawerView)
    → Did k first tasks left own marks lines number d → DidPart k first tasks left own lines number
part_of_did k first tasks left own marks lines number d h = record {
  entries = h.entries;
  kept = subst (λ l. AreMarksAt l h.entries) (sym (keep_mine k own h.entries h.own_are h.bearer)) h.own_are;
  other = λ j n. drop_mine k j own h.entries n h.own_are h.bearer;
  walks = h.walks;
  numbers = h.numbers;
  count = h.count;
}

-- a bearer's part, that what it left begins with what needs the machine, and that nothing is left where it did not stop
pub record PartOf {F : Type 0} (k : ℕ) (events : List Event) (old new : BearerOf F) : Type 0 where
  pub left : List Task
  pub did : DidPart k old.number (map handle events) left new.pass.own new.lines.items new.number
  pub stuck : IsStuck left
  pub whole : new.stop ≡ None → left ≡ []

module _ {F : Type 0} (k : ℕ) (events : List Event) (old new : BearerOf F) where
  of_broke : (e : Stop) → new.stop ≡ Some e → Broke k old.number (map handle events) new → PartOf k events old new
  of_broke e is b =
      let p = part_of_did k old.number (map handle events) b.left b.is.before new.pass.seen new.lines.items new.number new.drawer b.is.did in
      record {
        left = b.left;
        did = record {
          entries = p.entries;
          kept = subst (λ l. AreMarksAt l p.entries) (sym (ap (filter (is_by k)) b.is.own ∙ stop_dropped k b.is.at b.is.hand b.is.before)) p.kept;
          other = λ j n. ap (filter (is_by j)) b.is.own ∙ stop_dropped j b.is.at b.is.hand b.is.before ∙ p.other j n;
          walks = p.walks;
          numbers = p.numbers;
          count = p.count;
        };
        stuck = b.stuck;
        whole = λ none. absurd (let bad : Some e ≡ None = sym is ∙ none in cc);
      }

  by_stop : (s : Option Stop) → new.stop ≡ s → s ≢ Some S.Memory → Worked k events old new → PartOf k events old new
  by_stop None is m w = record {
    left = [];
    did = part_of_did k old.number (map handle events) [] new.pass.own new.pass.seen new.lines.items new.number new.drawer (w.did is);
    stuck = tt;
    whole = λ none. refl;
  }
  by_stop (Some S.Closed) is m w = of_broke S.Closed is (w.broke S.Closed is)
  by_stop (Some S.Memory) is m w = absurd (m refl)
  by_stop (Some S.Flash) is m w = of_broke S.Flash is (w.broke S.Flash is)

  pub part_of_worked : new.stop ≢ Some S.Memory → Worked k events old new → PartOf k events old new
  part_of_worked m w = by_stop new.stop refl m w

below : (m n : ℕ) → nat_lt m n ≡ true → m < n
below m n e = grind (arith, nat_tests)

not_below : (m n : ℕ) → nat_lt m n ≡ false → n ≤ m
not_below m n e = grind (arith, nat_tests)

-- lists by place
pub first_of : {A : Type 0} (xs : List A) (k : ℕ) → k < length xs → A
first_of [] k lt = absurd (omega (arith, lt))
first_of (x ∷ xs) k lt = x

pub list_at_map : {A B : Type 0} (f : A → List B) (xs : List A) (k : ℕ) (d : A) → k < length xs → list_at (map f xs) k ≡ f (slice_index_or xs k d)
list_at_map f [] k d lt = absurd (omega (arith, lt))
list_at_map f (x ∷ xs) zero d lt = refl
list_at_map f (x ∷ xs) (suc k) d lt = list_at_map f xs k d (omega (arith, lt))

pub list_at_past : {A : Type 0} (xs : List (List A)) (k : ℕ) → length xs ≤ k → list_at xs k ≡ []
list_at_past [] k le = refl
list_at_past (x ∷ xs) zero le = absurd (omega (arith, le))
list_at_past (x ∷ xs) (suc k) le = list_at_past xs k (omega (arith, le))

pub slice_get_map : {A B : Type 0} (f : A → B) (xs : List A) (k : ℕ) (d : A) → k < length xs → slice_get (map f xs) k ≡ Some (f (slice_index_or xs k d))
slice_get_map f [] k d lt = absurd (omega (arith, lt))
slice_get_map f (x ∷ xs) zero d lt = refl
slice_get_map f (x ∷ xs) (suc k) d lt = slice_get_map f xs k d (omega (arith, lt))

pub index_map : {A B : Type 0} (f : A → B) (xs : List A) (k : ℕ) (d : A) (e : B) → k < length xs → slice_index_or (map f xs) k e ≡ f (slice_index_or xs k d)
index_map f [] k d e lt = absurd (omega (arith, lt))
index_map f (x ∷ xs) zero d e lt = refl
index_map f (x ∷ xs) (suc k) d e lt = index_map f xs k d e (omega (arith, lt))

module _ {F : Type 0} (old new : NodeView F) (d e : DrawerView) (events : List (List Event)) (counts : List ℕ) (dones : List Done)
    (w : WasPhase old new d e events counts dones) (memory : HadMemory dones) (few : length events ≤ length counts) where
  abbrev lists : List (List (ℕ × Mark))
  lists = [] ∷ map own_of w.bearers

  abbrev part : Part
  part = part_of old new dones

  many : length w.before ≡ length counts
  many = sym (length-map w.before (λ b. b.number)) ∙ ap length w.numbers

  lists_long : length lists ≡ suc (length w.bearers)
  lists_long = ap suc (length-map w.bearers own_of)

  dones_long : length dones ≡ length w.bearers
  dones_long = ap length w.left ∙ length-map w.bearers done_of

  done_at : (k : ℕ) (b : BearerOf F) → k < length w.bearers → slice_index_or dones k (done_of b) ≡ done_of (slice_index_or w.bearers k b)
  done_at k b lt = ap (λ xs. slice_index_or xs k (done_of b)) w.left ∙ index_map done_of w.bearers k b (done_of b) lt

  pub part_at : (k : ℕ) (b : BearerOf F) → k < length w.bearers → PartOf k (list_at events k) (slice_index_or w.before k b) (slice_index_or w.bearers k b)
  part_at k b lt =
      part_of_worked k (list_at events k) (slice_index_or w.before k b) (slice_index_or w.bearers k b)
      (λ h. memory k (done_of b) (omega (arith, lt, dones_long)) (ap (λ x. x.stop) (done_at k b lt) ∙ h)) (w.worked k b (omega (arith, lt, w.long)))

  -- what a test for bearer k keeps of the other bearers' own entries
  others : (k : ℕ) (b : BearerOf F) (j : ℕ) → j < length lists → j ≢ suc k → filter (is_by k) (slice_index_or lists j []) ≡ []
  others k b zero lt n = refl
  others k b (suc j) lt n =
      let within : j < length w.bearers = omega (arith, lt, lists_long) in
      ap (filter (is_by k)) (index_map own_of w.bearers j b [] within) ∙ (part_at j b within).did.other k (λ h. n (ap suc (sym h)))

  pub entries_at : (k : ℕ) (b : BearerOf F) (lt : k < length w.bearers) → of_bearer k part.entries ≡ (part_at k b lt).did.entries
  entries_at k b lt =
      let p = (part_at k b lt).did in
      let mine = filter (is_by k) (own_of (slice_index_or w.bearers k b)) in
      let all : filter (is_by k) (added (node_marks old) (node_marks new)) ≡ mine =
      w.kept (is_by k) mine (kept_at (is_by k) (suc k) lists [] mine (omega (arith, lt, lists_long)) (ap (filter (is_by k)) (index_map own_of w.bearers k b [] lt)) (others k b)) in
      entries_of_bearer k (added (node_marks old) (node_marks new)) p.entries (subst (λ l. AreMarksAt l p.entries) (sym all) p.kept)

  -- past the last bearer there is nothing
  past : (bs : List (BearerOf F)) → w.bearers ≡ bs → (k : ℕ) → length w.bearers ≤ k → (j : ℕ) → j < length lists → j ≢ 0 → filter (is_by k) (slice_index_or lists j []) ≡ []
  past bs is k le zero lt n = absurd (n refl)
  past [] is k le (suc j) lt n = absurd (omega (arith, lt, lists_long, ap length is))
  past (b ∷ bs) is k le (suc j) lt n =
      let within : j < length w.bearers = omega (arith, lt, lists_long) in
      ap (filter (is_by k)) (index_map own_of w.bearers j b [] within) ∙ (part_at j b within).did.other k (λ h. absurd (omega (arith, h, le, within)))

  entries_past : (k : ℕ) → length w.bearers ≤ k → of_bearer k part.entries ≡ []
  entries_past k le =
      let none : filter (is_by k) (added (node_marks old) (node_marks new)) ≡ [] = w.kept (is_by k) [] (kept_at (is_by k) 0 lists [] [] (omega (arith, lists_long)) refl (past w.bearers refl k le)) in
      entries_of_bearer k (added (node_marks old) (node_marks new)) [] (subst (λ l. AreMarksAt l []) (sym none) tt)

  sends_at : (k : ℕ) (b : BearerOf F) → k < length w.bearers → list_at part.sends k ≡ (slice_index_or w.bearers k b).lines.items
  sends_at k b lt = list_at_map lines_of dones k (done_of b) (omega (arith, lt, dones_long)) ∙ ap lines_of (done_at k b lt)

  does_within : (k : ℕ) (b : BearerOf F) → k < length w.bearers → DoesPart events part dones k
  does_within k b lt =
      let p = part_at k b lt in
      record {
        left = p.left;
        does = subst (λ es. Walks (map handle (list_at events k)) es (list_at part.sends k) p.left) (sym (entries_at k b lt))
            (subst (λ ls. Walks (map handle (list_at events k)) p.did.entries ls p.left) (sym (sends_at k b lt)) p.did.walks);
        stuck = p.stuck;
        all = λ through. p.whole (sym (ap (λ x. x.stop) (done_at k b lt)) ∙ through k (done_of b) (omega (arith, lt, dones_long)));
      }

  does_past : (k : ℕ) → length w.bearers ≤ k → DoesPart events part dones k
  does_past k le =
      record {
        left = [];
        does = subst (λ evs. Walks (map handle evs) (of_bearer k part.entries) (list_at part.sends k) []) (sym (list_at_past events k (omega (arith, le, many, w.long, few))))
            (subst (λ es. Walks [] es (list_at part.sends k) []) (sym (entries_past k le))
            (subst (λ ls. Walks [] [] ls []) (sym (list_at_past part.sends k (omega (arith, le, length-map dones lines_of, dones_long)))) stops));
        stuck = tt;
        all = λ through. refl;
      }

  numbers_within : (k : ℕ) (b : BearerOf F) → k < length w.bearers → NumbersPart counts part dones k
  numbers_within k b lt =
      let p = part_at k b lt in
      let before : number_at counts k ≡ (slice_index_or w.before k b).number =
      ap (λ cs. number_at cs k) (sym w.numbers) ∙ ap (λ o. option_map_or (λ n. n) o 0) (slice_get_map (λ x. x.number) w.before k b (omega (arith, lt, w.long))) in
      let after : number_at (map (λ x. x.number) dones) k ≡ (slice_index_or w.bearers k b).number =
      ap (λ o. option_map_or (λ n. n) o 0) (slice_get_map (λ (x : Done). x.number) dones k (done_of b) (omega (arith, lt, dones_long))) ∙ ap (λ x. x.number) (done_at k b lt) in
      let same = entries_at k b lt in
      record {
        numbers = ap (map (λ q. q.entry.number)) same ∙ p.did.numbers ∙ ap (λ n. range_with_len (n + 1) (length p.did.entries)) (sym before)
            ∙ ap (λ es. range_with_len (number_at counts k + 1) (length es)) (sym same);
        count = after ∙ p.did.count ∙ ap (λ n. n + length p.did.entries) (sym before) ∙ ap (λ es. number_at counts k + length es) (sym same);
      }

  numbers_past : (k : ℕ) → length w.bearers ≤ k → NumbersPart counts part dones k
  numbers_past k le =
      let none = entries_past k le in
      let nothing : (xs : List ℕ) → length xs ≤ k → number_at xs k ≡ 0 = λ xs short. ap (λ o. option_map_or (λ n. n) o 0) (slice_get_past xs k short) in
      let before = nothing counts (omega (arith, le, many, w.long)) in
      let after = nothing (map (λ x. x.number) dones) (omega (arith, le, length-map dones (λ (x : Done). x.number), dones_long)) in
      record {
        numbers = ap (map (λ q. q.entry.number)) none ∙ ap (λ es. range_with_len (number_at counts k + 1) (length es)) (sym none);
        count = after ∙ omega (arith, before, ap length none);
      }

  by_place : (bs : List (BearerOf F)) → w.bearers ≡ bs → (k : ℕ) (b : Bool) → nat_lt k (length w.bearers) ≡ b → DoesPart events part dones k × NumbersPart counts part dones k
  by_place [] is k true test = absurd (let lt : k < length w.bearers = below k (length w.bearers) test in omega (arith, lt, ap length is))
  by_place (x ∷ bs) is k true test = let lt = below k (length w.bearers) test in (does_within k x lt, numbers_within k x lt)
  by_place bs is k false test = let le = not_below k (length w.bearers) test in (does_past k le, numbers_past k le)

  pub parts_of_phase : (k : ℕ) → DoesPart events part dones k × NumbersPart counts part dones k
  parts_of_phase k = by_place w.bearers refl k (nat_lt k (length w.bearers)) refl

-- a list of one item is that item
pub lone : {A : Type 0} (xs : List A) (d : A) → length xs ≡ 1 → get_or xs 0 d ∷ [] ≡ xs
lone [] d one = absurd (omega (arith, one))
lone (x ∷ []) d one = refl
lone (x ∷ y ∷ xs) d one = absurd (omega (arith, one))

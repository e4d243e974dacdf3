-- What each call leaves of what holds of a machine.
use Rattle.std.proofs.Common.{◌≡◌, ℕ, ◌+◌, ◌≤◌, ◌<◌, ◌^◌, suc, zero, ◌⊎◌, inl, inr, Bool, true, false, List, [], ◌∷◌, ◌++◌, length, take, refl, ap, sym, subst, ◌∙◌, arith, true≢false, add-one, length-append}
use Rattle.std.proofs.lemmas.List.{map-append}
use Rattle.event_definitions.proofs.Handling.{handled_more, left_more}
use Rattle.event_definitions.specs.Handling.{Handles, records_left}
use Rattle.event_definitions.specs.History.{Insight, Past, Told}
use Rattle.event_definitions.specs.Role.{Role}
use Rattle.flash_model.specs.Chip.{Chip, count_of}
use Rattle.machine_contract.specs.declared.answers.Hand.TheVariants as H
use Rattle.machine_contract.specs.Moves.{rises}
use Rattle.machine_contract.specs.Moved.{IsMoved}
use Rattle.seq_word.specs.Seen.{last_word, went_to}
use Rattle.machine_contract.specs.Opening.{FlashFound, IsLeft}
use Rattle.machine_contract.specs.Standing.{AreInHand, IsFrontLeft, IsLeftBy, past_now}
use Rattle.machine_standing.proofs.Images.{front_left, front_node, store_left, store_mark, store_node}
use Rattle.machine_standing.proofs.Lives.{filled_more}
use Rattle.machine_standing.proofs.Moved.{last_behind, moved_entry, moved_fill, moved_more}
use Rattle.machine_standing.proofs.Worn.{none_in_hand, stored_more}
use Rattle.machine_standing.specs.Kept.{AreKept}
use Rattle.machine_standing.specs.Ties.{IsCutIn, IsKind, IsNodeStore, IsOverBy, StandsBy, entered_by, refilled_by, stopped_by, with_fill}
use Rattle.machine_standing.specs.Views.{LifeMachine}
use Rattle.mesh_types.specs.declared.answers.Answer.{Answer}
use Rattle.mesh_types.specs.declared.events.Event.{Event}
use Rattle.mesh_types.specs.declared.history.Entry.{Entry}
use Rattle.node_records.specs.Meaning.{IsMeaningOf}
use Rattle.node_store.specs.Tie.{IsStoreOf}
use Rattle.record_types.specs.declared.records.StoreRecord.{StoreRecord}
use Rattle.run_definitions.specs.Order.{is_outside}
use Rattle.seq_reserve.specs.declared.reserve.Reserve.{Reserve}
use Rattle.store_definitions.specs.Config.{Config, config_of}
use Rattle.store_definitions.specs.Numbers.{fill_of, filled}
use Rattle.store_definitions.proofs.Wear.{at_most_more, paid_more}
use Rattle.store_definitions.specs.Wear.{CostsAndUses, CostsAtMost}

-- an entry, with what its octets were read as
abbrev pub told_by : Past → Entry → Insight → Told
told_by past entry insight = record { entry = entry; insight = insight; records = past.records }

-- the past with it, where it stored these records
abbrev pub past_with : Past → Entry → Insight → List StoreRecord → Past
past_with past entry insight records =
    record { told = past.told ++ told_by past entry insight ∷ []; records = past.records ++ records }

-- It is handled as the event was planned, where what the store says then is what the records say with these ones.
pub entry_handles : (role : Role) (past : Past) (event : Event) (insight : Insight) (answer : Answer) (records : List StoreRecord) (c : Config) (entry : Entry)
    → role.sees past event insight → answer ≡ role.answer past event insight → records ≡ role.stores past event insight answer
    → c ≡ config_of (past.records ++ records)
    → entry.event ≡ event → entry.answer ≡ answer → entry.jobs ≡ role.jobs past c event insight answer
    → Handles role past (told_by past entry insight)
entry_handles role past event insight answer records c entry sees is stored said of has jobs =
    let after : c ≡ config_of (past.records ++ role.stores past entry.event insight entry.answer) =
    said ∙ ap (λ l. config_of (past.records ++ l))
    (stored ∙ ap (λ x. role.stores past x insight answer) (sym of) ∙ ap (λ a. role.stores past entry.event insight a) (sym has)) in
    record {
      sees = subst (λ x. role.sees past x insight) (sym of) sees;
      answer = has ∙ is ∙ ap (λ x. role.answer past x insight) (sym of);
      jobs = jobs ∙ ap (λ d. role.jobs past d event insight answer) after
          ∙ ap (λ x. role.jobs past (config_of (past.records ++ role.stores past entry.event insight entry.answer)) x insight answer) (sym of)
          ∙ ap (λ a. role.jobs past (config_of (past.records ++ role.stores past entry.event insight entry.answer)) entry.event insight a) (sym has);
    }

take_nil : {A : Type 0} (n : ℕ) → take {A = A} n [] ≡ []
take_nil zero = refl
take_nil (suc n) = refl

entered_left : (role : Role) (over : List StoreRecord) (told : List Told) (n : ℕ) (t : Told) → t.records ≡ filled n (records_left role over [] told)
    → records_left role over [] (told ++ t ∷ []) ≡ filled n (records_left role over [] told) ++ role.stores (past_now role over told n) t.entry.event t.insight t.entry.answer
entered_left role over told n t e =
    left_more role over [] told t
    ∙ ap (λ l. l ++ role.stores (record { told = told; records = l }) t.entry.event t.insight t.entry.answer) e

module _ {Memory : Type 0} (role : Role) (Before : Past → LifeMachine Memory → Type 0) (kind : IsKind role Before)
    (first : FlashFound) (old new : Chip) (over : List StoreRecord) (m : LifeMachine Memory) (s : StandsBy role Before first old over m) (runs : m.closed ≡ false) where
  abbrev past : Past
  past = past_now role over s.life.told m.fills

  said : IsNodeStore past.records m.reserve.store.persist
  said = kind.said past m (s.usable runs).before

  -- A machine with an entry more.
  pub entered_stands : (r : Reserve) (tables : Memory) (entry : Entry) (insight : Insight) (records : List StoreRecord)
      → entry.fills ≡ m.fills → Handles role past (told_by past entry insight)
      → records ≡ role.stores past entry.event insight entry.answer
      → Before (past_with past entry insight records) (entered_by m r tables entry) → length m.entries + 1 < 2 ^ 32
      → IsStoreOf new r.store (past.records ++ records) → r.keeper.mark ≡ r.store.persist.mark
      → went_to r.keeper.advances ≡ went_to m.reserve.keeper.advances ++ rises (config_of past.records) records → new.setting.faults ≤ new.faults
      → CostsAndUses m.reserve.store.journal.used (length records) (count_of old) (count_of new) r.store.journal.used → new.reads ≡ old.reads → new.faults ≡ old.faults
      → StandsBy role Before first new over (entered_by m r tables entry)
  entered_stands r tables entry insight records fills handles is before few store mark moved began wear unread whole =
      let t : Told = told_by past entry insight in
      let all : List StoreRecord = past.records ++ records in
      let left_is : records_left role over [] (past.told ++ t ∷ []) ≡ all =
      entered_left role over past.told m.fills t refl ∙ ap (λ l. past.records ++ l) (sym is) in
      let now : IsNodeStore all r.store.persist = kind.said (past_with past entry insight records) (entered_by m r tables entry) before in
      let gone : IsMoved over all r.keeper.advances = moved_more over past.records records m.reserve.keeper.advances r.keeper.advances (s.moved runs) moved in
      let worn : CostsAndUses s.life.paid.used (s.life.paid.stored + length records) first.count (count_of new) r.store.journal.used =
      paid_more s.life.paid.used s.life.paid.stored (length records) first.count (count_of old) (count_of new) m.reserve.store.journal.used r.store.journal.used (s.wear runs) wear in
      record {
        life = record {
          told = past.told ++ t ∷ [];
          entries = map-append (λ (x : Told). x.entry) past.told (t ∷ []) ∙ ap (λ l. l ++ entry ∷ []) s.life.entries;
          handled = handled_more role over [] past.told t s.life.handled (ap (λ n. filled n (records_left role over [] past.told)) (sym fills)) handles;
          moves = moved_entry role over past.told t all r.keeper.advances m.moves s.life.moves (ap (λ l. past.records ++ l) is) gone;
          few = omega (arith, few, length-append m.entries (entry ∷ []));
          elements = s.life.elements;
          node = store_node new r.store all store now.whole;
          left = λ image next held found. (
            subst (λ h. IsLeftBy role (past_now role over (past.told ++ t ∷ []) 0) h next) (sym (s.life.idle runs))
                (subst (λ l. IsLeft l [] next) (sym left_is) (store_left new r.store all store now.ranges image next held found)),
            store_mark new r.store all r.keeper.mark store mark image next held found,
          );
          idle = s.life.idle;
          failed = λ closed. absurd (true≢false (sym closed ∙ runs));
          no_fault = λ e. whole ∙ s.life.no_fault runs;
          once = omega (arith, whole, s.life.once);
          in_hand = 0;
          hand = subst (λ h. AreInHand role (past_now role over (past.told ++ t ∷ []) 0) h 0) (sym (s.life.idle runs)) refl;
          paid = record {
            stored = s.life.paid.stored + length records;
            behind = ap length left_is ∙ stored_more over past.records records s.life.paid.stored s.life.paid.behind;
            used = s.life.paid.used;
            taken_up = s.life.paid.taken_up;
            costs = none_in_hand s.life.paid.used (s.life.paid.stored + length records) first.count (count_of new) r.store.journal.used worn;
          };
          reads = omega (arith, unread, s.life.reads);
        };
        usable = λ e. subst (λ l. IsOverBy Before new (record { told = past.told ++ t ∷ []; records = l }) (entered_by m r tables entry)) (sym left_is) (record { store = store; before = before });
        moved = λ e. subst (λ l. IsMoved over l r.keeper.advances) (sym left_is) gone;
        last = λ e. sym (last_behind m.moves (last_word (went_to r.keeper.advances)));
        began = began;
        wear = λ e. worn;
      }

  -- A machine that a failed event closed.
  pub stopped_stands : (r : Reserve) (tables : Memory) (event : Event) (insight : Insight) (records : List StoreRecord)
      → role.sees past event insight
      → records ≡ role.stores past event insight (role.answer past event insight) → AreKept (config_of past.records) records
      → IsCutIn new past.records records r.keeper.mark → new.setting.faults < new.faults
      → CostsAtMost m.reserve.store.journal.used (length records) (count_of old) (count_of new) → new.reads ≡ old.reads → new.faults ≤ old.faults + 1
      → StandsBy role Before first new over (stopped_by m r tables (H.OfEvent event))
  stopped_stands r tables event insight records sees is kept cut rose wear unread once = record {
    life = record {
      told = past.told;
      entries = s.life.entries;
      handled = s.life.handled;
      moves = s.life.moves;
      few = s.life.few;
      elements = s.life.elements;
      node = record { honest = cut.honest; each = λ image held. front_node kind.whole image past.records records (cut.fronts image held) kept said.whole };
      left = λ image next held found. (
        by_place (is_outside event) refl (cut.fronts image held).n next
            (subst (λ l. IsLeft past.records (take (cut.fronts image held).n l) next) is
            (front_left image past.records records next (cut.fronts image held) kept said.ranges found)),
        cut.durable image held next found,
      );
      idle = λ e. absurd (true≢false e);
      failed = λ e. rose;
      no_fault = λ e. absurd (true≢false e);
      once = let was = s.life.no_fault runs in omega (arith, once, was);
      in_hand = length records;
      hand = (insight, sees, ap length is);
      paid = record {
        stored = s.life.paid.stored;
        behind = s.life.paid.behind;
        used = s.life.paid.used;
        taken_up = s.life.paid.taken_up;
        costs = at_most_more s.life.paid.used s.life.paid.stored (length records) first.count (count_of old) (count_of new) m.reserve.store.journal.used (s.wear runs) wear;
      };
      reads = omega (arith, unread, s.life.reads);
    };
    usable = λ e. absurd (true≢false e);
    moved = λ e. absurd (true≢false e);
    last = λ e. absurd (true≢false e);
    began = omega (arith, rose);
    wear = λ e. absurd (true≢false e);
  }
    where
      by_place : (b : Bool) → is_outside event ≡ b → (n : ℕ) (next : List StoreRecord)
          → IsLeft past.records (take n (role.stores past event insight (role.answer past event insight))) next
          → IsLeft past.records [] next ⊎ IsFrontLeft role past event next
      by_place true outside n next h = inr (record { outside = outside; insight = insight; sees = sees; count = n; left = h })
      by_place false inside n next h =
          inl (subst (λ l. IsLeft past.records l next) (ap (take n) (kind.inside past event insight inside) ∙ take_nil n) h)

  -- A machine that a failed refill closed.
  pub unfilled_stands : (r : Reserve) → AreKept (config_of past.records) (fill_of (config_of past.records) ∷ [])
      → IsCutIn new past.records (fill_of (config_of past.records) ∷ []) r.keeper.mark → new.setting.faults < new.faults
      → CostsAtMost m.reserve.store.journal.used 1 (count_of old) (count_of new) → new.reads ≡ old.reads → new.faults ≤ old.faults + 1
      → StandsBy role Before first new over (stopped_by m r m.tables H.OfRefill)
  unfilled_stands r kept cut rose wear unread once = record {
    life = record {
      told = past.told;
      entries = s.life.entries;
      handled = s.life.handled;
      moves = s.life.moves;
      few = s.life.few;
      elements = s.life.elements;
      node = record { honest = cut.honest; each = λ image held. front_node kind.whole image past.records _ (cut.fronts image held) kept said.whole };
      left = λ image next held found. (
        by_count (cut.fronts image held).n next (front_left image past.records _ next (cut.fronts image held) kept said.ranges found),
        cut.durable image held next found,
      );
      idle = λ e. absurd (true≢false e);
      failed = λ e. rose;
      no_fault = λ e. absurd (true≢false e);
      once = let was = s.life.no_fault runs in omega (arith, once, was);
      in_hand = 1;
      hand = refl;
      paid = record {
        stored = s.life.paid.stored;
        behind = s.life.paid.behind;
        used = s.life.paid.used;
        taken_up = s.life.paid.taken_up;
        costs = at_most_more s.life.paid.used s.life.paid.stored 1 first.count (count_of old) (count_of new) m.reserve.store.journal.used (s.wear runs) wear;
      };
      reads = omega (arith, unread, s.life.reads);
    };
    usable = λ e. absurd (true≢false e);
    moved = λ e. absurd (true≢false e);
    last = λ e. absurd (true≢false e);
    began = omega (arith, rose);
    wear = λ e. absurd (true≢false e);
  }
    where
      by_count : (n : ℕ) (next : List StoreRecord) → IsLeft past.records (take n (fill_of (config_of past.records) ∷ [])) next
          → IsLeft past.records [] next ⊎ IsLeft past.records (fill_of (config_of past.records) ∷ []) next
      by_count zero next h = inl h
      by_count (suc zero) next h = inr h
      by_count (suc (suc n)) next h = inr h

  -- A machine with a refill more.
  pub refilled_stands : (r : Reserve) → AreKept (config_of past.records) (fill_of (config_of past.records) ∷ [])
      → IsStoreOf new r.store (past.records ++ fill_of (config_of past.records) ∷ []) → r.keeper.mark ≡ r.store.persist.mark
      → IsMeaningOf (past.records ++ fill_of (config_of past.records) ∷ []) r.store.persist
      → r.keeper.advances ≡ m.reserve.keeper.advances → new.setting.faults ≤ new.faults
      → CostsAndUses m.reserve.store.journal.used 1 (count_of old) (count_of new) r.store.journal.used → new.reads ≡ old.reads → new.faults ≡ old.faults
      → StandsBy role Before first new over (refilled_by m r)
  refilled_stands r kept store mark meaning same began wear unread whole =
      let item : List StoreRecord = fill_of (config_of past.records) ∷ [] in
      let all : List StoreRecord = past.records ++ item in
      let left_is : filled (m.fills + 1) (records_left role over [] past.told) ≡ all =
      ap (λ n. filled n (records_left role over [] past.told)) (add-one m.fills) ∙ filled_more m.fills (records_left role over [] past.told) in
      let before : Before (with_fill past) (refilled_by m r) = kind.refilled past m r kept meaning (s.usable runs).before in
      let now : IsNodeStore all r.store.persist = kind.said (with_fill past) (refilled_by m r) before in
      let worn : CostsAndUses s.life.paid.used (s.life.paid.stored + 1) first.count (count_of new) r.store.journal.used =
      paid_more s.life.paid.used s.life.paid.stored 1 first.count (count_of old) (count_of new) m.reserve.store.journal.used r.store.journal.used (s.wear runs) wear in
      record {
        life = record {
          told = past.told;
          entries = s.life.entries;
          handled = s.life.handled;
          moves = s.life.moves;
          few = s.life.few;
          elements = s.life.elements;
          node = store_node new r.store all store now.whole;
          left = λ image next held found. (
            subst (λ h. IsLeftBy role (past_now role over past.told (m.fills + 1)) h next) (sym (s.life.idle runs))
                (subst (λ l. IsLeft l [] next) (sym left_is) (store_left new r.store all store now.ranges image next held found)),
            store_mark new r.store all r.keeper.mark store mark image next held found,
          );
          idle = s.life.idle;
          failed = λ closed. absurd (true≢false (sym closed ∙ runs));
          no_fault = λ e. whole ∙ s.life.no_fault runs;
          once = omega (arith, whole, s.life.once);
          in_hand = 0;
          hand = subst (λ h. AreInHand role (past_now role over past.told (m.fills + 1)) h 0) (sym (s.life.idle runs)) refl;
          paid = record {
            stored = s.life.paid.stored + 1;
            behind = ap length left_is ∙ stored_more over past.records item s.life.paid.stored s.life.paid.behind;
            used = s.life.paid.used;
            taken_up = s.life.paid.taken_up;
            costs = none_in_hand s.life.paid.used (s.life.paid.stored + 1) first.count (count_of new) r.store.journal.used worn;
          };
          reads = omega (arith, unread, s.life.reads);
        };
        usable = λ e. subst (λ l. IsOverBy Before new (record { told = past.told; records = l }) (refilled_by m r)) (sym left_is) (record { store = store; before = before });
        moved = λ e. subst (λ l. IsMoved over l r.keeper.advances) (sym left_is)
            (subst (λ (a : List (ℕ × ℕ)). IsMoved over all a) (sym same) (moved_fill over past.records m.reserve.keeper.advances (s.moved runs)));
        last = λ e. ap (λ (a : List (ℕ × ℕ)). last_word (went_to a)) same ∙ s.last runs;
        began = began;
        wear = λ e. worn;
      }

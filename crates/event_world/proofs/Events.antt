-- The events of a node, as steps of the world.
use Rattle.std.proofs.Common.{◌≡◌, ◌⊎◌, inl, inr, ℕ, ◌+◌, Bool, true, false, cond, eqb, refl, List, [], ◌∷◌, ◌++◌, Option, Some, None, ap, ◌∙◌, sym, subst, append-nil}
use Rattle.std.specs.Bool.{⊤}
use Rattle.std.specs.Prelude.{All, IsTrue, map}
use Rattle.std.specs.List.{AllByRecursion as Every}
use Rattle.std.specs.Option.{option_to_list}
use Rattle.event_records.specs.Putting.{AreMoves}
use Rattle.event_world.specs.Stepping.{event_steps, records_steps}
use Rattle.event_world.proofs.Changes.{changes_are, changes_in, early, early_means, iv_after, mark_after, named_with, no_steps, stores_named}
use Rattle.event_world.proofs.Walking.{IsNameless, IsWorldOver, Stays, Walks, over, under, walk}
use Rattle.mesh_base.specs.Pairs.{is_newer}
use Rattle.mesh_base.specs.declared.iv_state.IvState.{IvState}
use Rattle.mesh_base.specs.declared.iv_state.IvStep.{IvStep}
use Rattle.mesh_base.specs.declared.iv_state.IvStep.TheVariants as I
use Rattle.mesh_base.specs.declared.pair.Name.{Name}
use Rattle.mesh_base.specs.declared.pair.Pair.{Pair}
use Rattle.mesh_types.specs.declared.answers.Answer.{Answer}
use Rattle.mesh_types.specs.declared.answers.Answer.TheVariants as A
use Rattle.mesh_types.specs.declared.answers.KeyStep.{KeyStep}
use Rattle.mesh_types.specs.declared.answers.KeyStep.TheVariants as S
use Rattle.mesh_types.specs.declared.events.Event.{Event}
use Rattle.mesh_types.specs.declared.events.Event.TheVariants as E
use Rattle.mesh_world.specs.World.{after_all, World, WorldStep}
use Rattle.mesh_world.specs.World.WorldStep.{Accept, Deliver}
use Rattle.node_layers.specs.NodeLayers.{node_layers}
use Rattle.node_records.proofs.Said.{iv_of}
use Rattle.node_records.specs.Meaning.{IsMeaningOf}
use Rattle.node_records.specs.Tables.{config_in, entry_in, pair_of}
use Rattle.node_records.specs.declared.persist.Persist.{Persist}
use Rattle.record_types.specs.declared.records.StoreRecord.{StoreRecord}
use Rattle.record_types.specs.declared.records.StoreRecord.TheVariants as R
use Rattle.event_definitions.proofs.Accepting.{AcceptedFrom}
use Rattle.event_definitions.specs.Answers.{accepted, answer_of, beacon_answer, config_before, later, pdu_answer, replayed}
use Rattle.event_definitions.specs.History.{Insight, OfBeacon, OfNothing, OfPdu, Opening, Past, Reading}
use Rattle.event_definitions.specs.Readings.{Sees, sees_pdu, sees_beacon, sees_nothing, IsReading}
use Rattle.event_definitions.specs.Stores.{hours_passed, hours_step, phase_records, step_records, stores}
use Rattle.event_definitions.specs.Safe.{AreSafe, IsChange}
use Rattle.event_definitions.proofs.Events.{Silent, silent, beacon_silent, nothing_accepted, nothing_silent, pdu_accepts, reset_accepts, unless_silent}
use Rattle.store_definitions.specs.Config.{Config, changed, config_of}
use Rattle.store_definitions.specs.Entries.{entry_of, unexpired}
use Rattle.store_definitions.specs.Ranges.{IsInRange}
use Rattle.store_world.proofs.Steps.{accept}
use Rattle.store_world.specs.Standing.{GoesBy, IsAboveKept, IsWorldOf}
use Rattle.mesh_base.specs.declared.lower.Lower.{Lower}

-- What events store that bring no network PDU: no names.

step_nameless : (c : Config) (step : IvStep) → Every IsNameless (step_records c step)
step_nameless c (I.Ignore rule) = tt
step_nameless c (I.Begin s) = (tt, tt)
step_nameless c (I.Finish s) = (tt, tt)
step_nameless c (I.Recover s) = (tt, tt)
step_nameless c I.Wait = tt

phase_nameless : (c : Config) (index : ℕ) (k : KeyStep) (iv : IvStep) → Every IsNameless (phase_records index k ++ step_records c iv)
phase_nameless c index S.Same iv = step_nameless c iv
phase_nameless c index S.Phase2 iv = (tt, step_nameless c iv)
phase_nameless c index S.Phase0 iv = (tt, step_nameless c iv)

-- it says no name, and its answer accepts none
pub record IsSilent (past : Past) (event : Event) (answer : Answer) (i : Insight) : Type 0 where
  pub nameless : Every IsNameless (stores node_layers past event i answer)
  pub none : accepted answer ≡ None

bcn_silent : (past : Past) (octets : List ℕ) (i : Insight) → IsSilent past (E.Bcn octets) (answer_of node_layers past (E.Bcn octets) i) i
unfolding answer_of stores
bcn_silent past octets i = pick (config_before past).reset i
  where
    pick : (reset : Bool) (i : Insight) → IsSilent past (E.Bcn octets) (cond reset A.Reset (beacon_answer node_layers past i)) i
    pick true i = record { nameless = tt; none = refl }
    pick false (OfBeacon (Some b)) = record { nameless = phase_nameless (config_before past) b.index _ _; none = refl }
    pick false (OfBeacon None) = record { nameless = tt; none = refl }
    pick false (OfPdu r low opening) = record { nameless = tt; none = refl }
    pick false OfNothing = record { nameless = tt; none = refl }

ticks_nameless : (past : Past) (ticks : ℕ) (i : Insight) (a : Answer) → Every IsNameless (stores node_layers past (E.Tick ticks) i a)
unfolding stores
ticks_nameless past ticks i (A.Ticked now) = pick (eqb (hours_passed past ticks) 0)
  where
    pick : (b : Bool) → Every IsNameless (cond b [] (R.Hour (hours_step node_layers past ticks).0.hours (hours_step node_layers past ticks).0.since ∷ step_records (config_before past) (hours_step node_layers past ticks).1))
    pick true = tt
    pick false = (tt, step_nameless (config_before past) (hours_step node_layers past ticks).1)
ticks_nameless past ticks i _ = tt

tick_silent : (past : Past) (ticks : ℕ) (i : Insight) → IsSilent past (E.Tick ticks) (answer_of node_layers past (E.Tick ticks) i) i
unfolding answer_of
tick_silent past ticks i = record { nameless = ticks_nameless past ticks i _; none = pick (config_before past).reset }
  where
    pick : (reset : Bool) → accepted (cond reset A.Reset (A.Ticked (later past ticks))) ≡ None
    pick true = refl
    pick false = refl

silent_none : (a : Answer) → Silent a → accepted a ≡ None
silent_none a (silent h) = h

-- an event that brings no octets and no time
abbrev IsOwn : Event → Type 0
IsOwn (E.Net octets) = ⊥
IsOwn (E.Bcn octets) = ⊥
IsOwn (E.Tick ticks) = ⊥
IsOwn _ = ⊤

own_silent : (past : Past) (event : Event) (i : Insight) → IsOwn event → IsSilent past event (answer_of node_layers past event i) i
unfolding answer_of stores
own_silent past (E.Net octets) i h = absurd h
own_silent past (E.Bcn octets) i h = absurd h
own_silent past (E.Tick ticks) i h = absurd h
own_silent past (E.Send element dst ttl key payload) i h =
    record { nameless = tt; none = silent_none _ (nothing_silent node_layers past (E.Send element dst ttl key payload)) }
own_silent past (E.Raw dst ttl tpdu) i h = record { nameless = tt; none = silent_none _ (nothing_silent node_layers past (E.Raw dst ttl tpdu)) }
own_silent past (E.Begin m) i h =
    record { nameless = tt; none = silent_none _ (nothing_silent node_layers past (E.Begin m)) }
own_silent past (E.Kept lpn fsn name pdu) i h =
    record { nameless = tt; none = silent_none _ (nothing_silent node_layers past (E.Kept lpn fsn name pdu)) }
own_silent past (E.LowPower event) i h = record { nameless = tt; none = silent_none _ (nothing_silent node_layers past (E.LowPower event)) }

-- An accepted message: its IV Index is read, and its name is newer than the entry of its source.
record IsFresh (past : Past) (n : Name) : Type 0 where
  read : (n.pair.iv ≡ (config_before past).iv.current) ⊎ (n.pair.iv + 1 ≡ (config_before past).iv.current)
  newer : replayed (entry_of past.records n.src.0) n.pair ≡ None

under_current : (iv heard current : ℕ) → iv ≡ heard → (heard ≡ current) ⊎ (heard + 1 ≡ current) → (iv ≡ current) ⊎ (iv + 1 ≡ current)
under_current iv heard current same (inl e) = inl (same ∙ e)
under_current iv heard current same (inr e) = inr (ap (λ n. n + 1) same ∙ e)

fresh_reading : (past : Past) (octets : List ℕ) (reading : Option Reading) (low : Option Lower) (opening : Option Opening) (n : Name)
    → IsReading node_layers past octets reading → accepted (pdu_answer node_layers past (OfPdu reading low opening)) ≡ Some n → IsFresh past n
fresh_reading past octets None low opening n h e = absurd cc
fresh_reading past octets (Some r) low opening n h e =
    let from : AcceptedFrom past r n = pdu_accepts node_layers past r low opening n e in
    record {
      read = under_current n.pair.iv r.fields.iv (config_before past).iv.current from.iv h.1.reads.iv.0;
      newer = from.newer;
    }

fresh : (past : Past) (event : Event) (i : Insight) (n : Name) → Sees node_layers past event i → accepted (answer_of node_layers past event i) ≡ Some n → IsFresh past n
unfolding answer_of
fresh past _ _ n (sees_pdu {octets = octets} {reading = reading} {low = low} {opening = opening} reset r l o) e =
    fresh_reading past octets reading low opening n r (reset_accepts _ _ n e)
fresh past _ _ n (sees_beacon {b = b} reset k) e = absurd (nothing_accepted _ n (unless_silent past _ (beacon_silent node_layers past b)) e)
fresh past _ _ n (sees_nothing {event = event} h) e = absurd (nothing_accepted _ n (nothing_silent node_layers past event) e)

above : (kept : Option Pair) (p : Pair) → replayed kept p ≡ None → IsAboveKept kept p
above None p e = tt
above (Some kept) p e = by_test (is_newer p kept) refl e
  where
    by_test : (b : Bool) → is_newer p kept ≡ b → cond b None (Some (A.Replay kept)) ≡ None → IsTrue (is_newer p kept)
    by_test true is e = is
    by_test false is e = absurd cc

module _ (safe : AreSafe node_layers) (w : World) (past : Past) (p q : Persist) (world : IsWorldOf w p p.mark) (meaning : IsMeaningOf past.records p) (ranges : All IsInRange past.records) where
  same : config_in p ≡ config_of past.records
  same = meaning.config

  stays : Stays w past.records
  stays = record {
    world = subst (λ n. IsWorldOver w past.records n) (ap (λ (c : Config). c.mark) same) (over w p past.records p.mark meaning world);
    mark = (iv_of past.records ranges).mark;
  }

  -- an event whose answer accepts nothing
  silent_goes : (items : List StoreRecord) (answer : Answer) → Every IsNameless items → accepted answer ≡ None → AreMoves (config_in p) items
      → IsMeaningOf (past.records ++ items) q → GoesBy (event_steps (config_in p) items answer) w q q.mark
  silent_goes items answer nameless none moves after =
      let walked : Walks (records_steps (config_of past.records) items) w (past.records ++ items) =
      walk w past.records items nameless (subst (λ (c : Config). AreMoves c items) same moves) stays in
      let steps : List WorldStep = records_steps (config_of past.records) items in
      let goes : GoesBy steps w q q.mark = record {
        allowed = walked.allowed;
        world = subst (λ n. IsWorldOf (after_all w steps) q n) (sym (ap (λ (c : Config). c.mark) after.config)) (under (after_all w steps) q (past.records ++ items) _ after walked.stays.world);
      } in
      let there : GoesBy (records_steps (config_in p) items) w q q.mark = subst (λ (c : Config). GoesBy (records_steps c items) w q q.mark) (sym same) goes in
      subst (λ (o : Option Name). GoesBy (records_steps (config_in p) items ++ map Deliver (option_to_list o)) w q q.mark) (sym none)
      (subst (λ ss. GoesBy ss w q q.mark) (sym (append-nil (records_steps (config_in p) items))) there)

  -- an accepted message, and the changes that it asks for
  name_goes : (n : Name) (changes : List StoreRecord) (answer : Answer) → accepted answer ≡ Some n → Every IsChange changes → IsFresh past n
      → IsMeaningOf (past.records ++ R.Replay n None ∷ changes) q
      → GoesBy (event_steps (config_in p) (R.Replay n None ∷ changes) answer) w q q.mark
  unfolding changed
  name_goes n changes answer taken are is_fresh after =
      let current : (config_before past).iv.current ≡ p.iv.current = sym (ap (λ (c : Config). c.iv.current) same) in
      let is_above : IsAboveKept (entry_in p n.src.0) n.pair = subst (λ (o : Option Pair). IsAboveKept o n.pair) (sym (meaning.entries n.src.0)) (above (entry_of past.records n.src.0) n.pair is_fresh.newer) in
      let is_read : (n.pair.iv ≡ p.iv.current) ⊎ (n.pair.iv + 1 ≡ p.iv.current) = subst (λ m. (n.pair.iv ≡ m) ⊎ (n.pair.iv + 1 ≡ m)) current is_fresh.read in
      let between : Persist = early past.records changes n p q meaning after are in
      let first : GoesBy (Accept n ∷ []) w between p.mark =
      accept w p between p.mark past.records n world meaning (early_means past.records changes n p q meaning after are) is_read is_above in
      let iv : p.iv ≡ q.iv = sym (iv_after past.records changes n p q meaning after are) in
      let mark : p.mark ≡ q.mark = sym (mark_after past.records changes n p q meaning after are) in
      let goes : GoesBy (Accept n ∷ Deliver n ∷ []) w q q.mark = record {
        allowed = (first.allowed.0, (refl, tt));
        world = record {
          current = first.world.current ∙ ap (λ (s : IvState). s.current) iv;
          kept = first.world.kept ∙ mark;
          mark = first.world.mark ∙ mark;
          entries = λ src. first.world.entries src ∙ ap (λ (s : IvState). unexpired s.current (pair_of q.replay src.0)) iv;
        };
      } in
      subst (λ (o : Option Name). GoesBy (records_steps (config_in p) (R.Replay n None ∷ changes) ++ map Deliver (option_to_list o)) w q q.mark) (sym taken)
      (subst (λ l. GoesBy (Accept n ∷ (l ++ Deliver n ∷ [])) w q q.mark) (sym (no_steps (config_in p) changes are)) goes)

  -- a network PDU heard, by what its answer accepts
  net_goes : (changes : List StoreRecord) (answer : Answer) (o : Option Name) → accepted answer ≡ o → Every IsChange changes
      → ((n : Name) → accepted answer ≡ Some n → IsFresh past n)
      → IsMeaningOf (past.records ++ named_with o changes) q → GoesBy (event_steps (config_in p) (named_with o changes) answer) w q q.mark
  net_goes changes answer None none are is_fresh after = silent_goes [] answer tt none tt after
  net_goes changes answer (Some n) taken are is_fresh after = name_goes n changes answer taken are (is_fresh n taken) after

  by_silence : (event : Event) (i : Insight) → IsSilent past event (answer_of node_layers past event i) i
      → AreMoves (config_in p) (stores node_layers past event i (answer_of node_layers past event i))
      → IsMeaningOf (past.records ++ stores node_layers past event i (answer_of node_layers past event i)) q
      → GoesBy (event_steps (config_in p) (stores node_layers past event i (answer_of node_layers past event i)) (answer_of node_layers past event i)) w q q.mark
  by_silence event i h moves after = silent_goes _ _ h.nameless h.none moves after

  goes_now : (event : Event) (i : Insight) → Sees node_layers past event i
      → AreMoves (config_in p) (stores node_layers past event i (answer_of node_layers past event i))
      → IsMeaningOf (past.records ++ stores node_layers past event i (answer_of node_layers past event i)) q
      → GoesBy (event_steps (config_in p) (stores node_layers past event i (answer_of node_layers past event i)) (answer_of node_layers past event i)) w q q.mark
  goes_now (E.Net octets) i sees moves after =
      let answer : Answer = answer_of node_layers past (E.Net octets) i in
      let changes : List StoreRecord = changes_in past i answer in
      let is : stores node_layers past (E.Net octets) i answer ≡ named_with (accepted answer) changes = stores_named past octets i answer in
      subst (λ items. GoesBy (event_steps (config_in p) items answer) w q q.mark) (sym is)
      (net_goes changes answer (accepted answer) refl (changes_are safe past i answer) (λ n e. fresh past (E.Net octets) i n sees e)
      (subst (λ items. IsMeaningOf (past.records ++ items) q) is after))
  goes_now (E.Bcn octets) i sees moves after = by_silence (E.Bcn octets) i (bcn_silent past octets i) moves after
  goes_now (E.Tick ticks) i sees moves after = by_silence (E.Tick ticks) i (tick_silent past ticks i) moves after
  goes_now (E.Send element dst ttl key payload) i sees moves after =
      by_silence (E.Send element dst ttl key payload) i (own_silent past (E.Send element dst ttl key payload) i tt) moves after
  goes_now (E.Raw dst ttl tpdu) i sees moves after = by_silence (E.Raw dst ttl tpdu) i (own_silent past (E.Raw dst ttl tpdu) i tt) moves after
  goes_now (E.Begin m) i sees moves after =
      by_silence (E.Begin m) i (own_silent past (E.Begin m) i tt) moves after
  goes_now (E.Kept lpn fsn name pdu) i sees moves after =
      by_silence (E.Kept lpn fsn name pdu) i (own_silent past (E.Kept lpn fsn name pdu) i tt) moves after
  goes_now (E.LowPower event) i sees moves after = by_silence (E.LowPower event) i (own_silent past (E.LowPower event) i tt) moves after

  pub event_goes : (event : Event) (i : Insight) (answer : Answer) → Sees node_layers past event i → answer ≡ answer_of node_layers past event i
      → AreMoves (config_in p) (stores node_layers past event i answer) → IsMeaningOf (past.records ++ stores node_layers past event i answer) q
      → GoesBy (event_steps (config_in p) (stores node_layers past event i answer) answer) w q q.mark
  event_goes event i answer sees is moves after =
      subst (λ (a : Answer). GoesBy (event_steps (config_in p) (stores node_layers past event i a) a) w q q.mark) (sym is)
      (goes_now event i sees (subst (λ (a : Answer). AreMoves (config_in p) (stores node_layers past event i a)) is moves)
      (subst (λ (a : Answer). IsMeaningOf (past.records ++ stores node_layers past event i a) q) is after))

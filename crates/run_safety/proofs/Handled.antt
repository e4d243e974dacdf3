-- The records of a life only rise: refills, what its events store, and what outlasts a cut.
use Rattle.std.proofs.Common.{◌≡◌, ℕ, zero, suc, ◌+◌, ◌*◌, ◌%◌, ◌^◌, ◌<◌, ◌≤◌, Bool, true, false, not, ◌&&◌, eqb, ltb, leb, cond, replicate, List, [], ◌∷◌, ◌++◌, refl, sym, subst, arith, append_assoc, append-nil, Option, Some, None, take}
use Rattle.std.specs.Bool.{⊤}
use Rattle.std.specs.List.{AllByRecursion, fold}
use Rattle.std.proofs.lemmas.Bool.{ltb-false, ltb-true}
use Rattle.std.proofs.lemmas.List.Elements.{recursion_from_All}
use Rattle.layer_definitions.specs.IvIndex.{aged, iv_due, iv_hours, iv_next}
use Rattle.mesh_base.specs.IvState.{transmit_of}
use Rattle.mesh_base.specs.declared.iv_state.IvState.{IvState}
use Rattle.mesh_base.specs.declared.iv_state.IvStep.{IvStep}
use Rattle.mesh_base.specs.declared.iv_state.IvStep.TheVariants as I
use Rattle.mesh_types.specs.declared.answers.Answer.{Answer}
use Rattle.mesh_types.specs.declared.answers.Answer.TheVariants as A
use Rattle.mesh_types.specs.declared.answers.KeyStep.{KeyStep}
use Rattle.mesh_types.specs.declared.answers.KeyStep.TheVariants as S
use Rattle.mesh_types.specs.declared.events.Event.{Event}
use Rattle.mesh_types.specs.declared.events.Event.TheVariants as E
use Rattle.record_types.specs.declared.records.StoreRecord.{StoreRecord}
use Rattle.record_types.specs.declared.records.StoreRecord.TheVariants as R
use Rattle.event_definitions.specs.Answers.{answer_of, beacon_answer, config_before, is_busy}
use Rattle.store_definitions.specs.Config.{Config, changed, config_of, no_config}
use Rattle.event_definitions.specs.History.{Insight, OfBeacon, OfNothing, OfPdu, Past}
use Rattle.event_definitions.specs.Layers.{AccessMessage, Layers}
use Rattle.run_safety.specs.Rules.{HasFitNumbers}
use Rattle.event_definitions.specs.Safe.{AreSafe, IsChange}
use Rattle.event_definitions.specs.Stores.{asked, hours_passed, hours_step, message_of, phase_records, step_records, stores, tick_records}
use Rattle.store_definitions.specs.Numbers.{fill_of, filled, moved}
use Rattle.run_safety.specs.SafeRole.{Marked, RiseAll, Rises}
use Rattle.run_safety.proofs.Rising.{Rise, same, more, rise_after}
use Rattle.store_definitions.proofs.Pushes.{config_push}

-- The mark of a list of records with fit numbers is at most the end of its transmit IV Index, and the known IV Index has 32
-- bits.

marked_changed : (c : Config) (r : StoreRecord) → HasFitNumbers r → Marked c → Marked (changed c r)
unfolding changed transmit_of
marked_changed c (R.Numbers current progress mark hours since) h m = record { mark = h.1; current = h.0 }
marked_changed c (R.Hour hours since) h m = record { mark = m.mark; current = m.current }
marked_changed c (R.Identity unicast elements dev_key) h m = record { mark = m.mark; current = m.current }
marked_changed c _ h m = record { mark = m.mark; current = m.current }

marked_all : (c : Config) (rs : List StoreRecord) → AllByRecursion HasFitNumbers rs → Marked c → Marked (fold changed c rs)
marked_all c [] h m = m
marked_all c (r ∷ rs) h m = marked_all (changed c r) rs h.1 (marked_changed c r h.0 m)

pub marked : (records : List StoreRecord) → AllByRecursion HasFitNumbers records → Marked (config_of records)
marked records h = marked_all no_config records h (record { mark = omega arith; current = omega arith })

-- Steps of the IV Index.

pub data StepRises (s : IvState) : IvStep → Type 0 where
  on_ignore : {rule : ℕ} → StepRises s (I.Ignore rule)
  on_begin : {t : IvState} → s.current ≤ t.current → StepRises s (I.Begin t)
  on_finish : {t : IvState} → s.current ≤ t.current → StepRises s (I.Finish t)
  on_recover : {t : IvState} → s.current ≤ t.current → StepRises s (I.Recover t)
  on_wait : StepRises s I.Wait

by_test : (s : IvState) (b : Bool) (x y : IvStep) → (b ≡ true → StepRises s x) → (b ≡ false → StepRises s y) → StepRises s (cond b x y)
by_test s true x y h k = h refl
by_test s false x y h k = k refl

le_itself : (n : ℕ) → n ≤ n
le_itself n = omega arith

next_rises : (s : IvState) (primary : Bool) (from iv : ℕ) (flag busy : Bool) → StepRises s (iv_next s primary from iv flag busy)
unfolding iv_next
next_rises s primary from iv flag busy =
    by_test s (ltb iv s.current) _ _ (λ e. on_ignore) (λ above.
    by_test s (ltb (s.current + 42) iv) _ _ (λ e. on_ignore) (λ e.
    by_test s (not (eqb from 0) && primary && ltb s.current iv) _ _ (λ e. on_ignore) (λ e.
    by_test s (eqb iv s.current && s.progress && not flag && ltb s.hours 96) _ _ (λ e. on_ignore) (λ e.
    by_test s (eqb iv s.current && s.progress && not flag && busy) _ _ (λ e. on_wait) (λ e.
    by_test s (eqb iv s.current && s.progress && not flag) _ _ (λ e. on_finish (le_itself s.current)) (λ e.
    by_test s (eqb iv s.current) _ _ (λ e. on_ignore) (λ e.
    by_test s (eqb iv (s.current + 1) && flag && not s.progress && ltb s.hours 96) _ _ (λ e. on_ignore) (λ e.
    by_test s (eqb iv (s.current + 1) && flag && not s.progress) _ _ (λ e. on_begin (ltb-false iv s.current above)) (λ e.
    by_test s (ltb s.since 192) _ _ (λ e. on_ignore) (λ e. on_recover (ltb-false iv s.current above)))))))))))

le_one_more : (n : ℕ) → n ≤ n + 1
le_one_more n = omega arith

due_rises : (s : IvState) (mark_seq : ℕ) (busy : Bool) → StepRises s (iv_due s mark_seq busy)
unfolding iv_due
due_rises s mark_seq busy =
    by_test s (not s.progress && leb 96 s.hours && ltb s.current 0xffffffff && leb 0xc00000 mark_seq) _ _ (λ e. on_begin (le_one_more s.current)) (λ e.
    by_test s (s.progress && leb 144 s.hours && not busy) _ _ (λ e. on_finish (le_itself s.current)) (λ e. on_ignore))

-- Records one after another that rise.

pub rise_all : (rs records : List StoreRecord) → RiseAll (config_of records) rs → Rise records (records ++ rs)
rise_all [] records h = rw append-nil same
rise_all (r ∷ rs) records h =
    let one : Rise records (records ++ r ∷ []) = more records r same h.0 in
    let rest : RiseAll (config_of (records ++ r ∷ [])) rs = rw config_push h.1 in
    rw (← append_assoc records (r ∷ []) rs) (rise_after (rise_all rs (records ++ r ∷ []) rest) one)

-- a front of them
pub rise_take : (n : ℕ) (c : Config) (rs : List StoreRecord) → RiseAll c rs → RiseAll c (take n rs)
rise_take zero c rs h = tt
rise_take (suc n) c [] h = tt
rise_take (suc n) c (r ∷ rs) h = (h.0, rise_take n (changed c r) rs h.1)

rise_pick : (c : Config) (b : Bool) (xs ys : List StoreRecord) → RiseAll c xs → RiseAll c ys → RiseAll c (cond b xs ys)
rise_pick c true xs ys h k = h
rise_pick c false xs ys h k = k

-- Refills.

pub rises_fill : (c : Config) → Rises c (fill_of c)
rises_fill c = (le_itself c.iv.current, omega arith)

pub rise_filled : (n : ℕ) (records : List StoreRecord) → Rise records (filled n records)
rise_filled zero records = same
rise_filled (suc n) records =
    rise_after (rise_filled n (records ++ fill_of (config_of records) ∷ [])) (more records _ same (rises_fill (config_of records)))

-- What an event stores.

mark_moves : (b : Bool) (c : Config) (s : IvState) → Marked c → (b ≡ true → transmit_of c.iv < transmit_of s) → c.mark ≤ cond b (transmit_of s * 2 ^ 25) c.mark
mark_moves true c s m h = omega (arith, m.mark, h refl)
mark_moves false c s m h = le_itself c.mark

moved_rises : (c : Config) (s : IvState) → Marked c → c.iv.current ≤ s.current → Rises c (moved c s)
moved_rises c s m h = (h, mark_moves _ c s m (ltb-true (transmit_of c.iv) (transmit_of s)))

-- the record of a step, after others that leave the IV state and the mark
step_rises : (c d : Config) (step : IvStep) → d.iv.current ≡ c.iv.current → d.mark ≡ c.mark → Marked c → StepRises c.iv step → RiseAll d (step_records c step)
step_rises c d _ e f m on_ignore = tt
step_rises c d _ e f m (on_begin {t = s} h) = ((rw e h, rw f (moved_rises c s m h).1), tt)
step_rises c d _ e f m (on_finish {t = s} h) = ((rw e h, rw f (moved_rises c s m h).1), tt)
step_rises c d _ e f m (on_recover {t = s} h) = ((rw e h, rw f (moved_rises c s m h).1), tt)
step_rises c d _ e f m on_wait = tt

phase_rises : (c : Config) (index : ℕ) (key : KeyStep) (step : IvStep) → Marked c → StepRises c.iv step → RiseAll c (phase_records index key ++ step_records c step)
unfolding changed
phase_rises c index S.Same step m h = step_rises c c step refl refl m h
phase_rises c index S.Phase2 step m h = (tt, step_rises c (changed c (R.NetKey 3 index (replicate 16 0))) step refl refl m h)
phase_rises c index S.Phase0 step m h = (tt, step_rises c (changed c (R.NetKey 4 index (replicate 16 0))) step refl refl m h)

-- the step that an answer tells
abbrev AnswerRises : IvState → Answer → Type 0
AnswerRises s (A.Beacon index key iv) = StepRises s iv
AnswerRises s _ = ⊤

unless_rises : (s : IvState) (b : Bool) (a : Answer) → AnswerRises s a → AnswerRises s (cond b A.Reset a)
unless_rises s true a h = tt
unless_rises s false a h = h

beacon_rises : (layers : Layers) (past : Past) (insight : Insight) → AnswerRises (config_before past).iv (beacon_answer layers past insight)
beacon_rises layers past (OfBeacon (Some b)) = next_rises (config_before past).iv _ b.index b.iv b.update (is_busy layers past)
beacon_rises layers past (OfBeacon None) = tt
beacon_rises layers past (OfPdu reading low opening) = tt
beacon_rises layers past OfNothing = tt

aged_rises : (s : IvState) (passed : ℕ) (step : IvStep) → StepRises (aged s passed) step → StepRises s step
aged_rises s passed _ on_ignore = on_ignore
aged_rises s passed _ (on_begin h) = on_begin h
aged_rises s passed _ (on_finish h) = on_finish h
aged_rises s passed _ (on_recover h) = on_recover h
aged_rises s passed _ on_wait = on_wait

by_hours : (s : IvState) (passed mark_seq : ℕ) (busy : Bool) → StepRises s (iv_hours s passed mark_seq busy).1
by_hours s passed mark_seq busy =
    by_test s (eqb passed 0) (I.Ignore 0) (iv_due (aged s passed) mark_seq busy) (λ e. on_ignore) (λ e. aged_rises s passed _ (due_rises (aged s passed) mark_seq busy))

hours_rise : (layers : Layers) (past : Past) (ticks : ℕ) → StepRises (config_before past).iv (hours_step layers past ticks).1
hours_rise layers past ticks = by_hours (config_before past).iv (hours_passed past ticks) ((config_before past).mark % 2 ^ 25) (is_busy layers past)

tick_rises : (layers : Layers) (past : Past) (ticks : ℕ) → Marked (config_before past) → RiseAll (config_before past) (tick_records layers past ticks)
unfolding changed
tick_rises layers past ticks m =
    let hour : StoreRecord = R.Hour (hours_step layers past ticks).0.hours (hours_step layers past ticks).0.since in
    let rest : RiseAll (changed (config_before past) hour) (step_records (config_before past) (hours_step layers past ticks).1) =
    step_rises (config_before past) (changed (config_before past) hour) (hours_step layers past ticks).1 refl refl m (hours_rise layers past ticks) in
    rise_pick (config_before past) (eqb (hours_passed past ticks) 0) [] (hour ∷ step_records (config_before past) (hours_step layers past ticks).1) tt (tt, rest)

change_rises : (c : Config) (r : StoreRecord) → IsChange r → Rises c r
change_rises c (R.Identity unicast elements dev_key) h = h
change_rises c (R.Numbers current progress mark hours since) h = absurd h
change_rises c _ h = tt

changes_rise : (c : Config) (rs : List StoreRecord) → AllByRecursion IsChange rs → RiseAll c rs
changes_rise c [] h = tt
changes_rise c (r ∷ rs) h = (change_rises c r h.0, changes_rise (changed c r) rs h.1)

asked_rises : (layers : Layers) → AreSafe layers → (past : Past) (c : Config) (m : Option AccessMessage) → RiseAll c (asked layers past m)
asked_rises layers safe past c None = tt
asked_rises layers safe past c (Some m) = changes_rise c (layers.changes past m) (recursion_from_All IsChange (layers.changes past m) (safe.changes past m))

pub stores_rise : (layers : Layers) → AreSafe layers → (past : Past) (event : Event) (insight : Insight) (answer : Answer)
    → answer ≡ answer_of layers past event insight → Marked (config_before past) → RiseAll (config_before past) (stores layers past event insight answer)
unfolding changed stores answer_of
stores_rise layers safe past (E.Net octets) insight (A.Delivered name dst key payload) e m = (tt, asked_rises layers safe past _ (message_of insight name dst))
stores_rise layers safe past (E.Net octets) insight (A.Control name dst opcode params) e m = (tt, tt)
stores_rise layers safe past (E.Net octets) insight _ e m = tt
stores_rise layers safe past (E.Bcn octets) insight (A.Beacon index key iv) e m =
    let s : IvState = (config_before past).iv in
    phase_rises (config_before past) index key iv m (subst (AnswerRises s) (sym e) (unless_rises s _ _ (beacon_rises layers past insight)))
stores_rise layers safe past (E.Bcn octets) insight _ e m = tt
stores_rise layers safe past (E.Tick ticks) insight (A.Ticked now) e m = tick_rises layers past ticks m
stores_rise layers safe past (E.Tick ticks) insight _ e m = tt
stores_rise layers safe past _ insight _ e m = tt

-- What is stored may be put, and is a move: the record of a new IV state, alone and behind another.
use Rattle.std.proofs.Common.{◌≡◌, ◌∙◌, ℕ, ◌+◌, ◌-◌, ◌*◌, ◌^◌, ◌<◌, ◌≤◌, true, false, cond, List, [], ◌∷◌, ◌++◌, length, refl, sym, ap, subst, arith}
use Rattle.std.specs.Prelude.{◌==◌, nat_lt, replicate}
use Rattle.std.proofs.lemmas.List.{length-map}
use Rattle.std.proofs.lemmas.Bool.Decides.{nat_tests}
use Rattle.event_records.specs.Putting.{AreMoves, ArePuttable}
use Rattle.event_records.specs.Steps.{LeadsOn}
use Rattle.iv_update.specs.Steps.{IsLater, state_after}
use Rattle.mesh_base.specs.IvState.{transmit_of}
use Rattle.mesh_base.specs.declared.iv_state.IvState.{IvState}
use Rattle.mesh_base.specs.declared.iv_state.IvStep.{IvStep}
use Rattle.mesh_base.specs.declared.iv_state.IvStep.TheVariants.{Begin, Finish, Ignore, Recover, Wait}
use Rattle.mesh_base.specs.declared.keys.NetKeyRow.{NetKeyRow}
use Rattle.mesh_types.specs.declared.answers.KeyStep.{KeyStep}
use Rattle.mesh_types.specs.declared.answers.KeyStep.TheVariants as S
use Rattle.node_records.specs.Tables.{config_in}
use Rattle.node_records.specs.declared.persist.Persist.{Persist}
use Rattle.record_types.specs.declared.records.StoreRecord.{StoreRecord}
use Rattle.record_types.specs.declared.records.StoreRecord.TheVariants as R
use Rattle.event_definitions.specs.Stores.{phase_records}
use Rattle.store_definitions.specs.Config.{Config, change_net, changed, finished_net}
use Rattle.store_definitions.specs.Numbers.{moved}
use Rattle.store_definitions.specs.Ranges.{IsMark}

-- a step that leads to a later state, whatever state it was made of
pub leads : (s base : IvState) (step : IvStep) → IsLater s (state_after base step) → LeadsOn s step
leads s base (Ignore rule) later = tt
leads s base (Begin next) later = later
leads s base (Finish next) later = later
leads s base (Recover next) later = later
leads s base Wait later = tt

-- The mark of a new state.

mark_in : (t u mark : ℕ) (s next : IvState) → t ≡ transmit_of s → u ≡ transmit_of next → IsMark s mark → t ≤ u
    → IsMark next (cond (nat_lt t u) (u * 2 ^ 25) mark)
mark_in t u mark s next old new m up =
    (elim (nat_lt t u) as (λ b. nat_lt t u ≡ b → IsMark next (cond b (u * 2 ^ 25) mark)) [
      | true ↦ λ e. record { seq = 0; word = omega (arith, new); most = omega arith; block = refl }
      | false ↦ λ e.
          let same : u ≡ t = grind (arith, nat_tests) in
          record { seq = m.seq; word = m.word ∙ ap (λ n. n * 2 ^ 25 + m.seq) (sym old ∙ sym same ∙ new); most = m.most; block = m.block }
    ]) refl

mark_up : (t u mark : ℕ) (s : IvState) → t ≡ transmit_of s → IsMark s mark → mark ≤ cond (nat_lt t u) (u * 2 ^ 25) mark
mark_up t u mark s old m =
    (elim (nat_lt t u) as (λ b. nat_lt t u ≡ b → mark ≤ cond b (u * 2 ^ 25) mark) [
      | true ↦ λ e.
          let above : t + 1 ≤ u = grind (arith, nat_tests) in
          omega (arith, m.word, m.most, old, above)
      | false ↦ λ e. omega arith
    ]) refl

-- the record of a state that may follow, over any value with the same known IV Index and mark
pub moved_may : (p q : Persist) (s : IvState) → s.current < 2 ^ 32 → s.hours < 2 ^ 16 → s.since < 2 ^ 16 → IsMark p.iv p.mark → IsLater p.iv s
    → q.iv.current ≡ p.iv.current → q.mark ≡ p.mark → ArePuttable q (moved (config_in p) s ∷ [])
moved_may p q s current hours since m later same_current same_mark = (
  (current, later.has_transmit, mark_in (transmit_of p.iv) (transmit_of s) p.mark p.iv s refl refl m later.transmit, hours, since),
  (omega (arith, later.current, same_current), subst (λ n. n ≤ cond (nat_lt (transmit_of p.iv) (transmit_of s)) (transmit_of s * 2 ^ 25) p.mark) (sym same_mark) (mark_up (transmit_of p.iv) (transmit_of s) p.mark p.iv refl m)),
  (λ full. full),
  (λ r e. tt),
)

-- What a first record leaves of the known IV Index and the mark.

pub after_hour : (p q : Persist) (hours since : ℕ) → config_in q ≡ changed (config_in p) (R.Hour hours since) → (q.iv.current ≡ p.iv.current) × (q.mark ≡ p.mark)
unfolding changed
after_hour p q hours since e = (ap (λ (c : Config). c.iv.current) e, ap (λ (c : Config). c.mark) e)

pub after_phase : (p q : Persist) (op index : ℕ) (key : List ℕ) → config_in q ≡ changed (config_in p) (R.NetKey op index key) → (q.iv.current ≡ p.iv.current) × (q.mark ≡ p.mark)
unfolding changed
after_phase p q op index key e = (ap (λ (c : Config). c.iv.current) e, ap (λ (c : Config). c.mark) e)

-- The hours, and a phase, before what may be put over the same known IV Index and mark.

pub hour_may : (p : Persist) (hours since : ℕ) (rest : List StoreRecord) → hours < 2 ^ 16 → since < 2 ^ 16
    → ((q : Persist) → q.iv.current ≡ p.iv.current → q.mark ≡ p.mark → ArePuttable q rest) → ArePuttable p (R.Hour hours since ∷ rest)
hour_may p hours since rest h s may =
    ((h, s), tt, (λ full. full), (λ q e. let same = after_hour p q hours since e in may q same.0 same.1))

same_many : (index : ℕ) (f : NetKeyRow → NetKeyRow) (rows : List NetKeyRow) → length rows ≤ 4 → 4 < length (change_net index f rows) → ⊥
same_many index f rows few full = omega (arith, few, full, length-map rows (λ (r : NetKeyRow). cond (r.index == index) (f r) r))

pub phase_may : (p : Persist) (index : ℕ) (key : KeyStep) (rest : List StoreRecord) → index ≤ 0xfff → length p.nets ≤ 4
    → ((q : Persist) → q.iv.current ≡ p.iv.current → q.mark ≡ p.mark → ArePuttable q rest) → ArePuttable p (phase_records index key ++ rest)
phase_may p index S.Same rest width few may = may p refl refl
phase_may p index S.Phase2 rest width few may = (
  (omega arith, omega arith, width, refl),
  tt,
  same_many index (λ r. record r { phase = 2 }) p.nets few,
  (λ q e. let same = after_phase p q 3 index (replicate 16 0) e in may q same.0 same.1),
)
phase_may p index S.Phase0 rest width few may = (
  (omega arith, omega arith, width, refl),
  tt,
  same_many index finished_net p.nets few,
  (λ q e. let same = after_phase p q 4 index (replicate 16 0) e in may q same.0 same.1),
)

-- The move to a state, over any value with the same known IV Index, progress and mark.

same_transmit : (a b : IvState) → a.current ≡ b.current → a.progress ≡ b.progress → transmit_of a ≡ transmit_of b
unfolding transmit_of
same_transmit a b current progress = (λ i. current i - (cond (progress i) 1 0))

same_moved : (c d : Config) (s : IvState) → transmit_of d.iv ≡ transmit_of c.iv → d.mark ≡ c.mark → moved c s ≡ moved d s
same_moved c d s transmit mark =
    (λ i. R.Numbers s.current s.progress (cond (nat_lt (sym transmit i) (transmit_of s)) (transmit_of s * 2 ^ 25) (sym mark i)) s.hours s.since)

pub moved_move : (c d : Config) (s : IvState) → IsLater c.iv s → d.iv.current ≡ c.iv.current → d.iv.progress ≡ c.iv.progress → d.mark ≡ c.mark
    → AreMoves d (moved c s ∷ [])
moved_move c d s later current progress mark =
    let transmit = same_transmit d.iv c.iv current progress in (
      record {
        transmit = later.has_transmit;
        current = omega (arith, later.current, current);
        rises = omega (arith, later.transmit, transmit);
        item_is = same_moved c d s transmit mark;
      },
      tt,
    )

-- The hours, and a phase, before moves over the same.

pub hour_moves : (c : Config) (hours since : ℕ) (rest : List StoreRecord)
    → ((d : Config) → d.iv.current ≡ c.iv.current → d.iv.progress ≡ c.iv.progress → d.mark ≡ c.mark → AreMoves d rest) → AreMoves c (R.Hour hours since ∷ rest)
unfolding changed
hour_moves c hours since rest moves = (tt, moves (changed c (R.Hour hours since)) refl refl refl)

pub phase_moves : (c : Config) (index : ℕ) (key : KeyStep) (rest : List StoreRecord)
    → ((d : Config) → d.iv.current ≡ c.iv.current → d.iv.progress ≡ c.iv.progress → d.mark ≡ c.mark → AreMoves d rest) → AreMoves c (phase_records index key ++ rest)
unfolding changed
phase_moves c index S.Same rest moves = moves c refl refl refl
phase_moves c index S.Phase2 rest moves = (tt, moves (changed c (R.NetKey 3 index (replicate 16 0))) refl refl refl)
phase_moves c index S.Phase0 rest moves = (tt, moves (changed c (R.NetKey 4 index (replicate 16 0))) refl refl refl)

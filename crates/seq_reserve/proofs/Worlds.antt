-- The calls as steps of the world.
use Rattle.std.proofs.Common.{◌≡◌, ℕ, ◌+◌, ◌≤◌, Bool, true, false, List, [], ◌∷◌, ◌++◌, ◌∙◌, sym, subst, arith}
use Rattle.std.specs.Prelude.{nat_lt, if◌then◌else◌}
use Rattle.mesh_base.specs.IvState.{transmit_of}
use Rattle.mesh_base.specs.declared.iv_state.IvState.{IvState}
use Rattle.mesh_world.specs.World.{World, after}
use Rattle.mesh_world.specs.World.WorldStep.{Advance, Publish, Reserve}
use Rattle.node_records.specs.declared.persist.Persist.{Persist}
use Rattle.node_records.specs.Meaning.{IsMeaningOf, IsSaid}
use Rattle.node_records.specs.Tables.{config_in}
use Rattle.node_store.specs.Tie.{IsNotBelow}
use Rattle.record_types.specs.declared.records.StoreRecord.{StoreRecord}
use Rattle.record_types.specs.declared.records.StoreRecord.TheVariants as R
use Rattle.seq_reserve.specs.Reserving.{first_word, moving, numbers_step, refilling, IsNumbers}
use Rattle.store_definitions.specs.Config.{changed}
use Rattle.store_definitions.specs.Numbers.{fill_of, moved}
use Rattle.store_world.specs.Standing.{GoesBy, IsWorldOf}
use Rattle.store_world.proofs.Steps.{advance, publish, reserve}
use Rattle.seq_reserve.proofs.Marks.{mark_filled, mark_moved}

-- a Numbers record that becomes durable
pub put_step : (w : World) (p q : Persist) (published : ℕ) (item : StoreRecord) → IsNumbers item → IsNotBelow p item → IsSaid p
    → ((records : List StoreRecord) → IsMeaningOf records p → IsMeaningOf (records ++ item ∷ []) q) → IsWorldOf w p published
    → GoesBy (numbers_step item) w q published
put_step w p q published (R.Numbers current progress mark hours since) is rises said more world =
    reserve w p q published said.records current progress mark hours since world said.meaning (more said.records said.meaning) rises.0 rises.1
put_step w p q published (R.Identity unicast elements dev_key) is rises said more world = absurd is
put_step w p q published (R.Hour hours since) is rises said more world = absurd is
put_step w p q published (R.Replay first second) is rises said more world = absurd is
put_step w p q published (R.NetKey op index key) is rises said more world = absurd is
put_step w p q published (R.AppKey op net index key) is rises said more world = absurd is
put_step w p q published (R.Bind op element model app) is rises said more world = absurd is
put_step w p q published (R.Subscribe op element model address) is rises said more world = absurd is
put_step w p q published (R.Feature which value) is rises said more world = absurd is
put_step w p q published R.Reset is rises said more world = absurd is
put_step w p q published (R.Model element model value) is rises said more world = absurd is
put_step w p q published (R.Label op element model label) is rises said more world = absurd is
put_step w p q published (R.Publish row) is rises said more world = absurd is

module _ (w : World) (p q : Persist) (published kept : ℕ) (item : StoreRecord) (before : published ≡ p.mark) (config : config_in q ≡ changed (config_in p) item) (goes : GoesBy (numbers_step item) w q published) where
  pub refill_goes : item ≡ fill_of (config_in p) → kept ≡ q.mark → GoesBy (refilling p) w q kept
  refill_goes is after_it =
      let mark : ℕ = p.mark + 256 in
      let up : q.mark ≡ mark = mark_filled p q item is config in
      let first : GoesBy (Reserve p.iv.current mark ∷ []) w q published = subst (λ (i : StoreRecord). GoesBy (numbers_step i) w q published) is goes in
      let second : GoesBy (Publish mark ∷ []) (after w (Reserve p.iv.current mark)) q mark =
      publish (after w (Reserve p.iv.current mark)) q published mark first.world (omega (arith, before)) (omega (arith, up)) in
      record {
        allowed = (first.allowed.0, second.allowed);
        world = subst (λ n. IsWorldOf (after (after w (Reserve p.iv.current mark)) (Publish mark)) q n) (sym (after_it ∙ up)) second.world;
      }

  move_by : (to : IvState) (b : Bool) → item ≡ R.Numbers to.current to.progress (if b then first_word to else p.mark) to.hours to.since
      → q.mark ≡ (if b then first_word to else p.mark) → p.mark ≤ q.mark → kept ≡ q.mark
      → GoesBy (if b then Reserve to.current (first_word to) ∷ Publish (first_word to) ∷ Advance (transmit_of to) ∷ [] else Reserve to.current p.mark ∷ []) w q kept
  move_by to true is up above after_it =
      let mark : ℕ = first_word to in
      let reserved : World = after w (Reserve to.current mark) in
      let first : GoesBy (Reserve to.current mark ∷ []) w q published = subst (λ (i : StoreRecord). GoesBy (numbers_step i) w q published) is goes in
      let second : GoesBy (Publish mark ∷ []) reserved q mark = publish reserved q published mark first.world (omega (arith, before, up, above)) (omega (arith, up)) in
      let third : GoesBy (Advance (transmit_of to) ∷ []) (after reserved (Publish mark)) q mark =
      advance (after reserved (Publish mark)) q mark (transmit_of to) second.world (omega arith) in
      record {
        allowed = (first.allowed.0, (second.allowed.0, third.allowed));
        world = subst (λ n. IsWorldOf (after (after reserved (Publish mark)) (Advance (transmit_of to))) q n) (sym (after_it ∙ up)) third.world;
      }
  move_by to false is up above after_it =
      let first : GoesBy (Reserve to.current p.mark ∷ []) w q published = subst (λ (i : StoreRecord). GoesBy (numbers_step i) w q published) is goes in
      record { allowed = first.allowed; world = subst (λ n. IsWorldOf (after w (Reserve to.current p.mark)) q n) (before ∙ sym (after_it ∙ up)) first.world }

  pub move_goes : (to : IvState) → item ≡ moved (config_in p) to → p.mark ≤ q.mark → kept ≡ q.mark → GoesBy (moving p to) w q kept
  move_goes to is above after_it = move_by to (nat_lt (transmit_of p.iv) (transmit_of to)) is (mark_moved p q to item is config) above after_it

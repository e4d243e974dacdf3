-- Records as steps of the world.
use Rattle.std.proofs.Common.{◌≡◌, ◌⊎◌, inl, inr, ⊎_elim, ℕ, ◌+◌, ◌*◌, ◌^◌, ◌≤◌, Bool, true, false, refl, List, [], ◌∷◌, ◌++◌, Option, Some, None, ap, ◌∙◌, sym, subst, arith, IfSome, true≢false}
use Rattle.std.specs.Prelude.{◌==◌, if◌then◌else◌, IsTrue, IsSomeAnd}
use Rattle.std.proofs.lemmas.Bool.Decides.{nat_tests}
use Rattle.mesh_base.specs.IvState.{transmit_of}
use Rattle.mesh_base.specs.declared.address.Address.{Address}
use Rattle.mesh_base.specs.declared.pair.Name.{Name}
use Rattle.mesh_base.specs.declared.pair.Pair.{Pair}
use Rattle.mesh_base.specs.Pairs.{is_expired, is_newer, newer_of}
use Rattle.mesh_world.specs.World.{after, provisioned, IsAboveEntry, IsAllowed, IsExpired, IsNewer, IsRead, World}
use Rattle.mesh_world.specs.World.WorldStep.{Accept, Advance, Cut, Expire, Publish, Reserve}
use Rattle.node_records.specs.declared.persist.Persist.{Persist}
use Rattle.node_records.specs.Meaning.{IsMeaningOf}
use Rattle.node_records.specs.Tables.{entry_in, config_in}
use Rattle.node_records.proofs.Entries.{gone, noted, raised}
use Rattle.store_definitions.proofs.Pushes.{config_push, kept_push}
use Rattle.record_types.specs.declared.records.StoreRecord.{StoreRecord}
use Rattle.record_types.specs.declared.records.StoreRecord.TheVariants as R
use Rattle.store_definitions.specs.Config.{Config, changed, config_of}
use Rattle.store_definitions.specs.Entries.{greatest_with, kept_after, kept_of, unexpired}
use Rattle.store_definitions.specs.Provisioning as node
use Rattle.store_world.specs.Standing.{entry_with, GoesBy, IsAboveKept, IsWorldOf}

-- the configuration that a value has after one record more
pub config_after : (records : List StoreRecord) (item : StoreRecord) (p q : Persist) → IsMeaningOf records p → IsMeaningOf (records ++ item ∷ []) q
    → config_in q ≡ changed (config_in p) item
config_after records item p q h k = k.config ∙ config_push records item ∙ ap (λ (c : Config). changed c item) (sym h.config)

-- the entry that a source has after one record more, up to expiry under the IV Index before
module _ (records : List StoreRecord) (item : StoreRecord) (p q : Persist) (h : IsMeaningOf records p) (k : IsMeaningOf (records ++ item ∷ []) q) where
  before : (src : ℕ) → entry_in p src ≡ unexpired p.iv.current (kept_of records src)
  before src = h.entries src ∙ ap (λ (c : Config). unexpired c.iv.current (kept_of records src)) (sym h.config)

  pub now : (src : ℕ) → entry_in q src ≡ unexpired q.iv.current (kept_after src (kept_of records src) item)
  now src = k.entries src ∙ ap (λ (c : Config). unexpired c.iv.current (kept_of (records ++ item ∷ []) src)) (sym k.config)
      ∙ ap (unexpired q.iv.current) (kept_push records item src)

module _ (w : World) (p q : Persist) (published : ℕ) (records : List StoreRecord) (current : ℕ) (progress : Bool) (mark hours since : ℕ) (world : IsWorldOf w p published) (h : IsMeaningOf records p) (k : IsMeaningOf (records ++ R.Numbers current progress mark hours since ∷ []) q) (later : p.iv.current ≤ current) (above : p.mark ≤ mark) where
  abbrev numbers : StoreRecord
  numbers = R.Numbers current progress mark hours since

  config_so : config_in q ≡ changed (config_in p) numbers
  config_so = config_after records numbers p q h k

  current_is : current ≡ q.iv.current
  unfolding changed
  current_is = sym (ap (λ (c : Config). c.iv.current) config_so)

  mark_is : mark ≡ q.mark
  unfolding changed
  mark_is = sym (ap (λ (c : Config). c.mark) config_so)

  entries_so : (src : Address) → unexpired current (w.entry src) ≡ entry_in q src.0
  entries_so src =
      let same : unexpired w.current (w.entry src) ≡ unexpired w.current (kept_of records src.0) =
      world.entries src ∙ before records numbers p q h k src.0 ∙ ap (λ n. unexpired n (kept_of records src.0)) (sym world.current) in
      raised w.current current (w.entry src) (kept_of records src.0) (omega (arith, world.current)) same
      ∙ ap (λ n. unexpired n (kept_of records src.0)) current_is ∙ sym (now records numbers p q h k src.0)

  pub reserve : GoesBy (Reserve current mark ∷ []) w q published
  reserve = record {
    allowed = ((omega (arith, world.current), omega (arith, world.kept)), tt);
    world = record { current = current_is; kept = mark_is; mark = world.mark; entries = entries_so };
  }

pub publish : (w : World) (p : Persist) (published mark : ℕ) → IsWorldOf w p published → published ≤ mark → mark ≤ p.mark → GoesBy (Publish mark ∷ []) w p mark
publish w p published mark world up kept = record {
  allowed = ((omega (arith, world.mark), omega (arith, world.kept)), tt);
  world = record { current = world.current; kept = world.kept; mark = refl; entries = world.entries };
}

pub advance : (w : World) (p : Persist) (published iv : ℕ) → IsWorldOf w p published → iv * 2 ^ 25 ≤ published → GoesBy (Advance iv ∷ []) w p published
advance w p published iv world below = record {
  allowed = (omega (arith, world.mark), tt);
  world = record { current = world.current; kept = world.kept; mark = world.mark; entries = world.entries };
}

-- a test on the entry in the store is one on the entry in the world, up to expiry
above_entry : (current : ℕ) (o : Option Pair) (p : Pair) → IsAboveKept (unexpired current o) p → IfSome o (λ kept. IsExpired current kept ⊎ IsNewer p kept)
above_entry current None p = λ h. tt
above_entry current (Some kept) p = by_test (is_expired current kept) refl
  where
    by_test : (b : Bool) → is_expired current kept ≡ b → IsAboveKept (if b then None else Some kept) p → IsExpired current kept ⊎ IsNewer p kept
    by_test true e h = inl e
    by_test false e h = inr h

newer_is : (q p : Pair) → IsNewer p q → newer_of q p ≡ p
newer_is q p h = by_test (is_newer p q) h
  where
    by_test : (b : Bool) → IsTrue b → (if b then p else q) ≡ p
    by_test true t = refl
    by_test false t = absurd (true≢false (sym t))

-- a pair above the entry is the greatest one, up to expiry
greatest_is : (current : ℕ) (kept : Option Pair) (p : Pair) → IsAboveKept (unexpired current kept) p
    → unexpired current (greatest_with kept p) ≡ unexpired current (Some p)
greatest_is current None p = λ h. refl
greatest_is current (Some q) p = by_test (is_expired current q) refl
  where
    by_test : (b : Bool) → is_expired current q ≡ b → IsAboveKept (if b then None else Some q) p → unexpired current (Some (newer_of q p)) ≡ unexpired current (Some p)
    by_test true e h = noted current (Some q) None p (gone current q e)
    by_test false e h = ap (λ (x : Pair). unexpired current (Some x)) (newer_is q p h)

-- the entry of a source after one name more, which is above the entry of its own source
entry_after : (current : ℕ) (src a : ℕ) (p : Pair) (o kept : Option Pair) → unexpired current o ≡ unexpired current kept
    → (src ≡ a → IsAboveKept (unexpired current kept) p)
    → unexpired current (if a == src then Some p else o) ≡ unexpired current (if src == a then greatest_with kept p else kept)
entry_after current src a p o kept same above = by_tests (a == src) (src == a) (λ e. grind (arith, nat_tests)) (λ e. grind (arith, nat_tests)) (λ e. grind (arith, nat_tests))
  where
    by_tests : (b c : Bool) → (b ≡ true → c ≡ true) → (c ≡ true → b ≡ true) → (c ≡ true → src ≡ a)
        → unexpired current (if b then Some p else o) ≡ unexpired current (if c then greatest_with kept p else kept)
    by_tests true true f g h = sym (greatest_is current kept p (above (h refl)))
    by_tests false false f g h = same
    by_tests true false f g h = absurd (true≢false (sym (f refl)))
    by_tests false true f g h = absurd (true≢false (sym (g refl)))

module _ (w : World) (p q : Persist) (published : ℕ) (records : List StoreRecord) (name : Name) (world : IsWorldOf w p published) (h : IsMeaningOf records p) (k : IsMeaningOf (records ++ R.Replay name None ∷ []) q) (read : (name.pair.iv ≡ p.iv.current) ⊎ (name.pair.iv + 1 ≡ p.iv.current)) (above : IsAboveKept (entry_in p name.src.0) name.pair) where
  abbrev item : StoreRecord
  item = R.Replay name None

  config : config_in q ≡ config_in p
  unfolding changed
  config = config_after records item p q h k

  here : w.current ≡ q.iv.current
  here = world.current ∙ sym (ap (λ (c : Config). c.iv.current) config)

  is_read : IsRead w name.pair
  is_read = ⊎_elim (λ e. inl (e ∙ sym world.current)) (λ e. inr (e ∙ sym world.current)) read

  is_above : IsAboveEntry w name
  is_above = above_entry w.current (w.entry name.src) name.pair (subst (λ (e : Option Pair). IsAboveKept e name.pair) (sym (world.entries name.src)) above)

  kept_same : (a : ℕ) → entry_in p a ≡ unexpired w.current (kept_of records a)
  kept_same a = before records item p q h k a ∙ ap (λ n. unexpired n (kept_of records a)) (sym world.current)

  entry_is : (a : Address) → unexpired w.current (if a.0 == name.src.0 then Some name.pair else w.entry a) ≡ entry_in q a.0
  entry_is a =
      entry_after w.current name.src.0 a.0 name.pair (w.entry a) (kept_of records a.0) (world.entries a ∙ kept_same a.0)
      (λ e. subst (λ (o : Option Pair). IsAboveKept o name.pair) (ap (λ n. entry_in p n) e ∙ kept_same a.0) above)
      ∙ ap (λ n. unexpired n (kept_after a.0 (kept_of records a.0) item)) here ∙ sym (now records item p q h k a.0)

  pub accept : GoesBy (Accept name ∷ []) w q published
  accept = record {
    allowed = ((is_read, is_above), tt);
    world = record { current = here; kept = world.kept ∙ sym (ap (λ (c : Config). c.mark) config); mark = world.mark; entries = entry_is };
  }

-- the entries of all sources after one name more
live_pair : (current : ℕ) (p : Pair) → (p.iv ≡ current) ⊎ (p.iv + 1 ≡ current) → unexpired current (Some p) ≡ Some p
live_pair current p read = by_test (is_expired current p) refl
  where
    by_test : (b : Bool) → is_expired current p ≡ b → (if b then None else Some p) ≡ Some p
    by_test false e = refl
    by_test true e = absurd (⊎_elim (λ h. grind (arith, nat_tests)) (λ h. grind (arith, nat_tests)) read)

unexpired_if : (current : ℕ) (b : Bool) (x y : Option Pair) → unexpired current (if b then x else y) ≡ (if b then unexpired current x else unexpired current y)
unexpired_if current true x y = refl
unexpired_if current false x y = refl

pub entry_more : (p q : Persist) (records : List StoreRecord) (name : Name) → IsMeaningOf records p → IsMeaningOf (records ++ R.Replay name None ∷ []) q
    → (name.pair.iv ≡ p.iv.current) ⊎ (name.pair.iv + 1 ≡ p.iv.current) → IsAboveKept (entry_in p name.src.0) name.pair
    → (src : ℕ) → entry_in q src ≡ entry_with name (entry_in p) src
unfolding changed
entry_more p q records name h k read above src =
    let item : StoreRecord = R.Replay name None in
    let config : config_in q ≡ config_in p = config_after records item p q h k in
    let current : q.iv.current ≡ p.iv.current = ap (λ (c : Config). c.iv.current) config in
    let kept : Option Pair = kept_of records src in
    let cur : ℕ = p.iv.current in
    let here : entry_in q src ≡ unexpired cur (kept_after src kept item) =
    now records item p q h k src ∙ ap (λ n. unexpired n (kept_after src kept item)) current in
    let above_kept : name.src.0 ≡ src → IsAboveKept (unexpired cur kept) name.pair =
    λ e. subst (λ (o : Option Pair). IsAboveKept o name.pair) (ap (λ n. entry_in p n) e ∙ before records item p q h k src) above in
    here ∙ sym (entry_after cur name.src.0 src name.pair kept kept refl above_kept)
    ∙ unexpired_if cur (src == name.src.0) (Some name.pair) kept
    ∙ ap (λ (o : Option Pair). if src == name.src.0 then o else unexpired cur kept) (live_pair cur name.pair read)
    ∙ ap (λ (o : Option Pair). if src == name.src.0 then Some name.pair else o) (sym (before records item p q h k src))

-- the world of a node that was provisioned
pub provisioned_so : (made : node.Provisioning) (p : Persist) → IsMeaningOf (node.provisioned made) p → IsWorldOf (provisioned p.iv.current (transmit_of p.iv)) p p.mark
unfolding changed
provisioned_so made p h =
    let config : config_in p ≡ config_of (node.provisioned made) = h.config in
    let marked : transmit_of p.iv * 2 ^ 25 ≡ p.mark =
    ap (λ (c : Config). transmit_of c.iv * 2 ^ 25) config ∙ sym (ap (λ (c : Config). c.mark) config) in
    record { current = refl; kept = marked; mark = marked; entries = λ src. sym (h.entries src.0) }

pub cut : (w : World) (p : Persist) (published : ℕ) → IsWorldOf w p published → GoesBy (Cut p.mark ∷ []) w p p.mark
cut w p published world = record {
  allowed = (omega (arith, world.kept), tt);
  world = record { current = world.current; kept = refl; mark = refl; entries = world.entries };
}

expired_none : (current : ℕ) (o : Option Pair) → IsSomeAnd o (λ kept. IsExpired current kept) → unexpired current o ≡ None
expired_none current None h = refl
expired_none current (Some kept) h = gone current kept h

pub expire : (w : World) (p : Persist) (published : ℕ) (src : Address) → IsWorldOf w p published → IsAllowed w (Expire src) → IsWorldOf (after w (Expire src)) p published
expire w p published src world h = record {
  current = world.current;
  kept = world.kept;
  mark = world.mark;
  entries = λ a. by_test a (a.0 == src.0) (λ e. grind (arith, nat_tests));
}
  where
    by_test : (a : Address) (b : Bool) → (b ≡ true → a.0 ≡ src.0) → unexpired w.current (if b then None else w.entry a) ≡ entry_in p a.0
    by_test a false f = world.entries a
    by_test a true f = sym (sym (world.entries a) ∙ ap (λ (s : ℕ). unexpired w.current (w.entry (record { 0 = s }))) (f refl) ∙ expired_none w.current (w.entry src) h)

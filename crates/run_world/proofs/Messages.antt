-- The messages of a life as steps: each record in its place, and each accepted message delivered behind its records.
use Rattle.std.proofs.Common.{◌≡◌, ◌⊎◌, inl, inr, ℕ, zero, suc, ◌+◌, ◌≤◌, Bool, true, false, cond, eqb, List, [], ◌∷◌, ◌++◌, refl, ap, sym, subst, ◌∙◌, arith, append_assoc, append-nil, Option, Some, None, take}
use Rattle.std.specs.Prelude.{IfSome}
use Rattle.std.specs.List.{AllByRecursion, cons_option}
use Rattle.std.proofs.lemmas.Bool.Decides.{nat_tests}
use Rattle.event_definitions.proofs.Each.{every_append}
use Rattle.event_definitions.specs.Answers.{accepted, replayed}
use Rattle.event_definitions.specs.Handling.{AreHandled, Handles, past_of, records_after, records_left}
use Rattle.event_definitions.specs.History.{Past, Told}
use Rattle.event_definitions.specs.Role.{Role}
use Rattle.mesh_base.proofs.Every.{every_take}
use Rattle.mesh_base.proofs.Pairs.{expired_later}
use Rattle.mesh_base.specs.Pairs.{is_expired, is_newer, newer_of}
use Rattle.mesh_base.specs.declared.address.Address.{Address}
use Rattle.mesh_base.specs.declared.pair.Name.{Name}
use Rattle.mesh_base.specs.declared.pair.Pair.{Pair}
use Rattle.mesh_types.specs.declared.answers.Answer.TheVariants as A
use Rattle.mesh_world.specs.World.{AreAllowed, IsExpired, IsNewer, World, WorldStep, after, after_all}
use Rattle.mesh_world.specs.World.WorldStep.{Accept, Deliver, Reserve}
use Rattle.record_types.specs.declared.records.StoreRecord.{StoreRecord}
use Rattle.record_types.specs.declared.records.StoreRecord.TheVariants as R
use Rattle.report_definitions.specs.Record.{Life}
use Rattle.run_definitions.specs.Order.{Step}
use Rattle.run_definitions.specs.RunOf.{Outlasts, no_record, of_event, of_refill}
use Rattle.run_safety.proofs.Handled.{rise_take, rises_fill}
use Rattle.run_safety.proofs.Names.{InRange, entry_rise_all, first_in_range, names}
use Rattle.run_safety.specs.SafeRole.{Fresh, IsSafeRole, Marked, RiseAll, Rises}
use Rattle.run_world.proofs.Behind.{after_append, allowed_append}
use Rattle.run_world.proofs.Hears.{Hears, IsUnder, IsUnnamed, StoresName}
use Rattle.run_world.specs.Whole.{IsPowered}
use Rattle.store_definitions.proofs.Pushes.{config_push, kept_push}
use Rattle.store_definitions.specs.Config.{Config, changed, config_of}
use Rattle.store_definitions.specs.Entries.{entry_of, greatest_with, kept_after, kept_of, unexpired}
use Rattle.store_definitions.specs.Numbers.{fill_of, filled}

-- Entries, as far as they aren't expired.

gone : (c : ℕ) (p : Pair) → is_expired c p ≡ true → unexpired c (Some p) ≡ None
gone c p e = ap (λ b. cond b None (Some p)) e

still_one : (c d : ℕ) (x : Option Pair) → c ≤ d → unexpired d (unexpired c x) ≡ unexpired d x
still_one c d None h = refl
still_one c d (Some p) h = by_test (is_expired c p) refl
  where
    by_test : (b : Bool) → is_expired c p ≡ b → unexpired d (cond b None (Some p)) ≡ unexpired d (Some p)
    by_test true e = sym (gone d p (expired_later c d p h e))
    by_test false e = refl

-- what is the same under an IV Index is the same under a later one
still : (c d : ℕ) (x y : Option Pair) → c ≤ d → unexpired c x ≡ unexpired c y → unexpired d x ≡ unexpired d y
still c d x y h e = sym (still_one c d x h) ∙ ap (unexpired d) e ∙ still_one c d y h

newer_than : (q p : Pair) → replayed (Some q) p ≡ None → is_newer p q ≡ true
newer_than q p k = pick (is_newer p q) k
  where
    pick : (b : Bool) → cond b None (Some (A.Replay q)) ≡ None → b ≡ true
    pick true k = refl
    pick false k = absurd cc

newer_than_expired : (c : ℕ) (q p : Pair) → is_expired c q ≡ true → is_expired c p ≡ false → is_newer p q ≡ true
newer_than_expired c q p h k = grind (arith, nat_tests)

takes_newer : (q p : Pair) → is_newer p q ≡ true → newer_of q p ≡ p
takes_newer q p h = ap (λ b. cond b p q) h

-- a name that is no replay is the greatest of its source
greatest : (c : ℕ) (kept : Option Pair) (p : Pair) → is_expired c p ≡ false → replayed (unexpired c kept) p ≡ None → greatest_with kept p ≡ Some p
greatest c None p h k = refl
greatest c (Some q) p h k = by_test (is_expired c q) refl k
  where
    by_test : (b : Bool) → is_expired c q ≡ b → replayed (cond b None (Some q)) p ≡ None → Some (newer_of q p) ≡ Some p
    by_test true e r = ap (λ (x : Pair). Some x) (takes_newer q p (newer_than_expired c q p e h))
    by_test false e r = ap (λ (x : Pair). Some x) (takes_newer q p (newer_than q p r))

above : (c : ℕ) (entry : Option Pair) (p : Pair) → replayed (unexpired c entry) p ≡ None → IfSome entry (λ kept. IsExpired c kept ⊎ IsNewer p kept)
above c None p k = tt
above c (Some q) p k = by_test (is_expired c q) refl k
  where
    by_test : (b : Bool) → is_expired c q ≡ b → replayed (cond b None (Some q)) p ≡ None → IsExpired c q ⊎ IsNewer p q
    by_test true e r = inl e
    by_test false e r = inr (newer_than q p r)

-- What the world shows of the records.

pub record Ties (w : World) (records : List StoreRecord) : Type 0 where
  pub kept : w.kept ≡ (config_of records).mark
  pub current : w.current ≡ (config_of records).iv.current
  pub entry : (src : Address) → unexpired w.current (w.entry src) ≡ entry_of records src.0

-- one record more, by what it says
entry_push : (records : List StoreRecord) (item : StoreRecord) (src current : ℕ) → (changed (config_of records) item).iv.current ≡ current
    → (kept : Option Pair) → kept_after src (kept_of records src) item ≡ kept → unexpired current kept ≡ entry_of (records ++ item ∷ []) src
entry_push records item src current c kept k =
    ap (λ n. unexpired n kept) (sym c ∙ sym (ap (λ (x : Config). x.iv.current) (config_push records item)))
    ∙ ap (unexpired (config_of (records ++ item ∷ [])).iv.current) (sym (kept_push records item src ∙ k))

-- The numbers of a world stay.
pub record SameNumbers (w v : World) : Type 0 where
  pub next : v.next ≡ w.next
  pub mark : v.mark ≡ w.mark
  pub drawn : v.drawn ≡ w.drawn
  pub held : v.held ≡ w.held
  pub seals : v.seals ≡ w.seals

same_numbers : (w u v : World) → SameNumbers w u → SameNumbers u v → SameNumbers w v
same_numbers w u v h k = record {
  next = k.next ∙ h.next;
  mark = k.mark ∙ h.mark;
  drawn = k.drawn ∙ h.drawn;
  held = k.held ∙ h.held;
  seals = k.seals ∙ h.seals;
}

-- Records that name no message.

record Stores (w : World) (next : List StoreRecord) : Type 0 where
  steps : List WorldStep
  allowed : AreAllowed w steps
  on : AllByRecursion IsPowered steps
  same : SameNumbers w (after_all w steps)
  delivered : (after_all w steps).delivered ≡ w.delivered
  pending : (after_all w steps).pending ≡ w.pending
  ties : Ties (after_all w steps) next

nothing : (w : World) (records : List StoreRecord) → Ties w records → Stores w records
nothing w records t = record {
  steps = [];
  allowed = tt;
  on = tt;
  same = record { next = refl; mark = refl; drawn = refl; held = refl; seals = refl };
  delivered = refl;
  pending = refl;
  ties = t;
}

data Says (c : Config) : StoreRecord → Type 0 where
  numbers : {current mark hours since : ℕ} {progress : Bool} → c.iv.current ≤ current → c.mark ≤ mark → Says c (R.Numbers current progress mark hours since)
  others : {item : StoreRecord} → (changed c item).mark ≡ c.mark → (changed c item).iv.current ≡ c.iv.current
      → ((src : ℕ) (kept : Option Pair) → kept_after src kept item ≡ kept) → Says c item

says : (c : Config) (item : StoreRecord) → Rises c item → IsUnnamed item → Says c item
unfolding changed
says c (R.Identity unicast elements dev_key) h k = absurd h
says c (R.Numbers current progress mark hours since) h k = numbers h.0 h.1
says c (R.Replay first second) h k = absurd k
says c _ h k = others refl refl (λ src kept. refl)

store_one : (w : World) (records : List StoreRecord) (item : StoreRecord) → Ties w records → Says (config_of records) item → Stores w (records ++ item ∷ [])
unfolding changed
store_one w records _ t (numbers {current = current} {mark = mark} {hours = hours} {since = since} {progress = progress} up more) =
    let item : StoreRecord = R.Numbers current progress mark hours since in
    record {
      steps = Reserve current mark ∷ [];
      allowed = ((omega (arith, t.current, up), omega (arith, t.kept, more)), tt);
      on = (tt, tt);
      same = record { next = refl; mark = refl; drawn = refl; held = refl; seals = refl };
      delivered = refl;
      pending = refl;
      ties = record {
        kept = sym (ap (λ (x : Config). x.mark) (config_push records item));
        current = sym (ap (λ (x : Config). x.iv.current) (config_push records item));
        entry = λ src.
            still w.current current (w.entry src) (kept_of records src.0) (omega (arith, t.current, up))
            (t.entry src ∙ ap (λ n. unexpired n (kept_of records src.0)) (sym t.current))
            ∙ entry_push records item src.0 current refl (kept_of records src.0) refl;
      };
    }
store_one w records item t (others mark current kept) = record {
  steps = [];
  allowed = tt;
  on = tt;
  same = record { next = refl; mark = refl; drawn = refl; held = refl; seals = refl };
  delivered = refl;
  pending = refl;
  ties = record {
    kept = t.kept ∙ sym (ap (λ (x : Config). x.mark) (config_push records item) ∙ mark);
    current = t.current ∙ sym (ap (λ (x : Config). x.iv.current) (config_push records item) ∙ current);
    entry = λ src. t.entry src ∙ entry_push records item src.0 (config_of records).iv.current current (kept_of records src.0) (kept src.0 (kept_of records src.0));
  };
}

join : (w : World) (mid next : List StoreRecord) (a : Stores w mid) → Stores (after_all w a.steps) next → Stores w next
join w mid next a b =
    let at : after_all w (a.steps ++ b.steps) ≡ after_all (after_all w a.steps) b.steps = after_append a.steps b.steps w in
    record {
      steps = a.steps ++ b.steps;
      allowed = allowed_append a.steps b.steps w a.allowed b.allowed;
      on = every_append IsPowered a.steps b.steps a.on b.on;
      same = subst (SameNumbers w) (sym at) (same_numbers w (after_all w a.steps) _ a.same b.same);
      delivered = ap (λ (v : World). v.delivered) at ∙ b.delivered ∙ a.delivered;
      pending = ap (λ (v : World). v.pending) at ∙ b.pending ∙ a.pending;
      ties = subst (λ v. Ties v next) (sym at) b.ties;
    }

store_all : (items : List StoreRecord) (w : World) (records : List StoreRecord) → Ties w records → RiseAll (config_of records) items
    → AllByRecursion IsUnnamed items → Stores w (records ++ items)
store_all [] w records t h k = subst (Stores w) (sym (append-nil records)) (nothing w records t)
store_all (item ∷ items) w records t h k =
    let one : Stores w (records ++ item ∷ []) = store_one w records item t (says (config_of records) item h.0 k.0) in
    let later : RiseAll (config_of (records ++ item ∷ [])) items = rw config_push h.1 in
    subst (Stores w) (append_assoc records (item ∷ []) items)
    (join w (records ++ item ∷ []) ((records ++ item ∷ []) ++ items) one (store_all items (after_all w one.steps) (records ++ item ∷ []) one.ties later k.1))

-- Records with the messages that were accepted.

pub record Takes (w : World) (next : List StoreRecord) (heard : List Name) : Type 0 where
  pub steps : List WorldStep
  pub allowed : AreAllowed w steps
  pub on : AllByRecursion IsPowered steps
  pub same : SameNumbers w (after_all w steps)
  pub delivered : (after_all w steps).delivered ≡ w.delivered ++ heard
  pub ties : Ties (after_all w steps) next

quiet : (w : World) (next : List StoreRecord) → Stores w next → Takes w next []
quiet w next s = record {
  steps = s.steps;
  allowed = s.allowed;
  on = s.on;
  same = s.same;
  delivered = s.delivered ∙ sym (append-nil w.delivered);
  ties = s.ties;
}

pub then_take : (w : World) (mid next : List StoreRecord) (xs ys : List Name) (a : Takes w mid xs) → Takes (after_all w a.steps) next ys → Takes w next (xs ++ ys)
then_take w mid next xs ys a b =
    let at : after_all w (a.steps ++ b.steps) ≡ after_all (after_all w a.steps) b.steps = after_append a.steps b.steps w in
    record {
      steps = a.steps ++ b.steps;
      allowed = allowed_append a.steps b.steps w a.allowed b.allowed;
      on = every_append IsPowered a.steps b.steps a.on b.on;
      same = subst (SameNumbers w) (sym at) (same_numbers w (after_all w a.steps) _ a.same b.same);
      delivered = ap (λ (v : World). v.delivered) at ∙ b.delivered ∙ ap (λ l. l ++ ys) a.delivered ∙ append_assoc w.delivered xs ys;
      ties = subst (λ v. Ties v next) (sym at) b.ties;
    }

-- A message is accepted.
module _ (w : World) (records : List StoreRecord) (n : Name) (rest : List StoreRecord) (t : Ties w records)
    (read : is_expired (config_of records).iv.current n.pair ≡ false) (newer : replayed (entry_of records n.src.0) n.pair ≡ None)
    (under : IsUnder (config_of records).iv.current n) (rise : RiseAll (config_of records) (R.Replay n None ∷ rest)) (unnamed : AllByRecursion IsUnnamed rest) where
  abbrev accepts : World
  accepts = after w (Accept n)

  abbrev with_name : List StoreRecord
  with_name = records ++ R.Replay n None ∷ []

  entry_is : (src : Address) → unexpired w.current (accepts.entry src) ≡ unexpired (config_of records).iv.current (kept_after src.0 (kept_of records src.0) (R.Replay n None))
  entry_is src = by_test (eqb src.0 n.src.0) refl (eqb n.src.0 src.0) refl
    where
      by_test : (a : Bool) → eqb src.0 n.src.0 ≡ a → (b : Bool) → eqb n.src.0 src.0 ≡ b
          → unexpired w.current (cond a (Some n.pair) (w.entry src)) ≡ unexpired (config_of records).iv.current (cond b (greatest_with (kept_of records src.0) n.pair) (kept_of records src.0))
      by_test true e true f =
          let same : n.src.0 ≡ src.0 = grind (arith, nat_tests, f) in
          ap (λ c. unexpired c (Some n.pair)) t.current
          ∙ ap (unexpired (config_of records).iv.current)
          (sym (greatest (config_of records).iv.current (kept_of records src.0) n.pair read (subst (λ s. replayed (entry_of records s) n.pair ≡ None) same newer)))
      by_test false e false f = t.entry src
      by_test true e false f = absurd (grind (arith, nat_tests, e, f))
      by_test false e true f = absurd (grind (arith, nat_tests, e, f))

  unchanged : config_of with_name ≡ config_of records
  unfolding changed
  unchanged = config_push records (R.Replay n None)

  tied : Ties accepts with_name
  tied = record {
    kept = t.kept ∙ sym (ap (λ (x : Config). x.mark) unchanged);
    current = t.current ∙ sym (ap (λ (x : Config). x.iv.current) unchanged);
    entry = λ src. entry_is src
        ∙ entry_push records (R.Replay n None) src.0 (config_of records).iv.current (sym (ap (λ (x : Config). x.iv.current) (config_push records (R.Replay n None))) ∙ ap (λ (x : Config). x.iv.current) unchanged)
        (kept_after src.0 (kept_of records src.0) (R.Replay n None)) refl;
  }

  allowed_here : ((n.pair.iv ≡ w.current) ⊎ (n.pair.iv + 1 ≡ w.current)) × IfSome (w.entry n.src) (λ kept. IsExpired w.current kept ⊎ IsNewer n.pair kept)
  allowed_here = (
    subst (λ c. IsUnder c n) (sym t.current) under,
    above w.current (w.entry n.src) n.pair (subst (λ e. replayed e n.pair ≡ None) (sym (t.entry n.src)) newer),
  )

  behind : Stores accepts (records ++ R.Replay n None ∷ rest)
  behind =
      let later : RiseAll (config_of with_name) rest = rw config_push rise.1 in
      subst (Stores accepts) (append_assoc records (R.Replay n None ∷ []) rest) (store_all rest accepts with_name tied later unnamed)

  -- and lost in a cut
  pub accept_only : Takes w (records ++ R.Replay n None ∷ rest) []
  accept_only = record {
    steps = Accept n ∷ behind.steps;
    allowed = (allowed_here, behind.allowed);
    on = (tt, behind.on);
    same = record { next = behind.same.next; mark = behind.same.mark; drawn = behind.same.drawn; held = behind.same.held; seals = behind.same.seals };
    delivered = behind.delivered ∙ sym (append-nil w.delivered);
    ties = behind.ties;
  }

  -- or delivered
  pub accept : Takes w (records ++ R.Replay n None ∷ rest) (n ∷ [])
  accept =
      let v : World = after_all accepts behind.steps in
      let at : after_all accepts (behind.steps ++ Deliver n ∷ []) ≡ after v (Deliver n) = after_append behind.steps (Deliver n ∷ []) accepts in
      let same : SameNumbers w (after v (Deliver n)) =
      record { next = behind.same.next; mark = behind.same.mark; drawn = behind.same.drawn; held = behind.same.held; seals = behind.same.seals } in
      let ties : Ties (after v (Deliver n)) (records ++ R.Replay n None ∷ rest) =
      record { kept = behind.ties.kept; current = behind.ties.current; entry = behind.ties.entry } in
      record {
        steps = Accept n ∷ (behind.steps ++ Deliver n ∷ []);
        allowed = (allowed_here, allowed_append behind.steps (Deliver n ∷ []) accepts behind.allowed (behind.pending, tt));
        on = (tt, every_append IsPowered behind.steps (Deliver n ∷ []) behind.on (tt, tt));
        same = subst (SameNumbers w) (sym at) same;
        delivered = ap (λ (x : World). x.delivered) at ∙ ap (λ l. l ++ n ∷ []) behind.delivered;
        ties = subst (λ x. Ties x (records ++ R.Replay n None ∷ rest)) (sym at) ties;
      }

-- Refills.
pub fills_go : (n : ℕ) (w : World) (records : List StoreRecord) → Ties w records → Takes w (filled n records) []
fills_go zero w records t = quiet w records (nothing w records t)
fills_go (suc n) w records t =
    let item : StoreRecord = fill_of (config_of records) in
    let one : Takes w (records ++ item ∷ []) [] =
    quiet w (records ++ item ∷ []) (store_all (item ∷ []) w records t (rises_fill (config_of records), tt) (tt, tt)) in
    then_take w (records ++ item ∷ []) (filled (suc n) records) [] [] one (fills_go n (after_all w one.steps) (records ++ item ∷ []) one.ties)

-- Entries.

module _ (role : Role) (safe : IsSafeRole role) (hears : Hears role) where
  entry_goes : (before : List Told) (t : Told) → Handles role (past_of before t) t → InRange (records_after role (past_of before t) t)
      → (w : World) → Ties w t.records → Takes w (records_after role (past_of before t) t) (cons_option (accepted t.entry.answer) [])
  entry_goes before t h range w ties = by_answer (accepted t.entry.answer) refl
    where
      stored : List StoreRecord
      stored = role.stores (past_of before t) t.entry.event t.insight t.entry.answer

      rise : RiseAll (config_of t.records) stored
      rise = entry_rise_all role safe before t h range

      by_answer : (o : Option Name) → accepted t.entry.answer ≡ o → Takes w (t.records ++ stored) (cons_option o [])
      by_answer None e =
          quiet w (t.records ++ stored)
          (store_all stored w t.records ties rise
          (subst (λ a. AllByRecursion IsUnnamed (role.stores (past_of before t) t.entry.event t.insight a)) (sym h.answer)
          (hears.silent (past_of before t) t.entry.event t.insight h.sees (ap accepted (sym h.answer) ∙ e))))
      by_answer (Some n) e =
          let a : accepted (role.answer (past_of before t) t.entry.event t.insight) ≡ Some n = ap accepted (sym h.answer) ∙ e in
          let s : StoresName n stored =
          subst (λ x. StoresName n (role.stores (past_of before t) t.entry.event t.insight x)) (sym h.answer) (hears.named (past_of before t) t.entry.event t.insight n h.sees a) in
          let fresh : Fresh (past_of before t) n = safe.fresh (past_of before t) t.entry.event t.insight n h.sees a in
          subst (λ l. Takes w (t.records ++ l) (n ∷ [])) (sym s.is)
          (accept w t.records n s.rest ties fresh.read fresh.newer (hears.read (past_of before t) t.entry.event t.insight n h.sees a)
          (subst (RiseAll (config_of t.records)) s.is rise) s.unnamed)

  one_more : (o : Option Name) (l : List Name) → cons_option o [] ++ l ≡ cons_option o l
  one_more None l = refl
  one_more (Some n) l = refl

  pub entries_go : (records : List StoreRecord) (before ts : List Told) → AreHandled role records before ts → InRange (records_left role records before ts)
      → (w : World) → Ties w records → Takes w (records_left role records before ts) (names ts)
  entries_go records before [] h range w ties = quiet w records (nothing w records ties)
  entries_go records before (t ∷ ts) h range w ties =
      let here : InRange (records_after role (past_of before t) t) = first_in_range role records before t ts h range in
      let fills : Takes w t.records [] = subst (λ l. Takes w l []) (sym h.0) (fills_go t.entry.fills w records ties) in
      let one : Takes (after_all w fills.steps) (records_after role (past_of before t) t) (cons_option (accepted t.entry.answer) []) =
      entry_goes before t h.1 here (after_all w fills.steps) fills.ties in
      let both : Takes w (records_after role (past_of before t) t) (cons_option (accepted t.entry.answer) []) =
      then_take w t.records (records_after role (past_of before t) t) [] (cons_option (accepted t.entry.answer) []) fills one in
      subst (Takes w (records_left role records before (t ∷ ts))) (one_more (accepted t.entry.answer) (names ts))
      (then_take w (records_after role (past_of before t) t) (records_left role records before (t ∷ ts)) (cons_option (accepted t.entry.answer) []) (names ts) both
      (entries_go (records_after role (past_of before t) t) (before ++ t ∷ []) ts h.2 range (after_all w both.steps) both.ties))

  -- What outlasts a cut: perhaps a message more, accepted and lost.
  pub outlasting_goes : (plan : List Step) (l : Life) (past : Past) (more : List StoreRecord) → Outlasts role plan l past more → Marked (config_of past.records)
      → (w : World) → Ties w past.records → Takes w (past.records ++ more) []
  outlasting_goes plan l past _ no_record m w ties = quiet w (past.records ++ []) (store_all [] w past.records ties tt tt)
  outlasting_goes plan l past _ (of_refill on cut) m w ties =
      quiet w (past.records ++ fill_of (config_of past.records) ∷ [])
      (store_all (fill_of (config_of past.records) ∷ []) w past.records ties (rises_fill (config_of past.records), tt) (tt, tt))
  outlasting_goes plan l past _ (of_event k n event insight on cut next sees) m w ties = by_answer (accepted (role.answer past event insight)) refl
    where
      stored : List StoreRecord
      stored = role.stores past event insight (role.answer past event insight)

      rise : RiseAll (config_of past.records) (take n stored)
      rise = rise_take n (config_of past.records) stored (safe.rises past event insight m)

      by_count : (count : ℕ) (name : Name) (rest : List StoreRecord) → accepted (role.answer past event insight) ≡ Some name
          → RiseAll (config_of past.records) (take count (R.Replay name None ∷ rest)) → AllByRecursion IsUnnamed rest
          → Takes w (past.records ++ take count (R.Replay name None ∷ rest)) []
      by_count zero name rest a r u = quiet w (past.records ++ []) (store_all [] w past.records ties tt tt)
      by_count (suc count) name rest a r u =
          let fresh : Fresh past name = safe.fresh past event insight name sees a in
          accept_only w past.records name (take count rest) ties fresh.read fresh.newer (hears.read past event insight name sees a) r (every_take IsUnnamed count rest u)

      by_answer : (o : Option Name) → accepted (role.answer past event insight) ≡ o → Takes w (past.records ++ take n stored) []
      by_answer None e =
          quiet w (past.records ++ take n stored) (store_all (take n stored) w past.records ties rise (every_take IsUnnamed n stored (hears.silent past event insight sees e)))
      by_answer (Some name) e =
          let s : StoresName name stored = hears.named past event insight name sees e in
          subst (λ l. Takes w (past.records ++ take n l) []) (sym s.is)
          (by_count n name s.rest e (subst (λ l. RiseAll (config_of past.records) (take n l)) s.is rise) s.unnamed)

-- No name is accepted twice.
use Rattle.std.proofs.Common.{◌≡◌, ◌≢◌, ℕ, zero, suc, Bool, true, false, cond, List, [], ◌∷◌, ◌++◌, refl, ap, sym, subst, ◌∙◌, append_assoc, append-nil, Option, Some, None}
use Rattle.std.specs.List.{AllByRecursion, cons_option, filter_map}
use Rattle.mesh_base.specs.declared.pair.Name.{Name}
use Rattle.mesh_base.specs.declared.pair.Pair.{Pair}
use Rattle.record_types.specs.declared.records.StoreRecord.{StoreRecord}
use Rattle.record_types.specs.declared.records.StoreRecord.TheVariants as R
use Rattle.mesh_types.specs.declared.answers.Answer.TheVariants as A
use Rattle.event_definitions.specs.Answers.{accepted, replayed}
use Rattle.store_definitions.specs.Config.{config_of}
use Rattle.store_definitions.specs.Entries.{kept_of}
use Rattle.event_definitions.specs.Handling.{AreHandled, Handles, past_of, records_after, records_left}
use Rattle.event_definitions.specs.History.{Past, Told}
use Rattle.event_definitions.specs.Role.{Role}
use Rattle.mesh_base.specs.Pairs.{is_expired, is_newer}
use Rattle.run_safety.specs.Rules.{HasFitNumbers}
use Rattle.run_safety.specs.SafeRole.{Fresh, IsSafeRole, RiseAll}
use Rattle.store_definitions.specs.Numbers.{filled, fill_of}
use Rattle.run_safety.proofs.Handled.{marked, rise_all, rise_filled}
use Rattle.run_safety.proofs.Lists.{Apart, apart_push}
use Rattle.event_definitions.proofs.Each.{every_append, every_front, every_map}
use Rattle.store_definitions.proofs.Pushes.{config_push}
use Rattle.run_safety.proofs.Rising.{Blocked, by_expiry, by_kept, IsBlocked, Rise, same, blocked_by_replay, blocked_entry, blocked_rise, rise_after}

-- Records grow at their end.

pub filled_is : (n : ℕ) (records : List StoreRecord) → (rest : List StoreRecord) × (filled n records ≡ records ++ rest)
filled_is zero records = ([], sym (append-nil records))
filled_is (suc n) records =
    let (rest, e) = filled_is n (records ++ fill_of (config_of records) ∷ []) in
    (fill_of (config_of records) ∷ rest, e ∙ append_assoc records (fill_of (config_of records) ∷ []) rest)

joined : (r fills t stored rest l : List StoreRecord) → l ≡ (t ++ stored) ++ rest → t ≡ r ++ fills → l ≡ r ++ (fills ++ (stored ++ rest))
joined r fills t stored rest l e g = rw (e, g, append_assoc r fills stored, append_assoc r (fills ++ stored) rest, append_assoc fills stored rest) refl

pub left_is : (role : Role) (records : List StoreRecord) (before ts : List Told) → AreHandled role records before ts
    → (rest : List StoreRecord) × (records_left role records before ts ≡ records ++ rest)
left_is role records before [] h = ([], sym (append-nil records))
left_is role records before (t ∷ ts) h =
    let (fills, e) = filled_is t.entry.fills records in
    let (rest, f) = left_is role (records_after role (past_of before t) t) (before ++ t ∷ []) ts h.2 in
    let stored : List StoreRecord = role.stores (past_of before t) t.entry.event t.insight t.entry.answer in
    (fills ++ (stored ++ rest), joined records fills t.records stored rest _ f (h.0 ∙ e))

-- A blocked name is no fresh one.

not_fresh : (n : Name) (c : ℕ) (entry : Option Pair) → Blocked n c entry → is_expired c n.pair ≡ false → replayed entry n.pair ≡ None → ⊥
not_fresh n c entry (by_expiry e) h k = cc
not_fresh n c (Some p) (by_kept e) h k = not_replayed n p (is_newer n.pair p) e k
  where
    not_replayed : (n : Name) (p : Pair) (b : Bool) → b ≡ false → cond b None (Some (A.Replay p)) ≡ None → ⊥
    not_replayed n p true e k = cc
    not_replayed n p false e k = cc

pub blocked_not_fresh : (past : Past) (n : Name) → IsBlocked n past.records → Fresh past n → ⊥
blocked_not_fresh past n b f = not_fresh n _ _ (blocked_entry n _ (kept_of past.records n.src.0) b) f.read f.newer

-- The records of a list of entries rise, if the numbers of all of them are fit: in range.

abbrev pub InRange : List StoreRecord → Type 0
InRange records = AllByRecursion HasFitNumbers records

-- the records before the first of some entries, and those that it leaves, are in range if those that all of them
-- leave are
pub first_in_range : (role : Role) (records : List StoreRecord) (before : List Told) (t : Told) (ts : List Told)
    → AreHandled role records before (t ∷ ts) → InRange (records_left role records before (t ∷ ts)) → InRange (records_after role (past_of before t) t)
first_in_range role records before t ts h r =
    let (rest, e) = left_is role (records_after role (past_of before t) t) (before ++ t ∷ []) ts h.2 in
    every_front HasFitNumbers (records_after role (past_of before t) t) rest (subst InRange e r)

pub before_in_range : (role : Role) (before : List Told) (t : Told) → InRange (records_after role (past_of before t) t) → InRange t.records
before_in_range role before t r = every_front HasFitNumbers t.records _ r

pub entry_rise_all : (role : Role) → IsSafeRole role → (before : List Told) (t : Told)
    → Handles role (past_of before t) t → InRange (records_after role (past_of before t) t)
    → RiseAll (config_of t.records) (role.stores (past_of before t) t.entry.event t.insight t.entry.answer)
entry_rise_all role safe before t h r =
    subst (λ a. RiseAll (config_of t.records) (role.stores (past_of before t) t.entry.event t.insight a)) (sym h.answer)
    (safe.rises (past_of before t) t.entry.event t.insight (marked t.records (before_in_range role before t r)))

pub entry_rises : (role : Role) → IsSafeRole role → (before : List Told) (t : Told)
    → Handles role (past_of before t) t → InRange (records_after role (past_of before t) t) → Rise t.records (records_after role (past_of before t) t)
entry_rises role safe before t h r = rise_all _ t.records (entry_rise_all role safe before t h r)

pub handled_rise : (role : Role) → IsSafeRole role → (records : List StoreRecord) (before ts : List Told)
    → AreHandled role records before ts → InRange (records_left role records before ts) → Rise records (records_left role records before ts)
handled_rise role safe records before [] h r = same
handled_rise role safe records before (t ∷ ts) h r =
    let here : InRange (records_after role (past_of before t) t) = first_in_range role records before t ts h r in
    let fills : Rise records t.records = subst (λ l. Rise records l) (sym h.0) (rise_filled t.entry.fills records) in
    rise_after (handled_rise role safe (records_after role (past_of before t) t) (before ++ t ∷ []) ts h.2 r)
    (rise_after (entry_rises role safe before t h.1 here) fills)

-- The names accepted in a list of entries are none of the names before, which stay blocked, and they are apart.

abbrev pub names : List Told → List Name
names ts = filter_map (λ t. accepted t.entry.answer) ts

abbrev pub Differ : List Name → Type 0
Differ ns = Apart (λ m n. m ≢ n) ns

abbrev pub AllBlocked : List Name → List StoreRecord → Type 0
AllBlocked ns records = AllByRecursion (λ n. IsBlocked n records) ns

pub blocked_all : {l m : List StoreRecord} (ns : List Name) → Rise l m → AllBlocked ns l → AllBlocked ns m
blocked_all {l} {m} ns rise b = every_map (λ n. IsBlocked n l) (λ n. IsBlocked n m) (λ n h. blocked_rise n rise h) ns b

-- with an accepted name more
differ_push : (ns : List Name) (past : Past) (n : Name) → Differ ns → AllBlocked ns past.records → Fresh past n → Differ (ns ++ n ∷ [])
differ_push ns past n d b f =
    apart_push (λ m k. m ≢ k) ns n d
    (every_map (λ m. IsBlocked m past.records) (λ m. m ≢ n) (λ m h e. blocked_not_fresh past n (subst (λ k. IsBlocked k past.records) e h) f) ns b)

pub record Once (ns : List Name) (records : List StoreRecord) : Type 0 where
  pub differ : Differ ns
  pub blocked : AllBlocked ns records

-- so the name is blocked by what is stored
blocked_stored : (records stored : List StoreRecord) (n : Name) (rest : List StoreRecord) → stored ≡ R.Replay n None ∷ rest → RiseAll (config_of records) stored
    → IsBlocked n (records ++ stored)
blocked_stored records stored n rest e r =
    let rises : RiseAll (config_of records) (R.Replay n None ∷ rest) = subst (RiseAll (config_of records)) e r in
    let later : RiseAll (config_of (records ++ R.Replay n None ∷ [])) rest = rw config_push rises.1 in
    let b : IsBlocked n ((records ++ R.Replay n None ∷ []) ++ rest) =
    blocked_rise n (rise_all rest (records ++ R.Replay n None ∷ []) later) (blocked_by_replay n records) in
    subst (IsBlocked n) (append_assoc records (R.Replay n None ∷ []) rest ∙ ap (λ l. records ++ l) (sym e)) b

-- with an entry more
once_named : (role : Role) (past : Past) (stored : List StoreRecord) (ns : List Name) (o : Option Name)
    → RiseAll (config_of past.records) stored
    → ((n : Name) → o ≡ Some n → Fresh past n)
    → ((n : Name) → o ≡ Some n → (rest : List StoreRecord) × (stored ≡ R.Replay n None ∷ rest))
    → Once ns past.records → Once (ns ++ cons_option o []) (past.records ++ stored)
once_named role past stored ns None rise f g o =
    rw append-nil (record { differ = o.differ; blocked = blocked_all ns (rise_all stored past.records rise) o.blocked })
once_named role past stored ns (Some n) rise f g o = record {
  differ = differ_push ns past n o.differ o.blocked (f n refl);
  blocked =
      every_append _ ns (n ∷ []) (blocked_all ns (rise_all stored past.records rise) o.blocked)
      (blocked_stored past.records stored n (g n refl).0 (g n refl).1 rise, tt);
}

once_entry : (role : Role) → IsSafeRole role → (before : List Told) (t : Told) (ns : List Name)
    → Handles role (past_of before t) t → InRange (records_after role (past_of before t) t)
    → Once ns t.records → Once (ns ++ names (t ∷ [])) (records_after role (past_of before t) t)
once_entry role safe before t ns h r o =
    once_named role (past_of before t) _ ns (accepted t.entry.answer) (entry_rise_all role safe before t h r)
    (λ n a. safe.fresh (past_of before t) t.entry.event t.insight n h.sees (ap accepted (sym h.answer) ∙ a))
    (λ n a. subst (λ b. (rest : List StoreRecord) × (role.stores (past_of before t) t.entry.event t.insight b ≡ R.Replay n None ∷ rest)) (sym h.answer)
    (safe.replay (past_of before t) t.entry.event t.insight n h.sees (ap accepted (sym h.answer) ∙ a)))
    o

-- over a list of entries
pub once_handled : (role : Role) → IsSafeRole role → (records : List StoreRecord) (before ts : List Told) (ns : List Name)
    → AreHandled role records before ts → InRange (records_left role records before ts)
    → Once ns records → Once (ns ++ names ts) (records_left role records before ts)
once_handled role safe records before [] ns h r o = rw append-nil o
once_handled role safe records before (t ∷ ts) ns h r o =
    let here : InRange (records_after role (past_of before t) t) = first_in_range role records before t ts h r in
    let filled_once : Once ns t.records =
    record { differ = o.differ; blocked = blocked_all ns (subst (λ l. Rise records l) (sym h.0) (rise_filled t.entry.fills records)) o.blocked } in
    let one : Once (ns ++ names (t ∷ [])) (records_after role (past_of before t) t) = once_entry role safe before t ns h.1 here filled_once in
    let all : Once ((ns ++ names (t ∷ [])) ++ names ts) (records_left role records before (t ∷ ts)) =
    once_handled role safe (records_after role (past_of before t) t) (before ++ t ∷ []) ts (ns ++ names (t ∷ [])) h.2 r one in
    subst (λ k. Once k (records_left role records before (t ∷ ts))) (more_names ns t ts) all
  where
    more_names : (ns : List Name) (t : Told) (ts : List Told) → (ns ++ names (t ∷ [])) ++ names ts ≡ ns ++ names (t ∷ ts)
    more_names ns t ts = append_assoc ns (names (t ∷ [])) (names ts) ∙ ap (λ l. ns ++ l) (one_more (accepted t.entry.answer) (names ts))
      where
        one_more : (o : Option Name) (l : List Name) → cons_option o [] ++ l ≡ cons_option o l
        one_more None l = refl
        one_more (Some n) l = refl

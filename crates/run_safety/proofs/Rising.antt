-- Records that only rise: none lowers the known IV Index or the mark, and none is an identity.
use Rattle.std.proofs.Common.{eq-eqb, eqb, ◌≡◌, ℕ, ◌≤◌, Bool, true, false, cond, List, [], ◌∷◌, ◌++◌, refl, ap, ◌∙◌, arith, Option, Some, None}
use Rattle.std.specs.List.{fold}
use Rattle.mesh_base.specs.declared.pair.Name.{Name}
use Rattle.mesh_base.specs.declared.pair.Pair.{Pair}
use Rattle.record_types.specs.declared.records.StoreRecord.{StoreRecord}
use Rattle.record_types.specs.declared.records.StoreRecord.TheVariants as R
use Rattle.store_definitions.proofs.Pushes.{config_push, kept_push}
use Rattle.store_definitions.specs.Config.{Config, changed, config_of}
use Rattle.store_definitions.specs.Entries.{greatest_with, kept_after, kept_of, kept_with, names_in, unexpired}
use Rattle.mesh_base.specs.Pairs.{is_expired, is_newer}
use Rattle.run_safety.specs.SafeRole.{Rises}
use Rattle.mesh_base.proofs.Pairs.{expired_below, expired_later, not_newer_left, not_newer_right, not_newer_itself}

-- the second list is the first with records that rise behind it
pub data Rise : List StoreRecord → List StoreRecord → Type 0 where
  same : {l : List StoreRecord} → Rise l l
  more : {l : List StoreRecord} (m : List StoreRecord) (r : StoreRecord) → Rise l m → Rises (config_of m) r → Rise l (m ++ r ∷ [])

pub rise_after : {l m n : List StoreRecord} → Rise m n → Rise l m → Rise l n
rise_after same h = h
rise_after (more m r k j) h = more m r (rise_after k h) j

-- What it says of the node that matters for safety.
pub record Later (c d : Config) : Type 0 where
  pub unicast : d.unicast ≡ c.unicast
  pub elements : d.elements ≡ c.elements
  pub current : c.iv.current ≤ d.iv.current
  pub mark : c.mark ≤ d.mark

pub later_same : (c : Config) → Later c c
later_same c = record { unicast = refl; elements = refl; current = omega arith; mark = omega arith }

pub later_after : (c d e : Config) → Later c d → Later d e → Later c e
later_after c d e h k = record {
  unicast = k.unicast ∙ h.unicast;
  elements = k.elements ∙ h.elements;
  current = omega (arith, h.current, k.current);
  mark = omega (arith, h.mark, k.mark);
}

pub later_kept : (c d : Config) → d.unicast ≡ c.unicast → d.elements ≡ c.elements → d.iv ≡ c.iv → d.mark ≡ c.mark → Later c d
later_kept c d u e i m = record {
  unicast = u;
  elements = e;
  current = omega (arith, ap (λ s. s.current) i);
  mark = omega (arith, m);
}

later_changed : (c : Config) (r : StoreRecord) → Rises c r → Later c (changed c r)
unfolding changed
later_changed c (R.Identity unicast elements dev_key) h = absurd h
later_changed c (R.Numbers current progress mark hours since) h = record { unicast = refl; elements = refl; current = h.0; mark = h.1 }
later_changed c (R.Hour hours since) h = record { unicast = refl; elements = refl; current = omega arith; mark = omega arith }
later_changed c (R.Replay first second) h = later_same c
later_changed c _ h = record { unicast = refl; elements = refl; current = omega arith; mark = omega arith }

pub rise_later : {l m : List StoreRecord} → Rise l m → Later (config_of l) (config_of m)
rise_later {l} same = later_same (config_of l)
rise_later {l} (more m r k h) =
    rw config_push (later_after (config_of l) (config_of m) (changed (config_of m) r) (rise_later k) (later_changed (config_of m) r h))

-- A name that isn't accepted any more: it is expired, or not newer than what the Replay records of its source have.

pub data Blocked (n : Name) (current : ℕ) : Option Pair → Type 0 where
  by_expiry : {kept : Option Pair} → is_expired current n.pair ≡ true → Blocked n current kept
  by_kept : {p : Pair} → is_newer n.pair p ≡ false → Blocked n current (Some p)

abbrev pub IsBlocked : Name → List StoreRecord → Type 0
IsBlocked n records = Blocked n (config_of records).iv.current (kept_of records n.src.0)

blocked_later : (n : Name) (c d : ℕ) (kept : Option Pair) → c ≤ d → Blocked n c kept → Blocked n d kept
blocked_later n c d kept h (by_expiry e) = by_expiry (expired_later c d n.pair h e)
blocked_later n c d (Some p) h (by_kept e) = by_kept e

blocked_with : (n : Name) (c : ℕ) (kept : Option Pair) (q : Pair) → Blocked n c kept → Blocked n c (greatest_with kept q)
blocked_with n c kept q (by_expiry e) = by_expiry e
blocked_with n c (Some p) q (by_kept e) = by_kept (not_newer_left n.pair p q e)

blocked_pick : (n : Name) (c : ℕ) (b : Bool) (p q : Option Pair) → Blocked n c p → Blocked n c q → Blocked n c (cond b p q)
blocked_pick n c true p q h k = h
blocked_pick n c false p q h k = k

-- names one after another
blocked_names : (n : Name) (c : ℕ) (kept : Option Pair) (names : List Name) → Blocked n c kept → Blocked n c (fold (kept_with n.src.0) kept names)
blocked_names n c kept [] h = h
blocked_names n c kept (name ∷ names) h =
    blocked_names n c (kept_with n.src.0 kept name) names (blocked_pick n c (eqb name.src.0 n.src.0) _ _ (blocked_with n c kept name.pair h) h)

blocked_after : (n : Name) (c : ℕ) (kept : Option Pair) (r : StoreRecord) → Blocked n c kept → Blocked n c (kept_after n.src.0 kept r)
blocked_after n c kept (R.Replay first second) h = blocked_names n c kept (names_in (R.Replay first second)) h
blocked_after n c kept _ h = h

pub blocked_rise : (n : Name) {l m : List StoreRecord} → Rise l m → IsBlocked n l → IsBlocked n m
blocked_rise n same b = b
blocked_rise n (more m r k h) b =
    rw (config_push, kept_push)
    (blocked_later n _ _ _ (later_changed (config_of m) r h).current
    (blocked_after n (config_of m).iv.current (kept_of m n.src.0) r (blocked_rise n k b)))

blocked_by_itself : (n : Name) (c : ℕ) (kept : Option Pair) → Blocked n c (greatest_with kept n.pair)
blocked_by_itself n c None = by_kept (not_newer_itself n.pair)
blocked_by_itself n c (Some q) = by_kept (not_newer_right q n.pair)

-- an accepted name is blocked once its Replay record stands
pub blocked_by_replay : (n : Name) (records : List StoreRecord) → IsBlocked n (records ++ R.Replay n None ∷ [])
blocked_by_replay n records = rw (kept_push, eq-eqb n.src.0 n.src.0 refl) (blocked_by_itself n _ (kept_of records n.src.0))

blocked_unless : (n : Name) (c : ℕ) (p : Pair) → is_newer n.pair p ≡ false → (b : Bool) → is_expired c p ≡ b → Blocked n c (cond b None (Some p))
blocked_unless n c p h true e = by_expiry (expired_below c n.pair p h e)
blocked_unless n c p h false e = by_kept h

blocked_still : (n : Name) (c : ℕ) (p : Pair) (b : Bool) → Blocked n c (cond b None (Some p)) → Blocked n c (Some p)
blocked_still n c p true (by_expiry e) = by_expiry e
blocked_still n c p false h = h

-- It depends on the entry alone, as what is expired is no newer than what is expired.
pub blocked_entry : (n : Name) (c : ℕ) (kept : Option Pair) → Blocked n c kept → Blocked n c (unexpired c kept)
blocked_entry n c kept (by_expiry e) = by_expiry e
blocked_entry n c (Some p) (by_kept e) = blocked_unless n c p e (is_expired c p) refl

pub entry_blocked : (n : Name) (c : ℕ) (kept : Option Pair) → Blocked n c (unexpired c kept) → Blocked n c kept
entry_blocked n c None h = h
entry_blocked n c (Some p) h = blocked_still n c p (is_expired c p) h

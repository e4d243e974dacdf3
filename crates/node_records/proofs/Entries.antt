-- What expires stays expired, and what is noted under an expired entry counts alone.
use Rattle.std.proofs.Common.{◌≡◌, ◌⊎◌, inl, inr, ℕ, ◌≤◌, Bool, true, false, refl, ap, ◌∙◌, sym, arith}
use Rattle.std.specs.Prelude.{◌==◌, ◌&&◌, ◌||◌, not, if◌then◌else◌, List, [], ◌∷◌, Option, Some, None, is_some, fold}
use Rattle.std.proofs.lemmas.Bool.Decides.{nat_tests}
use Rattle.mesh_base.specs.declared.pair.Name.{Name}
use Rattle.mesh_base.specs.declared.pair.Pair.{Pair}
use Rattle.record_types.specs.declared.records.StoreRecord.{StoreRecord}
use Rattle.mesh_base.specs.Pairs.{is_expired, newer_of}
use Rattle.store_definitions.specs.Entries.{greatest_with, kept_with, kept_after, names_in, unexpired}

none_test : (b : Bool) (p : Pair) → (if b then None else Some p) ≡ None → b ≡ true
none_test true p e = refl
none_test false p e = cc

both_tests : (b c : Bool) (p q : Pair) → (if b then None else Some p) ≡ (if c then None else Some q) → ((b ≡ true) × (c ≡ true)) ⊎ (p ≡ q)
both_tests true true p q e = inl (refl, refl)
both_tests true false p q e = cc
both_tests false true p q e = cc
both_tests false false p q e = inr (cc)

gone_by : (b : Bool) (p : Pair) → b ≡ true → (if b then None else Some p) ≡ None
gone_by true p e = refl
gone_by false p e = cc

pub gone : (current : ℕ) (p : Pair) → is_expired current p ≡ true → unexpired current (Some p) ≡ None
gone current p h = gone_by (is_expired current p) p h

pub dead : (current : ℕ) (p : Pair) → unexpired current (Some p) ≡ None → is_expired current p ≡ true
dead current p h = none_test (is_expired current p) p h

later : (lower current : ℕ) (p : Pair) → lower ≤ current → is_expired lower p ≡ true → is_expired current p ≡ true
later lower current p le h = grind (arith, nat_tests)

-- an entry that is the same under one known IV Index is the same under a higher one
pub raised : (lower current : ℕ) (a b : Option Pair) → lower ≤ current → unexpired lower a ≡ unexpired lower b → unexpired current a ≡ unexpired current b
raised lower current None None le e = refl
raised lower current None (Some q) le e = sym (gone current q (later lower current q le (dead lower q (sym e))))
raised lower current (Some p) None le e = gone current p (later lower current p le (dead lower p e))
raised lower current (Some p) (Some q) le e =
    elim (both_tests (is_expired lower p) (is_expired lower q) p q e) [
      | inl h ↦ gone current p (later lower current p le h.0) ∙ sym (gone current q (later lower current q le h.1))
      | inr h ↦ ap (λ x. unexpired current (Some x)) h
    ]

newer_live : (current : ℕ) (q p : Pair) → is_expired current q ≡ true → is_expired current p ≡ false → newer_of q p ≡ p
newer_live current q p h k = grind (arith, nat_tests)

newer_gone : (current : ℕ) (q p : Pair) → is_expired current q ≡ true → is_expired current p ≡ true → is_expired current (newer_of q p) ≡ true
newer_gone current q p h k = grind (arith, nat_tests)

-- above an expired pair a pair counts as if it stood alone
above_expired : (current : ℕ) (q p : Pair) → is_expired current q ≡ true → unexpired current (Some (newer_of q p)) ≡ unexpired current (Some p)
above_expired current q p h = by_test (is_expired current p) refl
  where
    by_test : (b : Bool) → is_expired current p ≡ b → unexpired current (Some (newer_of q p)) ≡ unexpired current (Some p)
    by_test true e = gone current (newer_of q p) (newer_gone current q p h e) ∙ sym (gone current p e)
    by_test false e = ap (λ x. unexpired current (Some x)) (newer_live current q p h e)

-- noting a pair in entries that are the same leaves them the same
pub noted : (current : ℕ) (a b : Option Pair) (p : Pair) → unexpired current a ≡ unexpired current b
    → unexpired current (greatest_with a p) ≡ unexpired current (greatest_with b p)
noted current None None p e = refl
noted current None (Some q) p e = sym (above_expired current q p (dead current q (sym e)))
noted current (Some q) None p e = above_expired current q p (dead current q e)
noted current (Some r) (Some q) p e =
    elim (both_tests (is_expired current r) (is_expired current q) r q e) [
      | inl h ↦ above_expired current r p h.0 ∙ sym (above_expired current q p h.1)
      | inr h ↦ ap (λ x. unexpired current (Some (newer_of x p))) h
    ]

note_by : (b : Bool) (current : ℕ) (x y u v : Option Pair) → unexpired current x ≡ unexpired current y → unexpired current u ≡ unexpired current v
    → unexpired current (if b then x else u) ≡ unexpired current (if b then y else v)
note_by true current x y u v e f = e
note_by false current x y u v e f = f

-- a name leaves entries that are the same the same
pub name_more : (current src : ℕ) (a b : Option Pair) (name : Name) → unexpired current a ≡ unexpired current b
    → unexpired current (kept_with src a name) ≡ unexpired current (kept_with src b name)
name_more current src a b name e = note_by (name.src.0 == src) current _ _ _ _ (noted current a b name.pair e) e

names_more : (current src : ℕ) (a b : Option Pair) (names : List Name) → unexpired current a ≡ unexpired current b
    → unexpired current (fold (kept_with src) a names) ≡ unexpired current (fold (kept_with src) b names)
names_more current src a b [] e = e
names_more current src a b (name ∷ names) e = names_more current src (kept_with src a name) (kept_with src b name) names (name_more current src a b name e)

-- and so does a record
pub kept_more : (current src : ℕ) (a b : Option Pair) (item : StoreRecord) → unexpired current a ≡ unexpired current b
    → unexpired current (kept_after src a item) ≡ unexpired current (kept_after src b item)
kept_more current src a b item e = names_more current src a b (names_in item) e

newer_stays : (current : ℕ) (q p : Pair) → is_expired current q ≡ false → is_expired current (newer_of q p) ≡ false
newer_stays current q p h = grind (arith, nat_tests)

lives : (current : ℕ) (p : Pair) → is_some (unexpired current (Some p)) ≡ not (is_expired current p)
lives current p = by_test (is_expired current p)
  where
    by_test : (b : Bool) → is_some (if b then None else Some p) ≡ not b
    by_test true = refl
    by_test false = refl

-- a source has an entry after a pair of it where it had one, or this pair isn't expired
pub some_greatest : (current : ℕ) (kept : Option Pair) (p : Pair) → is_some (unexpired current (greatest_with kept p)) ≡ is_some (unexpired current kept) || not (is_expired current p)
some_greatest current None p = lives current p
some_greatest current (Some q) p = by_test (is_expired current q) refl
  where
    by_test : (b : Bool) → is_expired current q ≡ b → is_some (unexpired current (Some (newer_of q p))) ≡ is_some (unexpired current (Some q)) || not (is_expired current p)
    by_test true e = ap (λ (o : Option Pair). is_some o) (above_expired current q p e) ∙ lives current p ∙ sym (ap (λ b. b || not (is_expired current p)) (lives current q ∙ ap not e))
    by_test false e = lives current (newer_of q p) ∙ ap not (newer_stays current q p e) ∙ sym (ap (λ b. b || not (is_expired current p)) (lives current q ∙ ap not e))

or_none : (b : Bool) → b ≡ b || false
or_none true = refl
or_none false = refl

pub some_with : (current src : ℕ) (kept : Option Pair) (name : Name)
    → is_some (unexpired current (kept_with src kept name)) ≡ is_some (unexpired current kept) || (name.src.0 == src && not (is_expired current name.pair))
some_with current src kept name = by_test (name.src.0 == src)
  where
    by_test : (b : Bool) → is_some (unexpired current (if b then greatest_with kept name.pair else kept)) ≡ is_some (unexpired current kept) || (b && not (is_expired current name.pair))
    by_test true = some_greatest current kept name.pair
    by_test false = or_none (is_some (unexpired current kept))

-- A program or erase call of a flash in memory is begun: what its fields say of faults and of the arm stays true.
use Rattle.std.proofs.Common.{◌≡◌, ◌⊎◌, ℕ, ◌+◌, ◌-◌, ◌<◌, ◌≤◌, List, Bool, true, false, cond, Option, Some, None, refl, sym, ap, subst, inl, inr, ⊎_elim, arith, true≢false}
use Rattle.std.specs.Prelude.{nat_lt, nat_le, ◌==◌, ◌||◌, min}
use Rattle.std.proofs.lemmas.Bool.{eqb-true, eqb-false, eq-eqb, lt-ltb, ltb-true, leb-true, le-leb}
use Rattle.flash_model.specs.declared.armed.Armed.{Armed}
use Rattle.flash_model.specs.declared.armed.Course.{Course}
use Rattle.flash_model.specs.declared.armed.Course.TheVariants.{Whole, Torn}
use Rattle.flash_model.specs.declared.past.Past.{Past}
use Rattle.flash_model.specs.Course.{course_of, nearer_arm, is_failing, call_of, is_reached_by, is_ahead, is_nearer}
use Rattle.flash_model.specs.Past.{noted}

-- the tests of the arm as facts: `goal` calls counted is what it waits for
passed : (goal n : ℕ) → (nat_lt goal n || n == 4294967295) ≡ true → (goal < n) ⊎ (n ≡ 4294967295)
passed goal n h = by_test (nat_lt goal n) refl h
  where
    by_test : (b : Bool) → nat_lt goal n ≡ b → (b || n == 4294967295) ≡ true → (goal < n) ⊎ (n ≡ 4294967295)
    by_test true is h = inl (ltb-true goal n is)
    by_test false is h = inr (eqb-true n 4294967295 h)

is_passed : (goal n : ℕ) → (goal < n) ⊎ (n ≡ 4294967295) → (nat_lt goal n || n == 4294967295) ≡ true
is_passed goal n (inl more) = ap (λ b. b || n == 4294967295) (lt-ltb goal n more)
is_passed goal n (inr top) = by_test (nat_lt goal n)
  where
    by_test : (b : Bool) → (b || n == 4294967295) ≡ true
    by_test true = refl
    by_test false = eq-eqb n 4294967295 top

comes : (goal n left : ℕ) → (nat_le goal (n + left) || n == 4294967295) ≡ true → (goal ≤ n + left) ⊎ (n ≡ 4294967295)
comes goal n left h = by_test (nat_le goal (n + left)) refl h
  where
    by_test : (b : Bool) → nat_le goal (n + left) ≡ b → (b || n == 4294967295) ≡ true → (goal ≤ n + left) ⊎ (n ≡ 4294967295)
    by_test true is h = inl (leb-true goal (n + left) is)
    by_test false is h = inr (eqb-true n 4294967295 h)

will_come : (goal n left : ℕ) → (goal ≤ n + left) ⊎ (n ≡ 4294967295) → (nat_le goal (n + left) || n == 4294967295) ≡ true
will_come goal n left (inl le) = ap (λ b. b || n == 4294967295) (le-leb goal (n + left) le)
will_come goal n left (inr top) = by_test (nat_le goal (n + left))
  where
    by_test : (b : Bool) → (b || n == 4294967295) ≡ true
    by_test true = refl
    by_test false = eq-eqb n 4294967295 top

-- one more counted, or the count stands at its end
counted : (n : ℕ) → (min (n + 1) 4294967295 ≡ n + 1) ⊎ (min (n + 1) 4294967295 ≡ 4294967295)
counted n = grind arith

reached_more : (arm : Option Armed) (changes : ℕ) → is_reached_by arm changes ≡ true → is_reached_by (nearer_arm arm) (min (changes + 1) 4294967295) ≡ true
reached_more None changes h = h
reached_more (Some a) changes h =
    is_passed (a.changes + a.calls) (min (changes + 1) 4294967295) (⊎_elim
    (λ (e : min (changes + 1) 4294967295 ≡ changes + 1). ⊎_elim (λ (more : a.changes + a.calls < changes). inl (omega arith)) (λ (top : changes ≡ 4294967295). inr (omega arith)) (passed (a.changes + a.calls) changes h))
    (λ top. inr top)
    (counted changes))

reached_now : (a : Armed) (changes : ℕ) → a.left ≡ 0 → is_ahead (Some a) changes ≡ true → is_reached_by (nearer_arm (Some a)) (min (changes + 1) 4294967295) ≡ true
reached_now a changes none h =
    is_passed (a.changes + a.calls) (min (changes + 1) 4294967295) (⊎_elim
    (λ (e : min (changes + 1) 4294967295 ≡ changes + 1). ⊎_elim (λ (le : a.changes + a.calls ≤ changes + a.left). inl (omega arith)) (λ (top : changes ≡ 4294967295). inr (omega arith)) (comes (a.changes + a.calls) changes a.left h))
    (λ top. inr top)
    (counted changes))

ahead_more : (a : Armed) (changes : ℕ) → is_ahead (Some a) changes ≡ true → is_ahead (nearer_arm (Some a)) (min (changes + 1) 4294967295) ≡ true
ahead_more a changes h =
    will_come (a.changes + a.calls) (min (changes + 1) 4294967295) (a.left - 1) (⊎_elim
    (λ (e : min (changes + 1) 4294967295 ≡ changes + 1). ⊎_elim (λ (le : a.changes + a.calls ≤ changes + a.left). inl (omega arith)) (λ (top : changes ≡ 4294967295). inr (omega arith)) (comes (a.changes + a.calls) changes a.left h))
    (λ top. inr top)
    (counted changes))

module _ (past : Past) (octets : List ℕ) (changes : ℕ) where
  pub began_whole : (failed : Bool) (arm : Option Armed) → (failed ≡ false → past.faults ≡ past.cycled)
      → is_failing (course_of failed arm) ≡ false → (noted (call_of (course_of failed arm)) octets past).faults ≡ (noted (call_of (course_of failed arm)) octets past).cycled
  began_whole true arm whole fails = absurd (true≢false fails)
  began_whole false None whole fails = whole refl
  began_whole false (Some a) whole fails = by_left (a.left == 0) fails
    where
      by_left : (b : Bool) → is_failing (cond b (Torn a.mask) Whole) ≡ false → (noted (call_of (cond b (Torn a.mask) Whole)) octets past).faults ≡ (noted (call_of (cond b (Torn a.mask) Whole)) octets past).cycled
      by_left true e = absurd (true≢false e)
      by_left false e = whole refl

  abbrev Failing : Course → Option Armed → Type 0
  Failing course arm = is_failing course ≡ true → ((noted (call_of course) octets past).cycled < (noted (call_of course) octets past).faults) × (is_reached_by (nearer_arm arm) (min (changes + 1) 4294967295) ≡ true)

  pub began_cut : (failed : Bool) (arm : Option Armed) → (failed ≡ false → past.faults ≡ past.cycled) → (failed ≡ true → (past.cycled < past.faults) × (is_reached_by arm changes ≡ true))
      → (failed ≡ false → is_ahead arm changes ≡ true) → Failing (course_of failed arm) arm
  began_cut true arm whole cut ahead fails = let was = cut refl in let more = was.0 in (omega (arith, more), reached_more arm changes was.1)
  began_cut false None whole cut ahead fails = absurd (true≢false (sym fails))
  began_cut false (Some a) whole cut ahead fails = by_left (a.left == 0) refl fails
    where
      by_left : (b : Bool) → (a.left == 0) ≡ b → Failing (cond b (Torn a.mask) Whole) (Some a)
      by_left true e h = let none = whole refl in (omega (arith, none), reached_now a changes (eqb-true a.left 0 e) (ahead refl))
      by_left false e h = absurd (true≢false (sym h))

  pub began_ahead : (failed : Bool) (arm : Option Armed) → (failed ≡ false → is_ahead arm changes ≡ true)
      → is_failing (course_of failed arm) ≡ false → is_ahead (nearer_arm arm) (min (changes + 1) 4294967295) ≡ true
  began_ahead true arm ahead fails = absurd (true≢false fails)
  began_ahead false None ahead fails = refl
  began_ahead false (Some a) ahead fails = ahead_more a changes (ahead refl)

  -- what failed before, and this call if it fails, pays for a call behind the torn one
  abbrev Within : Course → Option Armed → Type 0
  Within course arm = is_nearer (nearer_arm arm) ((noted (call_of course) octets past).faults - (noted (call_of course) octets past).cycled) (min (changes + 1) 4294967295) ≡ true

  pub began_within : (failed : Bool) (arm : Option Armed) → (failed ≡ false → past.faults ≡ past.cycled) → (failed ≡ true → (past.cycled < past.faults) × (is_reached_by arm changes ≡ true))
      → is_nearer arm (past.faults - past.cycled) changes ≡ true → Within (course_of failed arm) arm
  began_within true None whole cut within = refl
  began_within true (Some a) whole cut within = let more = (cut refl).0 in let so = leb-true _ _ within in le-leb _ _ (omega (arith, more, so))
  began_within false None whole cut within = refl
  began_within false (Some a) whole cut within = by_left (a.left == 0) refl
    where
      by_left : (b : Bool) → (a.left == 0) ≡ b → Within (cond b (Torn a.mask) Whole) (Some a)
      by_left true e = let none = whole refl in let so = leb-true _ _ within in le-leb _ _ (omega (arith, none, so))
      by_left false e = let some = eqb-false a.left 0 e in let so = leb-true _ _ within in le-leb _ _ (omega (arith, some, so))

-- the same at what the fields then are
pub next_reached : (arm next : Option Armed) (changes later : ℕ) → next ≡ arm → later ≡ changes → is_reached_by arm changes ≡ true → is_reached_by next later ≡ true
next_reached arm next changes later same at h = subst (λ (x : Option Armed). is_reached_by x later ≡ true) (sym same) (subst (λ (n : ℕ). is_reached_by arm n ≡ true) (sym at) h)

pub next_ahead : (arm next : Option Armed) (changes later : ℕ) → next ≡ arm → later ≡ changes → is_ahead arm changes ≡ true → is_ahead next later ≡ true
next_ahead arm next changes later same at h = subst (λ (x : Option Armed). is_ahead x later ≡ true) (sym same) (subst (λ (n : ℕ). is_ahead arm n ≡ true) (sym at) h)

pub next_within : (arm next : Option Armed) (failed changes later : ℕ) → next ≡ arm → later ≡ changes → is_nearer arm failed changes ≡ true → is_nearer next failed later ≡ true
next_within arm next failed changes later same at h = subst (λ (x : Option Armed). is_nearer x failed later ≡ true) (sym same) (subst (λ (n : ℕ). is_nearer arm failed n ≡ true) (sym at) h)

-- one that failed more leaves more room
pub within_more : (arm : Option Armed) (failed more changes : ℕ) → failed ≤ more → is_nearer arm failed changes ≡ true → is_nearer arm more changes ≡ true
within_more None failed more changes le h = refl
within_more (Some a) failed more changes le h = let so = leb-true _ _ h in le-leb _ _ (omega (arith, le, so))

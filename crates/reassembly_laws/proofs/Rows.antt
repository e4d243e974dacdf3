-- A message among those in progress, by its name.
use Rattle.std.proofs.Common.{◌≡◌, ℕ, suc, ◌+◌, ◌-◌, Bool, true, false, cond, not, ltb, List, [], ◌∷◌, ◌++◌, map, length, refl, ap, sym, subst, ◌∙◌, arith, Option, Some, None, is_some}
use Rattle.std.specs.Prelude.{slice_set, slice_index_or, unwrap_or}
use Rattle.std.specs.Bool.{⊤}
use Rattle.std.specs.List.{AllByRecursion as Every}
use Rattle.std.specs.Option.{option_map}
use Rattle.std.proofs.lemmas.Bool.Decides.{nat_tests}
use Rattle.layer_states.specs.Names.{is_name}
use Rattle.layer_states.specs.Reassembly.{begun, is_due, is_held, live, message_for, place_of, put_message, rung, without}
use Rattle.layer_states.specs.declared.reassembly.Assembly.{Assembly}
use Rattle.layer_states.specs.declared.reassembly.PartHeard.{PartHeard}
use Rattle.mesh_base.proofs.Pairs.{pairs_equal}
use Rattle.mesh_base.specs.declared.pair.Name.{Name}

-- Names.

names_equal : (m n : Name) → m.src.0 ≡ n.src.0 → m.pair ≡ n.pair → m ≡ n
names_equal m n e f = λ i. record { src = record { 0 = e i }; pair = f i }

pub name_is : (m n : Name) → is_name m n ≡ true → m ≡ n
name_is m n h = names_equal m n (grind (arith, nat_tests, h)) (pairs_equal m.pair n.pair (grind (arith, nat_tests, h)) (grind (arith, nat_tests, h)))

pub same_name : (n : Name) → is_name n n ≡ true
same_name n = grind (arith, nat_tests)

pub other_name : (m n : Name) → is_name m n ≡ false → is_name n m ≡ false
other_name m n h = grind (arith, nat_tests, h)

-- The message of a name, if it is held.

abbrev pub find_name : Name → List Assembly → Option Assembly
find_name n [] = None
find_name n (a ∷ rows) = cond (is_name n a.name) (Some a) (find_name n rows)

pub found_name : (n : Name) (rows : List Assembly) (a : Assembly) → find_name n rows ≡ Some a → a.name ≡ n
found_name n [] a h = absurd cc
found_name n (r ∷ rows) a h = test (is_name n r.name) refl (found_name n rows a) h
  where
    test : (b : Bool) → is_name n r.name ≡ b → (find_name n rows ≡ Some a → a.name ≡ n) → cond b (Some r) (find_name n rows) ≡ Some a → a.name ≡ n
    test true e later k = let same : r ≡ a = cc in sym (ap (λ (x : Assembly). x.name) same) ∙ sym (name_is n r.name e)
    test false e later k = later k

-- and if its last new piece is fewer than 1000 ticks old
abbrev pub alive : ℕ → Option Assembly → Option Assembly
alive now None = None
alive now (Some a) = cond (ltb (now - a.renewed) 1000) (Some a) None

pub alive_again : (now : ℕ) (o : Option Assembly) → alive now (alive now o) ≡ alive now o
alive_again now None = refl
alive_again now (Some a) = (elim (ltb (now - a.renewed) 1000) as (λ b. ltb (now - a.renewed) 1000 ≡ b → alive now (cond b (Some a) None) ≡ cond b (Some a) None) [
  | true ↦ λ e. rw e refl
  | false ↦ λ e. refl
]) refl

abbrev pub Absent : Name → List Assembly → Type 0
Absent n rows = Every (λ a. is_name n a.name ≡ false) rows

abbrev pub Distinct : List Assembly → Type 0
Distinct [] = ⊤
Distinct (a ∷ rows) = Absent a.name rows × Distinct rows

pub absent_find : (n : Name) (rows : List Assembly) → Absent n rows → find_name n rows ≡ None
absent_find n [] h = refl
absent_find n (a ∷ rows) h = rw h.0 (absent_find n rows h.1)

-- those that are in progress still

live_by : (now : ℕ) (P : List Assembly → Type 0) (a : Assembly) (rows : List Assembly) → (ltb (now - a.renewed) 1000 ≡ true → P (a ∷ rows))
    → (ltb (now - a.renewed) 1000 ≡ false → P rows) → P (cond (ltb (now - a.renewed) 1000) (a ∷ rows) rows)
live_by now P a rows in_time over = test (ltb (now - a.renewed) 1000) refl
  where
    test : (b : Bool) → ltb (now - a.renewed) 1000 ≡ b → P (cond b (a ∷ rows) rows)
    test true e = in_time e
    test false e = over e

absent_live : (n : Name) (now : ℕ) (rows : List Assembly) → Absent n rows → Absent n (live now rows)
absent_live n now [] h = tt
absent_live n now (a ∷ rows) h =
    live_by now (Absent n) a (live now rows) (λ e. (h.0, absent_live n now rows h.1)) (λ e. absent_live n now rows h.1)

pub distinct_live : (now : ℕ) (rows : List Assembly) → Distinct rows → Distinct (live now rows)
distinct_live now [] h = tt
distinct_live now (a ∷ rows) h =
    live_by now Distinct a (live now rows) (λ e. (absent_live a.name now rows h.0, distinct_live now rows h.1)) (λ e. distinct_live now rows h.1)

pub find_live : (n : Name) (now : ℕ) (rows : List Assembly) → Distinct rows → find_name n (live now rows) ≡ alive now (find_name n rows)
find_live n now [] h = refl
find_live n now (a ∷ rows) h =
    live_by now (λ l. find_name n l ≡ alive now (cond (is_name n a.name) (Some a) (find_name n rows))) a (live now rows)
    (λ e. kept (is_name n a.name) e (find_live n now rows h.1))
    (λ e. gone (is_name n a.name) refl e (find_live n now rows h.1) h.0)
  where
    kept : (b : Bool) → ltb (now - a.renewed) 1000 ≡ true → find_name n (live now rows) ≡ alive now (find_name n rows)
        → cond b (Some a) (find_name n (live now rows)) ≡ alive now (cond b (Some a) (find_name n rows))
    kept true e same = rw e refl
    kept false e same = same

    gone : (b : Bool) → is_name n a.name ≡ b → ltb (now - a.renewed) 1000 ≡ false → find_name n (live now rows) ≡ alive now (find_name n rows)
        → Absent a.name rows → find_name n (live now rows) ≡ alive now (cond b (Some a) (find_name n rows))
    gone true is e same absent =
        rw e (absent_find n (live now rows) (absent_live n now rows (subst (λ m. Absent m rows) (sym (name_is n a.name is)) absent)))
    gone false is e same absent = same

-- after acknowledgments

rung_name : (now : ℕ) (a : Assembly) → (rung now a).name ≡ a.name
rung_name now a = (elim (is_due now a) as (λ b. (cond b (record a { timer = None }) a).name ≡ a.name) [
  | true ↦ refl
  | false ↦ refl
])

absent_rung : (n : Name) (now : ℕ) (rows : List Assembly) → Absent n rows → Absent n (map (rung now) rows)
absent_rung n now [] h = tt
absent_rung n now (a ∷ rows) h = (ap (is_name n) (rung_name now a) ∙ h.0, absent_rung n now rows h.1)

pub distinct_rung : (now : ℕ) (rows : List Assembly) → Distinct rows → Distinct (map (rung now) rows)
distinct_rung now [] h = tt
distinct_rung now (a ∷ rows) h =
    (subst (λ m. Absent m (map (rung now) rows)) (sym (rung_name now a)) (absent_rung a.name now rows h.0), distinct_rung now rows h.1)

pub find_rung : (n : Name) (now : ℕ) (rows : List Assembly) → find_name n (map (rung now) rows) ≡ option_map (rung now) (find_name n rows)
find_rung n now [] = refl
find_rung n now (a ∷ rows) =
    ap (λ m. cond (is_name n m) (Some (rung now a)) (find_name n (map (rung now) rows))) (rung_name now a) ∙ by_name (is_name n a.name) (find_rung n now rows)
  where
    by_name : (b : Bool) → find_name n (map (rung now) rows) ≡ option_map (rung now) (find_name n rows)
        → cond b (Some (rung now a)) (find_name n (map (rung now) rows)) ≡ option_map (rung now) (cond b (Some a) (find_name n rows))
    by_name true same = refl
    by_name false same = same

-- without one of them

without_by : (n : Name) (P : List Assembly → Type 0) (a : Assembly) (rows : List Assembly) → (is_name n a.name ≡ false → P (a ∷ rows))
    → (is_name n a.name ≡ true → P rows) → P (cond (not (is_name n a.name)) (a ∷ rows) rows)
without_by n P a rows other this = test (is_name n a.name) refl
  where
    test : (b : Bool) → is_name n a.name ≡ b → P (cond (not b) (a ∷ rows) rows)
    test true e = this e
    test false e = other e

absent_without : (m n : Name) (rows : List Assembly) → Absent m rows → Absent m (without n rows)
absent_without m n [] h = tt
absent_without m n (a ∷ rows) h =
    without_by n (Absent m) a (without n rows) (λ e. (h.0, absent_without m n rows h.1)) (λ e. absent_without m n rows h.1)

pub distinct_without : (n : Name) (rows : List Assembly) → Distinct rows → Distinct (without n rows)
distinct_without n [] h = tt
distinct_without n (a ∷ rows) h =
    without_by n Distinct a (without n rows) (λ e. (absent_without a.name n rows h.0, distinct_without n rows h.1)) (λ e. distinct_without n rows h.1)

pub none_without : (n : Name) (rows : List Assembly) → find_name n (without n rows) ≡ None
none_without n [] = refl
none_without n (a ∷ rows) =
    without_by n (λ l. find_name n l ≡ None) a (without n rows) (λ e. rw e (none_without n rows)) (λ e. none_without n rows)

pub find_without : (n m : Name) (rows : List Assembly) → is_name m n ≡ false → find_name m (without n rows) ≡ find_name m rows
find_without n m [] h = refl
find_without n m (a ∷ rows) h =
    without_by n (λ l. find_name m l ≡ cond (is_name m a.name) (Some a) (find_name m rows)) a (without n rows)
    (λ e. ap (λ o. cond (is_name m a.name) (Some a) o) (find_without n m rows h))
    (λ e.
    let not_m : is_name m a.name ≡ false = subst (λ k. is_name m k ≡ false) (name_is n a.name e) h in
    rw not_m (find_without n m rows h))

-- one put in its place, or behind all

abbrev pub put_in : Name → Assembly → List Assembly → List Assembly
put_in m a [] = a ∷ []
put_in m a (r ∷ rows) = cond (is_name m r.name) (a ∷ rows) (r ∷ put_in m a rows)

one_more : (n : ℕ) → 1 + n ≡ suc n
one_more n = omega arith

one_less : (a b : ℕ) → ltb (1 + a) (suc b) ≡ ltb a b
one_less a b = grind (arith, nat_tests)

any_less : (b : ℕ) → ltb 0 (suc b) ≡ true
any_less b = grind (arith, nat_tests)

put_at : (b : Bool) (place size : ℕ) (r a : Assembly) (rows put : List Assembly)
    → put ≡ cond (ltb place (length rows)) (slice_set rows place a) (rows ++ a ∷ [])
    → cond (ltb (cond (not b) (1 + place) 0) (suc (length rows))) (slice_set (r ∷ rows) (cond (not b) (1 + place) 0) a) (r ∷ rows ++ a ∷ [])
    ≡ cond b (a ∷ rows) (r ∷ put)
put_at true place size r a rows put e = ap (λ c. cond c (a ∷ rows) (r ∷ rows ++ a ∷ [])) (any_less (length rows))
put_at false place size r a rows put e = ap (λ c. cond c (slice_set (r ∷ rows) (1 + place) a) (r ∷ rows ++ a ∷ [])) (one_less place (length rows))
    ∙ ap (λ k. cond (ltb place (length rows)) (slice_set (r ∷ rows) k a) (r ∷ rows ++ a ∷ [])) (one_more place) ∙ (elim (ltb place (length rows)) as (λ b. put ≡ cond b (slice_set rows place a) (rows ++ a ∷ []) → cond b (r ∷ slice_set rows place a) (r ∷ rows ++ a ∷ []) ≡ r ∷ put) [
      | true ↦ λ f. ap (λ l. r ∷ l) (sym f)
      | false ↦ λ f. ap (λ l. r ∷ l) (sym f)
    ]) e

pub put_is : (m : Name) (a : Assembly) (rows : List Assembly) → put_message (place_of m rows) a rows ≡ put_in m a rows
put_is m a [] = refl
put_is m a (r ∷ rows) = put_at (is_name m r.name) (place_of m rows) 0 r a rows (put_in m a rows) (sym (put_is m a rows))

pub message_is : (rows : List Assembly) (now : ℕ) (h : PartHeard) → message_for rows now h ≡ unwrap_or (find_name h.name rows) (begun now h)
message_is rows now h = by_rows rows
  where
    step : (b : Bool) (r d : Assembly) (rows : List Assembly) (place : ℕ) (o : Option Assembly) → slice_index_or rows place d ≡ unwrap_or o d
        → slice_index_or (r ∷ rows) (cond (not b) (1 + place) 0) d ≡ unwrap_or (cond b (Some r) o) d
    step true r d rows place o e = refl
    step false r d rows place o e = ap (λ k. slice_index_or (r ∷ rows) k d) (one_more place) ∙ e

    by_rows : (rows : List Assembly) → slice_index_or rows (place_of h.name rows) (begun now h) ≡ unwrap_or (find_name h.name rows) (begun now h)
    by_rows [] = refl
    by_rows (r ∷ rows) = step (is_name h.name r.name) r (begun now h) rows (place_of h.name rows) (find_name h.name rows) (by_rows rows)

pub held_is : (n : Name) (rows : List Assembly) → is_held n rows ≡ is_some (find_name n rows)
held_is n [] = refl
held_is n (r ∷ rows) = step (is_name n r.name) (place_of n rows) (length rows) (find_name n rows) r (held_is n rows)
  where
    step : (b : Bool) (place size : ℕ) (o : Option Assembly) (r : Assembly) → ltb place size ≡ is_some o
        → ltb (cond (not b) (1 + place) 0) (suc size) ≡ is_some (cond b (Some r) o)
    step true place size o r e = any_less size
    step false place size o r e = one_less place size ∙ e

pub find_put : (m : Name) (a : Assembly) (rows : List Assembly) → a.name ≡ m → find_name m (put_in m a rows) ≡ Some a
find_put m a [] e = rw (e, same_name m) refl
find_put m a (r ∷ rows) e = test (is_name m r.name) refl (find_put m a rows e)
  where
    test : (b : Bool) → is_name m r.name ≡ b → find_name m (put_in m a rows) ≡ Some a → find_name m (cond b (a ∷ rows) (r ∷ put_in m a rows)) ≡ Some a
    test true f same = rw (e, same_name m) refl
    test false f same = rw f same

pub find_put_other : (n m : Name) (a : Assembly) (rows : List Assembly) → a.name ≡ m → is_name n m ≡ false → find_name n (put_in m a rows) ≡ find_name n rows
find_put_other n m a [] e h = rw (e, h) refl
find_put_other n m a (r ∷ rows) e h = test (is_name m r.name) refl (find_put_other n m a rows e h)
  where
    test : (b : Bool) → is_name m r.name ≡ b → find_name n (put_in m a rows) ≡ find_name n rows
        → find_name n (cond b (a ∷ rows) (r ∷ put_in m a rows)) ≡ cond (is_name n r.name) (Some r) (find_name n rows)
    test true f same =
        let not_r : is_name n r.name ≡ false = subst (λ k. is_name n k ≡ false) (name_is m r.name f) h in
        rw (e, h, not_r) refl
    test false f same = ap (λ o. cond (is_name n r.name) (Some r) o) same

absent_put : (n m : Name) (a : Assembly) (rows : List Assembly) → a.name ≡ m → is_name n m ≡ false → Absent n rows → Absent n (put_in m a rows)
absent_put n m a [] e h k = (ap (is_name n) e ∙ h, tt)
absent_put n m a (r ∷ rows) e h k = test (is_name m r.name) (absent_put n m a rows e h k.1)
  where
    test : (b : Bool) → Absent n (put_in m a rows) → Absent n (cond b (a ∷ rows) (r ∷ put_in m a rows))
    test true more = (ap (is_name n) e ∙ h, k.1)
    test false more = (k.0, more)

pub distinct_put : (m : Name) (a : Assembly) (rows : List Assembly) → a.name ≡ m → Distinct rows → Distinct (put_in m a rows)
distinct_put m a [] e h = (tt, tt)
distinct_put m a (r ∷ rows) e h = test (is_name m r.name) refl (distinct_put m a rows e h.1)
  where
    test : (b : Bool) → is_name m r.name ≡ b → Distinct (put_in m a rows) → Distinct (cond b (a ∷ rows) (r ∷ put_in m a rows))
    test true f more = (subst (λ k. Absent k rows) (sym (name_is m r.name f) ∙ sym e) h.0, h.1)
    test false f more = (absent_put r.name m a rows e (other_name m r.name f) h.0, more)

-- What a test keeps of a merge: where it keeps nothing of one list, what it keeps of the other, in its order.
use Rattle.std.proofs.Common.{◌≡◌, ◌≢◌, ℕ, zero, suc, ◌+◌, ◌<◌, ◌≤◌, Bool, true, false, cond, List, [], ◌∷◌, length, map, ◌⊎◌, inl, inr, ⊎_elim, refl, sym, ap, ◌∙◌, subst, arith}
use Rattle.std.specs.Prelude.{nat_lt, ⊤, slice_index_or}
use Rattle.std.specs.List.{All, Contains, filter}
use Rattle.std.proofs.lemmas.Bool.Decides.{nat_tests}
use Rattle.std.proofs.lemmas.List.Elements.{All-head, All-tail, All-from_get_or}
use Rattle.turn_lock.specs.Entries.{StandFrom, KeptOf, put_in, merge, merged}

below_yes : (m n : ℕ) → nat_lt m n ≡ true → m < n
below_yes m n e = grind (arith, nat_tests)

below_no : (m n : ℕ) → nat_lt m n ≡ false → n ≤ m
below_no m n e = grind (arith, nat_tests)

module _ {E : Type 0} where
  put_front : (x y : ℕ × E) (ys : List (ℕ × E)) → nat_lt x.0 y.0 ≡ true → put_in x (y ∷ ys) ≡ x ∷ y ∷ ys
  put_front x y ys e = ap (λ b. cond b (x ∷ y ∷ ys) (y ∷ put_in x ys)) e

  put_behind : (x y : ℕ × E) (ys : List (ℕ × E)) → nat_lt x.0 y.0 ≡ false → put_in x (y ∷ ys) ≡ y ∷ put_in x ys
  put_behind x y ys e = ap (λ b. cond b (x ∷ y ∷ ys) (y ∷ put_in x ys)) e

module _ {E : Type 0} (keep : ℕ × E → Bool) where
  -- each entry that is kept has a place above n
  abbrev KeptAbove : ℕ → List (ℕ × E) → Type 0
  KeptAbove n [] = ⊤
  KeptAbove n (y ∷ ys) = (keep y ≡ true → n < y.0) × KeptAbove n ys

  kept_yes : (y : ℕ × E) (ys : List (ℕ × E)) → keep y ≡ true → filter keep (y ∷ ys) ≡ y ∷ filter keep ys
  kept_yes y ys e = ap (λ b. cond b (y ∷ filter keep ys) (filter keep ys)) e

  kept_no : (y : ℕ × E) (ys : List (ℕ × E)) → keep y ≡ false → filter keep (y ∷ ys) ≡ filter keep ys
  kept_no y ys e = ap (λ b. cond b (y ∷ filter keep ys) (filter keep ys)) e

  -- an entry that isn't kept changes nothing
  kept_put_other : (x : ℕ × E) (ys : List (ℕ × E)) → keep x ≡ false → filter keep (put_in x ys) ≡ filter keep ys
  kept_put_other x [] out = kept_no x [] out
  kept_put_other x (y ∷ ys) out = by_place (nat_lt x.0 y.0) refl (kept_put_other x ys out) where
    behind : (b : Bool) → keep y ≡ b → filter keep (put_in x ys) ≡ filter keep ys → filter keep (y ∷ put_in x ys) ≡ filter keep (y ∷ ys)
    behind true e h = kept_yes y (put_in x ys) e ∙ ap (λ l. y ∷ l) h ∙ sym (kept_yes y ys e)
    behind false e h = kept_no y (put_in x ys) e ∙ h ∙ sym (kept_no y ys e)

    by_place : (b : Bool) → nat_lt x.0 y.0 ≡ b → filter keep (put_in x ys) ≡ filter keep ys → filter keep (put_in x (y ∷ ys)) ≡ filter keep (y ∷ ys)
    by_place true e h = ap (filter keep) (put_front x y ys e) ∙ kept_no x (y ∷ ys) out
    by_place false e h = ap (filter keep) (put_behind x y ys e) ∙ behind (keep y) refl h

  -- one that is kept goes before all that are kept, if it stands below them
  kept_put : (x : ℕ × E) (ys : List (ℕ × E)) → keep x ≡ true → KeptAbove x.0 ys → filter keep (put_in x ys) ≡ x ∷ filter keep ys
  kept_put x [] yes_x above = kept_yes x [] yes_x
  kept_put x (y ∷ ys) yes_x above = by_place (nat_lt x.0 y.0) refl (kept_put x ys yes_x above.1) where
    behind : (b : Bool) → keep y ≡ b → nat_lt x.0 y.0 ≡ false → filter keep (put_in x ys) ≡ x ∷ filter keep ys → filter keep (y ∷ put_in x ys) ≡ x ∷ filter keep (y ∷ ys)
    behind true e place h = let low : y.0 ≤ x.0 = below_no x.0 y.0 place in let high : x.0 < y.0 = above.0 e in absurd (omega arith)
    behind false e place h = kept_no y (put_in x ys) e ∙ h ∙ ap (λ l. x ∷ l) (sym (kept_no y ys e))

    by_place : (b : Bool) → nat_lt x.0 y.0 ≡ b → filter keep (put_in x ys) ≡ x ∷ filter keep ys → filter keep (put_in x (y ∷ ys)) ≡ x ∷ filter keep (y ∷ ys)
    by_place true e h = ap (filter keep) (put_front x y ys e) ∙ kept_yes x (y ∷ ys) yes_x
    by_place false e h = ap (filter keep) (put_behind x y ys e) ∙ behind (keep y) refl e h

  above_none : (n : ℕ) (ys : List (ℕ × E)) → filter keep ys ≡ [] → KeptAbove n ys
  above_none n [] e = tt
  above_none n (y ∷ ys) e = by_test (keep y) refl (λ h. above_none n ys h) where
    by_test : (b : Bool) → keep y ≡ b → (filter keep ys ≡ [] → KeptAbove n ys) → KeptAbove n (y ∷ ys)
    by_test true t f = let cons : y ∷ filter keep ys ≡ [] = sym (kept_yes y ys t) ∙ e in cc
    by_test false t f = ((λ is. cc), f (sym (kept_no y ys t) ∙ e))

  above_put : (n : ℕ) (x : ℕ × E) (ys : List (ℕ × E)) → n < x.0 → KeptAbove n ys → KeptAbove n (put_in x ys)
  above_put n x [] lt h = ((λ _. lt), tt)
  above_put n x (y ∷ ys) lt h = by_place (nat_lt x.0 y.0) refl (above_put n x ys lt h.1) where
    by_place : (b : Bool) → nat_lt x.0 y.0 ≡ b → KeptAbove n (put_in x ys) → KeptAbove n (put_in x (y ∷ ys))
    by_place true e k = subst (KeptAbove n) (sym (put_front x y ys e)) ((λ _. lt), (h.0, h.1))
    by_place false e k = subst (KeptAbove n) (sym (put_behind x y ys e)) (h.0, k)

  above_merge : (n m : ℕ) (l : List E) (xs ys : List (ℕ × E)) → n < m → StandFrom m l xs → KeptAbove n ys → KeptAbove n (merge xs ys)
  above_merge n m l [] ys lt h k = k
  above_merge n m l (x ∷ xs) ys lt h k =
      let low : m ≤ x.0 = h.0 in
      above_put n x (merge xs ys) (omega arith) (above_merge n (x.0 + 1) l xs ys (omega arith) h.2 k)

  -- what is kept of a merge, where nothing of the second list is kept
  pub kept_merge_first : (n : ℕ) (l : List E) (xs ys : List (ℕ × E)) → StandFrom n l xs → filter keep ys ≡ [] → filter keep (merge xs ys) ≡ filter keep xs
  kept_merge_first n l [] ys h none = none
  kept_merge_first n l (x ∷ xs) ys h none = by_test (keep x) refl (kept_merge_first (x.0 + 1) l xs ys h.2 none) where
    by_test : (b : Bool) → keep x ≡ b → filter keep (merge xs ys) ≡ filter keep xs → filter keep (put_in x (merge xs ys)) ≡ filter keep (x ∷ xs)
    by_test true t rest =
        let above = above_merge x.0 (x.0 + 1) l xs ys (omega arith) h.2 (above_none x.0 ys none) in
        kept_put x (merge xs ys) t above ∙ ap (λ k. x ∷ k) rest ∙ sym (kept_yes x xs t)
    by_test false t rest = kept_put_other x (merge xs ys) t ∙ rest ∙ sym (kept_no x xs t)

  -- and where nothing of the first is
  pub kept_merge_second : (xs ys : List (ℕ × E)) → filter keep xs ≡ [] → filter keep (merge xs ys) ≡ filter keep ys
  kept_merge_second [] ys none = refl
  kept_merge_second (x ∷ xs) ys none = by_test (keep x) refl (λ h. kept_merge_second xs ys h) where
    by_test : (b : Bool) → keep x ≡ b → (filter keep xs ≡ [] → filter keep (merge xs ys) ≡ filter keep ys) → filter keep (put_in x (merge xs ys)) ≡ filter keep ys
    by_test true t f = let cons : x ∷ filter keep xs ≡ [] = sym (kept_yes x xs t) ∙ none in cc
    by_test false t f = kept_put_other x (merge xs ys) t ∙ f (sym (kept_no x xs t) ∙ none)

  -- a test keeps nothing of these
  abbrev None_kept : List (List (ℕ × E)) → Type 0
  None_kept = All (λ z. filter keep z ≡ [])

  -- the merge of the first two lists stands for both
  pub kept_join : (n : ℕ) (l : List E) (xs ys : List (ℕ × E)) (rest : List (List (ℕ × E))) (zs : List (ℕ × E)) → StandFrom n l xs → KeptOf keep (xs ∷ ys ∷ rest) zs → KeptOf keep (merge xs ys ∷ rest) zs
  kept_join n l xs ys rest zs h (inl (is, none)) =
      let other = All-head (λ z. filter keep z ≡ []) ys rest none in
      inl (kept_merge_first n l xs ys h other ∙ is, All-tail (λ z. filter keep z ≡ []) ys rest none)
  kept_join n l xs ys rest zs h (inr (none, inl (is, others))) = inl (kept_merge_second xs ys none ∙ is, others)
  kept_join n l xs ys rest zs h (inr (none, inr (other, more))) = inr (kept_merge_second xs ys none ∙ other, more)

  pub kept_one : (xs ys : List (ℕ × E)) → KeptOf keep (xs ∷ []) ys → filter keep xs ≡ ys
  kept_one xs ys (inl (is, none)) = is
  kept_one xs ys (inr (none, is)) = none ∙ sym is

  -- where no list is left
  pub kept_end : {P : Type 0} (f : P → List (ℕ × E)) (xs : List (ℕ × E)) (ps : List P) (ys : List (ℕ × E)) → length ps ≡ 0 → KeptOf keep (xs ∷ map f ps) ys → filter keep xs ≡ ys
  kept_end f xs [] ys none h = kept_one xs ys h
  kept_end f xs (p ∷ ps) ys none h = absurd (omega arith)

  -- what is kept of one list, where nothing is kept of the others
  pub kept_at : (k : ℕ) (lists : List (List (ℕ × E))) (d zs : List (ℕ × E)) → k < length lists → filter keep (slice_index_or lists k d) ≡ zs
      → ((j : ℕ) → j < length lists → j ≢ k → filter keep (slice_index_or lists j d) ≡ []) → KeptOf keep lists zs
  kept_at k [] d zs within is none = absurd (omega arith)
  kept_at zero (x ∷ xs) d zs within is none = inl (is, All-from_get_or (λ z. filter keep z ≡ []) xs d (λ j lt. none (suc j) (omega arith) (λ e. omega arith)))
  kept_at (suc k) (x ∷ xs) d zs within is none =
      inr (none 0 (omega arith) (λ e. omega arith), kept_at k xs d zs (omega arith) is (λ j lt apart. none (suc j) (omega arith) (λ e. apart (omega arith))))

module _ {E : Type 0} where
  holds_here : (x : ℕ × E) (xs : List (ℕ × E)) → Contains (x ∷ xs) x
  holds_here x xs = (0, omega arith, refl)

  holds_there : (y : ℕ × E) (xs : List (ℕ × E)) (z : ℕ × E) → Contains xs z → Contains (y ∷ xs) z
  holds_there y xs z h = (suc h.0, omega (arith, h.1), h.2)

  holds_cases : (y : ℕ × E) (xs : List (ℕ × E)) (z : ℕ × E) → Contains (y ∷ xs) z → (y ≡ z) ⊎ Contains xs z
  holds_cases y xs z (zero, within, is) = inl is
  holds_cases y xs z (suc k, within, is) = inr (k, omega arith, is)

  put_holds_it : (x : ℕ × E) (ys : List (ℕ × E)) → Contains (put_in x ys) x
  put_holds_it x [] = holds_here x []
  put_holds_it x (y ∷ ys) = by_place (nat_lt x.0 y.0) refl (put_holds_it x ys) where
    by_place : (b : Bool) → nat_lt x.0 y.0 ≡ b → Contains (put_in x ys) x → Contains (put_in x (y ∷ ys)) x
    by_place true e h = subst (λ l. Contains l x) (sym (put_front x y ys e)) (holds_here x (y ∷ ys))
    by_place false e h = subst (λ l. Contains l x) (sym (put_behind x y ys e)) (holds_there y (put_in x ys) x h)

  put_holds_rest : (x : ℕ × E) (ys : List (ℕ × E)) (z : ℕ × E) → Contains ys z → Contains (put_in x ys) z
  put_holds_rest x [] z h = absurd (omega (arith, h.1))
  put_holds_rest x (y ∷ ys) z h = by_place (nat_lt x.0 y.0) refl (λ later. put_holds_rest x ys z later) where
    by_place : (b : Bool) → nat_lt x.0 y.0 ≡ b → (Contains ys z → Contains (put_in x ys) z) → Contains (put_in x (y ∷ ys)) z
    by_place true e f = subst (λ l. Contains l z) (sym (put_front x y ys e)) (holds_there x (y ∷ ys) z h)
    by_place false e f = subst (λ l. Contains l z) (sym (put_behind x y ys e)) (⊎_elim (λ is. subst (Contains (y ∷ put_in x ys)) is (holds_here y (put_in x ys))) (λ later. holds_there y (put_in x ys) z (f later)) (holds_cases y ys z h))

  put_holds_only : (x : ℕ × E) (ys : List (ℕ × E)) (z : ℕ × E) → Contains (put_in x ys) z → (x ≡ z) ⊎ Contains ys z
  put_holds_only x [] z h = holds_cases x [] z h
  put_holds_only x (y ∷ ys) z h = by_place (nat_lt x.0 y.0) refl (λ later. put_holds_only x ys z later) where
    by_place : (b : Bool) → nat_lt x.0 y.0 ≡ b → (Contains (put_in x ys) z → (x ≡ z) ⊎ Contains ys z) → (x ≡ z) ⊎ Contains (y ∷ ys) z
    by_place true e f = holds_cases x (y ∷ ys) z (subst (λ l. Contains l z) (put_front x y ys e) h)
    by_place false e f =
        ⊎_elim
        (λ is. inr (subst (Contains (y ∷ ys)) is (holds_here y ys)))
        (λ later. ⊎_elim (λ is. inl is) (λ rest. inr (holds_there y ys z rest)) (f later))
        (holds_cases y (put_in x ys) z (subst (λ l. Contains l z) (put_behind x y ys e) h))

  -- a merge holds what either list holds, and nothing else
  pub merge_holds_first : (xs ys : List (ℕ × E)) (z : ℕ × E) → Contains xs z → Contains (merge xs ys) z
  merge_holds_first [] ys z h = absurd (omega (arith, h.1))
  merge_holds_first (x ∷ xs) ys z h = ⊎_elim (λ is. subst (Contains (put_in x (merge xs ys))) is (put_holds_it x (merge xs ys))) (λ later. put_holds_rest x (merge xs ys) z (merge_holds_first xs ys z later)) (holds_cases x xs z h)

  pub merge_holds_second : (xs ys : List (ℕ × E)) (z : ℕ × E) → Contains ys z → Contains (merge xs ys) z
  merge_holds_second [] ys z h = h
  merge_holds_second (x ∷ xs) ys z h = put_holds_rest x (merge xs ys) z (merge_holds_second xs ys z h)

  pub merge_holds_only : (xs ys : List (ℕ × E)) (z : ℕ × E) → Contains (merge xs ys) z → Contains xs z ⊎ Contains ys z
  merge_holds_only [] ys z h = inr h
  merge_holds_only (x ∷ xs) ys z h =
      ⊎_elim
      (λ is. inl (subst (Contains (x ∷ xs)) is (holds_here x xs)))
      (λ later. ⊎_elim (λ a. inl (holds_there x xs z a)) (λ b. inr b) (merge_holds_only xs ys z later))
      (put_holds_only x (merge xs ys) z h)

  pub merged_end : {P : Type 0} (f : P → List (ℕ × E)) (xs : List (ℕ × E)) (ps : List P) → length ps ≡ 0 → merged xs (map f ps) ≡ xs
  merged_end f xs [] none = refl
  merged_end f xs (p ∷ ps) none = absurd (omega arith)

-- Each step keeps the running rule.
use Rattle.std.proofs.Common.{◌≡◌, ◌≢◌, ◌⊎◌, ℕ, zero, suc, ◌+◌, ◌-◌, ◌%◌, ◌<◌, ◌≤◌, Bool, true, false, true≢false, List, [], ◌∷◌, ◌++◌, set, refl, sym, ap, ◌∙◌, subst, ⊎_elim, inl, inr, arith}
use Rattle.std.specs.Prelude.{◌==◌, ◌||◌, ◌&&◌, nat_le, nat_lt, ◌^◌, cond, max, slice_index, All, map, fold, sum_by}
use Rattle.std.proofs.lemmas.List.Sums.{sum_by-append, sum_by_push, fold-append}
use Rattle.std.proofs.lemmas.List.Elements.{All-append, All-cons, All-push, All-nil, All-tail, All-map, All-weaker}
use Rattle.std.proofs.lemmas.Bool.Decides.{nat_tests}
use mathlib.Core.Option.{some, none, some-ne-none, some-injective}
use native.Mathlib.Decide.{dec_le, ℕ_discrete}
use prog.Atomic.{either}
use lib.ListN.{get_elem?}
use Rattle.atomic_table.specs.Table.{Me, Act, keeps, step, stepped, Valid, carried_after, Allows, Splits, Joins, opening, Final, Seen}
use Rattle.atomic_table.proofs.Lists.{at_set, at_snoc, exchanged}
use Rattle.seq_word.specs.declared.looks.Look.{Look}
use Rattle.seq_word.specs.declared.looks.Look.TheVariants as saw
use Rattle.seq_word.specs.declared.rule.View.{View}
use Rattle.seq_word.specs.Word.{IsWord, seq_of}
use Rattle.seq_word.specs.Rule.{times, once_below, passed_over, gone, drawn_here, IsReached, HasReached, IsEndOf, IsOver, IsPast, IsWithin, Fits, Stands, Ruled, owes_above, IsPromised, owed_behind, next_above, above_last, nobody, first_keeper, without_parts, first_drawer, part_of, keeping, split_off, owing, promise_of, mark_of, draws_of, watch_of, counters_of, moves_of, both, seeing, drawing, publishing, lifting, advancing, forgetting, counting, IsLastSeen, SeesMark, SeesNext, Draws, Publishes, Lifts, Advances, Bounds, Counts, DrawnOnce}
use Rattle.seq_word.proofs.Sums.{sum_by_at, share_of_one, share_of_two, share_alone, part_of-one, part_of-none, once_below-le, once_below_more, once_below-max, once_below-none, once_below-above, once_below-behind, once_below-greater, same-one, times_contains}

-- the last two of a list
two_last : {X : Type 0} (P : X → Type 0) (xs : List X) (a b : X) → All P (xs ++ a ∷ b ∷ []) → P a × P b
two_last P [] a b h = (h 0 a (omega arith), h 1 a (omega arith))
two_last P (x ∷ xs) a b h = two_last P xs a b (All-tail P x (xs ++ a ∷ b ∷ []) h)

-- what holds of all of two lists, holds of all of each
pub all_of_both : {X : Type 0} (P : X → Type 0) (xs ys : List X) → All P (xs ++ ys) → All P xs × All P ys
all_of_both P [] ys h = (All-nil P, h)
all_of_both P (x ∷ xs) ys h =
    let rest = all_of_both P xs ys (All-tail P x (xs ++ ys) h) in
    (All-cons P x xs (h 0 x (omega arith)) rest.0, rest.1)

within_later : (n m n' m' : ℕ) → n ≤ n' → m ≤ m' → (x : Look) → IsWithin n m x → IsWithin n' m' x
within_later n m n' m' up up' (saw.Mark x) h = let le : x ≤ m = h in omega arith
within_later n m n' m' up up' (saw.Counter x) h = let le : x ≤ n = h in omega arith

-- what fits stays right where the words rise
fits_later : (o n m k n' m' k' by : ℕ) (v : View) → Fits o n m k by v → n ≤ n' → m ≤ m' → (by ≡ k → (by ≡ k') × (m ≡ m')) → Fits o n' m' k' by v
fits_later o n m k n' m' k' by v h up up' keeper = record {
  since = h.since;
  drawn = λ i d l. omega (arith, h.drawn i d l);
  raised = λ i d l. omega (arith, h.raised i d l);
  counters = λ i d l. omega (arith, h.counters i d l);
  noted = λ i d l. omega (arith, h.noted i d l);
  looks = All-weaker (IsWithin n m) (IsWithin n' m') (within_later n m n' m' up up') v.looks h.looks;
  known = All-weaker (IsWithin n m) (IsWithin n' m') (within_later n m n' m' up up') v.known h.known;
  informed = λ i d l. omega (arith, h.informed i d l);
  advances = λ i d l. omega (arith, h.advances i d l);
  keeps = λ is. let was = h.keeps is in let now = keeper was.0 in (now.0, was.1 ∙ now.1);
  near = λ is still. let now = keeper (h.keeps is).0 in omega (arith, h.near is still, now.1);
  owes = omega (arith, h.owes);
  promised = omega (arith, h.promised);
  marked = omega (arith, h.marked);
  plain = h.plain;
  idle = h.idle;
  free = h.free;
}

abbrev parts_of : View → ℕ
parts_of v = v.parts

-- what was reached stays so where no draw is forgotten
reached_later : (o : ℕ) (views views' : List View) (word : ℕ) → ((x : ℕ) → sum_by (drawn_here x) views ≤ sum_by (drawn_here x) views') → IsReached o views word → IsReached o views' word
reached_later o views views' word more h = λ end. ⊎_elim inl (λ drawn. inr (omega (arith, drawn, more (word - 1)))) (h end)

look_later : (o : ℕ) (views views' : List View) → ((x : ℕ) → sum_by (drawn_here x) views ≤ sum_by (drawn_here x) views') → (look : Look) → HasReached o views look → HasReached o views' look
look_later o views views' more (saw.Mark x) h = tt
look_later o views views' more (saw.Counter x) h = reached_later o views views' x more h

looks_later : (o : ℕ) (views views' : List View) → ((x : ℕ) → sum_by (drawn_here x) views ≤ sum_by (drawn_here x) views') → (xs : List Look) → All (HasReached o views) xs → All (HasReached o views') xs
looks_later o views views' more xs h = All-weaker (HasReached o views) (HasReached o views') (look_later o views views' more) xs h

more_drawn : (views : List View) (id : ℕ) (v w : View) → get_elem? views id ≡ some v → ((x : ℕ) → times x v.drawn ≤ times x w.drawn) → (x : ℕ) → sum_by (drawn_here x) views ≤ sum_by (drawn_here x) (set views id w)
more_drawn views id v w at grows x = omega (arith, sum_by_at (drawn_here x) views id v w at, grows x)

-- what was promised stays so where the counter rises, or as much is owed
promised_later : (n n' : ℕ) (views views' : List View) (word : ℕ) → word ≤ n + 1 → n ≤ n' → (n' ≡ n → 1 ≤ sum_by (owes_above n) views → 1 ≤ sum_by (owes_above n) views') → IsPromised n views word → IsPromised n' views' word
promised_later n n' views views' word most up pays h = ⊎_elim (λ reached. inl (omega (arith, reached, up))) (λ owed. rises owed (ℕ_discrete n' n)) h where
  rises : 1 ≤ sum_by (owes_above n) views → Dec (n' ≡ n) → IsPromised n' views' word
  rises owed (yes same) = inr (subst (λ c. 1 ≤ sum_by (owes_above c) views') (sym same) (pays same owed))
  rises owed (no more) = inl (omega (arith, most, up, more))

-- so where one seat's view changes
still_owed : (n : ℕ) (views : List View) (id : ℕ) (v w : View) → get_elem? views id ≡ some v → owes_above n v ≤ owes_above n w → 1 ≤ sum_by (owes_above n) views → 1 ≤ sum_by (owes_above n) (set views id w)
still_owed n views id v w at pays owed = omega (arith, sum_by_at (owes_above n) views id v w at, pays, owed)

-- One view changes, and the words rise or stay
moves : (o n m k n' m' k' : ℕ) (views : List View) (id : ℕ) (v w : View) → Stands o n m k views → get_elem? views id ≡ some v
    → IsWord n' → IsWord m' → n ≤ n' → m ≤ m' → n' ≤ m' → ((j : ℕ) → j ≢ id → j ≡ k → (j ≡ k') × (m ≡ m'))
    → ((x : ℕ) → gone x w + once_below x n ≡ gone x v + once_below x n')
    → w.draws ≡ v.draws → w.parts ≡ v.parts
    → (n' ≡ n → owes_above n v ≤ owes_above n w) → (w.promised ≡ v.promised) ⊎ (w.promised ≤ n')
    → ((x : ℕ) → times x v.drawn ≤ times x w.drawn) → IsReached o (set views id w) n' → All (HasReached o (set views id w)) w.looks
    → Fits o n' m' k' id w → Stands o n' m' k' (set views id w)
moves o n m k n' m' k' views id v w h at nw mw up up' order keeper goes same_kind same_parts pays own grows reached looked fits = record {
  counter_word = nw;
  mark_word = mw;
  in_order = order;
  opening = omega (arith, h.opening);
  once = λ x. omega (arith, sum_by_at (gone x) views id v w at, h.once x, goes x);
  each = λ j u e.
      ⊎_elim
      (λ (t : (j ≡ id) × (w ≡ u)). subst (λ (y : ℕ × View). Fits o n' m' k' y.0 y.1) (λ i. (sym t.0 i, t.1 i)) fits)
      (λ (t : (j ≢ id) × (get_elem? views j ≡ some u)). fits_later o n m k n' m' k' j u (h.each j u t.1) up up' (keeper j t.0))
      (at_set views id j w u e);
  promises = λ j u e.
      ⊎_elim
      (λ (t : (j ≡ id) × (w ≡ u)). subst (λ (y : View). IsPromised n' (set views id w) y.promised) t.1
      (⊎_elim (λ same. subst (IsPromised n' (set views id w)) (sym same) (kept v (h.each id v at) (h.promises id v at))) (λ there. inl there) own))
      (λ (t : (j ≢ id) × (get_elem? views j ≡ some u)). kept u (h.each j u t.1) (h.promises j u t.1))
      (at_set views id j w u e);
  reached = reached;
  found = λ j u e.
      ⊎_elim
      (λ (t : (j ≡ id) × (w ≡ u)). subst (λ (y : View). All (HasReached o (set views id w)) y.looks) t.1 looked)
      (λ (t : (j ≢ id) × (get_elem? views j ≡ some u)). looks_later o views (set views id w) (more_drawn views id v w at grows) u.looks (h.found j u t.1))
      (at_set views id j w u e);
  parts = omega (arith, h.parts, total);
  lost = λ j u e is empty.
      let short : sum_by parts_of views < 1024 =
      ⊎_elim
      (λ (t : (j ≡ id) × (w ≡ u)). h.lost id v at (sym same_kind ∙ ap (λ y. y.draws) t.1 ∙ is) (sym same_parts ∙ ap (λ y. y.parts) t.1 ∙ empty))
      (λ (t : (j ≢ id) × (get_elem? views j ≡ some u)). h.lost j u t.1 is empty)
      (at_set views id j w u e) in
      omega (arith, short, total);
}
  where
    total : sum_by parts_of (set views id w) ≡ sum_by parts_of views
    total = omega (arith, sum_by_at parts_of views id v w at, same_parts)

    kept : {by : ℕ} (u : View) → Fits o n m k by u → IsPromised n views u.promised → IsPromised n' (set views id w) u.promised
    kept u its was = promised_later n n' views (set views id w) u.promised its.promised up (λ same. still_owed n views id v w at (pays same)) was

module _ {S : Type 0} (o slots id : ℕ) (me : Me S View) (f : ℕ → ℕ) (then : ℕ → Me S View → Type 0) where
  -- a step on the counter
  goes_counter : ((n m k : ℕ) (views : List View) → Stands o n m k views → get_elem? views id ≡ some me.0 → (w : View) × Stands o (f n) m k (set views id w) × then n (w, me.1))
      → Allows (Ruled o) slots id me 0 f then
  goes_counter go s h len at fits =
      let g = go h.next h.mark h.keeper s.views h.stands at in
      let P : List ℕ → Type 0 = λ ws. (w : View) × (a : Act S) × Valid s.homes me.1 a × Ruled o (stepped (record { words = ws; homes = s.homes; views = s.views }) 0 (f (slice_index ws 0)) id me.1 w a) × then (slice_index ws 0) (w, carried_after me.1 a) in
      subst P (sym h.words) (g.0, keeps, tt, record { next = f h.next; mark = h.mark; keeper = h.keeper; words = refl; stands = g.1 }, g.2)

  -- a step on the mark
  goes_mark : ((n m k : ℕ) (views : List View) → Stands o n m k views → get_elem? views id ≡ some me.0 → (w : View) × Stands o n (f m) k (set views id w) × then m (w, me.1))
      → Allows (Ruled o) slots id me 1 f then
  goes_mark go s h len at fits =
      let g = go h.next h.mark h.keeper s.views h.stands at in
      let P : List ℕ → Type 0 = λ ws. (w : View) × (a : Act S) × Valid s.homes me.1 a × Ruled o (stepped (record { words = ws; homes = s.homes; views = s.views }) 1 (f (slice_index ws 1)) id me.1 w a) × then (slice_index ws 1) (w, carried_after me.1 a) in
      subst P (sym h.words) (g.0, keeps, tt, record { next = h.next; mark = f h.mark; keeper = h.keeper; words = refl; stands = g.1 }, g.2)

-- a look leaves no more owed
owed_less : (look : Look) (owes : ℕ) → owed_behind look owes ≤ owes
owed_less (saw.Mark x) owes = omega arith
owed_less (saw.Counter x) owes = grind (arith, nat_tests)

owed_none : (look : Look) (owes : ℕ) → owes ≡ 0 → owed_behind look owes ≡ 0
owed_none look owes e = omega (arith, owed_less look owes, e)

-- nor less, where the counter isn't above that
owed_still : (n m : ℕ) (look : Look) (owes : ℕ) → IsWithin n m look → once_below n owes ≤ once_below n (owed_behind look owes)
owed_still n m (saw.Mark x) owes within = omega arith
owed_still n m (saw.Counter x) owes within = let le : x ≤ n = within in once_below-behind x n owes le

fits_seeing : (o n m k by : ℕ) (v : View) (look : Look) → IsWithin n m look → Fits o n m k by v → Fits o n m k by (seeing v look)
fits_seeing o n m k by v look within fits = record {
  since = fits.since;
  drawn = fits.drawn;
  raised = fits.raised;
  counters = fits.counters;
  noted = fits.noted;
  looks = All-push (IsWithin n m) v.looks look fits.looks within;
  known = fits.known;
  informed = fits.informed;
  advances = fits.advances;
  keeps = fits.keeps;
  near = fits.near;
  owes = omega (arith, fits.owes, owed_less look v.owes);
  promised = fits.promised;
  marked = fits.marked;
  plain = fits.plain;
  idle = fits.idle;
  free = λ not. owed_none look v.owes (fits.free not);
}

-- what the counter is is past what looks found there
past : (n m : ℕ) (look : Look) → IsWithin n m look → IsPast n look
past n m (saw.Mark x) h = tt
past n m (saw.Counter x) h = h

over : (o n m k by : ℕ) (v : View) → Fits o n m k by v → IsOver n v
over o n m k by v fits = record {
  drawn = fits.drawn;
  noted = fits.noted;
  looks = All-weaker (IsWithin n m) (IsPast n) (past n m) v.looks fits.looks;
  known = All-weaker (IsWithin n m) (IsPast n) (past n m) v.known fits.known;
  informed = fits.informed;
  owes = fits.owes;
}

-- a look at either word
looks : (o n m k : ℕ) (views : List View) (id : ℕ) (v : View) (look : Look) → Stands o n m k views → get_elem? views id ≡ some v → IsWithin n m look → HasReached o views look → Stands o n m k (set views id (seeing v look))
looks o n m k views id v look h at within seen =
    let grows : (x : ℕ) → times x v.drawn ≤ times x (seeing v look).drawn = λ x. omega arith in
    let more = more_drawn views id v (seeing v look) at grows in
    moves o n m k n m k views id v (seeing v look) h at h.counter_word h.mark_word (omega arith) (omega arith) h.in_order (λ j apart e. (e, refl)) (λ x. refl) refl refl
    (λ _. owed_still n m look v.owes within)
    (inl refl)
    grows
    (reached_later o views (set views id (seeing v look)) n more h.reached)
    (looks_later o views (set views id (seeing v look)) more (v.looks ++ look ∷ []) (All-push (HasReached o views) v.looks look (h.found id v at) seen))
    (fits_seeing o n m k id v look within (h.each id v at))

pub sees_mark : {S : Type 0} (o slots id : ℕ) (me : Me S View) → Allows (Ruled o) slots id me 1 (λ n. n) (SeesMark (step slots 1 0 0 none) me)
sees_mark {S} o slots id me =
    goes_mark o slots id me (λ n. n) (SeesMark (step slots 1 0 0 none) me)
    (λ n m k views h at. let same : m ≤ m = omega arith in (seeing me.0 (saw.Mark m), looks o n m k views id me.0 (saw.Mark m) h at same tt, (refl, (h.each id me.0 at).marked)))

pub sees_next : {S : Type 0} (o slots id : ℕ) (me : Me S View) → Allows (Ruled o) slots id me 0 (λ n. n) (SeesNext (step slots 0 0 0 none) me)
sees_next {S} o slots id me =
    goes_counter o slots id me (λ n. n) (SeesNext (step slots 0 0 0 none) me)
    (λ n m k views h at. let same : n ≤ n = omega arith in (seeing me.0 (saw.Counter n), looks o n m k views id me.0 (saw.Counter n) h at same h.reached, (h.counter_word, refl, over o n m k id me.0 (h.each id me.0 at))))

-- the number n is drawn, and the counter raised to n + 1
drawn_now : (o n m k : ℕ) (views : List View) (id : ℕ) (v : View) → Stands o n m k views → get_elem? views id ≡ some v → v.draws ≡ true → n < m → n % 2 ^ 25 < 2 ^ 24 → Stands o (n + 1) m k (set views id (drawing v n (n + 1)))
drawn_now o n m k views id v h at is below unspent =
    let fits = h.each id v at in
    let later = fits_later o n m k (n + 1) m k id v fits (omega arith) (omega arith) (λ e. (e, refl)) in
    let pushed : (x : ℕ) → times x (v.drawn ++ n ∷ []) ≡ times x v.drawn + cond (n == x) 1 0 = λ x. sum_by_push (λ (y : ℕ). cond (y == x) 1 0) v.drawn n in
    let grows : (x : ℕ) → times x v.drawn ≤ times x (drawing v n (n + 1)).drawn = λ x. omega (arith, pushed x) in
    let views' = set views id (drawing v n (n + 1)) in
    let before : n ≡ n + 1 - 1 = omega arith in
    moves o n m k (n + 1) m k views id v (drawing v n (n + 1)) h at (omega (arith, h.counter_word), omega (arith, h.counter_word)) h.mark_word (omega arith) (omega arith) (omega arith) (λ j apart e. (e, refl))
    (λ x. omega (arith, sum_by_push (λ (y : ℕ). cond (y == x) 1 0) v.drawn n, once_below_more x n))
    refl
    refl
    (λ same. absurd (omega (arith, same)))
    (inl refl)
    grows
    (λ _. inr (subst (λ k. 1 ≤ sum_by (drawn_here k) views') before (omega (arith, sum_by_at (drawn_here n) views id v (drawing v n (n + 1)) at, pushed n, same-one n))))
    (looks_later o views views' (more_drawn views id v (drawing v n (n + 1)) at grows) v.looks (h.found id v at))
    (record {
      since = All-push (λ x. o ≤ x) v.drawn n fits.since h.opening;
      drawn = All-push (λ x. x < n + 1) v.drawn n later.drawn (omega arith);
      raised = All-push (λ x. x ≤ n + 1) v.raised (n + 1) later.raised (omega arith);
      counters = later.counters;
      noted = later.noted;
      looks = later.looks;
      known = later.known;
      informed = later.informed;
      advances = later.advances;
      keeps = later.keeps;
      near = later.near;
      owes = omega arith;
      promised = later.promised;
      marked = later.marked;
      plain = later.plain;
      idle = λ off. absurd (true≢false (sym is ∙ off));
      free = λ _. refl;
    })

-- a draw from a number that the seat saw below the mark
pub draws : {S : Type 0} (o slots id : ℕ) (me : Me S View) (earlier : List Look) (old mark : ℕ) → me.0.draws ≡ true → me.0.looks ≡ earlier ++ saw.Mark mark ∷ saw.Counter old ∷ [] → old < mark → old % 2 ^ 25 < 2 ^ 24
    → Allows (Ruled o) slots id me 0 (λ n. either (n == old) (old + 1) n) (Draws (step slots 0 old (old + 1) none) me)
draws {S} o slots id me earlier old mark is last below unspent =
    goes_counter o slots id me (λ n. either (n == old) (old + 1) n) (Draws (step slots 0 old (old + 1) none) me)
    (λ n m k views h at.
    let v = me.0 in
    let fits = h.each id v at in
    let seen = two_last (IsWithin n m) earlier (saw.Mark mark) (saw.Counter old) (subst (All (IsWithin n m)) last fits.looks) in
    let marked : mark ≤ m = seen.0 in
    let counted : old ≤ n = seen.1 in
    let from : IsLastSeen old v = record { earlier = earlier; mark = mark; looks = last; below = below } in
    let Goes : ℕ → Type 0 = λ n'. (w : View) × Stands o n' m k (set views id w) × Draws {S = S} (step slots 0 old (old + 1) none) me n (w, me.1) in
    exchanged n old (old + 1) Goes
    (λ e.
    let P : ℕ → Type 0 = λ n'. Stands o (n' + 1) m k (set views id (drawing v n (n' + 1))) in
    (drawing v n (old + 1), subst P e (drawn_now o n m k views id v h at is (omega arith) (subst (λ y. y % 2 ^ 25 < 2 ^ 24) (sym e) unspent)), (from, refl, (λ _. (refl, fits.drawn, fits.noted)), (λ other. absurd (other e)))))
    (λ other.
    (seeing v (saw.Counter n), looks o n m k views id v (saw.Counter n) h at (same n) h.reached, (from, refl, (λ e. absurd (other e)), (λ _. (refl, omega (arith, counted, other)))))))
  where
    same : (n : ℕ) → n ≤ n
    same n = omega arith

-- the keeper's mark goes up, and it is still or moves then; where it is still the mark is near what it was promised
marks : (o n m k : ℕ) (views : List View) (id : ℕ) (v : View) (mark : ℕ) (moving : Bool) → Stands o n m k views → get_elem? views id ≡ some v → v.keeps ≡ true → v.mark ≤ mark → IsWord mark
    → (moving ≡ false → mark ≤ v.promised + 255) → Stands o n mark k (set views id (record v { mark = mark; lifted = moving }))
marks o n m k views id v mark moving h at is up word near =
    let fits = h.each id v at in
    let keeper = fits.keeps is in
    let rises : m ≤ mark = omega (arith, keeper.1) in
    let w : View = record v { mark = mark; lifted = moving } in
    let grows : (x : ℕ) → times x v.drawn ≤ times x w.drawn = λ x. omega arith in
    let more = more_drawn views id v w at grows in
    moves o n m k n mark k views id v w h at h.counter_word word (omega arith) rises (omega (arith, h.in_order)) (λ j apart e. absurd (apart (e ∙ sym keeper.0))) (λ x. refl) refl refl
    (λ _. omega arith)
    (inl refl)
    grows
    (reached_later o views (set views id w) n more h.reached)
    (looks_later o views (set views id w) more v.looks (h.found id v at))
    (record {
      since = fits.since;
      drawn = fits.drawn;
      raised = fits.raised;
      counters = fits.counters;
      noted = fits.noted;
      looks = All-weaker (IsWithin n m) (IsWithin n mark) (within_later n m n mark (omega arith) rises) v.looks fits.looks;
      known = All-weaker (IsWithin n m) (IsWithin n mark) (within_later n m n mark (omega arith) rises) v.known fits.known;
      informed = fits.informed;
      advances = fits.advances;
      keeps = λ _. (keeper.0, refl);
      near = λ _ still. near still;
      owes = fits.owes;
      promised = fits.promised;
      marked = omega (arith, fits.marked, rises);
      plain = fits.plain;
      idle = fits.idle;
      free = fits.free;
    })

-- the keeper publishes a higher mark, which is near what it was promised
pub publishes : {S : Type 0} (o slots id : ℕ) (me : Me S View) (mark : ℕ) → me.0.keeps ≡ true → me.0.mark ≤ mark → IsWord mark → mark ≤ me.0.promised + 255
    → Allows (Ruled o) slots id me 1 (λ _. mark) (λ _. Publishes (step slots 1 mark 0 none) me mark)
publishes {S} o slots id me mark is up word near =
    goes_mark o slots id me (λ _. mark) (λ _. Publishes (step slots 1 mark 0 none) me mark)
    (λ n m k views h at.
    let fits = h.each id me.0 at in
    (publishing me.0 mark, marks o n m k views id me.0 mark me.0.lifted h at is up word (λ _. near), (refl, omega (arith, fits.promised, h.in_order, (fits.keeps is).1))))

-- the keeper's mark goes to where the counter is to go to
pub lifts : {S : Type 0} (o slots id : ℕ) (me : Me S View) (mark : ℕ) → me.0.keeps ≡ true → me.0.mark ≤ mark → IsWord mark
    → Allows (Ruled o) slots id me 1 (λ _. mark) (λ _. Lifts (step slots 1 mark 0 none) me mark)
lifts {S} o slots id me mark is up word =
    goes_mark o slots id me (λ _. mark) (λ _. Lifts (step slots 1 mark 0 none) me mark)
    (λ n m k views h at. (lifting me.0 mark, marks o n m k views id me.0 mark true h at is up word (λ e. absurd (true≢false e)), refl))

-- the keeper moves the counter up, to its mark
pub advances : {S : Type 0} (o slots id : ℕ) (me : Me S View) (to : ℕ) → me.0.keeps ≡ true → me.0.mark ≡ to → IsWord to → seq_of to ≡ 0
    → Allows (Ruled o) slots id me 0 (λ n. max n to) (Advances (step slots 0 to 0 none) me)
advances {S} o slots id me to is within word first =
    goes_counter o slots id me (λ n. max n to) (Advances (step slots 0 to 0 none) me)
    (λ n m k views h at.
    let v = me.0 in
    let fits = h.each id v at in
    let keeper = fits.keeps is in
    let n' = max n to in
    let up : n ≤ n' = omega arith in
    let later = fits_later o n m k n' m k id v fits up (omega arith) (λ e. (e, refl)) in (
      advancing v n to,
      moves o n m k n' m k views id v (advancing v n to) h at (greater_word n to h.counter_word word) h.mark_word up (omega arith) (omega (arith, h.in_order, keeper.1)) (λ j apart e. (e, refl))
          (λ x. omega (arith, sum_by_push (λ (a : ℕ × ℕ). cond (nat_le a.0 x && nat_lt x a.1) 1 0) v.advances (n, to), once_below-max x n to))
          refl
          refl
          (λ _. omega arith)
          (inr (omega arith))
          (grows v n)
          (⊎_elim
          (λ (e : n' ≡ n). subst (IsReached o (set views id (advancing v n to))) (sym e) (reached_later o views (set views id (advancing v n to)) n (more_drawn views id v (advancing v n to) at (grows v n)) h.reached))
          (λ (e : n' ≡ to). λ end. absurd (omega (arith, end, first, e)))
          (which n to (dec_le to n)))
          (looks_later o views (set views id (advancing v n to)) (more_drawn views id v (advancing v n to) at (grows v n)) v.looks (h.found id v at))
          (record {
            since = later.since;
            drawn = later.drawn;
            raised = later.raised;
            counters = later.counters;
            noted = later.noted;
            looks = later.looks;
            known = later.known;
            informed = later.informed;
            advances = All-push (λ a. a.1 ≤ n') v.advances (n, to) later.advances (omega arith);
            keeps = later.keeps;
            near = λ _ _. omega (arith, keeper.1, within);
            owes = later.owes;
            promised = omega arith;
            marked = later.marked;
            plain = λ not. absurd (true≢false (sym is ∙ not));
            idle = later.idle;
            free = later.free;
          }),
      refl,
    ))
  where
    which : (n to : ℕ) → Dec (to ≤ n) → (max n to ≡ n) ⊎ (max n to ≡ to)
    which n to (yes le) = inl (omega arith)
    which n to (no gt) = inr (omega arith)

    greater_word : (n to : ℕ) → IsWord n → IsWord to → IsWord (max n to)
    greater_word n to a b = ⊎_elim (λ e. subst IsWord (sym e) a) (λ e. subst IsWord (sym e) b) (which n to (dec_le to n))

    grows : (v : View) (n : ℕ) (x : ℕ) → times x v.drawn ≤ times x (advancing v n to).drawn
    grows v n x = omega arith

-- what is over all that a seat knows stays so where it is higher
past_above : (n x : ℕ) → n ≤ x → (look : Look) → IsPast n look → IsPast x look
past_above n x up (saw.Mark y) h = tt
past_above n x up (saw.Counter y) h = let le : y ≤ n = h in omega arith

over_above : (n x : ℕ) (v : View) → n ≤ x → IsOver n v → IsOver x v
over_above n x v up h = record {
  drawn = λ i d l. omega (arith, h.drawn i d l, up);
  noted = λ i d l. omega (arith, h.noted i d l, up);
  looks = All-weaker (IsPast n) (IsPast x) (past_above n x up) v.looks h.looks;
  known = All-weaker (IsPast n) (IsPast x) (past_above n x up) v.known h.known;
  informed = λ i d l. omega (arith, h.informed i d l, up);
  owes = omega (arith, h.owes, up);
}

-- what a seat was told is forgotten, and these words were found in the counter
fits_with : (o n m k by : ℕ) (v : View) (counters : List ℕ) → All (λ x. x ≤ n) counters → Fits o n m k by v → Fits o n m k by (record v { noted = []; known = []; informed = []; counters = counters })
fits_with o n m k by v counters found fits = record {
  since = fits.since;
  drawn = fits.drawn;
  raised = fits.raised;
  counters = found;
  noted = All-nil (λ x. x < n);
  looks = fits.looks;
  known = All-nil (IsWithin n m);
  informed = All-nil (λ x. x ≤ n);
  advances = fits.advances;
  keeps = fits.keeps;
  near = fits.near;
  owes = fits.owes;
  promised = fits.promised;
  marked = fits.marked;
  plain = fits.plain;
  idle = fits.idle;
  free = fits.free;
}

forgets : (o n m k : ℕ) (views : List View) (id : ℕ) (v : View) (counters : List ℕ) → Stands o n m k views → get_elem? views id ≡ some v → All (λ x. x ≤ n) counters
    → Stands o n m k (set views id (record v { noted = []; known = []; informed = []; counters = counters }))
forgets o n m k views id v counters h at found =
    let w : View = record v { noted = []; known = []; informed = []; counters = counters } in
    let grows : (x : ℕ) → times x v.drawn ≤ times x w.drawn = λ x. omega arith in
    let more = more_drawn views id v w at grows in
    moves o n m k n m k views id v w h at h.counter_word h.mark_word (omega arith) (omega arith) h.in_order (λ j apart e. (e, refl)) (λ x. refl) refl refl
    (λ _. omega arith)
    (inl refl)
    grows
    (reached_later o views (set views id w) n more h.reached)
    (looks_later o views (set views id w) more v.looks (h.found id v at))
    (fits_with o n m k id v counters found (h.each id v at))

-- the keeper is told of the draws: the counter is over all that, and not above the mark
pub bounds : {S : Type 0} (o slots id : ℕ) (me : Me S View) → me.0.keeps ≡ true → Allows (Ruled o) slots id me 0 (λ n. n) (Bounds (step slots 0 0 0 none) me)
bounds {S} o slots id me is =
    goes_counter o slots id me (λ n. n) (Bounds (step slots 0 0 0 none) me)
    (λ n m k views h at.
    let fits = h.each id me.0 at in (
      forgetting me.0,
      forgets o n m k views id me.0 me.0.counters h at fits.counters,
      (refl, over_above n me.0.mark me.0 (omega (arith, h.in_order, (fits.keeps is).1)) (over o n m k id me.0 fits)),
    ))

-- a seat that watches the counter is told of the draws: the counter is over all that
pub counts : {S : Type 0} (o slots id : ℕ) (me : Me S View) → Allows (Ruled o) slots id me 0 (λ n. n) (Counts (step slots 0 0 0 none) me)
counts {S} o slots id me =
    goes_counter o slots id me (λ n. n) (Counts (step slots 0 0 0 none) me)
    (λ n m k views h at.
    let fits = h.each id me.0 at in (
      counting me.0 n,
      forgets o n m k views id me.0 (me.0.counters ++ n ∷ []) h at (All-push (λ x. x ≤ n) me.0.counters n fits.counters (omega arith)),
      (refl, over o n m k id me.0 fits, fits.counters),
    ))

off : false ≡ true → ⊥
off e = true≢false (sym e)

fits_nobody : (o n m k by : ℕ) → Fits o n m k by nobody
fits_nobody o n m k by = record {
  since = All-nil (λ x. o ≤ x);
  drawn = All-nil (λ x. x < n);
  raised = All-nil (λ x. x ≤ n);
  counters = All-nil (λ x. x ≤ n);
  noted = All-nil (λ x. x < n);
  looks = All-nil (IsWithin n m);
  known = All-nil (IsWithin n m);
  informed = All-nil (λ x. x ≤ n);
  advances = All-nil (λ a. a.1 ≤ n);
  keeps = λ e. absurd (off e);
  near = λ e. absurd (off e);
  owes = omega arith;
  promised = omega arith;
  marked = omega arith;
  plain = λ _. refl;
  idle = λ _. refl;
  free = λ _. refl;
}

-- the words at the start, with the keeper's seat
pub begins : {S : Type 0} (first : ℕ) → IsWord first → Ruled first (opening {S = S} (first ∷ first ∷ []) [] (first_keeper first))
begins {S} first word = record {
  next = first;
  mark = first;
  keeper = 0;
  words = refl;
  stands = record { counter_word = word; mark_word = word; in_order = omega arith; opening = omega arith; once = λ x. omega arith; each = first_only; promises = first_promise; reached = λ _. inl refl; found = none_seen; parts = omega arith; lost = none_draws };
}
  where
    keeper_fits : Fits first first first 0 0 (first_keeper first)
    keeper_fits = let none = fits_nobody first first first 0 0 in record {
      since = none.since;
      drawn = none.drawn;
      raised = none.raised;
      counters = none.counters;
      noted = none.noted;
      looks = none.looks;
      known = none.known;
      informed = none.informed;
      advances = none.advances;
      keeps = λ _. (refl, refl);
      near = λ _ _. omega arith;
      owes = none.owes;
      promised = omega arith;
      marked = none.marked;
      plain = λ _. refl;
      idle = λ _. refl;
      free = λ _. refl;
    }

    first_only : (by : ℕ) (v : View) → get_elem? (first_keeper first ∷ []) by ≡ some v → Fits first first first 0 by v
    first_only zero v e = subst (Fits first first first 0 0) (some-injective _ _ e) keeper_fits
    first_only (suc by) v e = absurd (some-ne-none v (sym e))

    first_promise : (by : ℕ) (v : View) → get_elem? (first_keeper first ∷ []) by ≡ some v → IsPromised first (first_keeper first ∷ []) v.promised
    first_promise zero v e = subst (λ (u : View). IsPromised first (first_keeper first ∷ []) u.promised) (some-injective _ _ e) (inl (omega arith))
    first_promise (suc by) v e = absurd (some-ne-none v (sym e))

    none_seen : (by : ℕ) (v : View) → get_elem? (first_keeper first ∷ []) by ≡ some v → All (HasReached first (first_keeper first ∷ [])) v.looks
    none_seen zero v e = subst (λ (u : View). All (HasReached first (first_keeper first ∷ [])) u.looks) (some-injective _ _ e) (All-nil (HasReached first (first_keeper first ∷ [])))
    none_seen (suc by) v e = absurd (some-ne-none v (sym e))

    none_draws : (by : ℕ) (v : View) → get_elem? (first_keeper first ∷ []) by ≡ some v → v.draws ≡ true → v.parts ≡ 0 → sum_by parts_of (first_keeper first ∷ []) < 1024
    none_draws zero v e is empty = let only : first_keeper first ≡ v = some-injective _ _ e in absurd (off (ap (λ u. u.draws) only ∙ is))
    none_draws (suc by) v e is empty = absurd (some-ne-none v (sym e))

-- a seat is cut in two
cuts : (o n m k : ℕ) (views : List View) (id : ℕ) (v u w : View) → Stands o n m k views → get_elem? views id ≡ some v
    → ((x : ℕ) → gone x u + gone x w ≡ gone x v) → Fits o n m k id u → ((by : ℕ) → Fits o n m k by w)
    → u.drawn ≡ v.drawn → u.looks ≡ v.looks → w.looks ≡ []
    → v.owes ≤ u.owes → u.promised ≡ v.promised → w.promised ≤ max v.promised u.owes
    → u.parts + w.parts ≤ v.parts
    → (u.draws ≡ true → u.parts ≡ 0 → sum_by parts_of views + (u.parts + w.parts) < 1024 + v.parts)
    → (w.draws ≡ true → w.parts ≡ 0 → sum_by parts_of views + (u.parts + w.parts) < 1024 + v.parts)
    → Stands o n m k (set views id u ++ w ∷ [])
cuts o n m k views id v u w h at goes left_fits right_fits same_drawn same_looks no_looks more_owed same_promise promise within left_lost right_lost = record {
  counter_word = h.counter_word;
  mark_word = h.mark_word;
  in_order = h.in_order;
  opening = h.opening;
  once = λ x. omega (arith, sum_by_at (gone x) views id v u at, sum_by_push (gone x) (set views id u) w, goes x, h.once x);
  each = λ by z e.
      ⊎_elim
      (λ was. ⊎_elim
      (λ (t : (by ≡ id) × (u ≡ z)). subst (λ (y : ℕ × View). Fits o n m k y.0 y.1) (λ i. (sym t.0 i, t.1 i)) left_fits)
      (λ (t : (by ≢ id) × (get_elem? views by ≡ some z)). h.each by z t.1)
      (at_set views id by u z was))
      (λ new. subst (Fits o n m k by) new (right_fits by))
      (at_snoc (set views id u) w z by e);
  promises = λ by z e.
      ⊎_elim
      (λ was. ⊎_elim
      (λ (t : (by ≡ id) × (u ≡ z)). subst (λ (y : View). IsPromised n views' y.promised) t.1 (subst (IsPromised n views') (sym same_promise) mine))
      (λ (t : (by ≢ id) × (get_elem? views by ≡ some z)). kept z (h.each by z t.1) (h.promises by z t.1))
      (at_set views id by u z was))
      (λ new. subst (λ (y : View). IsPromised n views' y.promised) new theirs)
      (at_snoc (set views id u) w z by e);
  reached = reached_later o views (set views id u ++ w ∷ []) n more h.reached;
  found = λ by z e. looks_later o views (set views id u ++ w ∷ []) more z.looks
      (⊎_elim
      (λ was. ⊎_elim
      (λ (t : (by ≡ id) × (u ≡ z)). subst (λ (y : List Look). All (HasReached o views) y) (sym same_looks ∙ ap (λ y. y.looks) t.1) (h.found id v at))
      (λ (t : (by ≢ id) × (get_elem? views by ≡ some z)). h.found by z t.1)
      (at_set views id by u z was))
      (λ new. subst (λ (y : List Look). All (HasReached o views) y) (sym no_looks ∙ ap (λ y. y.looks) new) (All-nil (HasReached o views)))
      (at_snoc (set views id u) w z by e));
  parts = omega (arith, total, h.parts, within);
  lost = λ by z e is empty.
      let short : sum_by parts_of views + (u.parts + w.parts) < 1024 + v.parts =
      ⊎_elim
      (λ was. ⊎_elim
      (λ (t : (by ≡ id) × (u ≡ z)). left_lost (ap (λ y. y.draws) t.1 ∙ is) (ap (λ y. y.parts) t.1 ∙ empty))
      (λ (t : (by ≢ id) × (get_elem? views by ≡ some z)). omega (arith, h.lost by z t.1 is empty, within))
      (at_set views id by u z was))
      (λ new. right_lost (ap (λ y. y.draws) new ∙ is) (ap (λ y. y.parts) new ∙ empty))
      (at_snoc (set views id u) w z by e) in
      omega (arith, short, total);
}
  where
    more : (x : ℕ) → sum_by (drawn_here x) views ≤ sum_by (drawn_here x) (set views id u ++ w ∷ [])
    more x = omega (arith, sum_by_at (drawn_here x) views id v u at, sum_by_push (drawn_here x) (set views id u) w, ap (times x) same_drawn)

    views' : List View
    views' = set views id u ++ w ∷ []

    owed_sum : sum_by (owes_above n) views' + owes_above n v ≡ sum_by (owes_above n) views + owes_above n u + owes_above n w
    owed_sum = omega (arith, sum_by_at (owes_above n) views id v u at, sum_by_push (owes_above n) (set views id u) w)

    kept : {by : ℕ} (z : View) → Fits o n m k by z → IsPromised n views z.promised → IsPromised n views' z.promised
    kept z its was = promised_later n n views views' z.promised its.promised (omega arith) (λ _ owed. omega (arith, owed, owed_sum, once_below-greater n v.owes u.owes more_owed)) was

    mine : IsPromised n views' v.promised
    mine = kept v (h.each id v at) (h.promises id v at)

    owned : Dec (u.owes ≤ n) → IsPromised n views' (max v.promised u.owes)
    owned (yes reached) = ⊎_elim (λ there. inl (omega (arith, there, reached))) (λ owed. inr owed) mine
    owned (no above) = inr (omega (arith, owed_sum, once_below-above n u.owes (omega (arith, above)), sum_by_at (owes_above n) views id v u at, share_of_one (owes_above n) views id v at))

    theirs : IsPromised n views' w.promised
    theirs = ⊎_elim (λ there. inl (omega (arith, there, promise))) (λ owed. inr owed) (owned (dec_le u.owes n))

    total : sum_by parts_of (set views id u ++ w ∷ []) + v.parts ≡ sum_by parts_of views + (u.parts + w.parts)
    total = omega (arith, sum_by_at parts_of views id v u at, sum_by_push parts_of (set views id u) w)

-- a seat of a drawer, fresh but for what it notes
fits_drawer : (o n m k by : ℕ) (parts : ℕ) (noted : List ℕ) (known : List Look) → All (λ x. x < n) noted → All (IsWithin n m) known
    → Fits o n m k by (record nobody { draws = true; parts = parts; noted = noted; known = known })
fits_drawer o n m k by parts noted known below within =
    let none = fits_nobody o n m k by in
    record {
      since = none.since;
      drawn = none.drawn;
      raised = none.raised;
      counters = none.counters;
      noted = below;
      looks = none.looks;
      known = within;
      informed = none.informed;
      advances = none.advances;
      keeps = none.keeps;
      near = none.near;
      owes = none.owes;
      promised = none.promised;
      marked = none.marked;
      plain = λ _. refl;
      idle = λ _. refl;
      free = λ _. refl;
    }

-- a seat that was told of a promise, or of a mark, alone
fits_promise : (o n m k by promised marked : ℕ) → promised ≤ n + 1 → marked ≤ m → Fits o n m k by (record nobody { promised = promised; marked = marked })
fits_promise o n m k by promised marked most below =
    let none = fits_nobody o n m k by in
    record {
      since = none.since;
      drawn = none.drawn;
      raised = none.raised;
      counters = none.counters;
      noted = none.noted;
      looks = none.looks;
      known = none.known;
      informed = none.informed;
      advances = none.advances;
      keeps = none.keeps;
      near = λ e. absurd (off e);
      owes = none.owes;
      promised = most;
      marked = below;
      plain = none.plain;
      idle = none.idle;
      free = none.free;
    }

-- a seat that was told where the counter was moved to, alone
fits_told : (o n m k by : ℕ) (advances : List (ℕ × ℕ)) → All (λ (a : ℕ × ℕ). a.1 ≤ n) advances → Fits o n m k by (record nobody { informed = map (λ (a : ℕ × ℕ). a.1) advances })
fits_told o n m k by advances moved =
    let none = fits_nobody o n m k by in
    record {
      since = none.since;
      drawn = none.drawn;
      raised = none.raised;
      counters = none.counters;
      noted = none.noted;
      looks = none.looks;
      known = none.known;
      informed = All-map (λ x. x ≤ n) (λ (a : ℕ × ℕ). a.1) advances moved;
      advances = none.advances;
      keeps = none.keeps;
      near = none.near;
      owes = none.owes;
      promised = none.promised;
      marked = none.marked;
      plain = none.plain;
      idle = none.idle;
      free = none.free;
    }

-- a seat that was told what was drawn, alone
fits_shown : (o n m k by : ℕ) (noted : List ℕ) (known : List Look) (informed : List ℕ) → All (λ x. x < n) noted → All (IsWithin n m) known → All (λ x. x ≤ n) informed
    → Fits o n m k by (record nobody { noted = noted; known = known; informed = informed })
fits_shown o n m k by noted known informed below within told =
    let none = fits_nobody o n m k by in
    record {
      since = none.since;
      drawn = none.drawn;
      raised = none.raised;
      counters = none.counters;
      noted = below;
      looks = none.looks;
      known = within;
      informed = told;
      advances = none.advances;
      keeps = none.keeps;
      near = none.near;
      owes = none.owes;
      promised = none.promised;
      marked = none.marked;
      plain = none.plain;
      idle = none.idle;
      free = none.free;
    }

-- a view with other parts
fits_parts : (o n m k by parts : ℕ) (v : View) → Fits o n m k by v → Fits o n m k by (record v { parts = parts })
fits_parts o n m k by parts v fits = record {
  since = fits.since;
  drawn = fits.drawn;
  raised = fits.raised;
  counters = fits.counters;
  noted = fits.noted;
  looks = fits.looks;
  known = fits.known;
  informed = fits.informed;
  advances = fits.advances;
  keeps = fits.keeps;
  near = fits.near;
  owes = fits.owes;
  promised = fits.promised;
  marked = fits.marked;
  plain = fits.plain;
  idle = fits.idle;
  free = fits.free;
}

-- a view that owes more
fits_owing : (o n m k by owes : ℕ) (v : View) → v.draws ≡ true → owes ≤ n + 1 → Fits o n m k by v → Fits o n m k by (record v { owes = owes })
fits_owing o n m k by owes v is most fits = record {
  since = fits.since;
  drawn = fits.drawn;
  raised = fits.raised;
  counters = fits.counters;
  noted = fits.noted;
  looks = fits.looks;
  known = fits.known;
  informed = fits.informed;
  advances = fits.advances;
  keeps = fits.keeps;
  near = fits.near;
  owes = most;
  promised = fits.promised;
  marked = fits.marked;
  plain = fits.plain;
  idle = fits.idle;
  free = λ not. absurd (true≢false (sym is ∙ not));
}

-- what a look found last is at most the counter
last_within : (n m : ℕ) (xs : List Look) (word : ℕ) → word ≤ n + 1 → All (IsWithin n m) xs → fold next_above word xs ≤ n + 1
last_within n m [] word h all = h
last_within n m (saw.Mark x ∷ xs) word h all = last_within n m xs word h (All-tail (IsWithin n m) (saw.Mark x) xs all)
last_within n m (saw.Counter x ∷ xs) word h all = let le : x ≤ n = all 0 (saw.Counter x) (omega arith) in last_within n m xs (x + 1) (omega (arith, le)) (All-tail (IsWithin n m) (saw.Counter x) xs all)

-- and this is what it found
pub last_is : (before : List Look) (mark next : ℕ) → above_last (before ++ saw.Mark mark ∷ saw.Counter next ∷ []) ≡ next + 1
last_is before mark next = fold-append next_above 0 before (saw.Mark mark ∷ saw.Counter next ∷ [])

few_or_more : (p : ℕ) → Dec (p ≤ 1) → (p ≤ 1) ⊎ (1 < p)
few_or_more p (yes few) = inl few
few_or_more p (no more) = inr (omega arith)

-- a split of a seat with one part at most leaves fewer than 1,024
part_lost : (total p : ℕ) → total ≤ 1024 → (p ≡ 0 → total < 1024) → p ≤ 1 → total + ((p - 1) + part_of p) < 1024 + p
part_lost total zero most short few = let less = short refl in omega (arith, less, part_of-none 0 few)
part_lost total (suc p) most short few = omega (arith, part_of-none (suc p) few)

parts_split : (p : ℕ) → (p - 1) + part_of p ≤ p
parts_split p = ⊎_elim (λ few. omega (arith, part_of-none p few)) (λ more. omega (arith, part_of-one p more)) (few_or_more p (dec_le p 1))

-- a drawer's seat is split off a drawer's
pub splits : {S : Type 0} (o id : ℕ) (v : View) → v.draws ≡ true → Splits {S = S} (Ruled o) id v (keeping v) (split_off v)
splits {S} o id v is s h at =
    let st = h.stands in
    let fits = st.each id v at in
    let lost : v.parts ≤ 1 → sum_by parts_of s.views + ((v.parts - 1) + part_of v.parts) < 1024 + v.parts = part_lost (sum_by parts_of s.views) v.parts st.parts (λ empty. st.lost id v at is empty) in
    record {
      next = h.next;
      mark = h.mark;
      keeper = h.keeper;
      words = h.words;
      stands = cuts o h.next h.mark h.keeper s.views id v (keeping v) (split_off v) st at
          (λ x. omega arith)
          (fits_parts o h.next h.mark h.keeper id (v.parts - 1) v fits)
          (λ by. fits_drawer o h.next h.mark h.keeper by (part_of v.parts) (v.noted ++ v.drawn) (v.known ++ v.looks) (All-append (λ x. x < h.next) v.noted v.drawn fits.noted fits.drawn)
          (All-append (IsWithin h.next h.mark) v.known v.looks fits.known fits.looks))
          refl
          refl
          refl
          (omega arith)
          refl
          (omega arith)
          (parts_split v.parts)
          (λ _ empty. let none_left : v.parts - 1 ≡ 0 = empty in lost (omega arith))
          (λ _ empty. let none_left : part_of v.parts ≡ 0 = empty in ⊎_elim lost (λ more. absurd (omega (arith, none_left, part_of-one v.parts more))) (few_or_more v.parts (dec_le v.parts 1)));
    }

-- a seat that tells what it owes is split off a drawer's
pub promises : {S : Type 0} (o id : ℕ) (v : View) → v.draws ≡ true → Splits {S = S} (Ruled o) id v (owing v) (promise_of v)
promises {S} o id v is s h at =
    let st = h.stands in
    let fits = st.each id v at in
    let most : above_last v.looks ≤ h.next + 1 = last_within h.next h.mark v.looks 0 (omega arith) fits.looks in
    record {
      next = h.next;
      mark = h.mark;
      keeper = h.keeper;
      words = h.words;
      stands = cuts o h.next h.mark h.keeper s.views id v (owing v) (promise_of v) st at
          (λ x. omega arith)
          (fits_owing o h.next h.mark h.keeper id (max v.owes (above_last v.looks)) v is (omega (arith, most, fits.owes)) fits)
          (λ by. fits_promise o h.next h.mark h.keeper by (max v.owes (above_last v.looks)) 0 (omega (arith, most, fits.owes)) (omega arith))
          refl
          refl
          refl
          (omega arith)
          refl
          (omega arith)
          (omega arith)
          (λ _ empty. omega (arith, st.lost id v at is empty))
          (λ draws _. absurd (off draws));
    }

-- a seat that tells where the mark is is split off the keeper's
pub tells : {S : Type 0} (o id : ℕ) (v : View) → v.keeps ≡ true → Splits {S = S} (Ruled o) id v v (mark_of v)
tells {S} o id v is s h at =
    let st = h.stands in
    let fits = st.each id v at in
    record {
      next = h.next;
      mark = h.mark;
      keeper = h.keeper;
      words = h.words;
      stands = cuts o h.next h.mark h.keeper s.views id v v (mark_of v) st at
          (λ x. omega arith)
          fits
          (λ by. fits_promise o h.next h.mark h.keeper by 0 v.mark (omega arith) (omega (arith, (fits.keeps is).1)))
          refl
          refl
          refl
          (omega arith)
          refl
          (omega arith)
          (omega arith)
          (λ draws empty. omega (arith, st.lost id v at draws empty))
          (λ draws _. absurd (off draws));
    }

-- a seat that tells what was drawn and seen is split off any seat
pub shows : {S : Type 0} (o id : ℕ) (v : View) → Splits {S = S} (Ruled o) id v v (draws_of v)
shows {S} o id v s h at =
    let st = h.stands in
    let fits = st.each id v at in
    record {
      next = h.next;
      mark = h.mark;
      keeper = h.keeper;
      words = h.words;
      stands = cuts o h.next h.mark h.keeper s.views id v v (draws_of v) st at
          (λ x. omega arith)
          fits
          (λ by. fits_shown o h.next h.mark h.keeper by (v.noted ++ v.drawn) (v.known ++ v.looks) v.informed (All-append (λ x. x < h.next) v.noted v.drawn fits.noted fits.drawn)
          (All-append (IsWithin h.next h.mark) v.known v.looks fits.known fits.looks) fits.informed)
          refl
          refl
          refl
          (omega arith)
          refl
          (omega arith)
          (omega arith)
          (λ is empty. omega (arith, st.lost id v at is empty))
          (λ draws _. absurd (off draws));
    }

-- a seat that tells where the counter was moved to is split off any seat
pub informs : {S : Type 0} (o id : ℕ) (v : View) → Splits {S = S} (Ruled o) id v v (moves_of v)
informs {S} o id v s h at =
    let st = h.stands in
    let fits = st.each id v at in
    record {
      next = h.next;
      mark = h.mark;
      keeper = h.keeper;
      words = h.words;
      stands = cuts o h.next h.mark h.keeper s.views id v v (moves_of v) st at
          (λ x. omega arith)
          fits
          (λ by. fits_told o h.next h.mark h.keeper by v.advances fits.advances)
          refl
          refl
          refl
          (omega arith)
          refl
          (omega arith)
          (omega arith)
          (λ is empty. omega (arith, st.lost id v at is empty))
          (λ draws _. absurd (off draws));
    }

-- a seat that knows nothing is split off any seat
pub watches : {S : Type 0} (o id : ℕ) (v : View) → Splits {S = S} (Ruled o) id v v (watch_of v)
watches {S} o id v s h at =
    let st = h.stands in
    let fits = st.each id v at in
    record {
      next = h.next;
      mark = h.mark;
      keeper = h.keeper;
      words = h.words;
      stands = cuts o h.next h.mark h.keeper s.views id v v (watch_of v) st at
          (λ x. omega arith)
          fits
          (λ by. fits_nobody o h.next h.mark h.keeper by)
          refl
          refl
          refl
          (omega arith)
          refl
          (omega arith)
          (omega arith)
          (λ is empty. omega (arith, st.lost id v at is empty))
          (λ draws _. absurd (off draws));
    }

-- a seat that tells where the counter was is split off any seat
pub recalls : {S : Type 0} (o id : ℕ) (v : View) → Splits {S = S} (Ruled o) id v v (counters_of v)
recalls {S} o id v s h at =
    let st = h.stands in
    let fits = st.each id v at in
    record {
      next = h.next;
      mark = h.mark;
      keeper = h.keeper;
      words = h.words;
      stands = cuts o h.next h.mark h.keeper s.views id v v (counters_of v) st at
          (λ x. omega arith)
          fits
          (λ by. fits_shown o h.next h.mark h.keeper by [] [] v.counters (All-nil (λ x. x < h.next)) (All-nil (IsWithin h.next h.mark)) fits.counters)
          refl
          refl
          refl
          (omega arith)
          refl
          (omega arith)
          (omega arith)
          (λ is empty. omega (arith, st.lost id v at is empty))
          (λ draws _. absurd (off draws));
    }

-- the first drawer's seat is split off the keeper's
pub opens : {S : Type 0} (o id : ℕ) (v : View) → v.draws ≡ false → 0 < v.parts → Splits {S = S} (Ruled o) id v (without_parts v) (first_drawer v)
opens {S} o id v not some_part s h at =
    let st = h.stands in
    let fits = st.each id v at in
    record {
      next = h.next;
      mark = h.mark;
      keeper = h.keeper;
      words = h.words;
      stands = cuts o h.next h.mark h.keeper s.views id v (without_parts v) (first_drawer v) st at
          (λ x. omega arith)
          (fits_parts o h.next h.mark h.keeper id 0 v fits)
          (λ by. fits_drawer o h.next h.mark h.keeper by v.parts [] [] (All-nil (λ x. x < h.next)) (All-nil (IsWithin h.next h.mark)))
          refl
          refl
          refl
          (omega arith)
          refl
          (omega arith)
          (omega arith)
          (λ is _. absurd (true≢false (sym is ∙ not)))
          (λ _ empty. absurd (omega (arith, empty, some_part)));
    }

none_or_one : (n owes : ℕ) → (once_below n owes ≡ 0) ⊎ (once_below n owes ≡ 1)
none_or_one n owes = few (once_below n owes) (once_below-le n owes) where
  few : (c : ℕ) → c ≤ 1 → (c ≡ 0) ⊎ (c ≡ 1)
  few zero _ = inl refl
  few (suc c) le = inr (omega (arith, le))

-- a seat's view stays where another's changes
at_other : (other : ℕ) (u : View) (views' : List View) (id : ℕ) (v : View) → other ≢ id → get_elem? views' id ≡ some v → get_elem? (set views' other u) id ≡ some v
at_other zero u [] id v apart at = at
at_other (suc other) u [] id v apart at = at
at_other zero u (x ∷ xs) zero v apart at = absurd (apart refl)
at_other zero u (x ∷ xs) (suc id) v apart at = at
at_other (suc other) u (x ∷ xs) zero v apart at = at
at_other (suc other) u (x ∷ xs) (suc id) v apart at = at_other other u xs id v (λ e. apart (ap suc e)) at

-- a seat's new view
at_own : (views : List View) (id : ℕ) (v w : View) → get_elem? views id ≡ some v → get_elem? (set views id w) id ≡ some w
at_own [] id v w at = absurd (some-ne-none v (sym at))
at_own (x ∷ xs) zero v w at = refl
at_own (x ∷ xs) (suc id) v w at = at_own xs id v w at

-- a seat takes in another, as `both`
glues : (o n m k k' : ℕ) (views : List View) (id other : ℕ) (v w : View) → Stands o n m k views → get_elem? views id ≡ some v → other ≢ id → get_elem? (set views id (both v w)) other ≡ some w
    → ((both v w).keeps ≡ true → (id ≡ k') × ((both v w).mark ≡ m)) → ((both v w).keeps ≡ true → (both v w).lifted ≡ false → m ≤ (both v w).promised + 255) → ((j : ℕ) → j ≢ id → j ≢ other → j ≡ k → j ≡ k')
    → Stands o n m k' (set (set views id (both v w)) other nobody)
glues o n m k k' views id other v w h at apart there mine near others =
    let fits = h.each id v at in
    let theirs = ⊎_elim (λ (t : (other ≡ id) × (both v w ≡ w)). absurd (apart t.0)) (λ (t : (other ≢ id) × (get_elem? views other ≡ some w)). h.each other w t.1) (at_set views id other (both v w) w there) in
    let joined : Fits o n m k' id (both v w) = record {
      since = All-append (λ x. o ≤ x) v.drawn w.drawn fits.since theirs.since;
      drawn = All-append (λ x. x < n) v.drawn w.drawn fits.drawn theirs.drawn;
      raised = All-append (λ x. x ≤ n) v.raised w.raised fits.raised theirs.raised;
      counters = All-append (λ x. x ≤ n) v.counters w.counters fits.counters theirs.counters;
      noted = All-append (λ x. x < n) v.noted w.noted fits.noted theirs.noted;
      looks = All-append (IsWithin n m) v.looks w.looks fits.looks theirs.looks;
      known = All-append (IsWithin n m) v.known w.known fits.known theirs.known;
      informed = All-append (λ x. x ≤ n) v.informed w.informed fits.informed theirs.informed;
      advances = All-append (λ a. a.1 ≤ n) v.advances w.advances fits.advances theirs.advances;
      keeps = mine;
      near = near;
      owes = omega (arith, fits.owes, theirs.owes);
      promised = omega (arith, fits.promised, theirs.promised);
      marked = omega (arith, fits.marked, theirs.marked);
      free = λ not. let each = neither v.draws w.draws not in omega (arith, fits.free each.0, theirs.free each.1);
      plain = λ not. let each = neither v.keeps w.keeps not in no_more v.advances w.advances (fits.plain each.0) (theirs.plain each.1);
      idle = λ not. let each = neither v.draws w.draws not in no_more v.drawn w.drawn (fits.idle each.0) (theirs.idle each.1);
    } in
    let views' = set views id (both v w) in
    let before = ⊎_elim (λ (t : (other ≡ id) × (both v w ≡ w)). absurd (apart t.0)) (λ (t : (other ≢ id) × (get_elem? views other ≡ some w)). t.1) (at_set views id other (both v w) w there) in
    let owed_sum : sum_by (owes_above n) (set views' other nobody) + owes_above n v + owes_above n w ≡ sum_by (owes_above n) views + owes_above n (both v w) =
    omega (arith, sum_by_at (owes_above n) views' other w nobody there, sum_by_at (owes_above n) views id v (both v w) at, once_below-none n) in
    let owned = at_other other nobody views' id (both v w) apart (at_own views id v (both v w) at) in
    let kept : (word : ℕ) → IsPromised n views word → IsPromised n (set views' other nobody) word = λ word. ⊎_elim (λ reached. inl reached)
    (λ owed. ⊎_elim
    (λ low. inr (omega (arith, owed, owed_sum, once_below-greater n v.owes (max v.owes w.owes) (omega arith), once_below-greater n w.owes (max v.owes w.owes) (omega arith), low)))
    (λ high. inr (omega (arith, high, share_of_one (owes_above n) (set views' other nobody) id (both v w) owned)))
    (none_or_one n (max v.owes w.owes))) in
    let total : sum_by parts_of (set views' other nobody) ≡ sum_by parts_of views = omega (arith, sum_by_at parts_of views' other w nobody there, sum_by_at parts_of views id v (both v w) at) in
    let more : (x : ℕ) → sum_by (drawn_here x) views ≤ sum_by (drawn_here x) (set views' other nobody) = λ x. omega (arith, sum_by_at (drawn_here x) views' other w nobody there, sum_by_at (drawn_here x) views id v (both v w) at, sum_by-append (λ (y : ℕ). cond (y == x) 1 0) v.drawn w.drawn) in
    let one_lost : (v.draws || w.draws) ≡ true → v.parts + w.parts ≡ 0 → sum_by parts_of views < 1024 = λ is empty.
    ⊎_elim (λ mine. h.lost id v at mine (omega arith)) (λ theirs. h.lost other w before theirs (omega arith)) (one_of v.draws w.draws is) in
    record {
      counter_word = h.counter_word;
      mark_word = h.mark_word;
      in_order = h.in_order;
      opening = h.opening;
      once = λ x. omega (arith, sum_by_at (gone x) views' other w nobody there, sum_by_at (gone x) views id v (both v w) at, h.once x, sum_by-append (λ (y : ℕ). cond (y == x) 1 0) v.drawn w.drawn, sum_by-append (λ (a : ℕ × ℕ). cond (nat_le a.0 x && nat_lt x a.1) 1 0) v.advances w.advances);
      each = λ j u e.
          ⊎_elim
          (λ (t : (j ≡ other) × (nobody ≡ u)). subst (Fits o n m k' j) t.1 (fits_nobody o n m k' j))
          (λ (t : (j ≢ other) × (get_elem? views' j ≡ some u)).
          ⊎_elim
          (λ (t' : (j ≡ id) × (both v w ≡ u)). subst (λ (y : ℕ × View). Fits o n m k' y.0 y.1) (λ i. (sym t'.0 i, t'.1 i)) joined)
          (λ (t' : (j ≢ id) × (get_elem? views j ≡ some u)). fits_later o n m k n m k' j u (h.each j u t'.1) (omega arith) (omega arith) (λ e'. (others j t'.0 t.0 e', refl)))
          (at_set views id j (both v w) u t.1))
          (at_set views' other j nobody u e);
      promises = λ j u e.
          ⊎_elim
          (λ (t : (j ≡ other) × (nobody ≡ u)). subst (λ (y : View). IsPromised n (set views' other nobody) y.promised) t.1 (inl (omega arith)))
          (λ (t : (j ≢ other) × (get_elem? views' j ≡ some u)).
          ⊎_elim
          (λ (t' : (j ≡ id) × (both v w ≡ u)). subst (λ (y : View). IsPromised n (set views' other nobody) y.promised) t'.1 (greater (set views' other nobody) (kept v.promised (h.promises id v at)) (kept w.promised (h.promises other w before))))
          (λ (t' : (j ≢ id) × (get_elem? views j ≡ some u)). kept u.promised (h.promises j u t'.1))
          (at_set views id j (both v w) u t.1))
          (at_set views' other j nobody u e);
      reached = reached_later o views (set views' other nobody) n more h.reached;
      found = λ j u e. looks_later o views (set views' other nobody) more u.looks
          (⊎_elim
          (λ (t : (j ≡ other) × (nobody ≡ u)). subst (λ (y : View). All (HasReached o views) y.looks) t.1 (All-nil (HasReached o views)))
          (λ (t : (j ≢ other) × (get_elem? views' j ≡ some u)).
          ⊎_elim
          (λ (t' : (j ≡ id) × (both v w ≡ u)). subst (λ (y : View). All (HasReached o views) y.looks) t'.1 (All-append (HasReached o views) v.looks w.looks (h.found id v at) (h.found other w before)))
          (λ (t' : (j ≢ id) × (get_elem? views j ≡ some u)). h.found j u t'.1)
          (at_set views id j (both v w) u t.1))
          (at_set views' other j nobody u e));
      parts = omega (arith, total, h.parts);
      lost = λ j u e is empty.
          let short : sum_by parts_of views < 1024 =
          ⊎_elim
          (λ (t : (j ≡ other) × (nobody ≡ u)). absurd (off (ap (λ y. y.draws) t.1 ∙ is)))
          (λ (t : (j ≢ other) × (get_elem? views' j ≡ some u)).
          ⊎_elim
          (λ (t' : (j ≡ id) × (both v w ≡ u)). one_lost (ap (λ y. y.draws) t'.1 ∙ is) (ap (λ y. y.parts) t'.1 ∙ empty))
          (λ (t' : (j ≢ id) × (get_elem? views j ≡ some u)). h.lost j u t'.1 is empty)
          (at_set views id j (both v w) u t.1))
          (at_set views' other j nobody u e) in
          omega (arith, short, total);
    }
  where
    greater : (all : List View) → IsPromised n all v.promised → IsPromised n all w.promised → IsPromised n all (max v.promised w.promised)
    greater all a b = ⊎_elim (λ low. ⊎_elim (λ low'. inl (omega (arith, low, low'))) (λ owed. inr owed) b) (λ owed. inr owed) a

    neither : (a b : Bool) → (a || b) ≡ false → (a ≡ false) × (b ≡ false)
    neither true b e = absurd (true≢false e)
    neither false b e = (refl, e)

    one_of : (a b : Bool) → (a || b) ≡ true → (a ≡ true) ⊎ (b ≡ true)
    one_of true b e = inl refl
    one_of false b e = inr e

    no_more : {X : Type 0} (xs ys : List X) → xs ≡ [] → ys ≡ [] → xs ++ ys ≡ []
    no_more xs ys a b = ap (λ l. l ++ ys) a ∙ b

-- a seat that keeps the mark stays the keeper, and one that takes the keeper's seat in becomes the keeper
joins_as : (o n m k : ℕ) (views : List View) (id other : ℕ) (v w : View) (b : Bool) → w.keeps ≡ b → Stands o n m k views → get_elem? views id ≡ some v → other ≢ id → get_elem? (set views id (both v w)) other ≡ some w
    → (k' : ℕ) × Stands o n m k' (set (set views id (both v w)) other nobody)
joins_as o n m k views id other v w true is h at apart there =
    let theirs = ⊎_elim (λ (t : (other ≡ id) × (both v w ≡ w)). absurd (apart t.0)) (λ (t : (other ≢ id) × (get_elem? views other ≡ some w)). h.each other w t.1) (at_set views id other (both v w) w there) in
    let keeper = theirs.keeps is in (
      id,
      glues o n m k id views id other v w h at apart there
          (λ _. (refl, subst (λ b. cond b w.mark v.mark ≡ m) (sym is) keeper.1))
          (λ _ still. omega (arith, theirs.near is (subst (λ b. cond b w.lifted v.lifted ≡ false) is still)))
          (λ j _ not_other e. absurd (not_other (e ∙ sym keeper.0))),
    )
joins_as o n m k views id other v w false is h at apart there =
    let fits = h.each id v at in (
      k,
      glues o n m k k views id other v w h at apart there
          (λ e. let kept = fits.keeps (keeps_alone e) in (kept.0, subst (λ b. cond b w.mark v.mark ≡ m) (sym is) kept.1))
          (λ e still. omega (arith, fits.near (keeps_alone e) (subst (λ b. cond b w.lifted v.lifted ≡ false) is still)))
          (λ j _ _ e. e),
    )
  where
    or_false : (b : Bool) → (b || false) ≡ true → b ≡ true
    or_false true e = refl
    or_false false e = e

    keeps_alone : (v.keeps || w.keeps) ≡ true → v.keeps ≡ true
    keeps_alone = subst (λ b. (v.keeps || b) ≡ true → v.keeps ≡ true) (sym is) (or_false v.keeps)

pub joins : {S : Type 0} (o id : ℕ) (v : View) (other : ℕ) (w : View) → Joins {S = S} (Ruled o) id v other w (both v w) nobody
joins {S} o id v other w s h at apart there =
    let g = joins_as o h.next h.mark h.keeper s.views id other v w w.keeps refl h.stands at apart there in
    record { next = h.next; mark = h.mark; keeper = g.0; words = h.words; stands = g.1 }

-- where the keeper's seat has all parts, nothing went by at another
others_idle : (o n m k : ℕ) (views : List View) (id : ℕ) (v : View) → Stands o n m k views → get_elem? views id ≡ some v → v.keeps ≡ true → v.parts ≡ 1024
    → (by : ℕ) (u : View) → by ≢ id → get_elem? views by ≡ some u → ((x : ℕ) → gone x u ≡ 0) × (owes_above n u ≡ 0)
others_idle o n m k views id v h at keeper whole by u apart bt =
    let fits = h.each by u bt in
    let two = share_of_two parts_of views id by v u (λ e. apart (sym e)) at bt in
    let empty : u.parts ≡ 0 = omega (arith, two, h.parts, whole) in
    let idle : u.draws ≡ false = not_true u.draws (λ is. omega (arith, h.lost by u bt is empty, two, whole)) in
    let plain : u.keeps ≡ false = not_true u.keeps (λ is. apart ((fits.keeps is).0 ∙ sym ((h.each id v at).keeps keeper).0)) in
    ((λ x. ap (λ (p : List ℕ × List (ℕ × ℕ)). times x p.0 + passed_over x p.1) (λ i. (fits.idle idle i, fits.plain plain i))), ap (once_below n) (fits.free idle) ∙ once_below-none n)
  where
    not_true : (b : Bool) → (b ≡ true → ⊥) → b ≡ false
    not_true true h = absurd (h refl)
    not_true false h = refl

pub both_keeps : (v w : View) → w.keeps ≡ true → (both v w).keeps ≡ true
both_keeps v w is = ap (λ b. v.keeps || b) is ∙ any v.keeps
  where
    any : (b : Bool) → (b || true) ≡ true
    any true = refl
    any false = refl

-- where all draws were at this seat
end_of : (o : ℕ) (v : View) (views : List View) → ((x : ℕ) → sum_by (drawn_here x) views ≡ times x v.drawn) → (look : Look) → HasReached o views look → IsEndOf o v.drawn look
end_of o v views alone (saw.Mark x) h = tt
end_of o v views alone (saw.Counter x) h = λ end. ⊎_elim inl (λ drawn. inr (times_contains (x - 1) v.drawn (omega (arith, drawn, alone (x - 1))))) (h end)

-- What a seat knows of the last words
pub record Ends (o next mark : ℕ) (v : View) : Type 0 where
  pub counter_word : IsWord next
  pub mark_word : IsWord mark
  pub in_order : next ≤ mark
  pub opening : o ≤ next
  pub fits : (keeper : ℕ) × (by : ℕ) × Fits o next mark keeper by v
  pub once : (x : ℕ) → times x v.drawn ≤ 1
  pub all : v.keeps ≡ true → v.parts ≡ 1024 → (x : ℕ) → gone x v + once_below x o ≡ once_below x next
  pub found : v.keeps ≡ true → v.parts ≡ 1024 → All (IsEndOf o v.drawn) v.looks
  pub paid : v.keeps ≡ true → v.parts ≡ 1024 → v.lifted ≡ false → v.owes ≡ 0 → mark < next + 256

pub ends : {S : Type 0} (o id : ℕ) (v : View) (ws : List ℕ) (xs : List S) (next mark : ℕ) → Final (Seen (Ruled o) id v) ws xs → get_elem? ws 0 ≡ some next → get_elem? ws 1 ≡ some mark → Ends o next mark v
ends {S} o id v ws xs next mark final at_0 at_1 =
    let s = final.0 in
    let h = final.1.0 in
    let at = final.1.1 in
    let st = h.stands in
    let is : h.next ∷ h.mark ∷ [] ≡ ws = sym h.words ∙ final.2 in
    let counter : h.next ≡ next = some-injective _ _ (subst (λ l. get_elem? l 0 ≡ some next) (sym is) at_0) in
    let bound : h.mark ≡ mark = some-injective _ _ (subst (λ l. get_elem? l 1 ≡ some mark) (sym is) at_1) in
    let found : Ends o h.next h.mark v = record {
      counter_word = st.counter_word;
      mark_word = st.mark_word;
      in_order = st.in_order;
      opening = st.opening;
      fits = (h.keeper, id, st.each id v at);
      once = λ x. omega (arith, share_of_one (gone x) s.views id v at, st.once x, once_below-le x h.next);
      found = λ keeper whole. All-weaker (HasReached o s.views) (IsEndOf o v.drawn)
          (end_of o v s.views (λ x. share_alone (drawn_here x) s.views id v at (λ by u apart bt. omega (arith, (others_idle o h.next h.mark h.keeper s.views id v st at keeper whole by u apart bt).0 x))))
          v.looks (st.found id v at);
      all = λ keeper whole x. omega (arith, st.once x, share_alone (gone x) s.views id v at (λ by u apart bt. (others_idle o h.next h.mark h.keeper s.views id v st at keeper whole by u apart bt).0 x));
      paid = λ keeper whole still none.
          let mine = st.each id v at in
          let alone = share_alone (owes_above h.next) s.views id v at (λ by u apart bt. (others_idle o h.next h.mark h.keeper s.views id v st at keeper whole by u apart bt).1) in
          let nothing : owes_above h.next v ≡ 0 = ap (once_below h.next) none ∙ once_below-none h.next in
          ⊎_elim (λ reached. omega (arith, mine.near keeper still, reached)) (λ owed. absurd (omega (arith, owed, alone, nothing))) (st.promises id v at);
    } in
    subst (λ (y : ℕ × ℕ). Ends o y.0 y.1 v) (λ i. (counter i, bound i)) found

-- no two places of the drawn lists hold one word
pub at_one_place : (o n m k : ℕ) (views : List View) → Stands o n m k views → DrawnOnce views
at_one_place o n m k views h x by by' place place' v w at at' here there = seats (ℕ_discrete by by')
  where
    drawn_here : (u : View) (i : ℕ) → get_elem? u.drawn i ≡ some x → 1 ≤ times x u.drawn
    drawn_here u i e = omega (arith, share_of_one (λ (y : ℕ). cond (y == x) 1 0) u.drawn i x e, same-one x)

    most : sum_by (gone x) views ≤ 1
    most = omega (arith, h.once x, once_below-le x n)

    places : (u : View) (i : ℕ) → get_elem? views i ≡ some u → get_elem? u.drawn place ≡ some x → get_elem? u.drawn place' ≡ some x → Dec (place ≡ place') → place ≡ place'
    places u i at_u e e' (yes same) = same
    places u i at_u e e' (no apart) = absurd (omega (arith, share_of_two (λ (y : ℕ). cond (y == x) 1 0) u.drawn place place' x x apart e e', same-one x, most, share_of_one (gone x) views i u at_u))

    seats : Dec (by ≡ by') → (by ≡ by') × (place ≡ place')
    seats (yes same) =
        let one : v ≡ w = some-injective _ _ (sym at ∙ ap (get_elem? views) same ∙ at') in
        (same, places w by' at' (subst (λ (u : View). get_elem? u.drawn place ≡ some x) one here) there (ℕ_discrete place place'))
    seats (no apart) = absurd (omega (arith, share_of_two (gone x) views by by' v w apart at at', most, drawn_here v place here, drawn_here w place' there))

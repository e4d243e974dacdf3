-- Each kind of step keeps the rule.
use Rattle.std.proofs.Common.{◌≡◌, ℕ, zero, suc, ◌+◌, ◌%◌, ◌^◌, ◌<◌, ◌≤◌, ◌≢◌, ⊎_elim, inl, inr, Bool, true, false, cond, ◌&&◌, List, [], ◌∷◌, ◌++◌, length, set, drop, Some, Option, refl, sym, ap, ◌∙◌, arith, subst, length-drop}
use Rattle.std.specs.Prelude.{◌==◌, slice_index, slice_set}
use Rattle.std.specs.List.{enumerate_from}
use Rattle.std.proofs.lemmas.Bool.Decides.{nat_tests}
use Rattle.std.proofs.lemmas.List.Sums.{sum_by_push}
use mathlib.Core.Option.{some, none, some-injective, some-ne-none}
use mathlib.Core.Option as maybe
use mathlib.Core.Logic.{dite}
use native.Mathlib.Decide.{ℕ_discrete}
use lib.ListN.{get_elem?}
use Rattle.atomic_table.specs.Table.{Me, Act, keeps, takes, gives, Valid, carried_after, homes_after, put_back, stepped, step, Allows, Splits, Joins, opening}
use Rattle.atomic_table.proofs.Lists.{set_else, set_again, at_longer, at_snoc}
use Rattle.turn_lock.specs.declared.view.View.{View}
use Rattle.turn_lock.specs.Entries.{IsPrefix, IsLongerOf, StandFrom, added, entries_of, times_at, one_below}
use Rattle.turn_lock.specs.Views.{starting, queueing, entering, adding, leaving, keeping, fresh, both, nobody, informed}
use Rattle.turn_lock.specs.Rule.{has_ticket, Fits, IsHome, Stands, Ruled}
use Rattle.turn_lock.specs.Plays.{TakesTicket, LooksAtServing, Counts, in_hand, PassesOn, IsTold}
use Rattle.turn_lock.proofs.Places.{prefix_refl, prefix_trans, prefix_length, longer, stand_prefix, stand_added, times_append, times_placed, times_merge, stand_merge, whole_places, whole_list}
use Rattle.turn_lock.proofs.Totals.{total_set, total_has, total_two, total_most, total_whole, each_set, each_snoc}

-- 1 where the test is true, as `count_by` adds it
abbrev one_if : Bool → ℕ
one_if b = cond b 1 0

one_next : (k n : ℕ) → one_if (n == k) + one_below k n ≡ one_below k (n + 1)
one_next k n = grind (arith, nat_tests)

one_same : (n : ℕ) → one_if (n == n) ≡ 1
one_same n = grind (arith, nat_tests)

below_from : (n m : ℕ) → 1 ≤ one_below n m → n < m
below_from n m h = grind (arith, nat_tests)

not_below : (n m : ℕ) → one_below n m ≡ 0 → m ≤ n
not_below n m h = grind (arith, nat_tests)

below_one : (n m : ℕ) → one_below n m ≤ 1
below_one n m = grind (arith, nat_tests)

not_true : (b : Bool) → (b ≡ true → ⊥) → b ≡ false
not_true true h = absurd (h refl)
not_true false h = refl

not_both : (b : Bool) → b ≡ true → b ≡ false → ⊥
not_both b e f = cc

module _ {V : Type 0} where
  set_there : (l : List V) (i : ℕ) (a b : V) → get_elem? l i ≡ some a → get_elem? (set l i b) i ≡ some b
  set_there [] i a b e = absurd (some-ne-none a (sym e))
  set_there (x ∷ xs) zero a b e = refl
  set_there (x ∷ xs) (suc i) a b e = set_there xs i a b e

-- what the words hold
abbrev words_of : {E : Type 0} → ℕ → ℕ → List E → List ℕ
words_of t s log = t % 2 ^ 64 ∷ s % 2 ^ 64 ∷ length log ∷ []

module _ {T E : Type 0} where
  -- nobody is inside
  abbrev Free : List (View T E) → Type 0
  Free views = (by : ℕ) (u : View T E) → get_elem? views by ≡ some u → u.inside ≡ false

  -- nobody was inside before a view changed, if its pass wasn't
  free_before : (views : List (View T E)) (id : ℕ) (v w : View T E) → get_elem? views id ≡ some v → v.inside ≡ false → Free (set views id w) → Free views
  free_before views id v w at out free by u bt =
      dite (ℕ_discrete by id)
      (λ e. let same : u ≡ v = some-injective u v (sym bt ∙ ap (λ i. get_elem? views i) e ∙ at) in ap (λ z. z.inside) same ∙ out)
      (λ ne. free by u (set_else views id by w ne ∙ bt))

  waits_inside : (first : T) (s : ℕ) (log : List E) (v : View T E) → Fits first s log v → v.waits ≡ false → v.inside ≡ false
  waits_inside first s log v f w = not_true v.inside (λ i. not_both v.waits (f.inside i).0 w)

  some_part : (first : T) (s : ℕ) (log : List E) (v : View T E) → Fits first s log v → v.waits ≡ true → 0 < v.parts
  some_part first s log v f w = let none : v.parts ≡ 0 → ⊥ = λ z. not_both v.waits w (f.gone z).0 in omega (arith, none)

  no_ticket : (k : ℕ) (v : View T E) → v.waits ≡ false → one_if (has_ticket k v) ≡ 0
  no_ticket k v e = ap (λ b. one_if (b && (v.ticket == k))) e

  its_ticket : (k : ℕ) (v : View T E) → v.waits ≡ true → one_if (has_ticket k v) ≡ one_if (v.ticket == k)
  its_ticket k v e = ap (λ b. one_if (b && (v.ticket == k))) e

  -- a pass has the ticket that it has
  has_it : (n : ℕ) (v : View T E) → v.waits ≡ true → v.ticket ≡ n → one_if (has_ticket n v) ≡ 1
  has_it n v e t = its_ticket n v e ∙ ap (λ k. one_if (k == n)) t ∙ one_same n

module _ {T E O : Type 0} (entries : T → List E) (origin : T → O) where
  -- one pass at most has a ticket
  one_pass : (first : T) (t s : ℕ) (log : List E) (homes : List (maybe.Option (Option T))) (views : List (View T E)) → Stands entries origin first t s log homes views → (n i j : ℕ) (v w : View T E) → j ≢ i → get_elem? views i ≡ some v → get_elem? views j ≡ some w
      → v.waits ≡ true → v.ticket ≡ n → w.waits ≡ true → w.ticket ≡ n → ⊥
  one_pass first t s log homes views h n i j v w apart at bt vw vt ww wt =
      let two = total_two (λ u. one_if (has_ticket n u)) views i j v w apart at bt in
      omega (arith, below_one n t, h.tickets n, has_it n v vw vt, has_it n w ww wt)

  -- one pass at most is inside
  one_inside : (first : T) (t s : ℕ) (log : List E) (homes : List (maybe.Option (Option T))) (views : List (View T E)) → Stands entries origin first t s log homes views → (i j : ℕ) (v w : View T E) → j ≢ i → get_elem? views i ≡ some v → get_elem? views j ≡ some w
      → v.inside ≡ true → w.inside ≡ true → ⊥
  one_inside first t s log homes views h i j v w apart at bt vi wi =
      let a = (h.each i v at).inside vi in
      let b = (h.each j w bt).inside wi in
      one_pass first t s log homes views h s i j v w apart at bt a.0 a.1 b.0 b.1

  -- A pass that waits has a ticket from the serving word on and below the ticket word.
  ticket_within : (first : T) (t s : ℕ) (log : List E) (homes : List (maybe.Option (Option T))) (views : List (View T E)) → Stands entries origin first t s log homes views → (id : ℕ) (v : View T E) → get_elem? views id ≡ some v → v.waits ≡ true
      → (s ≤ v.ticket) × (v.ticket < t)
  ticket_within first t s log homes views h id v at waits =
      let has = has_it v.ticket v waits refl in
      let some_has = total_has (λ u. one_if (has_ticket v.ticket u)) views id v at in
      (not_below v.ticket s (omega (arith, has, some_has, h.tickets v.ticket, below_one v.ticket t)), below_from v.ticket t (omega (arith, has, some_has, h.tickets v.ticket)))

  -- As many wait at most as there are parts.
  few_wait : (first : T) (t s : ℕ) (log : List E) (homes : List (maybe.Option (Option T))) (views : List (View T E)) → Stands entries origin first t s log homes views → t ≤ s + 1024
  few_wait first t s log homes views h = omega (arith, h.queue, h.parts, total_most (λ u. one_if u.waits) (λ u. u.parts) views (λ by u bt. waiting u (h.each by u bt) u.waits refl)) where
    waiting : (u : View T E) → Fits first s log u → (b : Bool) → u.waits ≡ b → one_if u.waits ≤ u.parts
    waiting u f true e = let here = some_part first s log u f e in omega (arith, here, ap one_if e)
    waiting u f false e = omega (arith, ap one_if e)

  -- One view changes.
  moves : (first : T) (t s : ℕ) (log : List E) (homes : List (maybe.Option (Option T))) (views : List (View T E)) (id : ℕ) (v : View T E) → Stands entries origin first t s log homes views → get_elem? views id ≡ some v
      → (t' s' : ℕ) (log' : List E) (homes' : List (maybe.Option (Option T))) (w : View T E)
      → length log' < 2 ^ 64 → IsPrefix log log'
      → one_if w.waits + (s' + t) ≡ one_if v.waits + (s + t')
      → ((k : ℕ) → one_if (has_ticket k w) + one_below k s' + one_below k t ≡ one_if (has_ticket k v) + one_below k s + one_below k t')
      → ((p : ℕ) → times_at p w.own + one_below p (length log) ≡ times_at p v.own + one_below p (length log'))
      → w.parts ≡ v.parts
      → Fits first s' log' w
      → ((by : ℕ) (u : View T E) → by ≢ id → get_elem? views by ≡ some u → Fits first s log u → Fits first s' log' u)
      → (Free (set views id w) → IsHome entries origin first log' homes')
      → Stands entries origin first t' s' log' homes' (set views id w)
  moves first t s log homes views id v h at t' s' log' homes' w bl grows queue tickets places parts fits others home = record {
    count_word = bl;
    begins = prefix_trans (entries first) log log' h.begins grows;
    queue = omega (arith, queue, h.queue, total_set (λ u. one_if u.waits) views id v w at);
    tickets = λ k. omega (arith, tickets k, h.tickets k, total_set (λ u. one_if (has_ticket k u)) views id v w at);
    places = λ p. omega (arith, places p, h.places p, total_set (λ u. times_at p u.own) views id v w at);
    parts = omega (arith, parts, h.parts, total_set (λ u. u.parts) views id v w at);
    each = each_set (Fits first s log) (Fits first s' log') views id w fits others h.each;
    home = home;
  }

  -- What a step leaves: a new view, an act on the slot, and words and list that keep the rule.
  record Goes (first : T) (id word new : ℕ) (me : Me (Option T) (View T E)) (before : List ℕ) (homes : List (maybe.Option (Option T))) (views : List (View T E)) (then : Me (Option T) (View T E) → Type 0) : Type 0 where
    view : View T E
    act : Act (Option T)
    ticket : ℕ
    serving : ℕ
    log : List E
    valid : Valid homes me.1 act
    words : slice_set before word new ≡ words_of ticket serving log
    stands : Stands entries origin first ticket serving log (homes_after homes me.1 act) (slice_set views id view)
    tells : then (view, carried_after me.1 act)

  goes : (first : T) (slots id word : ℕ) (me : Me (Option T) (View T E)) (f : ℕ → ℕ) (then : ℕ → Me (Option T) (View T E) → Type 0)
      → ((t s : ℕ) (log : List E) (homes : List (maybe.Option (Option T))) (views : List (View T E)) → Stands entries origin first t s log homes views → length homes ≡ slots → get_elem? views id ≡ some me.0
      → Goes first id word (f (slice_index (words_of t s log) word)) me (words_of t s log) homes views (then (slice_index (words_of t s log) word)))
      → Allows (Ruled entries origin first) slots id me word f then
  goes first slots id word me f then go s h len at fits =
      let g = go h.ticket h.serving h.log s.homes s.views h.stands len at in
      let P : List ℕ → Type 0 = λ ws. (w : View T E) × (a : Act (Option T)) × Valid s.homes me.1 a × Ruled entries origin first (stepped (record { words = ws; homes = s.homes; views = s.views }) word (f (slice_index ws word)) id me.1 w a) × then (slice_index ws word) (w, carried_after me.1 a) in
      subst P (sym h.words) (g.view, g.act, g.valid, record { ticket = g.ticket; serving = g.serving; log = g.log; words = g.words; stands = g.stands }, g.tells)

  -- a step by which nothing changes
  stays : (first : T) (id word new : ℕ) (me : Me (Option T) (View T E)) (t s : ℕ) (log : List E) (homes : List (maybe.Option (Option T))) (views : List (View T E)) (then : Me (Option T) (View T E) → Type 0) → Stands entries origin first t s log homes views → get_elem? views id ≡ some me.0
      → slice_set (words_of t s log) word new ≡ words_of t s log → then me → Goes first id word new me (words_of t s log) homes views then
  stays first id word new me t s log homes views then h at words tells = record {
    view = me.0;
    act = keeps;
    ticket = t;
    serving = s;
    log = log;
    valid = tt;
    words = words;
    stands = subst (λ vs. Stands entries origin first t s log homes vs) (sym (set_again views id me.0 at)) h;
    tells = tells;
  }

  -- take a ticket
  pub takes_ticket : (first : T) (slots id : ℕ) (me : Me (Option T) (View T E)) → me.0.waits ≡ false → 0 < me.0.parts
      → Allows (Ruled entries origin first) slots id me 0 (λ n. (n + 1) % 2 ^ 64) (TakesTicket (step slots 0 1 0 none) me)
  takes_ticket first slots id me waits parts =
      goes first slots id 0 me (λ n. (n + 1) % 2 ^ 64) (TakesTicket (step slots 0 1 0 none) me) (λ t s log homes views h len at.
      let v = me.0 in
      let f = h.each id v at in
      let out = waits_inside first s log v f waits in
      let next : (t % 2 ^ 64 + 1) % 2 ^ 64 ≡ (t + 1) % 2 ^ 64 = omega arith in
      record {
        view = queueing v t;
        act = keeps;
        ticket = t + 1;
        serving = s;
        log = log;
        valid = tt;
        words = ap (λ n. n ∷ s % 2 ^ 64 ∷ length log ∷ []) next;
        stands = moves first t s log homes views id v h at (t + 1) s log homes (queueing v t) h.count_word (prefix_refl log)
            (omega (arith, ap one_if waits))
            (λ k. omega (arith, no_ticket k v waits, one_next k t))
            (λ p. refl)
            refl
            (record { seen = f.seen; told = f.told; own = f.own; inside = λ i. absurd (not_both v.inside i out); starts = f.starts; gone = λ z. absurd (omega arith) })
            (λ by u ne bt fu. fu)
            (λ free. h.home (free_before views id v (queueing v t) at out free));
        tells = (t, refl, refl);
      })

  -- a pass with all parts finds the entries of `start`, and then its own
  whole : (first : T) (t s : ℕ) (log : List E) (homes : List (maybe.Option (Option T))) (views : List (View T E)) (id : ℕ) (v : View T E) → Stands entries origin first t s log homes views → get_elem? views id ≡ some v
      → v.parts ≡ 1024 → (v.own ≡ added (entries first) log) × (log ≡ entries first ++ entries_of v.own)
  whole first t s log homes views id v h at all =
      let f = h.each id v at in
      let none_else : (p by : ℕ) (u : View T E) → get_elem? views by ≡ some u → u.parts ≡ 0 → times_at p u.own ≡ 0 = λ p by u bt z. ap (times_at p) ((h.each by u bt).gone z).2 in
      let places : (p : ℕ) → times_at p v.own + one_below p (length (entries first)) ≡ one_below p (length log) =
      λ p. omega (arith, h.places p, total_whole (λ u. times_at p u.own) (λ u. u.parts) views id v at (all ∙ sym h.parts) (none_else p)) in
      let placed = whole_places (entries first) log v.own h.begins f.own places in
      (placed, whole_list (entries first) log v.own h.begins placed)

  -- look at serving
  pub looks_at_serving : (first : T) (slots id : ℕ) (me : Me (Option T) (View T E)) → me.0.waits ≡ true → me.0.inside ≡ false
      → Allows (Ruled entries origin first) slots id me 1 (λ n. n) (LooksAtServing entries origin (step slots 1 0 0 none) me)
  looks_at_serving first slots id me waits out =
      goes first slots id 1 me (λ n. n) (LooksAtServing entries origin (step slots 1 0 0 none) me) (λ t s log homes views h len at.
      let v = me.0 in
      let f = h.each id v at in
      let some_here = some_part first s log v f waits in
      let starts = f.starts some_here in
      let within = ticket_within first t s log homes views h id v at waits in
      let near = few_wait first t s log homes views h in
      let alone : v.parts ≡ 1024 → s % 2 ^ 64 ≡ v.ticket % 2 ^ 64 = λ all.
      let one = total_whole (λ u. one_if u.waits) (λ u. u.parts) views id v at (all ∙ sym h.parts) (λ by u bt z. ap one_if ((h.each by u bt).gone z).0) in
      let same : s ≡ v.ticket = omega (arith, one, ap one_if waits, h.queue, within.0, within.1) in
      ap (λ n. n % 2 ^ 64) same in
      dite (ℕ_discrete (s % 2 ^ 64) (v.ticket % 2 ^ 64))
      (λ found.
      let e : s ≡ v.ticket = omega (arith, found, within.0, within.1, near) in
      let nobody_in : Free views = λ by u bt. not_true u.inside (λ i.
      dite (ℕ_discrete by id)
      (λ same. not_both u.inside i (ap (λ z. z.inside) (some-injective u v (sym bt ∙ ap (λ k. get_elem? views k) same ∙ at)) ∙ out))
      (λ apart. let a = (h.each by u bt).inside i in one_pass first t s log homes views h s id by v u apart at bt waits (sym e) a.0 a.1)) in
      let home = h.home nobody_in in
      let x = home.value in
      let w = entering v (entries x) in
      record {
        view = w;
        act = takes 0 (Some x);
        ticket = t;
        serving = s;
        log = log;
        valid = subst (λ hs. get_elem? hs 0 ≡ some (some (Some x))) (sym home.home) refl;
        words = refl;
        stands = moves first t s log homes views id v h at t s log (slice_set homes 0 none) w h.count_word (prefix_refl log)
            refl
            (λ k. refl)
            (λ p. refl)
            refl
            (record { seen = subst (λ l. IsPrefix (entries x) l) home.all (prefix_refl (entries x)); told = f.told; own = f.own; inside = λ _. (waits, sym e, home.all); starts = f.starts; gone = λ z. absurd (omega arith) })
            (λ by u ne bt fu. fu)
            (λ free. absurd (not_both true refl (free id w (set_there views id v w at))));
        tells = (
          (λ _. (
            x,
            refl,
            λ y began. record {
              few = subst (λ l. length l < 2 ^ 64) (sym home.all) h.count_word;
              began = let same : first ≡ y = cc in home.began ∙ ap origin same;
              seen = subst (λ l. IsPrefix v.seen l) (sym home.all) f.seen;
              own = subst (λ l. StandFrom 0 l v.own) (sym home.all) f.own;
              whole = λ all. let same : first ≡ y = cc in home.all ∙ (whole first t s log homes views id v h at all).1 ∙ ap (λ z. entries z ++ entries_of v.own) same;
              places = λ all. let same : first ≡ y = cc in (whole first t s log homes views id v h at all).0 ∙ ap (λ z. added (entries z) log) same ∙ ap (added (entries y)) (sym home.all);
            },
          )),
          (λ ne. absurd (ne found)),
          (λ _. found),
        );
      })
      (λ ne. stays first id 1 (s % 2 ^ 64) me t s log homes views (LooksAtServing entries origin (step slots 1 0 0 none) me (s % 2 ^ 64)) h at refl ((λ e. absurd (ne e)), (λ _. refl), (λ all. absurd (ne (alone all))))))

  -- count the entries added: those of the value in hand behind those that were seen
  counts_in_hand : (first : T) (slots id : ℕ) (me : Me (Option T) (View T E)) (k : ℕ) → me.0.inside ≡ true → IsPrefix me.0.seen (in_hand entries me.1) → length (in_hand entries me.1) < 2 ^ 64
      → length me.0.seen + k ≡ length (in_hand entries me.1)
      → Allows (Ruled entries origin first) slots id me 2 (λ n. (n + k) % 2 ^ 64) (Counts entries (step slots 2 k 0 none) me)
  counts_in_hand first slots id me k inside grows few added =
      goes first slots id 2 me (λ n. (n + k) % 2 ^ 64) (Counts entries (step slots 2 k 0 none) me) (λ t s log homes views h len at.
      let v = me.0 in
      let es = in_hand entries me.1 in
      let f = h.each id v at in
      let within = f.inside inside in
      let same : v.seen ≡ log = within.2 in
      let longer_log : IsPrefix log es = subst (λ l. IsPrefix l es) same grows in
      let n : ℕ = length v.seen in
      let now_length : length log ≡ n = sym (ap length same) in
      let total : (length log + k) % 2 ^ 64 ≡ length es = omega (arith, now_length, added, few) in
      let w = adding v es in
      let more = drop n es in
      let more_length : n + length more ≡ length es = omega (arith, length-drop n es, prefix_length v.seen es grows) in
      record {
        view = w;
        act = keeps;
        ticket = t;
        serving = s;
        log = es;
        valid = tt;
        words = ap (λ c. t % 2 ^ 64 ∷ s % 2 ^ 64 ∷ c ∷ []) total;
        stands = moves first t s log homes views id v h at t s es homes w few longer_log
            refl
            (λ p. refl)
            (λ p. omega (arith, times_append p v.own (enumerate_from n more), times_placed p n more, ap (λ (c : ℕ). one_below p c) now_length, ap (λ (c : ℕ). one_below p c) more_length))
            refl
            (record { seen = prefix_refl es; told = prefix_trans v.told log es f.told longer_log; own = stand_added v.seen es v.own grows (subst (λ l. StandFrom 0 l v.own) (sym same) f.own); inside = λ _. (within.0, within.1, refl); starts = f.starts; gone = λ z. absurd (not_both v.inside inside (f.gone z).1) })
            (λ by u ne bt fu. record {
              seen = prefix_trans u.seen log es fu.seen longer_log;
              told = prefix_trans u.told log es fu.told longer_log;
              own = stand_prefix 0 log es u.own longer_log fu.own;
              inside = λ i. absurd (one_inside first t s log homes views h id by v u ne at bt inside i);
              starts = fu.starts;
              gone = fu.gone;
            })
            (λ free. absurd (not_both v.inside inside (free id w (set_there views id v w at))));
        tells = refl;
      })

  pub counts_entries : (first : T) (slots id : ℕ) (me : Me (Option T) (View T E)) (k : ℕ) (v : View T E) (x : T) → me ≡ (v, (0, Some x) ∷ []) → v.inside ≡ true → IsPrefix v.seen (entries x) → length (entries x) < 2 ^ 64 → length v.seen + k ≡ length (entries x)
      → Allows (Ruled entries origin first) slots id me 2 (λ n. (n + k) % 2 ^ 64) (Counts entries (step slots 2 k 0 none) me)
  counts_entries first slots id me k v x e inside grows few added =
      subst (λ m. Allows (Ruled entries origin first) slots id m 2 (λ n. (n + k) % 2 ^ 64) (Counts entries (step slots 2 k 0 none) m)) (sym e)
      (counts_in_hand first slots id (v, (0, Some x) ∷ []) k inside grows few added)

  -- pass on
  passes_in_hand : (first : T) (slots id : ℕ) (me : Me (Option T) (View T E)) (x : T) → slots ≡ 1 → me.0.inside ≡ true → me.1 ≡ (0, Some x) ∷ [] → me.0.seen ≡ entries x → origin x ≡ origin first
      → Allows (Ruled entries origin first) slots id me 1 (λ n. (n + 1) % 2 ^ 64) (PassesOn (step slots 1 1 0 none) me)
  passes_in_hand first slots id me x one inside has all began =
      goes first slots id 1 me (λ n. (n + 1) % 2 ^ 64) (PassesOn (step slots 1 1 0 none) me) (λ t s log homes views h len at.
      let v = me.0 in
      let f = h.each id v at in
      let within = f.inside inside in
      let waits : v.waits ≡ true = within.0 in
      let next : (s % 2 ^ 64 + 1) % 2 ^ 64 ≡ (s + 1) % 2 ^ 64 = omega arith in
      let w = leaving v in
      record {
        view = w;
        act = gives;
        ticket = t;
        serving = s + 1;
        log = log;
        valid = tt;
        words = ap (λ n. t % 2 ^ 64 ∷ n ∷ length log ∷ []) next;
        stands = moves first t s log homes views id v h at t (s + 1) log (put_back homes me.1) w h.count_word (prefix_refl log)
            (omega (arith, ap one_if waits))
            (λ k. omega (arith, its_ticket k v waits, ap (λ n. one_if (n == k)) within.1, one_next k s))
            (λ p. refl)
            refl
            (record { seen = f.seen; told = f.told; own = f.own; inside = λ i. absurd (not_both false i refl); starts = f.starts; gone = λ z. absurd (not_both v.inside inside (f.gone z).1) })
            (λ by u ne bt fu. record { seen = fu.seen; told = fu.told; own = fu.own; inside = λ i. absurd (one_inside first t s log homes views h id by v u ne at bt inside i); starts = fu.starts; gone = fu.gone })
            (λ free. record {
              value = x;
              home = ap (put_back homes) has ∙ one_home homes x (len ∙ one);
              all = sym all ∙ within.2;
              began = began;
            });
        tells = refl;
      })
    where
      one_home : (homes : List (maybe.Option (Option T))) (x : T) → length homes ≡ 1 → slice_set homes 0 (some (Some x)) ≡ some (Some x) ∷ []
      one_home [] x e = absurd (omega arith)
      one_home (y ∷ []) x e = refl
      one_home (y ∷ z ∷ zs) x e = absurd (omega arith)

  pub passes_on : (first : T) (slots id : ℕ) (me : Me (Option T) (View T E)) (v : View T E) (x : T) → me ≡ (v, (0, Some x) ∷ []) → slots ≡ 1 → v.inside ≡ true → v.seen ≡ entries x → origin x ≡ origin first
      → Allows (Ruled entries origin first) slots id me 1 (λ n. (n + 1) % 2 ^ 64) (PassesOn (step slots 1 1 0 none) me)
  passes_on first slots id me v x e one inside seen began =
      subst (λ m. Allows (Ruled entries origin first) slots id m 1 (λ n. (n + 1) % 2 ^ 64) (PassesOn (step slots 1 1 0 none) m)) (sym e)
      (passes_in_hand first slots id (v, (0, Some x) ∷ []) x one inside refl seen began)

  -- what either pass of a join had seen
  pub is_told : (first : T) (slots id : ℕ) (me : Me (Option T) (View T E)) → me.0.inside ≡ false
      → Allows (Ruled entries origin first) slots id me 0 (λ n. n) (IsTold (step slots 0 0 0 none) me)
  is_told first slots id me out =
      goes first slots id 0 me (λ n. n) (IsTold (step slots 0 0 0 none) me) (λ t s log homes views h len at.
      let v = me.0 in
      let f = h.each id v at in
      let sees : (seen : List E) → IsPrefix seen log → IsLongerOf v.seen v.told seen → Goes first id 0 (t % 2 ^ 64) me (words_of t s log) homes views (IsTold (step slots 0 0 0 none) me (t % 2 ^ 64)) = λ seen front tells. record {
        view = informed v seen;
        act = keeps;
        ticket = t;
        serving = s;
        log = log;
        valid = tt;
        words = refl;
        stands = moves first t s log homes views id v h at t s log homes (informed v seen) h.count_word (prefix_refl log)
            refl
            (λ k. refl)
            (λ p. refl)
            refl
            (record { seen = front; told = record { rest = log; is = refl }; own = f.own; inside = λ i. absurd (not_both v.inside i out); starts = f.starts; gone = f.gone })
            (λ by u ne bt fu. fu)
            (λ free. h.home (free_before views id v (informed v seen) at out free));
        tells = (seen, log, refl, tells, front, f.own);
      } in
      ⊎_elim
      (λ a. sees v.told f.told (record { first = a; second = prefix_refl v.told; either = inr refl }))
      (λ a. sees v.seen f.seen (record { first = prefix_refl v.seen; second = a; either = inl refl }))
      (longer v.seen v.told log f.seen f.told))

  -- split a pass
  pub splits : (first : T) (id : ℕ) (v : View T E) → v.waits ≡ false → 1 < v.parts → Splits (Ruled entries origin first) id v (keeping v) (fresh v)
  splits first id v waits two s h at =
      let st = h.stands in
      let f = st.each id v at in
      let out = waits_inside first h.serving h.log v f waits in
      let views = s.views in
      let rest = set views id (keeping v) in
      record {
        ticket = h.ticket;
        serving = h.serving;
        log = h.log;
        words = h.words;
        stands = record {
          count_word = st.count_word;
          begins = st.begins;
          queue = omega (arith, st.queue, total_set (λ u. one_if u.waits) views id v (keeping v) at, sum_by_push (λ u. one_if u.waits) rest (fresh v));
          tickets = λ k. omega (arith, st.tickets k, total_set (λ u. one_if (has_ticket k u)) views id v (keeping v) at, sum_by_push (λ u. one_if (has_ticket k u)) rest (fresh v));
          places = λ p. omega (arith, st.places p, total_set (λ u. times_at p u.own) views id v (keeping v) at, sum_by_push (λ u. times_at p u.own) rest (fresh v));
          parts = omega (arith, st.parts, total_set (λ u. u.parts) views id v (keeping v) at, sum_by_push (λ u. u.parts) rest (fresh v));
          each = each_snoc (Fits first h.serving h.log) rest (fresh v)
              (record { seen = f.seen; told = record { rest = h.log; is = refl }; own = tt; inside = λ i. absurd (not_both false i refl); starts = λ _. f.starts (omega arith); gone = λ z. absurd (omega arith) })
              (each_set (Fits first h.serving h.log) (Fits first h.serving h.log) views id (keeping v)
              (record { seen = f.seen; told = f.told; own = f.own; inside = f.inside; starts = λ _. f.starts (omega arith); gone = λ z. absurd (omega arith) })
              (λ by u ne bt fu. fu)
              st.each);
          home = λ free. st.home (free_before views id v (keeping v) at out (λ by u bt. free by u (at_longer rest (fresh v ∷ []) by u bt)));
        };
      }

  -- join two passes
  pub joins : (first : T) (id : ℕ) (v : View T E) (other : ℕ) (w : View T E) → v.waits ≡ false → w.waits ≡ false → 0 < v.parts → Joins (Ruled entries origin first) id v other w (both v w) nobody
  joins first id v other w v_waits w_waits some_here s h at apart bt' =
      let st = h.stands in
      let views = s.views in
      let merged = set views id (both v w) in
      let bt : get_elem? views other ≡ some w = sym (set_else views id other (both v w) apart) ∙ bt' in
      let f = st.each id v at in
      let g = st.each other w bt in
      let v_out = waits_inside first h.serving h.log v f v_waits in
      let w_out = waits_inside first h.serving h.log w g w_waits in
      let once : (p : ℕ) → times_at p v.own + times_at p w.own ≤ 1 = λ p.
      omega (arith, st.places p, total_two (λ u. times_at p u.own) views id other v w apart at bt, below_one p (length h.log)) in
      record {
        ticket = h.ticket;
        serving = h.serving;
        log = h.log;
        words = h.words;
        stands = record {
          count_word = st.count_word;
          begins = st.begins;
          queue = omega (arith, st.queue, ap one_if w_waits, total_set (λ u. one_if u.waits) views id v (both v w) at, total_set (λ u. one_if u.waits) merged other w nobody bt');
          tickets = λ k. omega (arith, st.tickets k, no_ticket k w w_waits, total_set (λ u. one_if (has_ticket k u)) views id v (both v w) at, total_set (λ u. one_if (has_ticket k u)) merged other w nobody bt');
          places = λ p. omega (arith, st.places p, times_merge p v.own w.own, total_set (λ u. times_at p u.own) views id v (both v w) at, total_set (λ u. times_at p u.own) merged other w nobody bt');
          parts = omega (arith, st.parts, total_set (λ u. u.parts) views id v (both v w) at, total_set (λ u. u.parts) merged other w nobody bt');
          each = each_set (Fits first h.serving h.log) (Fits first h.serving h.log) merged other nobody
              (record { seen = record { rest = h.log; is = refl }; told = record { rest = h.log; is = refl }; own = tt; inside = λ i. absurd (not_both false i refl); starts = λ z. absurd (omega arith); gone = λ _. (refl, refl, refl) })
              (λ by u ne ut fu. fu)
              (each_set (Fits first h.serving h.log) (Fits first h.serving h.log) views id (both v w)
              (record { seen = f.seen; told = g.seen; own = stand_merge h.log v.own w.own f.own g.own once; inside = λ i. absurd (not_both v.inside i v_out); starts = λ _. f.starts some_here; gone = λ z. absurd (omega arith) })
              (λ by u ne ut fu. fu)
              st.each);
          home = λ free. st.home (free_before views id v (both v w) at v_out (free_before merged other w nobody bt' w_out free));
        };
      }

  -- the lock at its start
  pub starts : (value : T) → length (entries value) < 2 ^ 64 → Ruled entries origin value (opening (0 ∷ 0 ∷ length (entries value) ∷ []) (Some value ∷ []) (starting value (entries value)))
  starts value few =
      let v : View T E = starting value (entries value) in
      record {
        ticket = 0;
        serving = 0;
        log = entries value;
        words = refl;
        stands = record {
          count_word = few;
          begins = prefix_refl (entries value);
          queue = refl;
          tickets = λ t. omega arith;
          places = λ p. omega arith;
          parts = refl;
          each = λ by u at. ⊎_elim (λ e. absurd (some-ne-none u (sym e))) (λ e. subst (Fits value 0 (entries value)) e
              (record { seen = prefix_refl (entries value); told = record { rest = entries value; is = refl }; own = tt; inside = λ i. absurd (not_both false i refl); starts = λ _. refl; gone = λ z. absurd (omega arith) }))
              (at_snoc [] v u by at);
          home = λ _. record { value = value; home = refl; all = refl; began = refl };
        };
      }

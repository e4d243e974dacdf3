-- The marks of a node: how many they are, one mark more for an entry, and one for a bearer that stops.
use Rattle.std.proofs.Common.{◌≡◌, ℕ, zero, suc, ◌+◌, ◌<◌, ◌^◌, List, [], ◌∷◌, ◌++◌, length, Option, None, refl, sym, ap, ◌∙◌, arith, append_assoc, append-nil, length-append}
use Rattle.std.specs.Prelude.{replicate}
use Rattle.mesh_types.specs.declared.history.Entry.{Entry}
use Rattle.mesh_types.specs.declared.events.Event.{Event}
use Rattle.machine_contract.specs.declared.answers.Hand.{Hand}
use Rattle.machine_contract.specs.View.{with_entry}
use Rattle.seq_word.specs.Seen.{last_word}
use Rattle.turn_lock.specs.Entries.{IsPrefix}
use Rattle.locked_node.specs.declared.marks.Mark.{Mark}
use Rattle.locked_node.specs.declared.marks.Mark.TheVariants as M
use Rattle.locked_node.specs.Node.{NodeView, behind_last, event_in, handled_marks, marks_of, node_marks, rest_words, stop_marks}
use Rattle.locked_node.proofs.Told.{last_more}

length_replicate : (n : ℕ) (x : Mark) → length (replicate n x) ≡ n
length_replicate zero x = refl
length_replicate (suc n) x = ap suc (length_replicate n x)

pub length_stops : (n : ℕ) (event : Option Event) → length (stop_marks n event) ≡ n
length_stops zero event = refl
length_stops (suc n) event = ap suc (length_replicate n (M.Stopped None))

length_handled : (es : List Entry) (moves counters : List ℕ) → length (handled_marks es moves counters) ≡ length es
length_handled [] moves counters = refl
length_handled (e ∷ es) moves counters = ap suc (length_handled es (rest_words moves) (rest_words counters))

pub length_marks : (es : List Entry) (moves counters : List ℕ) (n : ℕ) (hand : Hand) → length (marks_of es moves counters n hand) ≡ length es + n
length_marks es moves counters n hand =
    omega (arith, length-append (handled_marks es moves counters) (stop_marks n (event_in hand)), length_handled es moves counters, length_stops n (event_in hand))

few_sum : (a b n : ℕ) → n ≡ a + b → a < 2 ^ 32 → b < 2 ^ 32 → n < 2 ^ 64
few_sum a b n e p q = omega arith

pub few_marks : (es : List Entry) (moves counters : List ℕ) (n : ℕ) (hand : Hand) → length es < 2 ^ 32 → n < 2 ^ 32 → length (marks_of es moves counters n hand) < 2 ^ 64
few_marks es moves counters n hand p q = few_sum (length es) n _ (length_marks es moves counters n hand) p q

-- the mark of an entry
abbrev handled : Entry → ℕ → ℕ → Mark
handled e move counter = M.Handled e (record { moved = move; counter = counter })

-- an entry more, with the move behind it, and where the counter was
handled_more : (es : List Entry) (moves counters : List ℕ) (e : Entry) (move counter : ℕ) → length moves ≡ length es → length counters ≡ length es
    → handled_marks (es ++ e ∷ []) (moves ++ move ∷ []) (counters ++ counter ∷ []) ≡ handled_marks es moves counters ++ handled e move counter ∷ []
handled_more [] [] [] e move counter long seen = refl
handled_more [] [] (n ∷ counters) e move counter long seen = absurd (omega (arith, seen))
handled_more [] (m ∷ moves) counters e move counter long seen = absurd (omega (arith, long))
handled_more (x ∷ es) [] counters e move counter long seen = absurd (omega (arith, long))
handled_more (x ∷ es) (m ∷ moves) [] e move counter long seen = absurd (omega (arith, seen))
handled_more (x ∷ es) (m ∷ moves) (n ∷ counters) e move counter long seen =
    ap (λ l. handled x m n ∷ l) (handled_more es moves counters e move counter (omega (arith, long)) (omega (arith, seen)))

-- where no bearer has stopped
bare_marks : (es : List Entry) (moves counters : List ℕ) (hand : Hand) → marks_of es moves counters 0 hand ≡ handled_marks es moves counters
bare_marks es moves counters hand = append-nil (handled_marks es moves counters)

module _ {F : Type 0} (old new : NodeView F) (e : Entry) (move mark counter : ℕ) (is : new.machine ≡ with_entry old.machine e move mark)
    (counted : new.counters ≡ old.counters ++ counter ∷ []) (none : old.stops ≡ 0) (same : new.stops ≡ old.stops) (long : length old.machine.moves ≡ length old.machine.entries)
    (seen : length old.counters ≡ length old.machine.entries) where
  entry_marks : node_marks new ≡ node_marks old ++ handled e move counter ∷ []
  entry_marks =
      let m = old.machine in
      ap (λ v. marks_of v.entries v.moves new.counters new.stops v.hand) is ∙ ap (λ l. marks_of (m.entries ++ e ∷ []) (m.moves ++ move ∷ []) l new.stops m.hand) counted
      ∙ ap (λ n. marks_of (m.entries ++ e ∷ []) (m.moves ++ move ∷ []) (old.counters ++ counter ∷ []) n m.hand) (same ∙ none)
      ∙ bare_marks (m.entries ++ e ∷ []) (m.moves ++ move ∷ []) (old.counters ++ counter ∷ []) m.hand ∙ handled_more m.entries m.moves old.counters e move counter long seen
      ∙ ap (λ l. l ++ handled e move counter ∷ []) (sym (ap (λ n. marks_of m.entries m.moves old.counters n m.hand) none ∙ bare_marks m.entries m.moves old.counters m.hand))

  pub entered : node_marks new ≡ node_marks old ++ M.Handled e (behind_last new) ∷ []
  entered =
      entry_marks
      ∙ ap (λ n. node_marks old ++ handled e n counter ∷ []) (sym (ap (λ m. last_word m.moves) is ∙ last_more old.machine.moves move))
      ∙ ap (λ n. node_marks old ++ handled e (last_word new.machine.moves) n ∷ []) (sym (ap last_word counted ∙ last_more old.counters counter))

  pub entered_front : IsPrefix (node_marks old) (node_marks new)
  entered_front = record { rest = M.Handled e (behind_last new) ∷ []; is = entered }

replicate_more : (n : ℕ) (x : Mark) → replicate (suc n) x ≡ replicate n x ++ x ∷ []
replicate_more zero x = refl
replicate_more (suc n) x = ap (λ l. x ∷ l) (replicate_more n x)

stops_more : (n : ℕ) (event : Option Event) → 0 < n → stop_marks (suc n) event ≡ stop_marks n event ++ M.Stopped None ∷ []
stops_more zero event h = absurd (omega (arith, h))
stops_more (suc n) event h = ap (λ l. M.Stopped event ∷ l) (replicate_more n (M.Stopped None))

pub marks_more : (es : List Entry) (moves counters : List ℕ) (n : ℕ) (hand : Hand) → 0 < n
    → marks_of es moves counters (suc n) hand ≡ marks_of es moves counters n hand ++ M.Stopped None ∷ []
marks_more es moves counters n hand h =
    ap (λ l. handled_marks es moves counters ++ l) (stops_more n (event_in hand) h)
    ∙ sym (append_assoc (handled_marks es moves counters) (stop_marks n (event_in hand)) (M.Stopped None ∷ []))

pub front_more : {F : Type 0} (old new : NodeView F) → new.machine ≡ old.machine → new.counters ≡ old.counters → new.stops ≡ old.stops + 1 → 0 < old.stops
    → IsPrefix (node_marks old) (node_marks new)
front_more old new m counters s h =
    let one : new.stops ≡ suc old.stops = omega (arith, s) in
    record {
      rest = M.Stopped None ∷ [];
      is =
          ap (λ v. marks_of v.entries v.moves new.counters new.stops v.hand) m ∙ ap (λ l. marks_of old.machine.entries old.machine.moves l new.stops old.machine.hand) counters
          ∙ ap (λ n. marks_of old.machine.entries old.machine.moves old.counters n old.machine.hand) one
          ∙ marks_more old.machine.entries old.machine.moves old.counters old.stops old.machine.hand h;
    }

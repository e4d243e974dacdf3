-- Where the counter was behind each entry: what a call of the machine keeps of that.
use Rattle.std.proofs.Common.{◌≡◌, ◌∙◌, ◌≢◌, ◌≤◌, ◌+◌, ◌*◌, ◌⊎◌, ℕ, suc, max, true, false, true≢false, inl, inr, List, [], ◌∷◌, ◌++◌, length, refl, sym, ap, subst, arith}
use Rattle.std.specs.Prelude.{All}
use Rattle.std.proofs.lemmas.List.Quantifiers.{all_pairs_push}
use native.Mathlib.Decide.{ℕ_discrete}
use Rattle.mesh_types.specs.declared.history.Entry.{Entry}
use Rattle.machine_contract.specs.View.{MachineView, with_entry}
use Rattle.locked_node.specs.Counted.{AreWithin, IsCounted, mark_behind, marks_behind}
use Rattle.locked_node.specs.Node.{first_word, rest_words}

-- one mark for each entry
length_behind : (mark : ℕ) (es : List Entry) (moves : List ℕ) → length (marks_behind mark es moves) ≡ length es
length_behind mark [] moves = refl
length_behind mark (e ∷ es) moves = ap suc (length_behind (max (mark + 256 * e.fills) (first_word moves)) es (rest_words moves))

length_within : (words marks : List ℕ) → AreWithin words marks → length words ≡ length marks
length_within [] [] h = refl
length_within [] (mark ∷ marks) h = absurd h
length_within (word ∷ words) [] h = absurd h
length_within (word ∷ words) (mark ∷ marks) h = ap suc (length_within words marks h.1)

-- so there is one word for each entry
pub counters_long : (opened : ℕ) (m : MachineView) (counters : List ℕ) → IsCounted opened m counters → length counters ≡ length m.entries
counters_long opened m counters h =
    length_within counters (marks_behind opened m.entries m.moves) h.within ∙ length_behind opened m.entries m.moves

within_more : (words marks : List ℕ) (word mark : ℕ) → AreWithin words marks → word ≤ mark → AreWithin (words ++ word ∷ []) (marks ++ mark ∷ [])
within_more [] [] word mark h le = (le, tt)
within_more [] (y ∷ marks) word mark h le = absurd h
within_more (x ∷ words) [] word mark h le = absurd h
within_more (x ∷ words) (y ∷ marks) word mark h le = (h.0, within_more words marks word mark h.1 le)

-- an entry more: the mark behind all
last_behind : (mark : ℕ) (es : List Entry) (moves : List ℕ) (e : Entry) (move : ℕ) → length moves ≡ length es
    → mark_behind mark (es ++ e ∷ []) (moves ++ move ∷ []) ≡ max (mark_behind mark es moves + 256 * e.fills) move
last_behind mark [] [] e move long = refl
last_behind mark [] (y ∷ moves) e move long = absurd (omega (arith, long))
last_behind mark (x ∷ es) [] e move long = absurd (omega (arith, long))
last_behind mark (x ∷ es) (y ∷ moves) e move long = last_behind (max (mark + 256 * x.fills) y) es moves e move (omega (arith, long))

marks_more : (mark : ℕ) (es : List Entry) (moves : List ℕ) (e : Entry) (move : ℕ) → length moves ≡ length es
    → marks_behind mark (es ++ e ∷ []) (moves ++ move ∷ []) ≡ marks_behind mark es moves ++ mark_behind mark (es ++ e ∷ []) (moves ++ move ∷ []) ∷ []
marks_more mark [] [] e move long = refl
marks_more mark [] (y ∷ moves) e move long = absurd (omega (arith, long))
marks_more mark (x ∷ es) [] e move long = absurd (omega (arith, long))
marks_more mark (x ∷ es) (y ∷ moves) e move long =
    let risen = max (mark + 256 * x.fills) y in
    ap (λ l. risen ∷ l) (marks_more risen es moves e move (omega (arith, long)))

-- the mark rises with refills alone, or to where the counter was moved
risen_to : (old new top move : ℕ) → old ≤ top → (new ≡ old) ⊎ (new ≡ move) → new ≤ max top move
risen_to old new top move le (inl same) = omega (arith, le, same)
risen_to old new top move le (inr moved) = omega (arith, moved)

-- An entry more, behind which the counter was at most the mark.
pub counted_entry : (opened : ℕ) (old new : MachineView) (counters : List ℕ) (e : Entry) (move word : ℕ) → IsCounted opened old counters → old.closed ≡ false
    → length old.moves ≡ length old.entries → e.fills ≡ old.fills → new ≡ with_entry old e move new.mark → (new.mark ≡ old.mark) ⊎ (new.mark ≡ move)
    → All (λ x. x ≤ word) counters → word ≤ new.mark → IsCounted opened new (counters ++ word ∷ [])
counted_entry opened old new counters e move word h off long fills is risen rise le =
    let top = mark_behind opened old.entries old.moves + 256 * e.fills in
    let behind = last_behind opened old.entries old.moves e move long in
    let before : old.mark ≤ top = omega (arith, h.mark off, fills) in
    let most : new.mark ≤ max top move = risen_to old.mark new.mark top move before risen in
    let last : new.mark ≤ mark_behind opened (old.entries ++ e ∷ []) (old.moves ++ move ∷ []) = subst (λ n. new.mark ≤ n) (sym behind) most in
    let within = within_more counters (marks_behind opened old.entries old.moves) word (mark_behind opened (old.entries ++ e ∷ []) (old.moves ++ move ∷ [])) h.within (omega (arith, le, last)) in
    record {
      rise = all_pairs_push (λ x y. x ≤ y) counters word h.rise rise;
      within = subst (λ m. AreWithin (counters ++ word ∷ []) (marks_behind opened m.entries m.moves)) (sym is)
          (subst (AreWithin (counters ++ word ∷ [])) (sym (marks_more opened old.entries old.moves e move long)) within);
      mark = λ on. subst (λ m. new.mark ≤ mark_behind opened m.entries m.moves + 256 * m.fills) (sym is) (omega (arith, last));
    }

-- A refill more, or none.
pub counted_refill : (opened : ℕ) (old new : MachineView) (counters : List ℕ) (fills mark : ℕ) → IsCounted opened old counters → old.closed ≡ false
    → new ≡ record old { fills = fills; mark = mark } → mark + 256 * old.fills ≤ old.mark + 256 * fills → IsCounted opened new counters
counted_refill opened old new counters fills mark h off is le = record {
  rise = h.rise;
  within = subst (λ m. AreWithin counters (marks_behind opened m.entries m.moves)) (sym is) h.within;
  mark = λ on. subst (λ m. m.mark ≤ mark_behind opened m.entries m.moves + 256 * m.fills) (sym is) (omega (arith, h.mark off, le));
}

-- a refill is stored where this mark is the one that was published last; else nothing changes
pub counted_raised : (opened : ℕ) (old new : MachineView) (counters : List ℕ) (seen : ℕ) → IsCounted opened old counters → old.closed ≡ false
    → (seen ≡ old.mark → new ≡ record old { fills = old.fills + 1; mark = seen + 256 }) → (seen ≢ old.mark → new ≡ old) → IsCounted opened new counters
counted_raised opened old new counters seen h off filled nothing = by_mark (ℕ_discrete seen old.mark) where
  by_mark : Dec (seen ≡ old.mark) → IsCounted opened new counters
  by_mark (yes same) = counted_refill opened old new counters (old.fills + 1) (seen + 256) h off (filled same) (omega (arith, same))
  by_mark (no other) = subst (λ m. IsCounted opened m counters) (sym (nothing other)) h

-- A call that closes: the mark is told no more.
pub counted_closed : (opened : ℕ) (old new : MachineView) (counters : List ℕ) → IsCounted opened old counters → new.entries ≡ old.entries → new.moves ≡ old.moves → new.closed ≡ true
    → IsCounted opened new counters
counted_closed opened old new counters h entries moves closed = record {
  rise = h.rise;
  within = subst (λ es. AreWithin counters (marks_behind opened es new.moves)) (sym entries) (subst (λ ms. AreWithin counters (marks_behind opened old.entries ms)) (sym moves) h.within);
  mark = λ on. absurd (true≢false (sym closed ∙ on));
}

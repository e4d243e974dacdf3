-- Where the counter of sequence numbers was behind each entry of a life.
use Rattle.std.specs.Prelude.{◌≡◌, ℕ, ◌+◌, ◌*◌, ◌≤◌, max, false, List, [], ◌∷◌, AllPairs, ⊤}
use Rattle.mesh_types.specs.declared.history.Entry.{Entry}
use Rattle.machine_contract.specs.View.{MachineView}
use Rattle.locked_node.specs.Node.{first_word, rest_words}

-- The mark behind each of these entries, of a life that opened at this one: it rises by 256 with each refill before the entry, and to where the counter
-- was moved to last behind it.
abbrev pub marks_behind : ℕ → List Entry → List ℕ → List ℕ
marks_behind mark [] moves = []
marks_behind mark (e ∷ entries) moves =
    let risen = max (mark + 256 * e.fills) (first_word moves) in
    risen ∷ marks_behind risen entries (rest_words moves)

-- the mark behind all of them
abbrev pub mark_behind : ℕ → List Entry → List ℕ → ℕ
mark_behind mark [] moves = mark
mark_behind mark (e ∷ entries) moves = mark_behind (max (mark + 256 * e.fills) (first_word moves)) entries (rest_words moves)

-- as many words as marks, each at most the mark at its place
abbrev pub AreWithin : List ℕ → List ℕ → Type 0
AreWithin [] [] = ⊤
AreWithin (word ∷ words) (mark ∷ marks) = (word ≤ mark) × AreWithin words marks
AreWithin _ _ = ⊥

-- The counter never fell from one entry to the next, and behind each it was at most the mark that refills and moves had raised by then; so is the
-- mark of a machine that isn't closed.
pub record IsCounted (opened : ℕ) (m : MachineView) (counters : List ℕ) : Type 0 where
  pub rise : AllPairs (λ x y. x ≤ y) counters
  pub within : AreWithin counters (marks_behind opened m.entries m.moves)
  pub mark : m.closed ≡ false → m.mark ≤ mark_behind opened m.entries m.moves + 256 * m.fills

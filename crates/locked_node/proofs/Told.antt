-- Where the counter had been moved to last: behind each entry of a life, and as a seat was told.
use Rattle.std.proofs.Common.{◌≡◌, ◌∙◌, ℕ, suc, List, [], ◌∷◌, ◌++◌, length, inl, inr, refl, sym, ap, subst, arith}
use Rattle.std.specs.Prelude.{◌⊎◌, ◌<◌, ◌≤◌, All, fold}
use Rattle.std.specs.List.{Contains}
use Rattle.std.proofs.lemmas.List.{length-map}
use Rattle.std.proofs.lemmas.List.Elements.{All-cons, All-head, All-nil, All-tail, Contains-append_left, Contains-append_right}
use Rattle.std.proofs.lemmas.List.Sums.{fold-append}
use Rattle.event_definitions.specs.History.{Told}
use Rattle.event_definitions.specs.Role.{Role}
use Rattle.flash_model.specs.Chip.{Chip}
use Rattle.record_types.specs.declared.records.StoreRecord.{StoreRecord}
use Rattle.seq_word.specs.Rule.{IsPast}
use Rattle.seq_word.specs.Seen.{DrawerView, IsAbove, last_word}
use Rattle.machine_contract.specs.Moves.{moves_from}
use Rattle.machine_contract.specs.Opening.{FlashFound}
use Rattle.machine_contract.specs.Standing.{IsLifeSoFar}
use Rattle.machine_contract.specs.View.{MachineView}
use Rattle.locked_node.specs.declared.marks.Behind.{Behind}
use Rattle.locked_node.specs.Node.{HasBeenTold, KnowsBehind}
use Rattle.turn_lock.specs.Entries.{IsPrefix}

length_moves : (role : Role) (over : List StoreRecord) (before told : List Told) → length (moves_from role over before told) ≡ length told
length_moves role over before [] = refl
length_moves role over before (t ∷ ts) = ap suc (length_moves role over (before ++ t ∷ []) ts)

-- each entry of a life has a move behind it
pub moves_long : (role : Role) (image : List ℕ → Type 0) (first : FlashFound) (chip : Chip) (over : List StoreRecord) (m : MachineView) → IsLifeSoFar role image first chip over m
    → length m.moves ≡ length m.entries
moves_long role image first chip over m life =
    ap length life.moves ∙ length_moves role over [] life.told ∙ sym (length-map life.told (λ t. t.entry)) ∙ ap length life.entries

pub last_more : (words : List ℕ) (word : ℕ) → last_word (words ++ word ∷ []) ≡ word
last_more words word = fold-append (λ (before word : ℕ). word) 0 words (word ∷ [])

last_from : (words : List ℕ) (a : ℕ) → (fold (λ (before word : ℕ). word) a words ≡ a) ⊎ Contains words (fold (λ (before word : ℕ). word) a words)
last_from [] a = inl refl
last_from (x ∷ words) a =
    elim (last_from words x) [
      | inl same ↦ inr (0, omega arith, sym same)
      | inr there ↦ inr (Contains-append_right (x ∷ []) words _ there)
    ]

-- A seat that was told all these words, behind others, knows the last of them.
pub told_last : (informed words : List ℕ) → HasBeenTold (informed ++ words) (last_word words)
told_last informed words =
    elim (last_from words 0) [
      | inl none ↦ inl none
      | inr there ↦ inr (Contains-append_right informed words _ there)
    ]

-- and still does once it was told more
pub told_more : (front informed : List ℕ) (move : ℕ) → IsPrefix front informed → HasBeenTold front move → HasBeenTold informed move
told_more front informed move p (inl none) = inl none
told_more front informed move p (inr there) = inr (subst (λ words. Contains words move) (sym p.is) (Contains-append_left front p.rest move there))

pub knows_more : (front informed : List ℕ) (behind : Behind) → IsPrefix front informed → KnowsBehind front behind → KnowsBehind informed behind
knows_more front informed behind p h = record {
  moved = told_more front informed behind.moved p h.moved;
  counter = subst (λ words. Contains words behind.counter) (sym p.is) (Contains-append_left front p.rest behind.counter h.counter);
}

-- A seat that was told where the counter was, and then where it had been moved to, knows both last words.
pub knows_last : (informed counters words informed_then informed_now : List ℕ) (counter move : ℕ) → counters ≡ informed ++ counter ∷ [] → informed_now ≡ (informed_then ++ counters) ++ words
    → move ≡ last_word words → KnowsBehind informed_now (record { moved = move; counter = counter })
knows_last informed counters words before now counter move seen told is = record {
  moved = subst (HasBeenTold now) (sym is) (subst (λ l. HasBeenTold l (last_word words)) (sym told) (told_last (before ++ counters) words));
  counter = subst (λ l. Contains l counter) (sym told)
      (Contains-append_left (before ++ counters) words counter
      (Contains-append_right before counters counter (subst (λ l. Contains l counter) (sym seen) (Contains-append_right informed (counter ∷ []) counter (0, omega arith, refl)))));
}

-- all words of a front are as all are
front_all : (front more : List ℕ) (word : ℕ) → All (λ x. x ≤ word) (front ++ more) → All (λ x. x ≤ word) front
front_all [] more word h = All-nil (λ x. x ≤ word)
front_all (x ∷ front) more word h =
    All-cons (λ x. x ≤ word) x front (All-head (λ x. x ≤ word) x (front ++ more) h) (front_all front more word (All-tail (λ x. x ≤ word) x (front ++ more) h))

-- A word that is above all that a seat that was told more has seen is above what it had.
pub above_before : (old now : DrawerView) (more : List ℕ) (word : ℕ) → now ≡ record old { informed = old.informed ++ more } → IsAbove now word → IsAbove old word
above_before old now more word is h = record {
  drawn = subst (λ l. All (λ x. x < word) l) (ap (λ d. d.drawn) is) h.drawn;
  noted = subst (λ l. All (λ x. x < word) l) (ap (λ d. d.noted) is) h.noted;
  looks = subst (λ l. All (IsPast word) l) (ap (λ d. d.looks) is) h.looks;
  known = subst (λ l. All (IsPast word) l) (ap (λ d. d.known) is) h.known;
  informed = front_all old.informed more word (subst (λ l. All (λ x. x ≤ word) l) (ap (λ d. d.informed) is) h.informed);
}

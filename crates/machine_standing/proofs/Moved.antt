-- Where the counter is moved to, as records are stored.
use Rattle.std.proofs.Common.{◌≡◌, ◌⊎◌, inl, inr, ℕ, List, [], ◌∷◌, ◌++◌, drop, fold, length, nat_lt, if◌then◌else◌, append-nil, append_assoc, refl, ap, sym, ◌∙◌, arith}
use Rattle.std.proofs.lemmas.Bool.Decides.{nat_tests}
use Rattle.std.proofs.lemmas.Grind.{fold-append}
use Rattle.event_definitions.specs.Handling.{past_of, records_after}
use Rattle.event_definitions.specs.History.{Told}
use Rattle.event_definitions.specs.Role.{Role}
use Rattle.event_storing.specs.Storing.{HasRisen, advance_to, advances_of, state_said}
use Rattle.machine_contract.specs.Moves.{moves_from, rise, rises}
use Rattle.machine_contract.specs.Moved.{IsMoved}
use Rattle.seq_word.specs.Seen.{KeeperView, last_word, went_to}
use Rattle.mesh_base.specs.IvState.{transmit_of}
use Rattle.record_types.specs.declared.records.StoreRecord.{StoreRecord}
use Rattle.record_types.specs.declared.records.StoreRecord.TheVariants as R
use Rattle.store_definitions.specs.Config.{Config, changed, config_of, no_config}
use Rattle.store_definitions.specs.Numbers.{fill_of}

no_rise : (n : ℕ) (words : List ℕ) → (if nat_lt n n then words else []) ≡ []
no_rise n words = grind (arith, nat_tests)

rises_append : (c : Config) (items more : List StoreRecord) → rises c (items ++ more) ≡ rises c items ++ rises (fold changed c items) more
rises_append c [] more = refl
rises_append c (item ∷ items) more =
    ap (λ l. rise c (changed c item) ++ l) (rises_append (changed c item) items more)
    ∙ sym (append_assoc (rise c (changed c item)) (rises (changed c item) items) (rises (fold changed (changed c item) items) more))

pub moved_none : (over : List StoreRecord) → IsMoved over over []
moved_none over = record { items = []; are = sym (append-nil over); moved = refl }

-- records more
pub moved_more : (over records more : List StoreRecord) (old new : List (ℕ × ℕ)) → IsMoved over records old
    → went_to new ≡ went_to old ++ rises (config_of records) more → IsMoved over (records ++ more) new
moved_more over records more old new h is = record {
  items = h.items ++ more;
  are = ap (λ l. l ++ more) h.are ∙ append_assoc over h.items more;
  moved = is ∙ ap (λ l. l ++ rises (config_of records) more) h.moved
      ∙ ap (λ (l : List StoreRecord). rises (config_of over) h.items ++ rises (config_of l) more) h.are
      ∙ ap (λ (c : Config). rises (config_of over) h.items ++ rises c more) (fold-append changed no_config over h.items)
      ∙ sym (rises_append (config_of over) h.items more);
}

-- a refill leaves the IV Index
fill_rises : (c : Config) → rises c (fill_of c ∷ []) ≡ []
unfolding changed transmit_of
fill_rises c = ap (λ l. l ++ []) (no_rise (transmit_of c.iv) _)

pub moved_fill : (over records : List StoreRecord) (advances : List (ℕ × ℕ)) → IsMoved over records advances
    → IsMoved over (records ++ fill_of (config_of records) ∷ []) advances
moved_fill over records advances h =
    moved_more over records (fill_of (config_of records) ∷ []) advances advances h
    (sym (append-nil (went_to advances)) ∙ ap (λ l. went_to advances ++ l) (sym (fill_rises (config_of records))))

-- Where it was moved to behind each entry.

-- behind a list there is what was put behind it
dropped : (xs ys : List StoreRecord) → drop (length xs) (xs ++ ys) ≡ ys
dropped [] ys = refl
dropped (x ∷ xs) ys = dropped xs ys

-- the last of the words that these records moved it to, behind those of before
abbrev last_of : List StoreRecord → List StoreRecord → ℕ
last_of over records = last_word (rises (config_of over) (drop (length over) records))

-- with an entry more
moves_more : (role : Role) (over : List StoreRecord) (before ts : List Told) (t : Told)
    → moves_from role over before (ts ++ t ∷ []) ≡ moves_from role over before ts ++ last_of over (records_after role (past_of (before ++ ts) t) t) ∷ []
moves_more role over before [] t = ap (λ l. last_of over (records_after role (past_of l t) t) ∷ []) (sym (append-nil before))
moves_more role over before (x ∷ ts) t =
    ap (λ l. last_of over (records_after role (past_of before x) x) ∷ l)
    (moves_more role over (before ++ x ∷ []) ts t
    ∙ ap (λ l. moves_from role over (before ++ x ∷ []) ts ++ last_of over (records_after role (past_of l t) t) ∷ []) (append_assoc before (x ∷ []) ts))

-- the word that it was moved to last is the last one that records moved it to
last_moved : (over records : List StoreRecord) (advances : List (ℕ × ℕ)) → IsMoved over records advances → last_word (went_to advances) ≡ last_of over records
last_moved over records advances h =
    ap last_word h.moved
    ∙ ap (λ l. last_word (rises (config_of over) l)) (sym (dropped over h.items) ∙ ap (drop (length over)) (sym h.are))

-- the last of these words is the one that was put behind them
pub last_behind : (words : List ℕ) (word : ℕ) → last_word (words ++ word ∷ []) ≡ word
last_behind words word = fold-append (λ before x. x) 0 words (word ∷ [])

pub moved_entry : (role : Role) (over : List StoreRecord) (told : List Told) (t : Told) (records : List StoreRecord) (advances : List (ℕ × ℕ)) (moves : List ℕ)
    → moves ≡ moves_from role over [] told → records ≡ records_after role (past_of told t) t → IsMoved over records advances
    → moves ++ last_word (went_to advances) ∷ [] ≡ moves_from role over [] (told ++ t ∷ [])
moved_entry role over told t records advances moves before is h =
    ap (λ l. l ++ last_word (went_to advances) ∷ []) before
    ∙ ap (λ n. moves_from role over [] told ++ n ∷ []) (last_moved over records advances h ∙ ap (last_of over) is)
    ∙ sym (moves_more role over [] told t)

-- What the call says that puts the records of an event is the same.

advance_is : (c : Config) (item : StoreRecord) → advance_to c (state_said item) ≡ rise c (changed c item)
unfolding changed transmit_of
advance_is c (R.Numbers current progress mark hours since) = refl
advance_is c _ = sym (no_rise (transmit_of c.iv) _)

pub advances_are : (c : Config) (items : List StoreRecord) → advances_of c items ≡ rises c items
advances_are c [] = refl
advances_are c (item ∷ items) =
    ap (λ l. l ++ advances_of (changed c item) items) (advance_is c item)
    ∙ ap (λ l. rise c (changed c item) ++ l) (advances_are (changed c item) items)

-- Where it wasn't moved, the mark stays; else the mark is the word that it was moved to last.
pub risen_so : (old new : KeeperView) → HasRisen old new → ((new.advances ≡ old.advances) × (new.mark ≡ old.mark)) ⊎ (new.mark ≡ last_word (went_to new.advances))
risen_so old new (inl same) = inl (ap (λ (k : KeeperView). k.advances) same, ap (λ (k : KeeperView). k.mark) same)
risen_so old new (inr rise) = inr rise

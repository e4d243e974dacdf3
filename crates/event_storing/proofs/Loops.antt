-- What the loop over the records of an event goes on with.
use Rattle.std.proofs.Common.{◌≡◌, ℕ, ◌+◌, ◌<◌, ◌≤◌, List, ◌∷◌, ◌++◌, ap, sym, subst, ◌∙◌}
use Rattle.std.specs.Prelude.{length, take, drop, fold, get_or}
use Rattle.std.proofs.lemmas.List.{drop_more, take_all, take_more}
use Rattle.event_records.specs.Putting.{AreMoves, ArePuttable}
use Rattle.event_storing.specs.Storing.{advance_to, advances_of, state_said}
use Rattle.event_storing.proofs.Moves.{advanced_more}
use Rattle.flash_model.specs.Chip.{Chip, LeavesOnly}
use Rattle.node_records.specs.declared.persist.Persist.{Persist}
use Rattle.record_types.specs.declared.records.StoreRecord.{StoreRecord}
use Rattle.store_definitions.specs.Config.{Config, changed}

-- one more
module _ (items : List StoreRecord) (i : ℕ) (d : StoreRecord) (less : i < length items) where
  abbrev item : StoreRecord
  item = get_or items i d

  pub next_may : (p : Persist) → ArePuttable p (drop i items) → ArePuttable p (item ∷ drop (i + 1) items)
  next_may p may = subst (λ (l : List StoreRecord). ArePuttable p l) (drop_more items i d less) may

  pub next_moves : (c : Config) → AreMoves c (drop i items) → AreMoves c (item ∷ drop (i + 1) items)
  next_moves c moves = subst (λ (l : List StoreRecord). AreMoves c l) (drop_more items i d less) moves

  pub rest_moves : (c next : Config) → AreMoves c (drop i items) → next ≡ changed c item → AreMoves next (drop (i + 1) items)
  rest_moves c next moves is = subst (λ (x : Config). AreMoves x (drop (i + 1) items)) (sym is) (next_moves c moves).1

  pub words_more : (start c : Config) (first mid new : List ℕ) → c ≡ fold changed start (take i items) → mid ≡ first ++ advances_of start (take i items)
      → new ≡ mid ++ advance_to c (state_said item) → new ≡ first ++ advances_of start (take (i + 1) items)
  words_more start c first mid new config before more =
      advanced_more start c (take i items) item first mid new config before more
      ∙ ap (λ (l : List StoreRecord). first ++ advances_of start l) (sym (take_more items i d less))

-- what holds at each moment since holds of each image
pub images_by : (old new : Chip) (P : List ℕ → Type 0) → ((c : List ℕ) → old.moment ≤ new.moment → new.images c → new.since old.moment c)
    → LeavesOnly old new P → (c : List ℕ) → new.images c → P c
images_by old new P counts leaves c image = leaves.each c (counts c leaves.later image)

-- at the end
pub words_all : (items : List StoreRecord) (i : ℕ) → length items ≤ i → (start : Config) (first new : List ℕ) → new ≡ first ++ advances_of start (take i items)
    → new ≡ first ++ advances_of start items
words_all items i most start first new is = is ∙ ap (λ (l : List StoreRecord). first ++ advances_of start l) (take_all i items most)

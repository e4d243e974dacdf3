-- What each step tells the pass that takes it: of the step, the pass before, the number found and the pass after.
-- A pass before or after is what it knows, with the value's slot where it has that.
use Rattle.std.specs.Prelude.{◌≡◌, ◌≢◌, ℕ, ◌%◌, ◌<◌, ◌^◌, List, [], ◌∷◌, ◌++◌, length, Option, Some, None}
use Rattle.atomic_table.specs.Table.{Me, Step, rest}
use Rattle.turn_lock.specs.declared.view.View.{View}
use Rattle.turn_lock.specs.Entries.{IsPrefix, IsLongerOf, StandFrom, added, entries_of}
use Rattle.turn_lock.specs.Views.{queueing, entering, adding, leaving, informed}

module _ {T E : Type 0} where
  -- a ticket is taken, which the word found is modulo 2^64
  abbrev pub TakesTicket : Step (Option T) → Me (Option T) (View T E) → ℕ → Me (Option T) (View T E) → Type 0
  TakesTicket step before found after =
      (ticket : ℕ) × (found ≡ ticket % 2 ^ 64) × (after ≡ (queueing before.0 ticket, before.1))

  -- the turn is passed on, and the value is home
  abbrev pub PassesOn : Step (Option T) → Me (Option T) (View T E) → ℕ → Me (Option T) (View T E) → Type 0
  PassesOn step before found after = after ≡ (leaving before.0, rest before.1)

  -- after a join the pass has seen what either had seen, and no more, and its own entries stand in the list that begins so
  abbrev pub IsTold : Step (Option T) → Me (Option T) (View T E) → ℕ → Me (Option T) (View T E) → Type 0
  IsTold step before found after =
      (seen log : List E) × (after ≡ (informed before.0 seen, before.1))
      × IsLongerOf before.0.seen before.0.told seen × IsPrefix seen log × StandFrom 0 log before.0.own

  module _ (entries : T → List E) where
    abbrev pub entries_in : Option T → List E
    entries_in None = []
    entries_in (Some value) = entries value

    -- the entries of the value in the slot that the pass took last
    abbrev pub in_hand : List (ℕ × Option T) → List E
    in_hand [] = []
    in_hand (x ∷ xs) = entries_in x.1

    -- the entries added are counted
    abbrev pub Counts : Step (Option T) → Me (Option T) (View T E) → ℕ → Me (Option T) (View T E) → Type 0
    Counts step before found after = after ≡ (adding before.0 (in_hand before.1), before.1)

module _ {T E O : Type 0} (entries : T → List E) (origin : T → O) where
  -- what a pass finds when its turn has come, of the lock whose first value was `first`
  pub record Finds (v : View T E) (first value : T) : Type 0 where
    pub few : length (entries value) < 2 ^ 64
    pub began : origin value ≡ origin first
    pub seen : IsPrefix v.seen (entries value)
    pub own : StandFrom 0 (entries value) v.own
    pub whole : v.parts ≡ 1024 → entries value ≡ entries first ++ entries_of v.own
    pub places : v.parts ≡ 1024 → v.own ≡ added (entries first) (entries value)

  -- The pass is inside where its ticket is served, and then it has the value. The ticket of a pass with all parts is served.
  abbrev pub LooksAtServing : Step (Option T) → Me (Option T) (View T E) → ℕ → Me (Option T) (View T E) → Type 0
  LooksAtServing step before found after =
      (found ≡ before.0.ticket % 2 ^ 64 → (value : T)
      × (after ≡ (entering before.0 (entries value), (0, Some value) ∷ before.1))
      × ((first : T) → before.0.first ≡ Some first → Finds before.0 first value))
      × (found ≢ before.0.ticket % 2 ^ 64 → after ≡ before)
      × (before.0.parts ≡ 1024 → found ≡ before.0.ticket % 2 ^ 64)

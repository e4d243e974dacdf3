-- Phases that are through, and one more.
use Rattle.std.specs.Prelude.{◌≡◌, ℕ, ◌+◌, ◌==◌, Bool, List, [], ◌∷◌, ◌++◌, map, length}
use Rattle.std.specs.List.{filter, flat_map, range_with_len}
use Rattle.mesh_types.specs.declared.events.Event.{Event}
use Rattle.mesh_types.specs.declared.history.Entry.{Entry}
use Rattle.mesh_types.specs.declared.history.Sent.{Sent}
use Rattle.report_definitions.specs.Record.{list_at}
use Rattle.run_definitions.specs.Order.{Part, PartsOf, placed_from}
use Rattle.node_phase.specs.Part.{number_at}

-- Whatever phases follow, with their parts: these phases with these parts come before them.
pub record PhasesDone (phases : List (List (List Event))) (parts : List Part) : Type 0 where
  pub before : (is_cut : Bool) (rest : List (List (List Event))) (tail : List Part) → PartsOf is_cut rest tail
      → PartsOf is_cut (phases ++ rest) (parts ++ tail)

-- the entries and the lines so far fall into these parts
pub record FallInto (entries : List Entry) (sends : List (List Sent)) (parts : List Part) : Type 0 where
  pub entries_are : placed_from 0 entries ≡ flat_map (λ part. part.entries) parts
  pub sends_are : (k : ℕ) → list_at sends k ≡ flat_map (λ part. list_at part.sends k) parts

abbrev pub entries_by : ℕ → List Entry → List Entry
entries_by k entries = filter (λ e. e.bearer == k) entries

-- the entries of a bearer are numbered from 1, and this is the last number
pub record AreNumbered (entries : List Entry) (counts : List ℕ) (k : ℕ) : Type 0 where
  pub numbers : map (λ e. e.number) (entries_by k entries) ≡ range_with_len 1 (length (entries_by k entries))
  pub count : number_at counts k ≡ length (entries_by k entries)

-- the lines of each bearer, with those of a phase more behind them
abbrev pub both_of : {A : Type 0} → List (List A) → List (List A) → List (List A)
both_of [] ys = ys
both_of (x ∷ xs) [] = x ∷ xs
both_of (x ∷ xs) (y ∷ ys) = (x ++ y) ∷ both_of xs ys

-- behind so many entries each of these parts ends, where so many come before the first
abbrev pub ends_of : ℕ → List Part → List ℕ
ends_of n [] = []
ends_of n (part ∷ parts) = (n + length part.entries) ∷ ends_of (n + length part.entries) parts

-- These phases are through: each bearer did all that it had, in these parts, which end behind so many entries.
pub record AreDone (phases : List (List (List Event))) (entries : List Entry) (sends : List (List Sent))
    (counts ends : List ℕ) : Type 0 where
  pub parts : List Part
  pub ends_are : ends ≡ ends_of 0 parts
  pub done : PhasesDone phases parts
  pub fall : FallInto entries sends parts
  pub numbered : (k : ℕ) → AreNumbered entries counts k

-- Of a life with these phases, broken off or not: its entries and lines fall into the parts of its phases, which end behind so many entries.
pub record AreOrdered (is_cut : Bool) (phases : List (List (List Event))) (entries : List Entry)
    (sends : List (List Sent)) (ends : List ℕ) : Type 0 where
  pub parts : List Part
  pub ends_are : ends ≡ ends_of 0 parts
  pub fall : FallInto entries sends parts
  pub parts_are : PartsOf is_cut phases parts

-- The rule of the lock: what is true between any two steps of any threads.
--
-- Word 0 is the ticket word, the next ticket to be given. Word 1 is the serving word, the ticket whose turn it is. Both are numbers
-- without bound, of which the words hold what is left modulo 2^64. At most 1,024 passes wait, so two tickets that are waited for
-- differ there too. Word 2 is the count of the value's entries. Slot 0 is the value's home.
--
-- A pass takes steps of eight kinds, and each keeps the rule:
--   take a ticket          a fetch_add of 1 on the ticket word; the ticket is the number found
--   look at serving        a load of the serving word; where the number is the pass's ticket, the pass is inside, and the slot is its own
--   take the value out     an exchange of the slot, which changes no word and no view
--   bring the value home   an exchange of the slot, likewise
--   count the entries      a fetch_add on the count, by the number of entries added: they are the pass's own, and it has seen all
--   pass on                a fetch_add of 1 on the serving word; the pass has no ticket and isn't inside, and the slot is home
--   split                  a load of the ticket word; a new pass has one of the parts, and has seen what the pass has seen
--   join                   two loads of the ticket word; the pass has the parts and the own entries of both, and by the second
--                          load it has seen what either has seen
use Rattle.std.specs.Prelude.{◌≡◌, ℕ, ◌+◌, ◌%◌, ◌^◌, ◌<◌, Bool, true, false, ◌&&◌, ◌==◌, List, [], ◌∷◌, length, Option, Some}
use Rattle.std.specs.List.{sum_by, count_by}
use mathlib.Core.Option.{some}
use mathlib.Core.Option as maybe
use lib.ListN.{get_elem?}
use Rattle.atomic_table.specs.Table.{State}
use Rattle.turn_lock.specs.declared.view.View.{View}
use Rattle.turn_lock.specs.Entries.{IsPrefix, StandFrom, times_at, one_below}

-- the pass waits with this ticket, or is inside by it
abbrev pub has_ticket : {T E : Type 0} → ℕ → View T E → Bool
has_ticket ticket v = v.waits && (v.ticket == ticket)

-- What the view v has to do with the value given to `start`, with the ticket that is served, and with the list of all entries.
pub record Fits {T E : Type 0} (first : T) (serving : ℕ) (log : List E) (v : View T E) : Type 0 where
  pub seen : IsPrefix v.seen log
  pub told : IsPrefix v.told log
  pub own : StandFrom 0 log v.own
  pub inside : v.inside ≡ true → (v.waits ≡ true) × (v.ticket ≡ serving) × (v.seen ≡ log)
  pub starts : 0 < v.parts → v.first ≡ Some first
  -- only a pass that was joined away has no part
  pub gone : v.parts ≡ 0 → (v.waits ≡ false) × (v.inside ≡ false) × (v.own ≡ [])

module _ {T E O : Type 0} (entries : T → List E) (origin : T → O) where
  -- the value is home, and has all entries and the origin that it began with
  pub record IsHome (first : T) (log : List E) (homes : List (maybe.Option (Option T))) : Type 0 where
    pub value : T
    pub home : homes ≡ some (Some value) ∷ []
    pub all : entries value ≡ log
    pub began : origin value ≡ origin first

  -- `log` is the list of all entries: of those that were counted, where a pass is inside
  pub record Stands (first : T) (ticket serving : ℕ) (log : List E) (homes : List (maybe.Option (Option T)))
      (views : List (View T E)) : Type 0 where
    pub count_word : length log < 2 ^ 64
    pub begins : IsPrefix (entries first) log
    -- the ticket word is the serving word and as many more as passes have a ticket
    pub queue : count_by (λ v. v.waits) views + serving ≡ ticket
    -- each number from the serving word on and below the ticket word is the ticket of one pass, and no other number is a ticket
    pub tickets : (t : ℕ) → count_by (has_ticket t) views + one_below t serving ≡ one_below t ticket
    -- each place from the number of entries at `start` on and below the count belongs to one pass, and no other place to any
    pub places : (p : ℕ)
        → sum_by (λ v. times_at p v.own) views + one_below p (length (entries first)) ≡ one_below p (length log)
    pub parts : sum_by (λ v. v.parts) views ≡ 1024
    pub each : (by : ℕ) (v : View T E) → get_elem? views by ≡ some v → Fits first serving log v
    pub home : ((by : ℕ) (v : View T E) → get_elem? views by ≡ some v → v.inside ≡ false) → IsHome first log homes

  pub record Ruled (first : T) (s : State (Option T) (View T E)) : Type 0 where
    pub ticket : ℕ
    pub serving : ℕ
    pub log : List E
    pub words : s.words ≡ ticket % 2 ^ 64 ∷ serving % 2 ^ 64 ∷ length log ∷ []
    pub stands : Stands first ticket serving log s.homes s.views

-- When a record is one of a run: the relation of a life to its plan, and of a run to its script.
use Rattle.std.specs.Prelude.{◌≡◌, ◌≢◌, ◌⊎◌, ℕ, ◌+◌, ◌-◌, ◌*◌, ◌^◌, ◌<◌, ◌≤◌, ◌==◌, Bool, true, false, IsTrue, List, [], ◌∷◌, ◌++◌, length, map, filter, take, All, AllPairs, Option, Some, ⊤}
use Rattle.std.specs.List.{Contains, filter_map, flat_map, range_with_len, slice_get}
use Rattle.std.specs.Option.{option_map}
use Rattle.mesh_base.specs.declared.pair.Pair.{Pair}
use Rattle.mesh_types.specs.declared.events.Event.{Event}
use Rattle.mesh_types.specs.declared.history.Entry.{Entry}
use Rattle.mesh_types.specs.declared.jobs.Job.{Job}
use Rattle.mesh_types.specs.declared.lines.Outcome.{Outcome}
use Rattle.mesh_types.specs.declared.lines.Outcome.TheVariants as O
use Rattle.record_types.specs.declared.records.StoreRecord.{StoreRecord}
use Rattle.mesh_types.specs.declared.report.End.{End}
use Rattle.mesh_types.specs.declared.report.End.TheVariants as F
use Rattle.mesh_types.specs.declared.report.Opened.{Opened}
use Rattle.mesh_types.specs.declared.report.Opened.TheVariants as W
use Rattle.store_definitions.specs.Alike.{IsAlike}
use Rattle.store_definitions.specs.Config.{Config, config_of}
use Rattle.store_definitions.specs.Numbers.{filled, fill_of}
use Rattle.store_definitions.specs.Provisioning.{Provisioning, provisioned}
use Rattle.event_definitions.specs.Handling.{AreHandled, records_left}
use Rattle.event_definitions.specs.History.{Insight, Past, Told}
use Rattle.run_definitions.specs.Lines.{drawn_of}
use Rattle.run_definitions.specs.Order.{Step, IsOrdered, is_cut, is_outside, phases_of}
use Rattle.mesh_base.specs.Pairs.{word_of}
use Rattle.store_definitions.specs.Ranges.{IsInRange}
use Rattle.event_definitions.specs.Role.{Role}
use Rattle.report_definitions.specs.Record.{Life, LifeOver, Run, Shown, first_over, list_at, shown, shown_by}

-- The opening of a life over records that say `c`: the flash may fail; else the life is `wasreset` where there was a Node Reset, and
-- where there was none it opens with the IV state and the mark.
pub data Opens (c : Config) : Opened → End → Type 0 where
  opens : {end : End} → c.reset ≡ false → Opens c (W.On c.iv c.mark) end
  was_reset : c.reset ≡ true → Opens c W.WasReset F.Ended
  cut_at_start : {calls : ℕ} → Opens c W.CutAtStart (F.Cut calls)

abbrev pub is_on : Opened → Bool
is_on (W.On state mark) = true
is_on W.WasReset = false
is_on W.CutAtStart = false

-- nothing is done
pub record IsIdle (l : Life) : Type 0 where
  pub entries : l.entries ≡ []
  pub refills : l.refills ≡ 0
  pub sends : (k : ℕ) → list_at l.sends k ≡ []

-- the entries of a bearer are numbered from 1
abbrev pub bearer_entries : Life → ℕ → List Entry
bearer_entries l k = filter (λ e. e.bearer == k) l.entries

abbrev pub IsNumbered : Life → ℕ → Type 0
IsNumbered l k = map (λ e. e.number) (bearer_entries l k) ≡ range_with_len 1 (length (bearer_entries l k))

-- The records that a life leaves.

-- the events from outside that a bearer has in a life, and the one after those that it handled
abbrev pub plan_events : List Step → ℕ → List Event
plan_events plan k = flat_map (λ events. list_at events k) (phases_of plan)

abbrev pub next_event : List Step → Life → ℕ → Option Event
next_event plan l k = slice_get (plan_events plan k) (length (filter (λ e. is_outside e.event) (bearer_entries l k)))

-- what stands at the end of a life
abbrev pub past_at_end : Role → List StoreRecord → Life → List Told → Past
past_at_end role over l told = record { told = told; records = filled l.refills (records_left role over [] told) }

-- What of the records in hand may outlast a cut: whole records from the front of those of a bearer's next event, or those of one
-- refill, all after the refills that were stored last. Of a life that was cut at its opening nothing does.
pub data Outlasts (role : Role) (plan : List Step) (l : Life) (past : Past) : List StoreRecord → Type 0 where
  no_record : Outlasts role plan l past []
  of_event : (k n : ℕ) (event : Event) (insight : Insight)
      → IsTrue (is_on l.opened) → IsTrue (is_cut l.end)
      → next_event plan l k ≡ Some event
      → role.sees past event insight
      → Outlasts role plan l past (take n (role.stores past event insight (role.answer past event insight)))
  of_refill : IsTrue (is_on l.opened) → IsTrue (is_cut l.end)
      → Outlasts role plan l past (fill_of (config_of past.records) ∷ [])

-- What the next life opens over is alike to all the records of this life.
pub record Leaves (role : Role) (plan : List Step) (l : Life) (past : Past) (next : List StoreRecord) : Type 0 where
  pub more : List StoreRecord
  pub outlasts : Outlasts role plan l past more
  pub ranges : All IsInRange (past.records ++ more)
  pub alike : IsAlike next (past.records ++ more)

-- The pairs of a life.

abbrev pub draws : List Shown → List Pair
draws lines = filter_map (λ s. drawn_of s.job s.outcome) lines

-- the word of the pair that a line draws; or, where it says that no number was left, the word at the end of that IV Index
abbrev pub word_told : Job → Outcome → Option ℕ
word_told job (O.Spent iv) = Some (iv * 2 ^ 25 + 2 ^ 24)
word_told job outcome = option_map word_of (drawn_of job outcome)

abbrev pub words_told : List Shown → List ℕ
words_told lines = filter_map (λ s. word_told s.job s.outcome) lines

-- Each pair drawn has a SEQ below 2^24 and lies from the mark that the life opened with up to, and not at, the mark that it leaves; no
-- two lines draw one pair; the pairs of a bearer rise; and of its lines, those that say that no number was left among them, none tells a word
-- below that of an earlier one.
pub record IsDrawn (over next : List StoreRecord) (l : Life) : Type 0 where
  pub seq : All (λ p. p.seq < 2 ^ 24) (draws (shown l))
  pub from : All (λ p. (config_of over).mark ≤ word_of p) (draws (shown l))
  pub below : All (λ p. word_of p < (config_of next).mark) (draws (shown l))
  pub once : AllPairs (λ p q. word_of p ≢ word_of q) (draws (shown l))
  pub rise : (k : ℕ) → AllPairs (λ p q. word_of p < word_of q) (draws (shown_by l k))
  pub onward : (k : ℕ) → AllPairs (λ x y. x ≤ y) (words_told (shown_by l k))

-- A line says that no number is left under an IV Index only where the mark that the life leaves has reached the end of that, and the life
-- drew the last number under it, for one of its lines, or opened with the mark behind that number.
abbrev pub IsSpentRight : List StoreRecord → List StoreRecord → Life → Outcome → Type 0
IsSpentRight over next l (O.Spent iv) =
    (iv * 2 ^ 25 + 2 ^ 24 ≤ (config_of next).mark)
    × (((config_of over).mark ≡ iv * 2 ^ 25 + 2 ^ 24)
    ⊎ Contains (draws (shown l)) (record { iv = iv; seq = 2 ^ 24 - 1 }))
IsSpentRight over next l _ = ⊤

-- The life is one of this plan: it opens over the one list of records and leaves the other.
pub record LifeOf (role : Role) (plan : List Step) (over : List StoreRecord) (l : Life)
    (next : List StoreRecord) : Type 0 where
  pub opening : Opens (config_of over) l.opened l.end
  pub idle : is_on l.opened ≡ false → IsIdle l
  -- what the octets of the entries were read as
  pub told : List Told
  pub entries : map (λ t. t.entry) told ≡ l.entries
  pub handled : AreHandled role over [] told
  pub numbers : (k : ℕ) → IsNumbered l k
  pub order : is_on l.opened ≡ true → IsOrdered plan l
  pub leaves : Leaves role plan l (past_at_end role over l told) next
  pub drawn : IsDrawn over next l
  pub spent : All (λ s. IsSpentRight over next l s.outcome) (shown l)

-- Runs.

-- a script: what the node is provisioned with, and the plan of each life
pub record Script : Type 0 where
  pub node : Provisioning
  pub lives : List (List Step)

-- each life is one of its plan, and leaves what the life after it opens over; the last one leaves the last list
abbrev pub LivesOf : Role → List (List Step) → List LifeOver → List StoreRecord → Type 0
LivesOf role [] [] last = ⊤
LivesOf role (plan ∷ plans) (x ∷ xs) last =
    LifeOf role plan x.over x.life (first_over xs last) × LivesOf role plans xs last
LivesOf role _ _ last = ⊥

pub record RunOf (role : Role) (s : Script) (r : Run) : Type 0 where
  pub first : first_over r.lives r.last ≡ provisioned s.node
  pub lives : LivesOf role s.lives r.lives r.last

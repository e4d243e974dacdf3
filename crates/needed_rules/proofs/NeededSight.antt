-- The record that shows that octets are to be read as what they seal: a message of an IV Index that expired, which no
-- node reads any more, is seen in two lives, and accepted in both.
use Rattle.std.proofs.Common.{◌≡◌, ℕ, lit<, Bool, true, false, cond, eqb, List, [], ◌∷◌, ◌++◌, refl, None}
use Rattle.std.proofs.lemmas.Bool.{true≢false}
use Rattle.record_types.specs.declared.records.StoreRecord.{StoreRecord}
use Rattle.record_types.specs.declared.records.StoreRecord.TheVariants as R
use Rattle.event_definitions.specs.Answers.{answer_of}
use Rattle.store_definitions.specs.Config.{changed, config_of}
use Rattle.store_definitions.specs.Entries.{entry_of, greatest_with, unexpired}
use Rattle.event_definitions.specs.Jobs.{jobs_of}
use Rattle.store_definitions.specs.Ranges.{IsInRange}
use Rattle.report_definitions.specs.Record.{Run, Shown, shown}
use Rattle.event_definitions.specs.Role.{node_role}
use Rattle.run_definitions.specs.RunOf.{IsSpentRight, Script, no_record, past_at_end}
use Rattle.event_definitions.specs.Stores.{stores}
use Rattle.needed_rules.specs.Needed.{AreHandledSo, HandlesButSight, Repeats}
use Rattle.run_safety.specs.Rules.{LeavesBy, LifeBy, Rules, all_rules}
use Rattle.event_definitions.specs.Layers.{quiet_layers}
use Rattle.needed_rules.specs.WrittenRun.{node, pair}
use Rattle.needed_rules.proofs.NeededDraws.{first_list, first_opens}
use Rattle.needed_rules.proofs.NeededNames.{at_end_range, control_name, life, nothing_drawn, numbered, ordered, plan, shows_nothing, told, twice}
use Rattle.needed_rules.proofs.WrittenRun.{all_of, quiet_safe}

abbrev any_sight : Rules
any_sight = record all_rules { are_handled = AreHandledSo HandlesButSight }

handled : AreHandledSo HandlesButSight (node_role quiet_layers) first_list [] (told 3 ∷ [])
unfolding changed answer_of stores jobs_of
handled = (refl, record { answer = refl; jobs = refl }, tt)

abbrev at_end : List StoreRecord
at_end = first_list ++ R.Replay (control_name 3) None ∷ []

-- the message's entry is expired under 5
expired_entry : (b : Bool) → None ≡ unexpired 5 (cond b (greatest_with None (control_name 3).pair) None)
expired_entry true = refl
expired_entry false = refl

same_entries : (src : ℕ) → entry_of first_list src ≡ entry_of at_end src
unfolding changed
same_entries src = expired_entry (eqb 0x0101 src)

leaves : LeavesBy any_sight (node_role quiet_layers) (plan 3) (life 3) (past_at_end (node_role quiet_layers) first_list (life 3) (told 3 ∷ [])) first_list
unfolding changed stores
leaves = record { more = []; outlasts = no_record; ranges = all_of IsInRange at_end (at_end_range 3 (lit< tt)); alike = record { config = refl; entries = same_entries } }

life_by : LifeBy any_sight (node_role quiet_layers) (plan 3) first_list (life 3) first_list
life_by = record {
  opening = first_opens (pair 0) 0x7f;
  idle = λ e. absurd (true≢false e);
  told = told 3 ∷ [];
  entries = refl;
  handled = handled;
  numbers = numbered 3;
  order = λ e. ordered 3;
  leaves = leaves;
  drawn = nothing_drawn first_list first_list (life 3) refl (shows_nothing 3);
  spent = all_of (λ (s : Shown). IsSpentRight first_list first_list (life 3) s.outcome) (shown (life 3)) tt;
}

-- the same life twice
abbrev script : Script
script = record { node = node; lives = plan 3 ∷ plan 3 ∷ [] }

abbrev run : Run
run = record { lives = record { over = first_list; life = life 3 } ∷ record { over = first_list; life = life 3 } ∷ []; last = first_list }

pub sight_needed : Repeats (record all_rules { are_handled = AreHandledSo HandlesButSight })
sight_needed = (quiet_layers, script, run, quiet_safe, record { first = refl; lives = (life_by, (life_by, tt)) }, twice (control_name 3))

-- The record that shows that an entry is to see the records that were left: in the second life it sees those of
-- provisioning, and accepts the message of the first life again.
use Rattle.std.proofs.Common.{None, ◌≡◌, lit<, List, [], ◌∷◌, ◌++◌, refl}
use Rattle.std.proofs.lemmas.Bool.{true≢false}
use Rattle.mesh_base.specs.IvState.{transmit_of}
use Rattle.record_types.specs.declared.records.StoreRecord.{StoreRecord}
use Rattle.record_types.specs.declared.records.StoreRecord.TheVariants as R
use Rattle.event_definitions.specs.Answers.{answer_of}
use Rattle.store_definitions.specs.Config.{changed, config_of}
use Rattle.event_definitions.specs.Handling.{Handles, past_of}
use Rattle.event_definitions.specs.Jobs.{jobs_of}
use Rattle.store_definitions.specs.Ranges.{IsInRange}
use Rattle.event_definitions.specs.Readings.{sees_pdu}
use Rattle.report_definitions.specs.Record.{Run, Shown, shown}
use Rattle.event_definitions.specs.Role.{node_role}
use Rattle.run_definitions.specs.RunOf.{IsSpentRight, Opens, Script, no_record, opens, past_at_end}
use Rattle.event_definitions.specs.Stores.{stores}
use Rattle.needed_rules.specs.Needed.{AreHandledOverAny, Repeats}
use Rattle.run_safety.specs.Rules.{LeavesBy, LifeBy, Rules, all_rules}
use Rattle.event_definitions.specs.Layers.{quiet_layers}
use Rattle.needed_rules.specs.WrittenRun.{node}
use Rattle.needed_rules.proofs.NeededDraws.{first_list}
use Rattle.needed_rules.proofs.NeededNames.{at_end_range, control_lower, control_name, life, nothing_drawn, numbered, ordered, plan, reads, shows_nothing, told, twice}
use Rattle.needed_rules.proofs.WrittenRun.{all_of, quiet_safe}

abbrev any_records : Rules
any_records = record all_rules { are_handled = AreHandledOverAny }

-- what both lives leave
abbrev left : List StoreRecord
left = first_list ++ R.Replay (control_name 5) None ∷ []

handled : Handles (node_role quiet_layers) (past_of [] (told 5)) (told 5)
unfolding changed answer_of stores jobs_of
handled = record { sees = sees_pdu refl reads control_lower refl; answer = refl; jobs = refl }

opening : (over : List StoreRecord) → config_of over ≡ config_of first_list → Opens (config_of over) (life 5).opened (life 5).end
unfolding changed transmit_of
opening over e = rw e (opens refl)

leaves : (over : List StoreRecord) → LeavesBy any_records (node_role quiet_layers) (plan 5) (life 5) (past_at_end (node_role quiet_layers) over (life 5) (told 5 ∷ [])) left
unfolding stores
leaves over = record { more = []; outlasts = no_record; ranges = all_of IsInRange left (at_end_range 5 (lit< tt)); alike = record { config = refl; entries = λ src. refl } }

life_by : (over : List StoreRecord) → config_of over ≡ config_of first_list → LifeBy any_records (node_role quiet_layers) (plan 5) over (life 5) left
life_by over e = record {
  opening = opening over e;
  idle = λ e. absurd (true≢false e);
  told = told 5 ∷ [];
  entries = refl;
  handled = (handled, tt);
  numbers = numbered 5;
  order = λ e. ordered 5;
  leaves = leaves over;
  drawn = nothing_drawn over left (life 5) refl (shows_nothing 5);
  spent = all_of (λ (s : Shown). IsSpentRight over left (life 5) s.outcome) (shown (life 5)) tt;
}

same_config : config_of left ≡ config_of first_list
unfolding changed
same_config = refl

abbrev script : Script
script = record { node = node; lives = plan 5 ∷ plan 5 ∷ [] }

abbrev run : Run
run = record { lives = record { over = first_list; life = life 5 } ∷ record { over = left; life = life 5 } ∷ []; last = left }

pub records_needed : Repeats (record all_rules { are_handled = AreHandledOverAny })
records_needed = (
  quiet_layers,
  script,
  run,
  quiet_safe,
  record { first = refl; lives = (life_by first_list refl, (life_by left same_config, tt)) },
  twice (control_name 5),
)

-- The record that shows that the entries of a life are to be told: where none of them is, none is handled, and two PDUs
-- of the node's own go on under one pair.
use Rattle.std.proofs.Common.{[], refl}
use Rattle.std.proofs.lemmas.Bool.{true≢false}
use Rattle.store_definitions.specs.Config.{changed, config_of}
use Rattle.store_definitions.specs.Ranges.{IsInRange}
use Rattle.report_definitions.specs.Record.{Shown, shown}
use Rattle.event_definitions.specs.Role.{node_role}
use Rattle.run_definitions.specs.RunOf.{IsSpentRight, no_record, past_at_end}
use Rattle.needed_rules.specs.Needed.{Reuses, TellsAnything}
use Rattle.run_safety.specs.Rules.{LeavesBy, LifeBy, Rules, all_rules}
use Rattle.event_definitions.specs.Layers.{quiet_layers}
use Rattle.needed_rules.specs.WrittenRun.{pair}
use Rattle.needed_rules.proofs.NeededDraws.{first_list, first_opens, plan}
use Rattle.needed_rules.proofs.NeededJobs.{clash, draws_none, life, numbered, ordered, run, script}
use Rattle.needed_rules.proofs.NeededNames.{nothing_drawn}
use Rattle.needed_rules.proofs.NeededOrder.{ranges}
use Rattle.needed_rules.proofs.WrittenRun.{all_of, quiet_safe}

abbrev untold : Rules
untold = record all_rules { are_told = TellsAnything }

leaves : LeavesBy untold (node_role quiet_layers) (plan 0x7f) life (past_at_end (node_role quiet_layers) first_list life []) first_list
unfolding changed
leaves = record { more = []; outlasts = no_record; ranges = all_of IsInRange first_list ranges; alike = record { config = refl; entries = λ src. refl } }

life_by : LifeBy untold (node_role quiet_layers) (plan 0x7f) first_list life first_list
life_by = record {
  opening = first_opens (pair 0) 0x7f;
  idle = λ e. absurd (true≢false e);
  told = [];
  entries = tt;
  handled = tt;
  numbers = numbered;
  order = λ e. ordered;
  leaves = leaves;
  drawn = nothing_drawn first_list first_list life refl draws_none;
  spent = all_of (λ (s : Shown). IsSpentRight first_list first_list life s.outcome) (shown life) (tt, (tt, tt));
}

pub told_needed : Reuses (record all_rules { are_told = TellsAnything })
told_needed = (quiet_layers, script, run, quiet_safe, record { first = refl; lives = (life_by, tt) }, clash)

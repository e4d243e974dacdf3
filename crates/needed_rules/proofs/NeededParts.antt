-- The records that show that the lines and the entries of a life are to be those of its parts: the lines of two PDUs that
-- go on, of one pair, stand where the node's own PDUs were to be sent.
use Rattle.std.proofs.Common.{◌≡◌, ℕ, zero, suc, ◌+◌, lit<, true, List, [], ◌∷◌, refl, sym, append-nil}
use Rattle.std.proofs.lemmas.Bool.{true≢false}
use Rattle.layer_definitions.specs.Network.{net_text}
use Rattle.mesh_base.specs.IvState.{transmit_of}
use Rattle.mesh_types.specs.declared.answers.Answer.TheVariants as A
use Rattle.mesh_types.specs.declared.events.Event.{Event}
use Rattle.mesh_types.specs.declared.history.Entry.{Entry}
use Rattle.mesh_types.specs.declared.history.Sent.{Sent}
use Rattle.mesh_types.specs.declared.jobs.Job.TheVariants as J
use Rattle.mesh_types.specs.declared.lines.Outcome.TheVariants as O
use Rattle.mesh_types.specs.declared.report.End.TheVariants as F
use Rattle.mesh_types.specs.declared.report.Opened.TheVariants as W
use Rattle.event_definitions.specs.Answers.{answer_of}
use Rattle.store_definitions.specs.Config.{changed, config_of}
use Rattle.event_definitions.specs.Handling.{AreHandled}
use Rattle.event_definitions.specs.History.{OfNothing, Told}
use Rattle.event_definitions.specs.Jobs.{jobs_of}
use Rattle.run_definitions.specs.Lines.{shows_ctl, shows_relay}
use Rattle.run_definitions.specs.Order.{Does, Part, Step, ends, handles, phase, placed_from, stops, whole, writes}
use Rattle.store_definitions.specs.Ranges.{IsInRange}
use Rattle.event_definitions.specs.Readings.{sees_nothing}
use Rattle.report_definitions.specs.Record.{Life, Run, Shown, list_at, shown, shown_by}
use Rattle.event_definitions.specs.Role.{node_role}
use Rattle.run_definitions.specs.RunOf.{IsNumbered, IsSpentRight, Script, draws, no_record, past_at_end, words_told}
use Rattle.event_definitions.specs.Stores.{stores}
use Rattle.run_definitions.specs.Uses.{seals_of, uses}
use Rattle.needed_rules.specs.Needed.{Reuses, WorksOnAnything, WritesAnything}
use Rattle.run_safety.specs.Rules.{LeavesBy, LifeBy, Rules, all_rules}
use Rattle.event_definitions.specs.Layers.{quiet_layers}
use Rattle.needed_rules.specs.WrittenRun.{material, node, opened_state, pair}
use Rattle.needed_rules.proofs.NeededDraws.{Clash, first_list, first_opens, mark, other_text, raw_entry, raw_event, raw_line, some_use}
use Rattle.needed_rules.proofs.NeededLayers.{own_pdu}
use Rattle.needed_rules.proofs.NeededNames.{nothing_drawn}
use Rattle.needed_rules.proofs.NeededOrder.{ranges}
use Rattle.needed_rules.proofs.WrittenRun.{all_of, others_none, others_placed, quiet_safe}

-- two control PDUs are to be sent
abbrev entries : List Entry
entries = raw_entry 0 1 0 0x7f ∷ raw_entry 0 2 0 0x7e ∷ []

abbrev events : List (List Event)
events = (raw_event 0x7f ∷ raw_event 0x7e ∷ []) ∷ []

abbrev plan : List Step
plan = phase events ∷ []

-- and two of the node's own go on
abbrev passing : ℕ → ℕ → Sent
passing entry octet = record {
  entry = entry;
  job = 0;
  outcome = O.Relay (pair 0) true 1 (own_pdu octet).src (own_pdu octet).dst (octet ∷ []) (net_text material (own_pdu octet));
}

abbrev sends : List (List Sent)
sends = (passing 0 0x7f ∷ passing 1 0x7e ∷ []) ∷ []

abbrev life : Life
life = record { opened = W.On opened_state (mark + 0); entries = entries; refills = 0; sends = sends; end = F.Ended }

abbrev told : List Told
told =
    record { entry = raw_entry 0 1 0 0x7f; insight = OfNothing; records = first_list }
    ∷ record { entry = raw_entry 0 2 0 0x7e; insight = OfNothing; records = first_list }
    ∷ []

handled : AreHandled (node_role quiet_layers) first_list [] told
unfolding changed answer_of stores jobs_of transmit_of
handled = (refl, record { sees = sees_nothing refl; answer = refl; jobs = refl }, (refl, record { sees = sees_nothing refl; answer = refl; jobs = refl }, tt))

numbered : (k : ℕ) → IsNumbered life k
numbered zero = refl
numbered (suc k) = rw (others_none k entries (refl, (refl, tt))) refl

draws_none : (k : ℕ) → (draws (shown_by life k) ≡ []) × (words_told (shown_by life k) ≡ [])
draws_none zero = (refl, refl)
draws_none (suc k) = (refl, refl)

abbrev rules : (List Step → Life → Type 0) → Rules
rules is_ordered = record all_rules { is_ordered = is_ordered }

leaves : (is_ordered : List Step → Life → Type 0) → LeavesBy (rules is_ordered) (node_role quiet_layers) plan life (past_at_end (node_role quiet_layers) first_list life told) first_list
unfolding changed stores
leaves is_ordered = record { more = []; outlasts = no_record; ranges = all_of IsInRange first_list ranges; alike = record { config = refl; entries = λ src. refl } }

life_by : (is_ordered : List Step → Life → Type 0) → is_ordered plan life → LifeBy (rules is_ordered) (node_role quiet_layers) plan first_list life first_list
life_by is_ordered ordered = record {
  opening = first_opens (pair 0) 0x7f;
  idle = λ e. absurd (true≢false e);
  told = told;
  entries = refl;
  handled = handled;
  numbers = numbered;
  order = λ e. ordered;
  leaves = leaves is_ordered;
  drawn = nothing_drawn first_list first_list life refl draws_none;
  spent = all_of (λ (s : Shown). IsSpentRight first_list first_list life s.outcome) (shown life) (tt, (tt, tt));
}

abbrev script : Script
script = record { node = node; lives = plan ∷ [] }

abbrev run : Run
run = record { lives = record { over = first_list; life = life } ∷ []; last = first_list }

clash : Clash (uses run)
unfolding changed seals_of
clash h = other_text _ _ refl refl (h 0 1 some_use (lit< tt) (lit< tt) refl refl)

-- where the lines are none of the part, which sends the PDUs under the first two numbers

abbrev right_part : Part
right_part = record { entries = placed_from 0 entries; sends = (raw_line 0 (pair 0) 0x7f ∷ raw_line 1 (pair 1) 0x7e ∷ []) ∷ [] }

right_does : (k : ℕ) → Does events right_part k []
right_does zero =
    handles (record { at = 0; entry = raw_entry 0 1 0 0x7f }) refl (writes shows_ctl (handles (record { at = 1; entry = raw_entry 0 2 0 0x7e }) refl (writes shows_ctl stops)))
right_does (suc k) = rw (others_placed k 0 entries (refl, (refl, tt))) stops

other_lines : WritesAnything plan life
other_lines = record { parts = right_part ∷ []; entries = refl; phases = whole right_does ends }

pub lines_needed : Reuses (record all_rules { is_ordered = WritesAnything })
lines_needed = (quiet_layers, script, run, quiet_safe, record { first = refl; lives = (life_by WritesAnything other_lines, tt) }, clash)

-- where the entries are none of the part, in which they let PDUs go on

abbrev other_entry : ℕ → ℕ → Entry
other_entry number octet = record { bearer = 0; number = number; event = raw_event octet; fills = 0; answer = A.Planned; jobs = J.Relay material (own_pdu octet) ∷ [] }

abbrev other_entries : List Entry
other_entries = other_entry 1 0x7f ∷ other_entry 2 0x7e ∷ []

abbrev other_part : Part
other_part = record { entries = placed_from 0 other_entries; sends = sends }

other_does : (k : ℕ) → Does events other_part k []
other_does zero =
    handles (record { at = 0; entry = other_entry 1 0x7f }) refl (writes shows_relay (handles (record { at = 1; entry = other_entry 2 0x7e }) refl (writes shows_relay stops)))
other_does (suc k) = rw (others_placed k 0 other_entries (refl, (refl, tt))) stops

other_work : WorksOnAnything plan life
other_work = record { parts = other_part ∷ []; sends = λ k. sym (append-nil (list_at sends k)); phases = whole other_does ends }

pub history_needed : Reuses (record all_rules { is_ordered = WorksOnAnything })
history_needed = (quiet_layers, script, run, quiet_safe, record { first = refl; lives = (life_by WorksOnAnything other_work, tt) }, clash)

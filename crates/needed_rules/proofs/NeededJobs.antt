-- The record that shows that the jobs of an entry are needed: two PDUs of the node's own go on under one pair.
use Rattle.std.proofs.Common.{◌≡◌, ℕ, zero, suc, ◌+◌, lit<, true, List, [], ◌∷◌, refl, sym, append-nil}
use Rattle.std.proofs.lemmas.Bool.{true≢false}
use Rattle.layer_definitions.specs.Network.{net_text}
use Rattle.mesh_base.specs.declared.fields.NetFields.{NetFields}
use Rattle.mesh_types.specs.declared.answers.Answer.TheVariants as A
use Rattle.mesh_types.specs.declared.history.Entry.{Entry}
use Rattle.mesh_types.specs.declared.history.Sent.{Sent}
use Rattle.mesh_types.specs.declared.jobs.Job.{Job}
use Rattle.mesh_types.specs.declared.jobs.Job.TheVariants as J
use Rattle.mesh_types.specs.declared.lines.Outcome.TheVariants as O
use Rattle.mesh_types.specs.declared.report.End.TheVariants as F
use Rattle.mesh_types.specs.declared.report.Opened.TheVariants as W
use Rattle.event_definitions.specs.Answers.{answer_of}
use Rattle.store_definitions.specs.Config.{changed, config_of}
use Rattle.event_definitions.specs.History.{OfNothing, Told}
use Rattle.run_definitions.specs.Lines.{shows_relay}
use Rattle.run_definitions.specs.Order.{Does, IsOrdered, Part, ends, handles, placed_from, stops, whole, writes}
use Rattle.store_definitions.specs.Ranges.{IsInRange}
use Rattle.event_definitions.specs.Readings.{sees_nothing}
use Rattle.report_definitions.specs.Record.{Life, Run, Shown, list_at, shown, shown_by}
use Rattle.event_definitions.specs.Role.{node_role}
use Rattle.run_definitions.specs.RunOf.{IsNumbered, IsSpentRight, Script, draws, no_record, past_at_end, words_told}
use Rattle.run_definitions.specs.Seals.{own_fields}
use Rattle.event_definitions.specs.Stores.{stores}
use Rattle.run_definitions.specs.Uses.{seals_of, uses}
use Rattle.needed_rules.specs.Needed.{AreHandledSo, HandlesButJobs, Reuses}
use Rattle.run_safety.specs.Rules.{LeavesBy, LifeBy, Rules, all_rules}
use Rattle.event_definitions.specs.Layers.{quiet_layers}
use Rattle.needed_rules.specs.WrittenRun.{address, material, node, opened_state, pair}
use Rattle.needed_rules.proofs.NeededDraws.{Clash, first_list, first_opens, mark, other_text, plan, raw_event, some_use}
use Rattle.needed_rules.proofs.NeededNames.{nothing_drawn}
use Rattle.needed_rules.proofs.NeededOrder.{ranges}
use Rattle.needed_rules.proofs.WrittenRun.{all_of, others_none, others_placed, quiet_safe}

abbrev own : ℕ → NetFields
own octet = own_fields (pair 0) true 0 (address 0x1201) (address 0xfffd) (octet ∷ [])

abbrev jobs : List Job
jobs = J.Relay material (own 0x7f) ∷ J.Relay material (own 0x7e) ∷ []

abbrev entries : List Entry
entries = record { bearer = 0; number = 1; event = raw_event 0x7f; fills = 0; answer = A.Planned; jobs = jobs } ∷ []

abbrev line : ℕ → ℕ → Sent
line job octet = record {
  entry = 0;
  job = job;
  outcome = O.Relay (pair 0) true 0 (address 0x1201) (address 0xfffd) (octet ∷ []) (net_text material (own octet));
}

abbrev lines : List Sent
lines = line 0 0x7f ∷ line 1 0x7e ∷ []

abbrev pub life : Life
life = record { opened = W.On opened_state (mark + 0); entries = entries; refills = 0; sends = lines ∷ []; end = F.Ended }

abbrev told : List Told
told =
    record {
      entry = record { bearer = 0; number = 1; event = raw_event 0x7f; fills = 0; answer = A.Planned; jobs = jobs };
      insight = OfNothing;
      records = first_list;
    }
    ∷ []

abbrev any_jobs : Rules
any_jobs = record all_rules { are_handled = AreHandledSo HandlesButJobs }

handled : AreHandledSo HandlesButJobs (node_role quiet_layers) first_list [] told
unfolding changed answer_of
handled = (refl, record { sees = sees_nothing refl; answer = refl }, tt)

pub numbered : (k : ℕ) → IsNumbered life k
numbered zero = refl
numbered (suc k) = rw (others_none k entries (refl, tt)) refl

abbrev part : Part
part = record { entries = placed_from 0 entries; sends = lines ∷ [] }

does : (k : ℕ) → Does ((raw_event 0x7f ∷ []) ∷ []) part k []
does zero =
    handles (record { at = 0; entry = record { bearer = 0; number = 1; event = raw_event 0x7f; fills = 0; answer = A.Planned; jobs = jobs } }) refl
    (writes shows_relay (writes shows_relay stops))
does (suc k) = rw (others_placed k 0 entries (refl, tt)) stops

pub ordered : IsOrdered (plan 0x7f) life
ordered = record { parts = part ∷ []; entries = refl; sends = λ k. sym (append-nil (list_at (lines ∷ []) k)); phases = whole does ends }

leaves : LeavesBy any_jobs (node_role quiet_layers) (plan 0x7f) life (past_at_end (node_role quiet_layers) first_list life told) first_list
unfolding changed stores
leaves = record { more = []; outlasts = no_record; ranges = all_of IsInRange first_list ranges; alike = record { config = refl; entries = λ src. refl } }

pub draws_none : (k : ℕ) → (draws (shown_by life k) ≡ []) × (words_told (shown_by life k) ≡ [])
draws_none zero = (refl, refl)
draws_none (suc k) = (refl, refl)

life_by : LifeBy any_jobs (node_role quiet_layers) (plan 0x7f) first_list life first_list
life_by = record {
  opening = first_opens (pair 0) 0x7f;
  idle = λ e. absurd (true≢false e);
  told = told;
  entries = refl;
  handled = handled;
  numbers = numbered;
  order = λ e. ordered;
  leaves = leaves;
  drawn = nothing_drawn first_list first_list life refl draws_none;
  spent = all_of (λ (s : Shown). IsSpentRight first_list first_list life s.outcome) (shown life) (tt, (tt, tt));
}

abbrev pub script : Script
script = record { node = node; lives = plan 0x7f ∷ [] }

abbrev pub run : Run
run = record { lives = record { over = first_list; life = life } ∷ []; last = first_list }

pub clash : Clash (uses run)
unfolding changed seals_of
clash h = other_text _ _ refl refl (h 0 1 some_use (lit< tt) (lit< tt) refl refl)

pub jobs_needed : Reuses (record all_rules { are_handled = AreHandledSo HandlesButJobs })
jobs_needed = (quiet_layers, script, run, quiet_safe, record { first = refl; lives = (life_by, tt) }, clash)

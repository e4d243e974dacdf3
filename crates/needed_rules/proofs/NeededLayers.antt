-- The record that shows that safe layers are needed: a layer lets two PDUs of the node's own go on, under one pair.
use Rattle.std.proofs.Common.{◌≡◌, ℕ, zero, suc, ◌+◌, lit<, true, List, [], ◌∷◌, refl, sym, append-nil}
use Rattle.std.proofs.lemmas.Bool.{true≢false}
use Rattle.layer_definitions.specs.Network.{net_text}
use Rattle.mesh_base.specs.IvState.{transmit_of}
use Rattle.mesh_types.specs.declared.answers.Answer.TheVariants as A
use Rattle.mesh_types.specs.declared.events.Event.{Event}
use Rattle.mesh_types.specs.declared.events.Event.TheVariants as E
use Rattle.mesh_types.specs.declared.history.Entry.{Entry}
use Rattle.mesh_types.specs.declared.history.Sent.{Sent}
use Rattle.mesh_types.specs.declared.jobs.Job.{Job}
use Rattle.mesh_types.specs.declared.jobs.Job.TheVariants as J
use Rattle.mesh_types.specs.declared.lines.Outcome.TheVariants as O
use Rattle.mesh_types.specs.declared.report.End.TheVariants as F
use Rattle.mesh_types.specs.declared.report.Opened.TheVariants as W
use Rattle.event_definitions.specs.Answers.{answer_of}
use Rattle.store_definitions.specs.Config.{changed, config_of}
use Rattle.event_definitions.specs.Handling.{AreHandled}
use Rattle.event_definitions.specs.History.{OfNothing, Told}
use Rattle.event_definitions.specs.Jobs.{jobs_of}
use Rattle.run_definitions.specs.Order.{Does, IsOrdered, Part, Step, ends, handles, phase, placed_from, stops, whole, writes}
use Rattle.store_definitions.specs.Ranges.{IsInRange}
use Rattle.event_definitions.specs.Readings.{sees_nothing}
use Rattle.report_definitions.specs.Record.{Life, Run, Shown, list_at, shown, shown_by}
use Rattle.event_definitions.specs.Role.{node_role}
use Rattle.run_definitions.specs.RunOf.{IsNumbered, IsSpentRight, Script, draws, no_record, past_at_end, words_told}
use Rattle.event_definitions.specs.Stores.{stores}
use Rattle.run_definitions.specs.Uses.{seals_of, uses}
use Rattle.needed_rules.specs.WrittenRun.{address, material, node, opened_state, pair}
use Rattle.needed_rules.proofs.WrittenRun.{all_of, others_none, others_placed}
use Rattle.mesh_base.specs.declared.fields.NetFields.{NetFields}
use Rattle.event_definitions.specs.Layers.{Layers, quiet_layers}
use Rattle.run_definitions.specs.Lines.{shows_relay}
use Rattle.needed_rules.specs.Needed.{ReusesUnsafely}
use Rattle.run_definitions.specs.RunOf.{Leaves, LifeOf}
use Rattle.needed_rules.proofs.NeededDraws.{Clash, first_list, first_opens, mark, other_text, some_use}
use Rattle.needed_rules.proofs.NeededNames.{nothing_drawn}
use Rattle.needed_rules.proofs.NeededOrder.{ranges}

abbrev pub own_pdu : ℕ → NetFields
own_pdu octet = record { iv = 5; ctl = true; ttl = 1; seq = 0; src = address 0x1201; dst = address 0xfffd; tpdu = octet ∷ [] }

abbrev unsafe_jobs : List Job
unsafe_jobs = J.Relay material (own_pdu 0x7f) ∷ J.Relay material (own_pdu 0x7e) ∷ []

abbrev unsafe_layers : Layers
unsafe_layers = record quiet_layers { acks_due = λ past c ticks. unsafe_jobs }

abbrev entry : Entry
entry = record { bearer = 0; number = 1; event = E.Tick 1; fills = 0; answer = A.Ticked 1; jobs = unsafe_jobs }

abbrev line : ℕ → ℕ → Sent
line job octet = record { entry = 0; job = job; outcome = O.Relay (pair 0) true 1 (address 0x1201) (address 0xfffd) (octet ∷ []) (net_text material (own_pdu octet)) }

abbrev lines : List Sent
lines = line 0 0x7f ∷ line 1 0x7e ∷ []

abbrev life : Life
life = record { opened = W.On opened_state (mark + 0); entries = entry ∷ []; refills = 0; sends = lines ∷ []; end = F.Ended }

abbrev events : List (List Event)
events = (E.Tick 1 ∷ []) ∷ []

abbrev plan : List Step
plan = phase events ∷ []

abbrev told : List Told
told = record { entry = entry; insight = OfNothing; records = first_list } ∷ []

handled : AreHandled (node_role unsafe_layers) first_list [] told
unfolding changed answer_of stores jobs_of transmit_of
handled = (refl, record { sees = sees_nothing refl; answer = refl; jobs = refl }, tt)

abbrev part : Part
part = record { entries = placed_from 0 (entry ∷ []); sends = lines ∷ [] }

does : (k : ℕ) → Does events part k []
does zero = handles (record { at = 0; entry = entry }) refl (writes shows_relay (writes shows_relay stops))
does (suc k) = rw (others_placed k 0 (entry ∷ []) (refl, tt)) stops

ordered : IsOrdered plan life
ordered = record { parts = part ∷ []; entries = refl; sends = λ k. sym (append-nil (list_at (lines ∷ []) k)); phases = whole does ends }

numbered : (k : ℕ) → IsNumbered life k
numbered zero = refl
numbered (suc k) = rw (others_none k (entry ∷ []) (refl, tt)) refl

leaves : Leaves (node_role unsafe_layers) plan life (past_at_end (node_role unsafe_layers) first_list life told) first_list
unfolding changed stores
leaves = record { more = []; outlasts = no_record; ranges = all_of IsInRange first_list ranges; alike = record { config = refl; entries = λ src. refl } }

draws_none : (k : ℕ) → (draws (shown_by life k) ≡ []) × (words_told (shown_by life k) ≡ [])
draws_none zero = (refl, refl)
draws_none (suc k) = (refl, refl)

life_of : LifeOf (node_role unsafe_layers) plan first_list life first_list
life_of = record {
  opening = first_opens (pair 0) 0x7f;
  idle = λ e. absurd (true≢false e);
  told = told;
  entries = refl;
  handled = handled;
  numbers = numbered;
  order = λ e. ordered;
  leaves = leaves;
  drawn = nothing_drawn first_list first_list life refl draws_none;
  spent = all_of (λ (s : Shown). IsSpentRight first_list first_list life s.outcome) (shown life) (tt, (tt, tt));
}

abbrev script : Script
script = record { node = node; lives = plan ∷ [] }

abbrev run : Run
run = record { lives = record { over = first_list; life = life } ∷ []; last = first_list }

clash : Clash (uses run)
unfolding changed seals_of
clash h = other_text _ _ refl refl (h 0 1 some_use (lit< tt) (lit< tt) refl refl)

pub safe_layers_needed : ReusesUnsafely
safe_layers_needed = (unsafe_layers, script, run, record { first = refl; lives = (life_of, tt) }, clash)

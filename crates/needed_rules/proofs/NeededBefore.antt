-- The record that shows that an entry is to see the entries before it: a layer lets go on what was heard first, and two
-- entries see PDUs of the node's own there, of one pair.
use Rattle.std.proofs.Common.{◌≡◌, ℕ, zero, suc, ◌+◌, lit<, Bool, true, false, List, [], ◌∷◌, refl, sym, arith, append-nil, Some, None}
use Rattle.std.specs.List.{AllByRecursion, Contains}
use Rattle.std.proofs.lemmas.Bool.{true≢false}
use Rattle.mesh_base.specs.IvState.{transmit_of}
use Rattle.mesh_types.specs.declared.answers.Answer.TheVariants as A
use Rattle.mesh_types.specs.declared.events.Event.{Event}
use Rattle.mesh_types.specs.declared.events.Event.TheVariants as E
use Rattle.mesh_types.specs.declared.history.Entry.{Entry}
use Rattle.mesh_types.specs.declared.history.Sent.{Sent}
use Rattle.mesh_types.specs.declared.jobs.Job.{Job}
use Rattle.mesh_types.specs.declared.jobs.Job.TheVariants as J
use Rattle.mesh_types.specs.declared.lines.Outcome.TheVariants as O
use Rattle.mesh_types.specs.declared.report.End.TheVariants as F
use Rattle.mesh_types.specs.declared.report.Opened.TheVariants as W
use Rattle.layer_definitions.specs.Network.{net_text}
use Rattle.event_definitions.specs.Answers.{answer_of, is_before_cache}
use Rattle.store_definitions.specs.Config.{changed, config_of}
use Rattle.event_definitions.specs.History.{Insight, OfBeacon, OfNothing, OfPdu, Past, Told}
use Rattle.event_definitions.specs.Jobs.{jobs_of}
use Rattle.event_definitions.specs.Layers.{Layers, quiet_layers}
use Rattle.run_definitions.specs.Lines.{shows_relay}
use Rattle.run_definitions.specs.Order.{Does, IsOrdered, Part, Step, ends, handles, phase, placed_from, stops, whole, writes}
use Rattle.store_definitions.specs.Ranges.{IsInRange}
use Rattle.event_definitions.specs.Readings.{sees_nothing}
use Rattle.report_definitions.specs.Record.{Life, Run, Shown, list_at, shown, shown_by}
use Rattle.event_definitions.specs.Role.{node_role}
use Rattle.run_definitions.specs.RunOf.{IsNumbered, IsSpentRight, Script, draws, no_record, past_at_end, words_told}
use Rattle.event_definitions.specs.Stores.{stores}
use Rattle.run_definitions.specs.Uses.{seals_of, uses}
use Rattle.needed_rules.specs.Needed.{AreHandledAfterAny, Reuses}
use Rattle.run_safety.specs.Rules.{LeavesBy, LifeBy, Rules, all_rules}
use Rattle.event_definitions.specs.Safe.{AreSafe, IsFitJob}
use Rattle.needed_rules.specs.WrittenRun.{key_heard, material, node, opened_state, pair}
use Rattle.needed_rules.proofs.NeededDraws.{Clash, first_list, first_opens, mark, other_text, some_use}
use Rattle.needed_rules.proofs.NeededLayers.{own_pdu}
use Rattle.needed_rules.proofs.NeededNames.{nothing_drawn}
use Rattle.needed_rules.proofs.NeededOrder.{ranges}
use Rattle.needed_rules.proofs.WrittenRun.{all_of, others_none, others_placed, quiet_safe}

-- The layer that lets go on what was heard first.

abbrev goes_on : Insight → Bool → List Job
goes_on (OfPdu (Some r) low opening) false = J.Relay material r.fields ∷ []
goes_on _ _ = []

abbrev first_goes_on : List Told → List Job
first_goes_on [] = []
first_goes_on (t ∷ ts) = goes_on t.insight (is_before_cache t.entry.answer)

abbrev passing_layers : Layers
passing_layers = record quiet_layers { acks_due = λ past c ticks. first_goes_on past.told }

contains_first : {X : Type 0} (x : X) (xs : List X) → Contains (x ∷ xs) x
contains_first x xs = (0, omega arith, refl)

goes_on_fits : (past : Past) (t : Told) (insight : Insight) (b : Bool) → Contains past.told t → t.insight ≡ insight → is_before_cache t.entry.answer ≡ b
    → AllByRecursion (IsFitJob past) (goes_on insight b)
goes_on_fits past t (OfPdu (Some r) low opening) false c e f =
    (record { told = t; is_told = c; reading = r; low = low; opening = opening; read = e; passed = f; fields = refl }, tt)
goes_on_fits past t (OfPdu (Some r) low opening) true c e f = tt
goes_on_fits past t (OfPdu None low opening) b c e f = tt
goes_on_fits past t (OfBeacon beacon) b c e f = tt
goes_on_fits past t OfNothing b c e f = tt

first_fits : (past : Past) (told : List Told) → past.told ≡ told → AllByRecursion (IsFitJob past) (first_goes_on told)
first_fits past [] e = tt
first_fits past (t ∷ ts) e = goes_on_fits past t t.insight (is_before_cache t.entry.answer) (rw e (contains_first t ts)) refl refl

passing_safe : AreSafe passing_layers
passing_safe = record {
  acks_due = λ past c ticks. all_of (IsFitJob past) (first_goes_on past.told) (first_fits past past.told refl);
  segments_due = quiet_safe.segments_due;
  control_jobs = quiet_safe.control_jobs;
  replies = quiet_safe.replies;
  published = quiet_safe.published;
  changes = quiet_safe.changes;
}

-- what an entry may see before it: a PDU of the node's own that was heard
abbrev heard : ℕ → List Told
heard octet =
    record {
      entry = record { bearer = 0; number = 1; event = E.Net []; fills = 0; answer = A.NotMine; jobs = [] };
      insight = OfPdu (Some (record { fields = own_pdu octet; by = key_heard })) None None;
      records = first_list;
    }
    ∷ []

-- two ticks
abbrev entry : ℕ → ℕ → Entry
entry number octet = record { bearer = 0; number = number; event = E.Tick 1; fills = 0; answer = A.Ticked 1; jobs = J.Relay material (own_pdu octet) ∷ [] }

abbrev entries : List Entry
entries = entry 1 0x7f ∷ entry 2 0x7e ∷ []

abbrev line : ℕ → ℕ → Sent
line at octet = record { entry = at; job = 0; outcome = O.Relay (pair 0) true 1 (own_pdu octet).src (own_pdu octet).dst (octet ∷ []) (net_text material (own_pdu octet)) }

abbrev lines : List Sent
lines = line 0 0x7f ∷ line 1 0x7e ∷ []

abbrev life : Life
life = record { opened = W.On opened_state (mark + 0); entries = entries; refills = 0; sends = lines ∷ []; end = F.Ended }

abbrev events : List (List Event)
events = (E.Tick 1 ∷ E.Tick 1 ∷ []) ∷ []

abbrev plan : List Step
plan = phase events ∷ []

abbrev told_of : ℕ → ℕ → Told
told_of number octet = record { entry = entry number octet; insight = OfNothing; records = first_list }

abbrev told : List Told
told = told_of 1 0x7f ∷ told_of 2 0x7e ∷ []

abbrev any_before : Rules
any_before = record all_rules { are_handled = AreHandledAfterAny }

handled : AreHandledAfterAny (node_role passing_layers) first_list [] told
unfolding changed answer_of stores jobs_of transmit_of
handled = (
  refl,
  (heard 0x7f, record { sees = sees_nothing refl; answer = refl; jobs = refl }),
  (refl, (heard 0x7e, record { sees = sees_nothing refl; answer = refl; jobs = refl }), tt),
)

abbrev part : Part
part = record { entries = placed_from 0 entries; sends = lines ∷ [] }

does : (k : ℕ) → Does events part k []
does zero =
    handles (record { at = 0; entry = entry 1 0x7f }) refl
    (writes shows_relay (handles (record { at = 1; entry = entry 2 0x7e }) refl (writes shows_relay stops)))
does (suc k) = rw (others_placed k 0 entries (refl, (refl, tt))) stops

ordered : IsOrdered plan life
ordered = record { parts = part ∷ []; entries = refl; sends = λ k. sym (append-nil (list_at (lines ∷ []) k)); phases = whole does ends }

numbered : (k : ℕ) → IsNumbered life k
numbered zero = refl
numbered (suc k) = rw (others_none k entries (refl, (refl, tt))) refl

leaves : LeavesBy any_before (node_role passing_layers) plan life (past_at_end (node_role passing_layers) first_list life told) first_list
unfolding changed stores
leaves = record { more = []; outlasts = no_record; ranges = all_of IsInRange first_list ranges; alike = record { config = refl; entries = λ src. refl } }

draws_none : (k : ℕ) → (draws (shown_by life k) ≡ []) × (words_told (shown_by life k) ≡ [])
draws_none zero = (refl, refl)
draws_none (suc k) = (refl, refl)

life_by : LifeBy any_before (node_role passing_layers) plan first_list life first_list
life_by = record {
  opening = first_opens (pair 0) 0x7f;
  idle = λ e. absurd (true≢false e);
  told = told;
  entries = refl;
  handled = handled;
  numbers = numbered;
  order = λ e. ordered;
  leaves = leaves;
  drawn = nothing_drawn first_list first_list life refl draws_none;
  spent = all_of (λ (s : Shown). IsSpentRight first_list first_list life s.outcome) (shown life) (tt, (tt, tt));
}

abbrev script : Script
script = record { node = node; lives = plan ∷ [] }

abbrev run : Run
run = record { lives = record { over = first_list; life = life } ∷ []; last = first_list }

clash : Clash (uses run)
unfolding changed seals_of
clash h = other_text _ _ refl refl (h 0 1 some_use (lit< tt) (lit< tt) refl refl)

pub before_needed : Reuses (record all_rules { are_handled = AreHandledAfterAny })
before_needed = (passing_layers, script, run, passing_safe, record { first = refl; lives = (life_by, tt) }, clash)

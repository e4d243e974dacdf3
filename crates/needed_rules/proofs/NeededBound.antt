-- The record that shows that the bound on SEQ is needed: the transmit IV Index rises in a life, so that the word of
-- SEQ 2^24 under the old one lies between the marks.
use Rattle.std.proofs.Common.{◌≡◌, ◌≢◌, ℕ, zero, suc, ◌+◌, ◌*◌, ◌^◌, ◌<◌, ◌≤◌, lit<, lit≤, true, false, List, [], ◌∷◌, ◌++◌, refl, sym, arith, append-nil}
use Rattle.std.specs.List.{AllByRecursion, AllPairs}
use Rattle.std.proofs.lemmas.Bool.{true≢false}
use Rattle.layer_definitions.specs.IvIndex.{iv_due}
use Rattle.mesh_base.specs.IvState.{transmit_of}
use Rattle.mesh_base.specs.declared.pair.Pair.{Pair}
use Rattle.mesh_types.specs.declared.answers.Answer.TheVariants as A
use Rattle.mesh_types.specs.declared.events.Event.{Event}
use Rattle.mesh_types.specs.declared.events.Event.TheVariants as E
use Rattle.mesh_types.specs.declared.history.Entry.{Entry}
use Rattle.mesh_types.specs.declared.history.Sent.{Sent}
use Rattle.record_types.specs.declared.records.StoreRecord.{StoreRecord}
use Rattle.record_types.specs.declared.records.StoreRecord.TheVariants as R
use Rattle.mesh_types.specs.declared.report.End.TheVariants as F
use Rattle.mesh_types.specs.declared.report.Opened.TheVariants as W
use Rattle.event_definitions.specs.Answers.{answer_of}
use Rattle.store_definitions.specs.Config.{changed, config_of}
use Rattle.event_definitions.specs.Handling.{AreHandled, Handles, past_of}
use Rattle.event_definitions.specs.History.{OfNothing, Told}
use Rattle.event_definitions.specs.Jobs.{jobs_of}
use Rattle.run_definitions.specs.Lines.{shows_ctl}
use Rattle.needed_rules.specs.Needed.{DrawsWithoutBound, Reuses}
use Rattle.run_safety.specs.Rules.{LeavesBy, LifeBy, all_rules}
use Rattle.run_definitions.specs.Order.{Does, IsOrdered, Part, Step, ends, handles, phase, placed_from, stops, whole, writes}
use Rattle.mesh_base.specs.Pairs.{word_of}
use Rattle.store_definitions.specs.Ranges.{IsInRange}
use Rattle.event_definitions.specs.Readings.{sees_nothing}
use Rattle.report_definitions.specs.Record.{Life, Run, Shown, list_at, shown, shown_by}
use Rattle.event_definitions.specs.Role.{node_role}
use Rattle.run_definitions.specs.RunOf.{IsNumbered, IsSpentRight, Opens, Script, draws, no_record, opens, past_at_end, words_told}
use Rattle.store_definitions.specs.Provisioning.{Provisioning, provisioned}
use Rattle.event_definitions.specs.Stores.{stores}
use Rattle.run_definitions.specs.Uses.{seals_of, uses}
use Rattle.event_definitions.specs.Layers.{quiet_layers}
use Rattle.needed_rules.specs.WrittenRun.{address, dev_key, net_key, pair}
use Rattle.run_safety.proofs.Lists.{pairs_from_apart}
use Rattle.needed_rules.proofs.WrittenRun.{all_of, dev_key_is, net_key_is, others_none, others_placed, quiet_safe}
use Rattle.needed_rules.proofs.NeededDraws.{Clash, drawn_only, other_text, raw_entry, raw_event, raw_line, some_use}

-- a node that is provisioned under the IV Index 6 in progress, so that it sends under 5
abbrev moving_node : Provisioning
moving_node = record { unicast = address 0x1201; elements = 1; iv = 6; in_progress = true; net_index = 0; net_key = net_key; dev_key = dev_key }

abbrev over : List StoreRecord
over = provisioned moving_node

abbrev after_refill : List StoreRecord
after_refill = over ++ R.Numbers 6 true (5 * 2 ^ 25 + 256) 0 192 ∷ []

-- 144 hours pass, and the update ends
abbrev next : List StoreRecord
next = after_refill ++ R.Hour 144 336 ∷ R.Numbers 6 false (6 * 2 ^ 25) 0 336 ∷ []

abbrev ticks : ℕ
ticks = 144 * 360000

abbrev tick_entry : Entry
tick_entry = record { bearer = 0; number = 2; event = E.Tick ticks; fills = 1; answer = A.Ticked ticks; jobs = [] }

abbrev entries : List Entry
entries = raw_entry 0 1 0 0x7f ∷ tick_entry ∷ raw_entry 0 3 0 0x7e ∷ []

abbrev beyond : Pair
beyond = pair (2 ^ 24)

abbrev sends : List (List Sent)
sends = (raw_line 0 (pair 0) 0x7f ∷ raw_line 2 beyond 0x7e ∷ []) ∷ []

abbrev life : Life
life = record {
  opened = W.On (record { current = 6; progress = true; hours = 0; since = 192 }) (5 * 2 ^ 25);
  entries = entries;
  refills = 0;
  sends = sends;
  end = F.Ended;
}

abbrev events : List (List Event)
events = (raw_event 0x7f ∷ E.Tick ticks ∷ raw_event 0x7e ∷ []) ∷ []

abbrev plan : List Step
plan = phase events ∷ []

abbrev first_told : Told
first_told = record { entry = raw_entry 0 1 0 0x7f; insight = OfNothing; records = over }

abbrev tick_told : Told
tick_told = record { entry = tick_entry; insight = OfNothing; records = after_refill }

abbrev last_told : Told
last_told = record { entry = raw_entry 0 3 0 0x7e; insight = OfNothing; records = next }

abbrev told : List Told
told = first_told ∷ tick_told ∷ last_told ∷ []

first_handled : Handles (node_role quiet_layers) (past_of [] first_told) first_told
unfolding changed answer_of stores jobs_of transmit_of
first_handled = record { sees = sees_nothing refl; answer = refl; jobs = refl }

tick_handled : Handles (node_role quiet_layers) (past_of (first_told ∷ []) tick_told) tick_told
unfolding changed answer_of stores jobs_of transmit_of iv_due
tick_handled = record { sees = sees_nothing refl; answer = refl; jobs = refl }

last_handled : Handles (node_role quiet_layers) (past_of (first_told ∷ tick_told ∷ []) last_told) last_told
unfolding changed answer_of stores jobs_of transmit_of
last_handled = record { sees = sees_nothing refl; answer = refl; jobs = refl }

handled : AreHandled (node_role quiet_layers) over [] told
unfolding changed stores transmit_of iv_due
handled = (refl, first_handled, (refl, tick_handled, (refl, last_handled, tt)))

zero_bearers : AllByRecursion (λ (e : Entry). e.bearer ≡ 0) entries
zero_bearers = (refl, (refl, (refl, tt)))

abbrev part : Part
part = record { entries = placed_from 0 entries; sends = sends }

does : (k : ℕ) → Does events part k []
does zero =
    handles (record { at = 0; entry = raw_entry 0 1 0 0x7f }) refl
    (writes shows_ctl (handles (record { at = 1; entry = tick_entry }) refl (handles (record { at = 2; entry = raw_entry 0 3 0 0x7e }) refl (writes shows_ctl stops))))
does (suc k) = rw (others_placed k 0 entries zero_bearers) stops

ordered : IsOrdered plan life
ordered = record { parts = part ∷ []; entries = refl; sends = λ k. sym (append-nil (list_at sends k)); phases = whole does ends }

numbered : (k : ℕ) → IsNumbered life k
numbered zero = refl
numbered (suc k) = rw (others_none k entries zero_bearers) refl

ranges : AllByRecursion IsInRange next
unfolding transmit_of
ranges = (
  (lit≤ tt, lit≤ tt, lit≤ tt, lit≤ tt, dev_key_is),
  (
    (lit< tt, (λ e. lit< tt), record { seq = 0; word = refl; most = lit≤ tt; block = refl }, lit< tt, lit< tt),
    (
      (lit≤ tt, lit≤ tt, lit≤ tt, net_key_is),
      (
        (lit< tt, (λ e. lit< tt), record { seq = 256; word = refl; most = lit≤ tt; block = refl }, lit< tt, lit< tt),
        (
          (lit< tt, lit< tt),
          ((lit< tt, (λ e. lit< tt), record { seq = 0; word = refl; most = lit≤ tt; block = refl }, lit< tt, lit< tt), tt),
        ),
      ),
    ),
  ),
)

leaves : LeavesBy (drawn_only DrawsWithoutBound) (node_role quiet_layers) plan life (past_at_end (node_role quiet_layers) over life told) next
unfolding changed stores transmit_of iv_due
leaves = record { more = []; outlasts = no_record; ranges = all_of IsInRange next ranges; alike = record { config = refl; entries = λ src. refl } }

rises : (k : ℕ) → AllPairs (λ p q. word_of p < word_of q) (draws (shown_by life k))
rises zero = pairs_from_apart (λ p q. word_of p < word_of q) (pair 0 ∷ beyond ∷ []) ((lit< tt, tt), (tt, tt))
rises (suc k) = pairs_from_apart (λ p q. word_of p < word_of q) [] tt

onward : (k : ℕ) → AllPairs (λ x y. x ≤ y) (words_told (shown_by life k))
onward zero = pairs_from_apart (λ x y. x ≤ y) (word_of (pair 0) ∷ word_of beyond ∷ []) ((lit≤ tt, tt), (tt, tt))
onward (suc k) = pairs_from_apart (λ x y. x ≤ y) [] tt

other_words : word_of (pair 0) ≢ word_of beyond
other_words e = absurd (omega (arith, e))

drawn : DrawsWithoutBound over next life
unfolding changed transmit_of
drawn = record {
  from = all_of (λ (p : Pair). (config_of over).mark ≤ word_of p) (pair 0 ∷ beyond ∷ []) (lit≤ tt, (lit≤ tt, tt));
  below = all_of (λ (p : Pair). word_of p < (config_of next).mark) (pair 0 ∷ beyond ∷ []) (lit< tt, (lit< tt, tt));
  once = pairs_from_apart (λ p q. word_of p ≢ word_of q) (pair 0 ∷ beyond ∷ []) ((other_words, tt), (tt, tt));
  rise = rises;
  onward = onward;
}

opening : Opens (config_of over) life.opened life.end
unfolding changed transmit_of
opening = opens refl

life_by : LifeBy (drawn_only DrawsWithoutBound) (node_role quiet_layers) plan over life next
life_by = record {
  opening = opening;
  idle = λ e. absurd (true≢false e);
  told = told;
  entries = refl;
  handled = handled;
  numbers = numbered;
  order = λ e. ordered;
  leaves = leaves;
  drawn = drawn;
  spent = all_of (λ (s : Shown). IsSpentRight over next life s.outcome) (shown life) (tt, (tt, tt));
}

abbrev script : Script
script = record { node = moving_node; lives = plan ∷ [] }

abbrev run : Run
run = record { lives = record { over = over; life = life } ∷ []; last = next }

clash : Clash (uses run)
unfolding changed seals_of
clash h = other_text _ _ refl refl (h 0 1 some_use (lit< tt) (lit< tt) refl refl)

pub bound_needed : Reuses (record all_rules { is_drawn = DrawsWithoutBound })
bound_needed = (quiet_layers, script, run, quiet_safe, record { first = refl; lives = (life_by, tt) }, clash)

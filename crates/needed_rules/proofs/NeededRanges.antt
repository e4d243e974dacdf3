-- The record that shows that the ranges of a record's fields are needed: a life reserves so many numbers that the mark
-- passes an IV Index above 32 bits, whose nonces are those of the IV Index 5.
use Rattle.std.proofs.Common.{◌≡◌, ◌≢◌, ℕ, zero, suc, ◌+◌, ◌*◌, ◌^◌, ◌<◌, ◌≤◌, lit<, lit≤, false, List, [], ◌∷◌, ◌++◌, refl, ap, sym, ◌∙◌, arith, append-nil, None}
use Rattle.std.specs.List.{AllPairs}
use Rattle.std.proofs.lemmas.Bool.{true≢false}
use Rattle.mesh_base.specs.IvState.{transmit_of}
use Rattle.mesh_base.specs.declared.pair.Pair.{Pair}
use Rattle.mesh_types.specs.declared.events.Event.{Event}
use Rattle.mesh_types.specs.declared.history.Entry.{Entry}
use Rattle.mesh_types.specs.declared.history.Sent.{Sent}
use Rattle.record_types.specs.declared.records.StoreRecord.{StoreRecord}
use Rattle.record_types.specs.declared.records.StoreRecord.TheVariants as R
use Rattle.mesh_types.specs.declared.report.End.TheVariants as F
use Rattle.mesh_types.specs.declared.report.Opened.TheVariants as W
use Rattle.event_definitions.specs.Answers.{answer_of}
use Rattle.store_definitions.specs.Config.{Config, changed, config_of}
use Rattle.store_definitions.specs.Entries.{entry_of, kept_of, unexpired}
use Rattle.event_definitions.specs.Handling.{AreHandled}
use Rattle.event_definitions.specs.History.{OfNothing, Told}
use Rattle.event_definitions.specs.Jobs.{jobs_of}
use Rattle.run_definitions.specs.Lines.{shows_ctl}
use Rattle.run_definitions.specs.Order.{Does, IsOrdered, Part, Step, ends, handles, phase, placed_from, stops, whole, writes}
use Rattle.mesh_base.specs.Pairs.{word_of}
use Rattle.event_definitions.specs.Readings.{sees_nothing}
use Rattle.report_definitions.specs.Record.{Life, Run, Shown, list_at, shown, shown_by}
use Rattle.event_definitions.specs.Role.{node_role}
use Rattle.run_definitions.specs.RunOf.{IsDrawn, IsNumbered, IsSpentRight, Script, draws, no_record, past_at_end, words_told}
use Rattle.event_definitions.specs.Stores.{stores}
use Rattle.store_definitions.specs.Numbers.{fill_of, filled}
use Rattle.run_definitions.specs.Uses.{seals_of, uses}
use Rattle.needed_rules.specs.Needed.{HasAnyFields, Reuses}
use Rattle.run_safety.specs.Rules.{LeavesBy, LifeBy, Rules, all_rules}
use Rattle.event_definitions.specs.Layers.{quiet_layers}
use Rattle.needed_rules.specs.WrittenRun.{node, opened_state, pair}
use Rattle.run_safety.proofs.Lists.{pairs_from_apart}
use Rattle.needed_rules.proofs.NeededDraws.{Clash, first_list, first_opens, mark, other_text, raw_entry, raw_event, raw_line, some_use}
use Rattle.store_definitions.proofs.Pushes.{config_push, kept_push}
use Rattle.needed_rules.proofs.WrittenRun.{all_of, others_none, others_placed, quiet_safe}

-- What any number of refills says: the mark is 256 higher for each.

abbrev with_mark : Config → ℕ → Config
with_mark c m = record c { mark = m }

one_filled : (records : List StoreRecord) → config_of (records ++ fill_of (config_of records) ∷ []) ≡ with_mark (config_of records) ((config_of records).mark + 256)
unfolding changed
one_filled records = config_push records (fill_of (config_of records))

filled_config : (n : ℕ) (records : List StoreRecord) → config_of (filled n records) ≡ with_mark (config_of records) ((config_of records).mark + 256 * n)
filled_config zero records = ap (with_mark (config_of records)) (omega arith)
filled_config (suc n) records =
    filled_config n (records ++ fill_of (config_of records) ∷ [])
    ∙ ap (λ (c : Config). with_mark c (c.mark + 256 * n)) (one_filled records)
    ∙ ap (with_mark (config_of records)) (omega arith)

filled_kept : (n : ℕ) (records : List StoreRecord) (src : ℕ) → kept_of (filled n records) src ≡ kept_of records src
filled_kept zero records src = refl
filled_kept (suc n) records src = filled_kept n (records ++ fill_of (config_of records) ∷ []) src ∙ kept_push records (fill_of (config_of records)) src

-- the IV Index 5 with a bit more than its 32
abbrev far : Pair
far = record { iv = 2 ^ 32 + 5; seq = 0 }

abbrev entries : List Entry
entries = raw_entry 0 1 0 0x7f ∷ raw_entry 0 2 0 0x7e ∷ []

abbrev sends : List (List Sent)
sends = (raw_line 0 (pair 0) 0x7f ∷ raw_line 1 far 0x7e ∷ []) ∷ []

-- the life with so many refills
abbrev life : ℕ → Life
life n = record { opened = W.On opened_state (mark + 0); entries = entries; refills = n; sends = sends; end = F.Ended }

abbrev next : ℕ → List StoreRecord
next n = first_list ++ R.Numbers 5 false (mark + 256 * n) 0 192 ∷ []

abbrev events : List (List Event)
events = (raw_event 0x7f ∷ raw_event 0x7e ∷ []) ∷ []

abbrev plan : List Step
plan = phase events ∷ []

abbrev told : List Told
told =
    record { entry = raw_entry 0 1 0 0x7f; insight = OfNothing; records = first_list }
    ∷ record { entry = raw_entry 0 2 0 0x7e; insight = OfNothing; records = first_list }
    ∷ []

abbrev any_fields : Rules
any_fields = record all_rules { is_in_range = HasAnyFields }

handled : AreHandled (node_role quiet_layers) first_list [] told
unfolding changed answer_of stores jobs_of transmit_of
handled = (refl, record { sees = sees_nothing refl; answer = refl; jobs = refl }, (refl, record { sees = sees_nothing refl; answer = refl; jobs = refl }, tt))

abbrev part : Part
part = record { entries = placed_from 0 entries; sends = sends }

does : (k : ℕ) → Does events part k []
does zero =
    handles (record { at = 0; entry = raw_entry 0 1 0 0x7f }) refl (writes shows_ctl (handles (record { at = 1; entry = raw_entry 0 2 0 0x7e }) refl (writes shows_ctl stops)))
does (suc k) = rw (others_placed k 0 entries (refl, (refl, tt))) stops

ordered : (n : ℕ) → IsOrdered plan (life n)
ordered n = record { parts = part ∷ []; entries = refl; sends = λ k. sym (append-nil (list_at sends k)); phases = whole does ends }

numbered : (n k : ℕ) → IsNumbered (life n) k
numbered n zero = refl
numbered n (suc k) = rw (others_none k entries (refl, (refl, tt))) refl

-- what is left after the refills

next_config : (n : ℕ) → config_of (next n) ≡ with_mark (config_of first_list) ((config_of first_list).mark + 256 * n)
unfolding changed transmit_of
next_config n = refl

same_config : (n : ℕ) → config_of (next n) ≡ config_of (filled n first_list ++ [])
same_config n = rw append-nil (next_config n ∙ sym (filled_config n first_list))

no_entry : (n src : ℕ) → entry_of (filled n first_list ++ []) src ≡ None
no_entry n src = rw append-nil (ap (unexpired (config_of (filled n first_list)).iv.current) (filled_kept n first_list src))

leaves : (n : ℕ) → LeavesBy any_fields (node_role quiet_layers) plan (life n) (past_at_end (node_role quiet_layers) first_list (life n) told) (next n)
unfolding stores
leaves n = record { more = []; outlasts = no_record; ranges = λ k d l. tt; alike = record { config = same_config n; entries = λ src. sym (no_entry n src) } }

rises : (n k : ℕ) → AllPairs (λ p q. word_of p < word_of q) (draws (shown_by (life n) k))
rises n zero = pairs_from_apart (λ p q. word_of p < word_of q) (pair 0 ∷ far ∷ []) ((lit< tt, tt), (tt, tt))
rises n (suc k) = pairs_from_apart (λ p q. word_of p < word_of q) [] tt

onward : (n k : ℕ) → AllPairs (λ x y. x ≤ y) (words_told (shown_by (life n) k))
onward n zero = pairs_from_apart (λ x y. x ≤ y) (word_of (pair 0) ∷ word_of far ∷ []) ((lit≤ tt, tt), (tt, tt))
onward n (suc k) = pairs_from_apart (λ x y. x ≤ y) [] tt

other_words : word_of (pair 0) ≢ word_of far
other_words e = absurd (omega (arith, e))

below_next : (n w : ℕ) → w ≤ word_of far → 2 ^ 49 < n → w < mark + 256 * n
below_next n w h k = omega (arith, h, k)

drawn : (n : ℕ) → 2 ^ 49 < n → IsDrawn first_list (next n) (life n)
unfolding changed transmit_of
drawn n h = record {
  seq = all_of (λ (p : Pair). p.seq < 2 ^ 24) (pair 0 ∷ far ∷ []) (lit< tt, (lit< tt, tt));
  from = all_of (λ (p : Pair). (config_of first_list).mark ≤ word_of p) (pair 0 ∷ far ∷ []) (lit≤ tt, (lit≤ tt, tt));
  below = all_of (λ (p : Pair). word_of p < (config_of (next n)).mark) (pair 0 ∷ far ∷ []) (below_next n _ (lit≤ tt) h, (below_next n _ (lit≤ tt) h, tt));
  once = pairs_from_apart (λ p q. word_of p ≢ word_of q) (pair 0 ∷ far ∷ []) ((other_words, tt), (tt, tt));
  rise = rises n;
  onward = onward n;
}

life_by : (n : ℕ) → 2 ^ 49 < n → LifeBy any_fields (node_role quiet_layers) plan first_list (life n) (next n)
life_by n h = record {
  opening = first_opens (pair 0) 0x7f;
  idle = λ e. absurd (true≢false e);
  told = told;
  entries = refl;
  handled = handled;
  numbers = numbered n;
  order = λ e. ordered n;
  leaves = leaves n;
  drawn = drawn n h;
  spent = all_of (λ (s : Shown). IsSpentRight first_list (next n) (life n) s.outcome) (shown (life n)) (tt, (tt, tt));
}

abbrev script : Script
script = record { node = node; lives = plan ∷ [] }

abbrev run : ℕ → Run
run n = record { lives = record { over = first_list; life = life n } ∷ []; last = next n }

clash : (n : ℕ) → Clash (uses (run n))
unfolding changed seals_of
clash n h = other_text _ _ refl refl (h 0 1 some_use (lit< tt) (lit< tt) refl refl)

-- for every number of refills that is large enough
by_refills : (n : ℕ) → 2 ^ 49 < n → Reuses any_fields
by_refills n h = (quiet_layers, script, run n, quiet_safe, record { first = refl; lives = (life_by n h, tt) }, clash n)

pub ranges_needed : Reuses (record all_rules { is_in_range = HasAnyFields })
ranges_needed = by_refills (2 ^ 49 + 1) (lit< tt)

-- The records that show that the order of a bearer's work is needed, and that a life that isn't run does nothing: two
-- messages that nothing sealed begin under one pair.
use Rattle.std.proofs.Common.{◌≡◌, ℕ, zero, suc, ◌+◌, lit<, lit≤, get_or, true, false, List, [], ◌∷◌, refl, ap, sym, arith, append-nil}
use Rattle.std.specs.List.{AllByRecursion}
use Rattle.std.proofs.lemmas.Bool.{true≢false}
use Rattle.mesh_base.specs.IvState.{transmit_of}
use Rattle.mesh_base.specs.declared.pair.Name.{Name}
use Rattle.mesh_types.specs.declared.answers.Answer.TheVariants as A
use Rattle.mesh_types.specs.declared.events.Event.TheVariants as E
use Rattle.mesh_types.specs.declared.history.Entry.{Entry}
use Rattle.mesh_types.specs.declared.history.Sent.{Sent}
use Rattle.mesh_types.specs.declared.jobs.Job.{Job}
use Rattle.mesh_types.specs.declared.jobs.Job.TheVariants as J
use Rattle.mesh_types.specs.declared.lines.Outcome.TheVariants as O
use Rattle.mesh_types.specs.declared.report.End.{End}
use Rattle.mesh_types.specs.declared.report.End.TheVariants as F
use Rattle.mesh_types.specs.declared.report.Opened.{Opened}
use Rattle.mesh_types.specs.declared.report.Opened.TheVariants as W
use Rattle.event_definitions.specs.Answers.{answer_of}
use Rattle.store_definitions.specs.Config.{changed, config_of}
use Rattle.event_definitions.specs.Handling.{AreHandled}
use Rattle.event_definitions.specs.History.{OfNothing, Told}
use Rattle.event_definitions.specs.Jobs.{jobs_of}
use Rattle.needed_rules.specs.Needed.{Reuses}
use Rattle.run_safety.specs.Rules.{LeavesBy, LifeBy, Rules, all_rules}
use Rattle.store_definitions.specs.Ranges.{IsInRange}
use Rattle.event_definitions.specs.Readings.{sees_nothing}
use Rattle.report_definitions.specs.Record.{Life, Run, Shown, list_at, shown, shown_by}
use Rattle.run_definitions.specs.Order.{IsOrdered, Part, Step, placed_from}
use Rattle.event_definitions.specs.Role.{node_role}
use Rattle.run_definitions.specs.RunOf.{IsIdle, IsNumbered, IsSpentRight, Opens, Script, cut_at_start, draws, is_on, no_record, past_at_end, words_told}
use Rattle.event_definitions.specs.Stores.{stores}
use Rattle.run_definitions.specs.Uses.{seals_of, uses}
use Rattle.event_definitions.specs.Layers.{quiet_layers}
use Rattle.needed_rules.specs.WrittenRun.{address, material, node, opened_state, pair}
use Rattle.needed_rules.proofs.WrittenRun.{all_of, dev_key_is, net_key_is, others_none, quiet_safe}
use Rattle.layer_definitions.specs.Lower.{lower_text, segment}
use Rattle.needed_rules.specs.Needed.{IsInAnyOrder, MayWork}
use Rattle.needed_rules.proofs.NeededDraws.{Clash, first_list, first_opens, mark, some_use}
use Rattle.needed_rules.proofs.NeededNames.{nothing_drawn}

-- an upper PDU of five octets, which is one segment
abbrev upper : ℕ → List ℕ
upper octet = 1 ∷ 2 ∷ 3 ∷ 4 ∷ octet ∷ []

abbrev name : Name
name = record { src = address 0x1201; pair = pair 0 }

abbrev begin_job : ℕ → Job
begin_job octet =
    J.Segment
    (record {
      material = material;
      name = name;
      ttl = 7;
      dst = address 3;
      seg_o = 0;
      seg_n = 0;
      tpdu = lower_text (segment false 0 0 (upper octet) 0);
      first = true;
    })

abbrev begin_entry : ℕ → ℕ → Entry
begin_entry number octet = record {
  bearer = 0;
  number = number;
  event = E.Begin (record { name = name; dst = address 3; ttl = 7; net = 0; akf = false; aid = 0; upper = upper octet });
  fills = 0;
  answer = A.Begun;
  jobs = begin_job octet ∷ [];
}

abbrev entries : List Entry
entries = begin_entry 1 5 ∷ begin_entry 2 6 ∷ []

abbrev line : ℕ → Sent
line entry = record { entry = entry; job = 0; outcome = O.Seg (pair 0) 7 (address 0x1201) (address 3) 0 0 0 [] }

abbrev lines : List (List Sent)
lines = (line 0 ∷ line 1 ∷ []) ∷ []

abbrev life : Opened → End → Life
life opened end = record { opened = opened; entries = entries; refills = 0; sends = lines; end = end }

abbrev part : Part
part = record { entries = placed_from 0 entries; sends = lines }

abbrev told : List Told
told =
    record { entry = begin_entry 1 5; insight = OfNothing; records = first_list }
    ∷ record { entry = begin_entry 2 6; insight = OfNothing; records = first_list }
    ∷ []

handled : AreHandled (node_role quiet_layers) first_list [] told
unfolding changed answer_of stores jobs_of transmit_of
handled = (refl, record { sees = sees_nothing refl; answer = refl; jobs = refl }, (refl, record { sees = sees_nothing refl; answer = refl; jobs = refl }, tt))

numbered : (opened : Opened) (end : End) (k : ℕ) → IsNumbered (life opened end) k
numbered opened end zero = refl
numbered opened end (suc k) = rw (others_none k entries (refl, (refl, tt))) refl

pub ranges : AllByRecursion IsInRange first_list
unfolding transmit_of
ranges = (
  (lit≤ tt, lit≤ tt, lit≤ tt, lit≤ tt, dev_key_is),
  (
    (lit< tt, (λ e. lit< tt), record { seq = 0; word = refl; most = lit≤ tt; block = refl }, lit< tt, lit< tt),
    ((lit≤ tt, lit≤ tt, lit≤ tt, net_key_is), tt),
  ),
)

-- by all rules but for these two
abbrev rules : (Life → Type 0) → (List Step → Life → Type 0) → Rules
rules is_idle is_ordered = record all_rules { is_idle = is_idle; is_ordered = is_ordered }

leaves : (is_idle : Life → Type 0) (is_ordered : List Step → Life → Type 0) (opened : Opened) (end : End)
    → LeavesBy (rules is_idle is_ordered) (node_role quiet_layers) [] (life opened end) (past_at_end (node_role quiet_layers) first_list (life opened end) told) first_list
unfolding changed stores
leaves is_idle is_ordered opened end = record { more = []; outlasts = no_record; ranges = all_of IsInRange first_list ranges; alike = record { config = refl; entries = λ src. refl } }

draws_none : (opened : Opened) (end : End) (k : ℕ) → (draws (shown_by (life opened end) k) ≡ []) × (words_told (shown_by (life opened end) k) ≡ [])
draws_none opened end zero = (refl, refl)
draws_none opened end (suc k) = (refl, refl)

life_by : (is_idle : Life → Type 0) (is_ordered : List Step → Life → Type 0) (opened : Opened) (end : End)
    → Opens (config_of first_list) opened end
    → (is_on opened ≡ false → is_idle (life opened end))
    → (is_on opened ≡ true → is_ordered [] (life opened end))
    → LifeBy (rules is_idle is_ordered) (node_role quiet_layers) [] first_list (life opened end) first_list
life_by is_idle is_ordered opened end opening idle order = record {
  opening = opening;
  idle = idle;
  told = told;
  entries = refl;
  handled = handled;
  numbers = numbered opened end;
  order = order;
  leaves = leaves is_idle is_ordered opened end;
  drawn = nothing_drawn first_list first_list (life opened end) refl (draws_none opened end);
  spent = all_of (λ (s : Shown). IsSpentRight first_list first_list (life opened end) s.outcome) (shown (life opened end)) (tt, (tt, tt));
}

abbrev script : Script
script = record { node = node; lives = [] ∷ [] }

abbrev run : Opened → End → Run
run opened end = record { lives = record { over = first_list; life = life opened end } ∷ []; last = first_list }

clash : (opened : Opened) (end : End) → Clash (uses (run opened end))
unfolding changed seals_of lower_text
clash opened end h = let e : 5 ≡ 6 = ap (λ l. get_or l 10 0) (h 0 1 some_use (lit< tt) (lit< tt) refl refl) in absurd (omega (arith, e))

any_order : IsInAnyOrder [] (life (W.On opened_state (mark + 0)) F.Ended)
any_order = record { parts = part ∷ []; entries = refl; sends = λ k. sym (append-nil (list_at lines k)) }

pub order_needed : Reuses (record all_rules { is_ordered = IsInAnyOrder })
order_needed = (
  quiet_layers,
  script,
  run (W.On opened_state (mark + 0)) F.Ended,
  quiet_safe,
  record { first = refl; lives = (life_by IsIdle IsInAnyOrder (W.On opened_state (mark + 0)) F.Ended (first_opens (pair 0) 0x7f) (λ e. absurd (true≢false e)) (λ e. any_order), tt) },
  clash (W.On opened_state (mark + 0)) F.Ended,
)

pub idle_needed : Reuses (record all_rules { is_idle = MayWork })
idle_needed = (
  quiet_layers,
  script,
  run W.CutAtStart (F.Cut 12),
  quiet_safe,
  record { first = refl; lives = (life_by MayWork IsOrdered W.CutAtStart (F.Cut 12) cut_at_start (λ e. tt) (λ e. absurd (true≢false (sym e))), tt) },
  clash W.CutAtStart (F.Cut 12),
)

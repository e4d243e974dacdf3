-- The records that show which rules on drawn pairs are needed: lives with control PDUs alone.
use Rattle.std.proofs.Common.{◌≡◌, ◌≢◌, ℕ, zero, suc, ◌+◌, ◌*◌, ◌^◌, ◌<◌, ◌≤◌, lit<, lit≤, get_or, true, false, eqb, List, [], ◌∷◌, ◌++◌, map, refl, ap, sym, ◌∙◌, arith, ne_eqb, append-nil, None}
use Rattle.std.specs.List.{All, AllByRecursion, AllPairs}
use Rattle.std.proofs.lemmas.Bool.{true≢false}
use Rattle.layer_definitions.specs.Network.{net_text}
use Rattle.mesh_base.specs.IvState.{transmit_of}
use Rattle.mesh_base.specs.declared.pair.Pair.{Pair}
use Rattle.mesh_types.specs.declared.answers.Answer.TheVariants as A
use Rattle.mesh_types.specs.declared.events.Event.{Event}
use Rattle.mesh_types.specs.declared.events.Event.TheVariants as E
use Rattle.mesh_types.specs.declared.history.Entry.{Entry}
use Rattle.mesh_types.specs.declared.history.Sent.{Sent}
use Rattle.mesh_types.specs.declared.jobs.Job.{Job}
use Rattle.mesh_types.specs.declared.jobs.Job.TheVariants as J
use Rattle.mesh_types.specs.declared.lines.Outcome.TheVariants as O
use Rattle.record_types.specs.declared.records.StoreRecord.{StoreRecord}
use Rattle.record_types.specs.declared.records.StoreRecord.TheVariants as R
use Rattle.mesh_types.specs.declared.report.End.TheVariants as F
use Rattle.mesh_types.specs.declared.report.Opened.TheVariants as W
use Rattle.event_definitions.specs.Answers.{answer_of}
use Rattle.store_definitions.specs.Config.{changed, config_of}
use Rattle.event_definitions.specs.Handling.{AreHandled}
use Rattle.event_definitions.specs.History.{OfNothing, Told}
use Rattle.event_definitions.specs.Jobs.{jobs_of}
use Rattle.run_definitions.specs.Lines.{shows_ctl}
use Rattle.needed_rules.specs.Needed.{DrawsFromAnywhere, DrawsUnreserved, Reuses}
use Rattle.run_safety.specs.Rules.{LeavesBy, LifeBy, Rules, RunBy, all_rules}
use Rattle.run_definitions.specs.Order.{Does, IsOrdered, Part, Step, Walks, ends, handle, handles, phase, placed_from, stops, whole, writes}
use Rattle.mesh_base.specs.Pairs.{word_of}
use Rattle.store_definitions.specs.Ranges.{IsInRange}
use Rattle.event_definitions.specs.Readings.{sees_nothing}
use Rattle.report_definitions.specs.Record.{Life, Run, Shown, list_at, shown, shown_by}
use Rattle.event_definitions.specs.Role.{node_role}
use Rattle.run_definitions.specs.RunOf.{IsNumbered, IsSpentRight, Opens, Script, draws, no_record, opens, past_at_end, words_told}
use Rattle.store_definitions.specs.Provisioning.{provisioned}
use Rattle.run_definitions.specs.Seals.{own_fields}
use Rattle.event_definitions.specs.Stores.{stores}
use Rattle.run_definitions.specs.Uses.{NoReuse, Use, seals_of, uses}
use Rattle.event_definitions.specs.Layers.{quiet_layers}
use Rattle.needed_rules.specs.WrittenRun.{address, material, node, opened_state, pair}
use Rattle.run_safety.proofs.Lists.{pairs_from_apart}
use Rattle.needed_rules.proofs.WrittenRun.{all_of, dev_key_is, net_key_is, others_none, others_placed, quiet_safe}

-- a control PDU of one octet that the node sends, and its line

abbrev pub raw_event : ℕ → Event
raw_event octet = E.Raw (address 0xfffd) 0 (octet ∷ [])

abbrev pub raw_job : ℕ → Job
raw_job octet = J.Control material 0 (address 0x1201) (address 0xfffd) (octet ∷ []) None

abbrev pub raw_entry : ℕ → ℕ → ℕ → ℕ → Entry
raw_entry bearer number fills octet =
    record { bearer = bearer; number = number; event = raw_event octet; fills = fills; answer = A.Planned; jobs = raw_job octet ∷ [] }

abbrev pub raw_line : ℕ → Pair → ℕ → Sent
raw_line entry p octet = record {
  entry = entry;
  job = 0;
  outcome = O.Ctl p 0 (address 0x1201) (address 0xfffd) (octet ∷ []) (net_text material (own_fields p true 0 (address 0x1201) (address 0xfffd) (octet ∷ [])));
}

abbrev pub some_use : Use
some_use = record { key = []; nonce = []; plain = [] }

-- two uses that differ in their last octet
abbrev pub Clash : List Use → Type 0
Clash us = NoReuse us → ⊥

pub other_text : (xs ys : List ℕ) → xs ≡ 0xff ∷ 0xfd ∷ 0x7f ∷ [] → ys ≡ 0xff ∷ 0xfd ∷ 0x7e ∷ [] → xs ≡ ys → ⊥
other_text xs ys e f g = let h : 0x7f ≡ 0x7e = ap (λ l. get_or l 2 0) (sym e) ∙ ap (λ l. get_or l 2 0) g ∙ ap (λ l. get_or l 2 0) f in absurd (omega (arith, h))

-- two bearers are others than the third
pub no_first : (k : ℕ) → eqb 0 (suc (suc k)) ≡ false
no_first k = ne_eqb 0 (suc (suc k)) (λ e. absurd (omega (arith, e)))

pub no_second : (k : ℕ) → eqb 1 (suc (suc k)) ≡ false
no_second k = ne_eqb 1 (suc (suc k)) (λ e. absurd (omega (arith, e)))

-- Two lives with a control PDU each, of the numbers from the mark of provisioning on.

abbrev pub mark : ℕ
mark = 5 * 2 ^ 25

abbrev pub numbers : ℕ → StoreRecord
numbers reserved = R.Numbers 5 false (mark + reserved) 0 192

abbrev pub first_list : List StoreRecord
first_list = provisioned node

abbrev pub second_list : List StoreRecord
second_list = first_list ++ numbers 256 ∷ []

abbrev third_list : List StoreRecord
third_list = second_list ++ numbers 512 ∷ []

abbrev pub plan : ℕ → List Step
plan octet = phase ((raw_event octet ∷ []) ∷ []) ∷ []

abbrev pub life : ℕ → Pair → ℕ → Life
life from p octet = record {
  opened = W.On opened_state from;
  entries = raw_entry 0 1 0 octet ∷ [];
  refills = 1;
  sends = (raw_line 0 p octet ∷ []) ∷ [];
  end = F.Ended;
}

abbrev pub drawn_only : (List StoreRecord → List StoreRecord → Life → Type 0) → Rules
drawn_only is_drawn = record all_rules { is_drawn = is_drawn }

one_bearer : (number fills octet : ℕ) → AllByRecursion (λ (e : Entry). e.bearer ≡ 0) (raw_entry 0 number fills octet ∷ [])
one_bearer number fills octet = (refl, tt)

walk_one : (p : Pair) (octet : ℕ) → Walks (map handle (raw_event octet ∷ [])) (placed_from 0 (raw_entry 0 1 0 octet ∷ [])) (raw_line 0 p octet ∷ []) []
walk_one p octet = handles (record { at = 0; entry = raw_entry 0 1 0 octet }) refl (writes shows_ctl stops)

abbrev part : Pair → ℕ → Part
part p octet = record { entries = placed_from 0 (raw_entry 0 1 0 octet ∷ []); sends = (raw_line 0 p octet ∷ []) ∷ [] }

does_one : (p : Pair) (octet k : ℕ) → Does ((raw_event octet ∷ []) ∷ []) (part p octet) k []
does_one p octet zero = walk_one p octet
does_one p octet (suc k) = rw (others_placed k 0 (raw_entry 0 1 0 octet ∷ []) (one_bearer 1 0 octet)) stops

pub ordered : (from : ℕ) (p : Pair) (octet : ℕ) → IsOrdered (plan octet) (life from p octet)
ordered from p octet = record {
  parts = part p octet ∷ [];
  entries = refl;
  sends = λ k. sym (append-nil (list_at ((raw_line 0 p octet ∷ []) ∷ []) k));
  phases = whole (does_one p octet) ends;
}

pub numbered : (from : ℕ) (p : Pair) (octet k : ℕ) → IsNumbered (life from p octet) k
numbered from p octet zero = refl
numbered from p octet (suc k) = rw (others_none k (raw_entry 0 1 0 octet ∷ []) (one_bearer 1 0 octet)) refl

pub first_range : AllByRecursion IsInRange second_list
unfolding transmit_of
first_range = (
  (lit≤ tt, lit≤ tt, lit≤ tt, lit≤ tt, dev_key_is),
  (
    (lit< tt, (λ e. lit< tt), record { seq = 0; word = refl; most = lit≤ tt; block = refl }, lit< tt, lit< tt),
    (
      (lit≤ tt, lit≤ tt, lit≤ tt, net_key_is),
      ((lit< tt, (λ e. lit< tt), record { seq = 256; word = refl; most = lit≤ tt; block = refl }, lit< tt, lit< tt), tt),
    ),
  ),
)

second_range : AllByRecursion IsInRange third_list
unfolding transmit_of
second_range = (
  (lit≤ tt, lit≤ tt, lit≤ tt, lit≤ tt, dev_key_is),
  (
    (lit< tt, (λ e. lit< tt), record { seq = 0; word = refl; most = lit≤ tt; block = refl }, lit< tt, lit< tt),
    (
      (lit≤ tt, lit≤ tt, lit≤ tt, net_key_is),
      (
        (lit< tt, (λ e. lit< tt), record { seq = 256; word = refl; most = lit≤ tt; block = refl }, lit< tt, lit< tt),
        ((lit< tt, (λ e. lit< tt), record { seq = 512; word = refl; most = lit≤ tt; block = refl }, lit< tt, lit< tt), tt),
      ),
    ),
  ),
)

abbrev pub first_told : ℕ → Told
first_told octet = record { entry = raw_entry 0 1 0 octet; insight = OfNothing; records = first_list }

pub first_handled : (octet : ℕ) → AreHandled (node_role quiet_layers) first_list [] (first_told octet ∷ [])
unfolding changed answer_of stores jobs_of transmit_of
first_handled octet = (refl, record { sees = sees_nothing refl; answer = refl; jobs = refl }, tt)

first_leaves : (is_drawn : List StoreRecord → List StoreRecord → Life → Type 0) (p : Pair) (octet : ℕ)
    → LeavesBy (drawn_only is_drawn) (node_role quiet_layers) (plan octet) (life (mark + 0) p octet) (past_at_end (node_role quiet_layers) first_list (life (mark + 0) p octet) (first_told octet ∷ [])) second_list
unfolding changed stores transmit_of
first_leaves is_drawn p octet = record { more = []; outlasts = no_record; ranges = all_of IsInRange second_list first_range; alike = record { config = refl; entries = λ src. refl } }

pub first_opens : (p : Pair) (octet : ℕ) → Opens (config_of first_list) (W.On opened_state (mark + 0)) F.Ended
unfolding changed transmit_of
first_opens p octet = opens refl

first_life : (is_drawn : List StoreRecord → List StoreRecord → Life → Type 0) (p : Pair) (octet : ℕ) → is_drawn first_list second_list (life (mark + 0) p octet)
    → LifeBy (drawn_only is_drawn) (node_role quiet_layers) (plan octet) first_list (life (mark + 0) p octet) second_list
first_life is_drawn p octet h = record {
  opening = first_opens p octet;
  idle = λ e. absurd (true≢false e);
  told = first_told octet ∷ [];
  entries = refl;
  handled = first_handled octet;
  numbers = numbered (mark + 0) p octet;
  order = λ e. ordered (mark + 0) p octet;
  leaves = first_leaves is_drawn p octet;
  drawn = h;
  spent = all_of (λ (s : Shown). IsSpentRight first_list second_list (life (mark + 0) p octet) s.outcome) (shown (life (mark + 0) p octet)) (tt, tt);
}

abbrev second_told : ℕ → Told
second_told octet = record { entry = raw_entry 0 1 0 octet; insight = OfNothing; records = second_list }

second_handled : (octet : ℕ) → AreHandled (node_role quiet_layers) second_list [] (second_told octet ∷ [])
unfolding changed answer_of stores jobs_of transmit_of
second_handled octet = (refl, record { sees = sees_nothing refl; answer = refl; jobs = refl }, tt)

second_leaves : (is_drawn : List StoreRecord → List StoreRecord → Life → Type 0) (p : Pair) (octet : ℕ)
    → LeavesBy (drawn_only is_drawn) (node_role quiet_layers) (plan octet) (life (mark + 256) p octet) (past_at_end (node_role quiet_layers) second_list (life (mark + 256) p octet) (second_told octet ∷ [])) third_list
unfolding changed stores transmit_of
second_leaves is_drawn p octet = record { more = []; outlasts = no_record; ranges = all_of IsInRange third_list second_range; alike = record { config = refl; entries = λ src. refl } }

pub second_opens : (p : Pair) (octet : ℕ) → Opens (config_of second_list) (W.On opened_state (mark + 256)) F.Ended
unfolding changed transmit_of
second_opens p octet = opens refl

second_life : (is_drawn : List StoreRecord → List StoreRecord → Life → Type 0) (p : Pair) (octet : ℕ) → is_drawn second_list third_list (life (mark + 256) p octet)
    → LifeBy (drawn_only is_drawn) (node_role quiet_layers) (plan octet) second_list (life (mark + 256) p octet) third_list
second_life is_drawn p octet h = record {
  opening = second_opens p octet;
  idle = λ e. absurd (true≢false e);
  told = second_told octet ∷ [];
  entries = refl;
  handled = second_handled octet;
  numbers = numbered (mark + 256) p octet;
  order = λ e. ordered (mark + 256) p octet;
  leaves = second_leaves is_drawn p octet;
  drawn = h;
  spent = all_of (λ (s : Shown). IsSpentRight second_list third_list (life (mark + 256) p octet) s.outcome) (shown (life (mark + 256) p octet)) (tt, tt);
}

abbrev script : Script
script = record { node = node; lives = plan 0x7f ∷ plan 0x7e ∷ [] }

-- both lives draw one pair
abbrev run : Pair → Run
run p = record {
  lives = record { over = first_list; life = life mark p 0x7f } ∷ record { over = second_list; life = life (mark + 256) p 0x7e } ∷ [];
  last = third_list;
}

by_both : (is_drawn : List StoreRecord → List StoreRecord → Life → Type 0) (p : Pair)
    → is_drawn first_list second_list (life mark p 0x7f) → is_drawn second_list third_list (life (mark + 256) p 0x7e) → RunBy (drawn_only is_drawn) (node_role quiet_layers) script (run p)
by_both is_drawn p h k = record { first = refl; lives = (first_life is_drawn p 0x7f h, (second_life is_drawn p 0x7e k, tt)) }

clash : (p : Pair) → Clash (uses (run p))
unfolding changed seals_of
clash p h = other_text _ _ refl refl (h 0 1 some_use (lit< tt) (lit< tt) refl refl)

pub rises : (from : ℕ) (p : Pair) (octet k : ℕ) → AllPairs (λ p q. word_of p < word_of q) (draws (shown_by (life from p octet) k))
rises from p octet zero = pairs_from_apart (λ p q. word_of p < word_of q) (p ∷ []) (tt, tt)
rises from p octet (suc k) = pairs_from_apart (λ p q. word_of p < word_of q) [] tt

pub onward : (from : ℕ) (p : Pair) (octet k : ℕ) → AllPairs (λ x y. x ≤ y) (words_told (shown_by (life from p octet) k))
onward from p octet zero = pairs_from_apart (λ x y. x ≤ y) (word_of p ∷ []) (tt, tt)
onward from p octet (suc k) = pairs_from_apart (λ x y. x ≤ y) [] tt

pub once : (p : Pair) → AllPairs (λ p q. word_of p ≢ word_of q) (p ∷ [])
once p = pairs_from_apart (λ p q. word_of p ≢ word_of q) (p ∷ []) (tt, tt)

pub each : (P : Pair → Type 0) (p : Pair) → P p → All P (p ∷ [])
each P p h = all_of P (p ∷ []) (h, tt)

-- the second life draws what the first one drew
pub from_needed : Reuses (record all_rules { is_drawn = DrawsFromAnywhere })
unfolding changed transmit_of
from_needed = (
  quiet_layers,
  script,
  run (pair 0),
  quiet_safe,
  by_both DrawsFromAnywhere (pair 0)
      (record { seq = each (λ (p : Pair). p.seq < 2 ^ 24) (pair 0) (lit< tt); below = each (λ (p : Pair). word_of p < (config_of second_list).mark) (pair 0) (lit< tt); once = once (pair 0); rise = rises mark (pair 0) 0x7f; onward = onward mark (pair 0) 0x7f })
      (record { seq = each (λ (p : Pair). p.seq < 2 ^ 24) (pair 0) (lit< tt); below = each (λ (p : Pair). word_of p < (config_of third_list).mark) (pair 0) (lit< tt); once = once (pair 0); rise = rises (mark + 256) (pair 0) 0x7e; onward = onward (mark + 256) (pair 0) 0x7e }),
  clash (pair 0),
)

-- the first life draws what the second one draws
pub below_needed : Reuses (record all_rules { is_drawn = DrawsUnreserved })
unfolding changed transmit_of
below_needed = (
  quiet_layers,
  script,
  run (pair 300),
  quiet_safe,
  by_both DrawsUnreserved (pair 300)
      (record { seq = each (λ (p : Pair). p.seq < 2 ^ 24) (pair 300) (lit< tt); from = each (λ (p : Pair). (config_of first_list).mark ≤ word_of p) (pair 300) (lit≤ tt); once = once (pair 300); rise = rises mark (pair 300) 0x7f; onward = onward mark (pair 300) 0x7f })
      (record { seq = each (λ (p : Pair). p.seq < 2 ^ 24) (pair 300) (lit< tt); from = each (λ (p : Pair). (config_of second_list).mark ≤ word_of p) (pair 300) (lit≤ tt); once = once (pair 300); rise = rises (mark + 256) (pair 300) 0x7e; onward = onward (mark + 256) (pair 300) 0x7e }),
  clash (pair 300),
)

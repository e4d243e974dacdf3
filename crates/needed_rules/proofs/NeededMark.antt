-- The record that shows that the mark in what a life leaves is needed, and that not everything outlasts a cut: a life
-- in which nothing happens takes the mark back, and the life after it draws what was drawn before.
use Rattle.std.proofs.Common.{ℕ, ◌+◌, ◌^◌, ◌<◌, ◌≤◌, lit<, lit≤, List, [], ◌∷◌, ◌++◌, refl}
use Rattle.std.specs.List.{AllByRecursion}
use Rattle.std.proofs.lemmas.Bool.{true≢false}
use Rattle.mesh_base.specs.IvState.{transmit_of}
use Rattle.mesh_base.specs.declared.pair.Pair.{Pair}
use Rattle.record_types.specs.declared.records.StoreRecord.{StoreRecord}
use Rattle.mesh_types.specs.declared.report.End.TheVariants as F
use Rattle.mesh_types.specs.declared.report.Opened.TheVariants as W
use Rattle.store_definitions.specs.Config.{changed, config_of}
use Rattle.event_definitions.specs.History.{Past}
use Rattle.event_definitions.specs.Layers.{quiet_layers}
use Rattle.run_definitions.specs.Order.{IsOrdered, Step, ends}
use Rattle.mesh_base.specs.Pairs.{word_of}
use Rattle.store_definitions.specs.Ranges.{IsInRange}
use Rattle.report_definitions.specs.Record.{Life, Run, Shown, shown}
use Rattle.event_definitions.specs.Role.{Role, node_role}
use Rattle.run_definitions.specs.RunOf.{IsDrawn, IsSpentRight, Script, no_record, past_at_end}
use Rattle.event_definitions.specs.Stores.{stores}
use Rattle.run_definitions.specs.Uses.{seals_of, uses}
use Rattle.needed_rules.specs.Needed.{IsAlikeBut, OutlastsAnything, Reuses, without_mark}
use Rattle.run_safety.specs.Rules.{LeavesBy, LifeBy, Rules, all_rules}
use Rattle.needed_rules.specs.WrittenRun.{node, opened_state, pair}
use Rattle.needed_rules.proofs.NeededDraws.{Clash, each, first_handled, first_list, first_opens, first_range, first_told, life, mark, numbered, numbers, once, onward, ordered, other_text, plan, rises, second_list, second_opens, some_use}
use Rattle.needed_rules.proofs.NeededNames.{nothing_drawn}
use Rattle.needed_rules.proofs.WrittenRun.{all_of, dev_key_is, net_key_is, quiet_safe}

-- the life in which nothing happens
abbrev empty_life : Life
empty_life = record { opened = W.On opened_state (mark + 256); entries = []; refills = 0; sends = []; end = F.Ended }

-- the rules that are changed: what outlasts a cut, and what the next life opens over
abbrev rules : (Role → List Step → Life → Past → List StoreRecord → Type 0) → (List StoreRecord → List StoreRecord → Type 0) → Rules
rules does_outlast is_alike = record all_rules { does_outlast = does_outlast; is_alike = is_alike }

empty_ordered : IsOrdered [] empty_life
empty_ordered = record { parts = []; entries = refl; sends = λ k. refl; phases = ends }

empty_by : (does_outlast : Role → List Step → Life → Past → List StoreRecord → Type 0) (is_alike : List StoreRecord → List StoreRecord → Type 0)
    → LeavesBy (rules does_outlast is_alike) (node_role quiet_layers) [] empty_life (past_at_end (node_role quiet_layers) second_list empty_life []) first_list
    → LifeBy (rules does_outlast is_alike) (node_role quiet_layers) [] second_list empty_life first_list
empty_by does_outlast is_alike leaves = record {
  opening = second_opens (pair 0) 0x7f;
  idle = λ e. absurd (true≢false e);
  told = [];
  entries = refl;
  handled = tt;
  numbers = λ k. refl;
  order = λ e. empty_ordered;
  leaves = leaves;
  drawn = nothing_drawn second_list first_list empty_life refl (λ k. (refl, refl));
  spent = all_of (λ (s : Shown). IsSpentRight second_list first_list empty_life s.outcome) (shown empty_life) tt;
}

-- the life that draws the first number

drawn : (octet : ℕ) → IsDrawn first_list second_list (life (mark + 0) (pair 0) octet)
unfolding changed transmit_of
drawn octet = record {
  seq = each (λ (p : Pair). p.seq < 2 ^ 24) (pair 0) (lit< tt);
  from = each (λ (p : Pair). (config_of first_list).mark ≤ word_of p) (pair 0) (lit≤ tt);
  below = each (λ (p : Pair). word_of p < (config_of second_list).mark) (pair 0) (lit< tt);
  once = once (pair 0);
  rise = rises (mark + 0) (pair 0) octet;
  onward = onward (mark + 0) (pair 0) octet;
}

life_by : (does_outlast : Role → List Step → Life → Past → List StoreRecord → Type 0) (is_alike : List StoreRecord → List StoreRecord → Type 0) (octet : ℕ)
    → LeavesBy (rules does_outlast is_alike) (node_role quiet_layers) (plan octet) (life (mark + 0) (pair 0) octet) (past_at_end (node_role quiet_layers) first_list (life (mark + 0) (pair 0) octet) (first_told octet ∷ [])) second_list
    → LifeBy (rules does_outlast is_alike) (node_role quiet_layers) (plan octet) first_list (life (mark + 0) (pair 0) octet) second_list
life_by does_outlast is_alike octet leaves = record {
  opening = first_opens (pair 0) octet;
  idle = λ e. absurd (true≢false e);
  told = first_told octet ∷ [];
  entries = refl;
  handled = first_handled octet;
  numbers = numbered (mark + 0) (pair 0) octet;
  order = λ e. ordered (mark + 0) (pair 0) octet;
  leaves = leaves;
  drawn = drawn octet;
  spent = all_of (λ (s : Shown). IsSpentRight first_list second_list (life (mark + 0) (pair 0) octet) s.outcome) (shown (life (mark + 0) (pair 0) octet)) (tt, tt);
}

abbrev script : Script
script = record { node = node; lives = plan 0x7f ∷ [] ∷ plan 0x7e ∷ [] }

abbrev run : Run
run = record {
  lives =
      record { over = first_list; life = life (mark + 0) (pair 0) 0x7f }
      ∷ record { over = second_list; life = empty_life }
      ∷ record { over = first_list; life = life (mark + 0) (pair 0) 0x7e }
      ∷ [];
  last = second_list;
}

clash : Clash (uses run)
unfolding changed seals_of
clash h = other_text _ _ refl refl (h 0 1 some_use (lit< tt) (lit< tt) refl refl)

-- where the mark isn't in what is left

mark_leaves : (octet : ℕ)
    → LeavesBy (rules all_rules.does_outlast (IsAlikeBut without_mark)) (node_role quiet_layers) (plan octet) (life (mark + 0) (pair 0) octet) (past_at_end (node_role quiet_layers) first_list (life (mark + 0) (pair 0) octet) (first_told octet ∷ [])) second_list
unfolding changed stores transmit_of
mark_leaves octet = record { more = []; outlasts = no_record; ranges = all_of IsInRange second_list first_range; alike = record { config = refl; entries = λ src. refl } }

mark_taken : LeavesBy (rules all_rules.does_outlast (IsAlikeBut without_mark)) (node_role quiet_layers) [] empty_life (past_at_end (node_role quiet_layers) second_list empty_life []) first_list
unfolding changed
mark_taken = record { more = []; outlasts = no_record; ranges = all_of IsInRange second_list first_range; alike = record { config = refl; entries = λ src. refl } }

pub mark_needed : Reuses (record all_rules { is_alike = IsAlikeBut without_mark })
mark_needed = (
  quiet_layers,
  script,
  run,
  quiet_safe,
  record {
    first = refl;
    lives = (
      life_by all_rules.does_outlast (IsAlikeBut without_mark) 0x7f (mark_leaves 0x7f),
      (empty_by all_rules.does_outlast (IsAlikeBut without_mark) mark_taken, (life_by all_rules.does_outlast (IsAlikeBut without_mark) 0x7e (mark_leaves 0x7e), tt)),
    );
  },
  clash,
)

-- where anything outlasts a cut

first_leaves : (octet : ℕ)
    → LeavesBy (rules OutlastsAnything all_rules.is_alike) (node_role quiet_layers) (plan octet) (life (mark + 0) (pair 0) octet) (past_at_end (node_role quiet_layers) first_list (life (mark + 0) (pair 0) octet) (first_told octet ∷ [])) second_list
unfolding changed stores transmit_of
first_leaves octet = record { more = []; outlasts = tt; ranges = all_of IsInRange second_list first_range; alike = record { config = refl; entries = λ src. refl } }

taken_range : AllByRecursion IsInRange (second_list ++ numbers 0 ∷ [])
unfolding transmit_of
taken_range = (
  (lit≤ tt, lit≤ tt, lit≤ tt, lit≤ tt, dev_key_is),
  (
    (lit< tt, (λ e. lit< tt), record { seq = 0; word = refl; most = lit≤ tt; block = refl }, lit< tt, lit< tt),
    (
      (lit≤ tt, lit≤ tt, lit≤ tt, net_key_is),
      (
        (lit< tt, (λ e. lit< tt), record { seq = 256; word = refl; most = lit≤ tt; block = refl }, lit< tt, lit< tt),
        ((lit< tt, (λ e. lit< tt), record { seq = 0; word = refl; most = lit≤ tt; block = refl }, lit< tt, lit< tt), tt),
      ),
    ),
  ),
)

taken : LeavesBy (rules OutlastsAnything all_rules.is_alike) (node_role quiet_layers) [] empty_life (past_at_end (node_role quiet_layers) second_list empty_life []) first_list
unfolding changed transmit_of
taken = record {
  more = numbers 0 ∷ [];
  outlasts = tt;
  ranges = all_of IsInRange (second_list ++ numbers 0 ∷ []) taken_range;
  alike = record { config = refl; entries = λ src. refl };
}

pub outlasts_needed : Reuses (record all_rules { does_outlast = OutlastsAnything })
outlasts_needed = (
  quiet_layers,
  script,
  run,
  quiet_safe,
  record {
    first = refl;
    lives = (
      life_by OutlastsAnything all_rules.is_alike 0x7f (first_leaves 0x7f),
      (empty_by OutlastsAnything all_rules.is_alike taken, (life_by OutlastsAnything all_rules.is_alike 0x7e (first_leaves 0x7e), tt)),
    );
  },
  clash,
)

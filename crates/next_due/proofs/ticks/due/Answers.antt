use Rattle.std.proofs.Common.{◌≡◌, ◌∙◌, ℕ, ◌+◌, ◌≤◌, ◌^◌, false, min, ap, subst, sym, arith}
use Rattle.event_definitions.specs.Answers.{config_before, later}
use Rattle.event_definitions.specs.History.{Past, now_of}
use Rattle.mesh_hearing.specs.Tables.{TablesView}
use Rattle.node_records.specs.Meaning.{IsMeaningOf}
use Rattle.event_plans.specs.Memory.{AreNodeTablesOf}
use Rattle.store_definitions.specs.Config.{Config}
use Rattle.timer_ends.specs.Ends.{IsBefore}
use Rattle.next_due.proofs.Quiet.{quiet_reset, quiet_where, still_where}
use Rattle.next_due.proofs.ticks.due.Goals as goal
use Rattle.next_due.proofs.ticks.due.Goals.{After-ticks_until}

-- after a Node Reset
pub returns-then-p-clause-quiet : goal.returns-then-p-clause-quiet
returns-then-p-clause-quiet c = λ past means are ticks l.
    quiet_reset past ticks (sym (ap (λ (d : Config). d.reset) means.config) ∙ c.if-p.true)

-- the moment is that of the life
is_now : (c : After-ticks_until) (past : Past) → AreNodeTablesOf c.args.tables.now past → c.ticks-now.result ≡ now_of past.told
is_now c past are = c.ticks-now.ensures.value ∙ ap (λ (v : TablesView). v.ticks) c.hearing.ensures.value ∙ are.hearing.ticks

goes_on : (c : After-ticks_until) (past : Past) → IsMeaningOf past.records c.args.p.now → (config_before past).reset ≡ false
goes_on c past means = sym (ap (λ (d : Config). d.reset) means.config) ∙ c.if-p.false

not_before : (now from ticks : ℕ) → from ≡ now → from ≤ 2 ^ 48 → from ≤ min (2 ^ 48) (now + ticks)
not_before now from ticks e most = omega (arith, e, most)

at_most : (now ticks : ℕ) → min (2 ^ 48) (now + ticks) ≤ 2 ^ 48
at_most now ticks = omega arith

pub returns : goal.returns
returns c = record {
  quiet = λ past means are ticks l.
      let time = is_now c past are in
      let before = subst (λ (now : ℕ). IsBefore (min (2 ^ 48) (now + ticks)) c.first_end.result) time (c.ticks_until.ensures.before ticks l) in
      quiet_where past ticks (goes_on c past means)
      ((c.first_end.ensures past means are time (later past ticks) (not_before (now_of past.told) c.ticks-now.result ticks time c.ticks-now.ensures.most)
      (at_most (now_of past.told) ticks)).1 before);
  reached = λ past means are small q.
      let time = is_now c past are in
      let ticks = c.ticks_until.result in
      let before =
      (c.first_end.ensures past means are time (later past ticks) (not_before (now_of past.told) c.ticks-now.result ticks time c.ticks-now.ensures.most)
      (at_most (now_of past.told) ticks)).0 (still_where past ticks (goes_on c past means) q) in
      c.ticks_until.ensures.reached small (subst (λ (now : ℕ). IsBefore (min (2 ^ 48) (now + ticks)) c.first_end.result) (sym time) before);
}

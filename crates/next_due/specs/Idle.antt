-- Time in which nothing is due.
use Rattle.std.specs.Prelude.{ℕ, ◌≤◌, [], None}
use Rattle.event_definitions.specs.History.{Past}
use Rattle.event_plans.specs.Memory.{AreNodeTablesOf, NodeTablesView}
use Rattle.event_plans.specs.declared.plan.TickPlan.{TickPlan}
use Rattle.mesh_base.specs.declared.iv_state.IvState.{IvState}
use Rattle.mesh_types.specs.declared.answers.Answer.TheVariants as A
use Rattle.next_due.specs.Quiet.{IsQuiet}
use Rattle.node_records.specs.Meaning.{IsMeaningOf}
use Rattle.node_records.specs.declared.persist.Persist.{Persist}

-- Some event of at most so many ticks isn't quiet, after whatever past it is that a store's value and the tables stand for.
pub record IsDueWithin (t : NodeTablesView) (p : Persist) (ticks : ℕ) : Type 0 where
  pub at : ℕ
  pub within : at ≤ ticks
  pub busy : (past : Past) → IsMeaningOf past.records p → AreNodeTablesOf t past → IsQuiet past at → ⊥

-- The plan: from one moment to another, under this IV state: the time is told, and there is nothing to store and nothing to send
abbrev pub idle_plan : ℕ → ℕ → IvState → TickPlan
idle_plan from to iv = record {
  answer = A.Ticked to;
  records = [];
  basis = record {
    acks = [];
    rounds = record { items = [] };
    due = record { rows = []; heartbeat = None };
    span = record { from = from; to = to; iv = iv };
  };
}

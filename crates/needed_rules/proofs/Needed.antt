-- What each rule is needed for.
use Rattle.std.proofs.Common.{List, [], ◌∷◌}
use Rattle.record_types.specs.declared.records.StoreRecord.{StoreRecord}
use Rattle.event_definitions.specs.Role.{Role, node_role}
use Rattle.needed_rules.specs.Needed.{AreNeeded, IsRunByAll}
use Rattle.run_safety.specs.Rules.{LifeBy, LivesBy, all_rules}
use Rattle.run_definitions.specs.Order.{Step}
use Rattle.report_definitions.specs.Record.{Life, LifeOver, first_over}
use Rattle.run_definitions.specs.RunOf.{LifeOf, LivesOf}
use Rattle.needed_rules.proofs.NeededBound.{bound_needed}
use Rattle.needed_rules.proofs.NeededDraws.{below_needed, from_needed}
use Rattle.needed_rules.proofs.NeededNames.{replay_list_needed}
use Rattle.needed_rules.proofs.NeededOnce.{once_needed}
use Rattle.needed_rules.proofs.NeededOrder.{idle_needed, order_needed}
use Rattle.needed_rules.proofs.NeededJobs.{jobs_needed}
use Rattle.needed_rules.proofs.NeededMark.{mark_needed, outlasts_needed}
use Rattle.needed_rules.proofs.NeededLayers.{safe_layers_needed}
use Rattle.needed_rules.proofs.NeededTable.{iv_table_needed}
use Rattle.needed_rules.proofs.NeededTold.{told_needed}
use Rattle.needed_rules.proofs.NeededSight.{sight_needed}
use Rattle.needed_rules.proofs.NeededRecords.{records_needed}
use Rattle.needed_rules.proofs.NeededBefore.{before_needed}
use Rattle.needed_rules.proofs.NeededRanges.{ranges_needed}
use Rattle.needed_rules.proofs.NeededIvState.{iv_state_needed}
use Rattle.needed_rules.proofs.NeededIdentity.{elements_needed, unicast_needed}
use Rattle.needed_rules.proofs.NeededParts.{history_needed, lines_needed}

life_by_all : (role : Role) (plan : List Step) (over : List StoreRecord) (l : Life) (next : List StoreRecord) → LifeBy all_rules role plan over l next → LifeOf role plan over l next
life_by_all role plan over l next h = record {
  opening = h.opening;
  idle = h.idle;
  told = h.told;
  entries = h.entries;
  handled = h.handled;
  numbers = h.numbers;
  order = h.order;
  leaves = record { more = h.leaves.more; outlasts = h.leaves.outlasts; ranges = h.leaves.ranges; alike = h.leaves.alike };
  drawn = h.drawn;
  spent = h.spent;
}

lives_by_all : (role : Role) (plans : List (List Step)) (lives : List LifeOver) (last : List StoreRecord) → LivesBy all_rules role plans lives last → LivesOf role plans lives last
lives_by_all role [] [] last h = tt
lives_by_all role [] (x ∷ xs) last h = absurd h
lives_by_all role (plan ∷ plans) [] last h = absurd h
lives_by_all role (plan ∷ plans) (x ∷ xs) last h =
    (life_by_all role plan x.over x.life (first_over xs last) h.0, lives_by_all role plans xs last h.1)

pub run_by_all : IsRunByAll
run_by_all layers s r h = record { first = h.first; lives = lives_by_all (node_role layers) s.lives r.lives r.last h.lives }

pub are_needed : AreNeeded
are_needed = record {
  bound = bound_needed;
  from = from_needed;
  below = below_needed;
  once = once_needed;
  order = order_needed;
  lines = lines_needed;
  history = history_needed;
  idle = idle_needed;
  told = told_needed;
  jobs = jobs_needed;
  sight = sight_needed;
  iv_table = iv_table_needed;
  records = records_needed;
  before = before_needed;
  outlasts = outlasts_needed;
  ranges = ranges_needed;
  mark = mark_needed;
  iv_state = iv_state_needed;
  unicast = unicast_needed;
  elements = elements_needed;
  replay_list = replay_list_needed;
  safe_layers = safe_layers_needed;
}

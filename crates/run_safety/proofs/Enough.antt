-- Each run keeps the rules that are enough, and so is safe.
use Rattle.std.proofs.Common.{◌≢◌, List, [], ◌∷◌, ap, arith}
use Rattle.std.specs.List.{All, AllPairs}
use Rattle.std.proofs.lemmas.List.Elements.{All-from_recursion, recursion_from_All}
use Rattle.record_types.specs.declared.records.StoreRecord.{StoreRecord}
use Rattle.record_types.specs.declared.records.StoreRecord.TheVariants as R
use Rattle.store_definitions.specs.Config.{Config, config_of}
use Rattle.event_definitions.specs.History.{Past}
use Rattle.event_definitions.specs.Role.{Role}
use Rattle.run_definitions.specs.Order.{Step}
use Rattle.store_definitions.specs.Ranges.{IsInRange}
use Rattle.report_definitions.specs.Record.{Life, LifeOver, Run, first_over}
use Rattle.mesh_base.specs.Pairs.{word_of}
use Rattle.run_definitions.specs.Uses.{AtMostOnce, NoReuse, delivered, uses}
use Rattle.run_definitions.specs.RunOf.{LifeOf, LivesOf, Outlasts, RunOf, Script, no_record, of_event, of_refill}
use Rattle.store_definitions.specs.Alike.{IsAlike}
use Rattle.run_safety.specs.Rules.{HasFitNumbers, KeepsNode, LifeBy, LivesBy, MayOutlast, RunBy, enough_rules, nothing_more, one_filled, some_stored}
use Rattle.run_safety.specs.Safety.{Keeps, all_draws}
use Rattle.run_safety.specs.SafeRole.{IsSafeRole}
use Rattle.run_safety.proofs.Lists.{pairs_from_apart}
use Rattle.event_definitions.proofs.Each.{every_map}
use Rattle.run_safety.proofs.Lives.{life_later}
use Rattle.run_safety.proofs.Lives as lives
use Rattle.run_safety.proofs.Reuse as reuse
use Rattle.run_safety.proofs.Rising.{Later}

fit_numbers : (r : StoreRecord) → IsInRange r → HasFitNumbers r
fit_numbers (R.Numbers current progress mark hours since) h = (h.0, omega (arith, h.2.word, h.2.most))
fit_numbers (R.Identity unicast elements dev_key) h = tt
fit_numbers _ h = tt

may_outlast : (role : Role) (plan : List Step) (l : Life) (past : Past) (more : List StoreRecord) → Outlasts role plan l past more → MayOutlast role past more
may_outlast role plan l past _ no_record = nothing_more
may_outlast role plan l past _ (of_event k n event insight on cut next sees) = some_stored n event insight
may_outlast role plan l past _ (of_refill on cut) = one_filled

keeps_node : (a b : List StoreRecord) → IsAlike a b → KeepsNode a b
keeps_node a b h = record {
  unicast = ap (λ (c : Config). c.unicast) h.config;
  elements = ap (λ (c : Config). c.elements) h.config;
  iv = ap (λ (c : Config). c.iv) h.config;
  mark = ap (λ (c : Config). c.mark) h.config;
  entries = h.entries;
}

all_fit : (records : List StoreRecord) → All IsInRange records → All HasFitNumbers records
all_fit records h = All-from_recursion HasFitNumbers records (every_map IsInRange HasFitNumbers fit_numbers records (recursion_from_All IsInRange records h))

life_by_enough : (role : Role) (plan : List Step) (over : List StoreRecord) (l : Life) (next : List StoreRecord) → LifeOf role plan over l next → LifeBy enough_rules role plan over l next
life_by_enough role plan over l next h = record {
  opening = tt;
  idle = λ e. (h.idle e).sends;
  told = h.told;
  entries = h.entries;
  handled = h.handled;
  numbers = λ k. tt;
  order = h.order;
  leaves = record {
    more = h.leaves.more;
    outlasts = may_outlast role plan l _ h.leaves.more h.leaves.outlasts;
    ranges = all_fit _ h.leaves.ranges;
    alike = keeps_node next _ h.leaves.alike;
  };
  drawn = record { seq = h.drawn.seq; from = h.drawn.from; below = h.drawn.below; once = h.drawn.once };
  spent = tt;
}

lives_by_enough : (role : Role) (plans : List (List Step)) (lives : List LifeOver) (last : List StoreRecord) → LivesOf role plans lives last → LivesBy enough_rules role plans lives last
lives_by_enough role [] [] last h = tt
lives_by_enough role [] (x ∷ xs) last h = absurd h
lives_by_enough role (plan ∷ plans) [] last h = absurd h
lives_by_enough role (plan ∷ plans) (x ∷ xs) last h =
    (life_by_enough role plan x.over x.life (first_over xs last) h.0, lives_by_enough role plans xs last h.1)

pub run_by_enough : (role : Role) (s : Script) (r : Run) → RunOf role s r → RunBy enough_rules role s r
run_by_enough role s r h = record { first = tt; lives = lives_by_enough role s.lives r.lives r.last h.lives }

pub no_reuse : (role : Role) → IsSafeRole role → (s : Script) (r : Run) → RunOf role s r → NoReuse (uses r)
no_reuse role safe s r h = reuse.no_reuse role safe s r (run_by_enough role s r h)

pub at_most_once : (role : Role) → IsSafeRole role → (s : Script) (r : Run) → RunOf role s r → AtMostOnce (delivered r)
at_most_once role safe s r h = lives.at_most_once role safe s r (run_by_enough role s r h)

pub draws_apart : (role : Role) → IsSafeRole role → (s : Script) (r : Run) → RunOf role s r → AllPairs (λ p q. word_of p ≢ word_of q) (all_draws r.lives)
draws_apart role safe s r h =
    pairs_from_apart _ (all_draws r.lives) (reuse.lives_drawn role safe s.lives r.lives r.last (run_by_enough role s r h).lives).once

pub lives_keep : (role : Role) → IsSafeRole role → (plan : List Step) (over : List StoreRecord) (l : Life) (next : List StoreRecord)
    → LifeOf role plan over l next → Keeps (config_of over) (config_of next)
lives_keep role safe plan over l next h =
    let later : Later (config_of over) (config_of next) = life_later role safe plan over l next (life_by_enough role plan over l next h) in
    record { mark = later.mark; current = later.current; unicast = later.unicast; elements = later.elements }

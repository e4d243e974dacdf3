use Rattle.turn_lock.proofs.Kept.{merge_holds_first, merge_holds_second, merge_holds_only}
use Rattle.turn_lock.proofs.laws.merge_law.Goals as goal

pub returns-clause-first : goal.returns-clause-first
returns-clause-first g c = λ xs ys x h. merge_holds_first xs ys x h

pub returns-clause-second : goal.returns-clause-second
returns-clause-second g c = λ xs ys x h. merge_holds_second xs ys x h

pub returns-clause-only : goal.returns-clause-only
returns-clause-only g c = λ xs ys x h. merge_holds_only xs ys x h

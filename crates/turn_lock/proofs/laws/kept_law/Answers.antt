use Rattle.turn_lock.proofs.Kept.{kept_merge_first, kept_merge_second, kept_at, kept_join, kept_one}
use Rattle.turn_lock.proofs.laws.kept_law.Goals as goal

pub returns-clause-first : goal.returns-clause-first
returns-clause-first g c = λ keep n log xs ys stands none. kept_merge_first keep n log xs ys stands none

pub returns-clause-second : goal.returns-clause-second
returns-clause-second g c = λ keep xs ys none. kept_merge_second keep xs ys none

pub returns-clause-start : goal.returns-clause-start
returns-clause-start g c = λ keep k lists d ys within is none. kept_at keep k lists d ys within is none

pub returns-clause-join : goal.returns-clause-join
returns-clause-join g c = λ keep n log xs ys zs rest stands h. kept_join keep n log xs ys rest zs stands h

pub returns-clause-end : goal.returns-clause-end
returns-clause-end g c = λ keep xs ys h. kept_one keep xs ys h

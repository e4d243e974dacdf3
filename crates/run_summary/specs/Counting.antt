-- How the numbers of a run are counted life by life, and why no count comes near the end of its type.
use Rattle.std.specs.Prelude.{◌≡◌, ℕ, ◌+◌, ◌*◌, ◌%◌, ◌^◌, ◌≤◌, ◌<◌, List, [], length, refl}
use Rattle.std.proofs.Common.{lit≤, subst, sym}
use Rattle.report_definitions.specs.Record.{Life, LifeOver}
use Rattle.run_summary.specs.Summaries.{entries_with, is_control, is_ctl, is_not_mine, is_planned, is_relay, jobs_with, octets_of, summary_of}
use Rattle.run_summary.specs.declared.summary.Summary.{Summary}

abbrev pub added : ℕ → ℕ → ℕ
added a b = (a + b) % 2 ^ 128

-- a life more, which has this number
abbrev pub with_life : Summary → ℕ → Life → Summary
with_life s number life = record {
  lives = number;
  events = added s.events (length life.entries);
  planned = added s.planned (entries_with is_planned life);
  control = added s.control (entries_with is_control life);
  not_mine = added s.not_mine (entries_with is_not_mine life);
  ctl = added s.ctl (jobs_with is_ctl life);
  relay = added s.relay (jobs_with is_relay life);
  octets = (s.octets + octets_of life) % 2 ^ 32;
}

-- a life has at most 8 bearers, each with a list that memory can hold
pub record IsFew (life : Life) : Type 0 where
  pub entries : length life.entries < 2 ^ 32
  pub ctl : jobs_with is_ctl life ≤ 2 ^ 67
  pub relay : jobs_with is_relay life ≤ 2 ^ 67

-- no count of n lives is above this
abbrev pub most : ℕ → ℕ
most n = n * 2 ^ 67

-- it is the summary of these lives
pub record IsSummary (s : Summary) (lives : List LifeOver) : Type 0 where
  pub value : s ≡ summary_of lives
  pub events : s.events ≤ most (length lives)
  pub planned : s.planned ≤ most (length lives)
  pub control : s.control ≤ most (length lives)
  pub not_mine : s.not_mine ≤ most (length lives)
  pub ctl : s.ctl ≤ most (length lives)
  pub relay : s.relay ≤ most (length lives)

-- it was so since nothing was counted
abbrev pub Counts : Summary → Summary → List LifeOver → Type 0
Counts first now lives = first ≡ summary_of [] → IsSummary now lives

-- of no lives it is the first
none_is : IsSummary (summary_of []) []
none_is = record {
  value = refl;
  events = lit≤ tt;
  planned = lit≤ tt;
  control = lit≤ tt;
  not_mine = lit≤ tt;
  ctl = lit≤ tt;
  relay = lit≤ tt;
}

pub counts_none : (first : Summary) → Counts first first []
counts_none first is = subst (λ s. IsSummary s []) (sym is) none_is

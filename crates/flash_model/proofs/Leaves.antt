-- What a power cut leaves over several calls in a row: it begins, goes on, joins and weakens.
use Rattle.std.proofs.Common.{◌⊎◌, ℕ, List, inl, inr, ⊎_elim, arith}
use Rattle.flash_model.specs.Chip.{Chip, Elapses, LeavesOnly, Stays}

-- what only_now says of a flash
abbrev pub IsOnlyNow : Chip → Type 0
IsOnlyNow chip = (c : List ℕ) → chip.since chip.moment c → chip.images c

-- before the first call
pub leaves_none : (chip : Chip) (P : List ℕ → Type 0) → IsOnlyNow chip → ((c : List ℕ) → chip.images c → P c) → LeavesOnly chip chip P
leaves_none chip P only now = record { later = omega arith; each = λ c since. now c (only c since); before = λ t c le since. inl since }

-- one call more
pub leaves_more : (old mid new : Chip) (allowed P : List ℕ → Type 0) → LeavesOnly old mid P → Elapses mid new allowed → ((c : List ℕ) → allowed c → P c) → LeavesOnly old new P
leaves_more old mid new allowed P so call all = record {
  later = omega (arith, so.later, call.later);
  each = λ c since. ⊎_elim (λ h. so.each c h) (λ h. all c h) (call.nothing_else old.moment c so.later since);
  before = λ t c le since. ⊎_elim (λ h. so.before t c le h) (λ h. inr (all c h)) (call.nothing_else t c (omega (arith, so.later)) since);
}

-- the first call
pub leaves_first : (old new : Chip) (allowed P : List ℕ → Type 0) → IsOnlyNow old → ((c : List ℕ) → old.images c → P c) → Elapses old new allowed → ((c : List ℕ) → allowed c → P c) → LeavesOnly old new P
leaves_first old new allowed P only now call all = leaves_more old old new allowed P (leaves_none old P only now) call all

-- calls that leave the content
pub leaves_stays : (old new : Chip) (P : List ℕ → Type 0) → IsOnlyNow old → ((c : List ℕ) → old.images c → P c) → Stays old new → LeavesOnly old new P
leaves_stays old new P only now stays = leaves_first old new old.images P only now stays.time now

-- one run after another
pub leaves_join : (old mid new : Chip) (P Q : List ℕ → Type 0) → LeavesOnly old mid P → LeavesOnly mid new Q → LeavesOnly old new (λ c. P c ⊎ Q c)
leaves_join old mid new P Q a b = record {
  later = omega (arith, a.later, b.later);
  each = λ c since. ⊎_elim (λ h. inl (a.each c h)) (λ h. inr h) (b.before old.moment c a.later since);
  before = λ t c le since. ⊎_elim
      (λ h. ⊎_elim (λ was. inl was) (λ p. inr (inl p)) (a.before t c le h))
      (λ q. inr (inr q))
      (b.before t c (omega (arith, a.later)) since);
}

pub leaves_weaker : (old new : Chip) (P Q : List ℕ → Type 0) → LeavesOnly old new P → ((c : List ℕ) → P c → Q c) → LeavesOnly old new Q
leaves_weaker old new P Q so weaker = record {
  later = so.later;
  each = λ c since. weaker c (so.each c since);
  before = λ t c le since. ⊎_elim (λ h. inl h) (λ p. inr (weaker c p)) (so.before t c le since);
}

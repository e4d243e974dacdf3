-- Several calls that leave the content, and the identity of a flash, over all of them.
use Rattle.std.proofs.Common.{◌≡◌, ℕ, ◌+◌, ◌≤◌, refl, ◌∙◌, inl, inr, ⊎_elim, arith}
use Rattle.flash_model.specs.Chip.{Chip, Keeps, Remembers, Stays}
use Rattle.flash_model.specs.Arming.{Begins, BeginsAtMost, Erases, ErasesAtMost, Programs, ProgramsAtMost, ReadsAtMost}

pub past_none : (chip : Chip) → Remembers chip chip
past_none chip = record { later = omega arith; keeps = λ t c le since. since }

pub past_more : (a b c : Chip) → Remembers a b → Remembers b c → Remembers a c
past_more a b c first second = record {
  later = omega (arith, first.later, second.later);
  keeps = λ t d le since. second.keeps t d (omega (arith, le, first.later)) (first.keeps t d le since);
}

pub keeps_none : (chip : Chip) → Keeps chip chip
keeps_none chip = record { honest = refl; steady = refl; setting = refl; later = omega arith; sure = λ h. (h, refl); past = past_none chip }

pub keeps_more : (a b c : Chip) → Keeps a b → Keeps b c → Keeps a c
keeps_more a b c first second = record {
  honest = second.honest ∙ first.honest;
  steady = second.steady ∙ first.steady;
  setting = second.setting ∙ first.setting;
  later = omega (arith, first.later, second.later);
  sure = λ h. let one = first.sure h in let two = second.sure one.0 in (two.0, two.1 ∙ one.1);
  past = past_more a b c first.past second.past;
}

pub stays_none : (chip : Chip) → Stays chip chip
stays_none chip = record {
  now = refl;
  images = λ c image. image;
  time = record { later = omega arith; nothing_else = λ t c le since. inl since; keeps = λ t c le since. since };
}

pub stays_more : (a b c : Chip) → Stays a b → Stays b c → Stays a c
stays_more a b c first second = record {
  now = second.now ∙ first.now;
  images = λ d image. first.images d (second.images d image);
  time = record {
    later = omega (arith, first.time.later, second.time.later);
    nothing_else = λ t d le since. ⊎_elim
        (λ was. first.time.nothing_else t d le was)
        (λ image. inr (first.images d image))
        (second.time.nothing_else t d (omega (arith, first.time.later)) since);
    keeps = λ t d le since. second.time.keeps t d (omega (arith, first.time.later)) (first.time.keeps t d le since);
  };
}

-- program and erase calls, counted over several calls
pub begins_none : (chip : Chip) → chip.changes ≤ 4294967295 → Begins 0 chip chip
begins_none chip few = omega (arith, few)

pub begins_more : (m n k : ℕ) (a b c : Chip) → k ≡ m + n → Begins m a b → Begins n b c → Begins k a c
begins_more m n k a b c is first second = omega (arith, is, first, second)

pub at_most_more : (m n k : ℕ) (a b c : Chip) → m + n ≤ k → BeginsAtMost m a b → BeginsAtMost n b c → BeginsAtMost k a c
at_most_more m n k a b c is first second = omega (arith, is, first, second)

-- the erase calls among them
pub erases_none : (chip : Chip) → chip.erases ≤ chip.changes → chip.changes ≤ 4294967295 → Erases 0 chip chip
erases_none chip among few = omega (arith, among, few)

pub erases_more : (m n k : ℕ) (a b c : Chip) → k ≡ m + n → Erases m a b → Erases n b c → Erases k a c
erases_more m n k a b c is first second = omega (arith, is, first, second)

pub erases_at_most_more : (m n k : ℕ) (a b c : Chip) → m + n ≤ k → ErasesAtMost m a b → ErasesAtMost n b c → ErasesAtMost k a c
erases_at_most_more m n k a b c is first second = omega (arith, is, first, second)

-- the octets of the program calls
pub programs_none : (chip : Chip) → chip.octets ≤ 4294967295 → Programs 0 chip chip
programs_none chip few = omega (arith, few)

pub programs_more : (m n k : ℕ) (a b c : Chip) → k ≡ m + n → Programs m a b → Programs n b c → Programs k a c
programs_more m n k a b c is first second = omega (arith, is, first, second)

pub programs_at_most_more : (m n k : ℕ) (a b c : Chip) → m + n ≤ k → ProgramsAtMost m a b → ProgramsAtMost n b c → ProgramsAtMost k a c
programs_at_most_more m n k a b c is first second = omega (arith, is, first, second)

-- read calls
pub reads_at_most_more : (m n k : ℕ) (a b c : Chip) → m + n ≤ k → ReadsAtMost m a b → ReadsAtMost n b c → ReadsAtMost k a c
reads_at_most_more m n k a b c is first second = omega (arith, is, first, second)

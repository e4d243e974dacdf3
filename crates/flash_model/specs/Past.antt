-- The past of a flash in memory: the content that each call found, and the counts of faults.
use Rattle.std.specs.Prelude.{◌≡◌, ◌⊎◌, ℕ, ◌+◌, List, [], ◌∷◌, ◌++◌, length, replicate, ◌==◌, if◌then◌else◌}
use Rattle.atomic_table.specs.Table.{State, Step, Me}
use Rattle.flash_model.specs.declared.past.Past.{Past}

-- of an erased flash that was just made
abbrev pub beginning : Past
beginning = record { contents = []; faults = 0; cycled = 0; saved = replicate 65536 255; moment = 0; cycles = 0 }

-- one call more: 1 for one that fails, 2 for a power cycle, 0 for any other
abbrev pub noted : ℕ → List ℕ → Past → Past
noted call content past = record {
  contents = past.contents ++ content ∷ [];
  faults = if call == 1 then past.faults + 1 else past.faults;
  cycled = if call == 2 then past.faults else past.cycled;
  saved = if call == 2 then content else past.saved;
  moment = if call == 2 then length past.contents + 1 else past.moment;
  cycles = if call == 2 then past.cycles + 1 else past.cycles;
}

-- no rule binds the one word
abbrev pub Unruled : {S : Type 0} → State S Past → Type 0
Unruled table = Unit {0}

-- the step adds the call whose number it stores, with the content found
abbrev pub Adds : {S : Type 0} → List ℕ → Step S → Me S Past → ℕ → Me S Past → Type 0
Adds content step before call after = after ≡ (noted call content before.0, before.1)

-- one of them is this
abbrev pub HadBeen : List (List ℕ) → List ℕ → Type 0
HadBeen [] content = ⊥
HadBeen (x ∷ past) content = (content ≡ x) ⊎ HadBeen past content

-- What was read of a flash when its setting was made, and its calls since it was made.
use Rattle.std.specs.Prelude.{◌≡◌, ℕ, List, [], ◌∷◌, ◌++◌, length}
use Rattle.atomic_table.specs.Table.{State, Step, Me}
use Rattle.file_flash.specs.declared.saved.Saved.{Saved}

abbrev pub nothing_saved : Saved
nothing_saved = record { octets = []; moment = 0; called = 0; programmed = 0; calls = [] }

-- one call more, which began at that moment of the mirror, and is to make the one content the other
abbrev pub call_noted : ℕ → List ℕ → List ℕ → Saved → Saved
call_noted began old new saved = record saved { calls = saved.calls ++ record { began = began; old = old; new = new } ∷ [] }

-- no rule binds the one word
abbrev pub Unruled : {S : Type 0} → State S Saved → Type 0
Unruled table = Unit {0}

-- the step saves this, whatever was saved before, with how many calls there were so far as the moment
abbrev pub Stores : {S : Type 0} → List ℕ → ℕ → ℕ → Step S → Me S Saved → ℕ → Me S Saved → Type 0
Stores octets called programmed step before call after =
    after ≡ (record before.0 { octets = octets; moment = length before.0.calls; called = called; programmed = programmed }, before.1)

-- the step notes a call
abbrev pub Notes : {S : Type 0} → ℕ → List ℕ → List ℕ → Step S → Me S Saved → ℕ → Me S Saved → Type 0
Notes began old new step before call after = after ≡ (call_noted began old new before.0, before.1)

-- The entries so far, as a seat knows them.
use Rattle.std.specs.Prelude.{◌≡◌, ℕ, [], ◌∷◌, ◌++◌}
use Rattle.atomic_table.specs.Table.{State, Step, Me}
use Rattle.mesh_types.specs.declared.answers.Answer.TheVariants as A
use Rattle.mesh_types.specs.declared.events.Event.TheVariants as E
use Rattle.mesh_types.specs.declared.history.Entry.{Entry}
use Rattle.entry_log.specs.declared.past.Past.{Past}

abbrev pub beginning : Past
beginning = record { entries = []; moves = [] }

-- what the trait's impl names where none is given; it is added nowhere
abbrev pub some_entry : Entry
some_entry = record { bearer = 0; number = 0; event = E.Tick 0; fills = 0; answer = A.Planned; jobs = [] }

abbrev pub noted : Entry → ℕ → Past → Past
noted entry move past = record { entries = past.entries ++ entry ∷ []; moves = past.moves ++ move ∷ [] }

-- no rule binds the one word
abbrev pub Unruled : {S : Type 0} → State S Past → Type 0
Unruled table = Unit {0}

-- the step adds this entry, and where the counter had been moved to
abbrev pub Adds : {S : Type 0} → Entry → ℕ → Step S → Me S Past → ℕ → Me S Past → Type 0
Adds entry move step before call after = after ≡ (noted entry move before.0, before.1)

-- A list of records is passed, up to a place.
use Rattle.std.specs.Prelude.{ℕ, zero, suc, List, [], ◌∷◌, Result, Ok, Err}
use Rattle.record_types.specs.declared.records.StoreRecord.{StoreRecord}

-- how many places are left behind the list, or the record that stands at the place
abbrev pub passed : List StoreRecord → ℕ → Result ℕ StoreRecord
passed [] place = Ok place
passed (item ∷ records) zero = Err item
passed (item ∷ records) (suc place) = passed records place

-- How an event is handled, and how the entries of a life follow from the records that it opened over.
use Rattle.std.specs.Prelude.{◌≡◌, ℕ, List, [], ◌∷◌, ◌++◌, ⊤}
use Rattle.record_types.specs.declared.records.StoreRecord.{StoreRecord}
use Rattle.store_definitions.specs.Config.{config_of}
use Rattle.event_definitions.specs.History.{Past, Told}
use Rattle.event_definitions.specs.Role.{Role}
use Rattle.store_definitions.specs.Numbers.{filled}

-- the records after an entry
abbrev pub records_after : Role → Past → Told → List StoreRecord
records_after role past t = past.records ++ role.stores past t.entry.event t.insight t.entry.answer

-- The entry has the answer of its event, after what stands before it, and the jobs of that answer, which see the records after it.
pub record Handles (role : Role) (past : Past) (t : Told) : Type 0 where
  pub sees : role.sees past t.entry.event t.insight
  pub answer : t.entry.answer ≡ role.answer past t.entry.event t.insight
  pub jobs : t.entry.jobs
      ≡ role.jobs past (config_of (records_after role past t)) t.entry.event t.insight t.entry.answer

-- what stands before an entry
abbrev pub past_of : List Told → Told → Past
past_of before t = record { told = before; records = t.records }

-- Each entry is handled after the entries before it: over the records that these left, with the refills since then.
abbrev pub AreHandled : Role → List StoreRecord → List Told → List Told → Type 0
AreHandled role records before [] = ⊤
AreHandled role records before (t ∷ ts) =
    (t.records ≡ filled t.entry.fills records)
    × Handles role (past_of before t) t
    × AreHandled role (records_after role (past_of before t) t) (before ++ t ∷ []) ts

-- the records that entries leave
abbrev pub records_left : Role → List StoreRecord → List Told → List Told → List StoreRecord
records_left role records before [] = records
records_left role records before (t ∷ ts) =
    records_left role (records_after role (past_of before t) t) (before ++ t ∷ []) ts

-- What stands before an event of a life that opened over some list of records: its entries were handled in order, and the records are those
-- that they left, with the refills since then.
pub record IsPast (role : Role) (past : Past) : Type 0 where
  pub over : List StoreRecord
  pub handled : AreHandled role over [] past.told
  pub fills : ℕ
  pub records : past.records ≡ filled fills (records_left role over [] past.told)

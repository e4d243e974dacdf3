-- Where the counter of sequence numbers was moved to in a life, apart from draws.
use Rattle.std.specs.Prelude.{◌≡◌, ℕ, List, [], ◌++◌, map}
use Rattle.mesh_types.specs.declared.history.Entry.{Entry}
use Rattle.record_types.specs.declared.records.StoreRecord.{StoreRecord}
use Rattle.event_definitions.specs.Handling.{AreHandled}
use Rattle.event_definitions.specs.History.{Told}
use Rattle.event_definitions.specs.Role.{Role}
use Rattle.store_definitions.specs.Config.{config_of}
use Rattle.seq_word.specs.Seen.{went_to}
use Rattle.machine_contract.specs.Moves.{rises}
use Rattle.machine_contract.specs.Standing.{past_now}

-- Behind these records those were stored, and with each that raised the transmit IV Index the counter was moved to the first word under the
-- new one, and at no other time.
pub record IsMoved (over records : List StoreRecord) (advances : List (ℕ × ℕ)) : Type 0 where
  pub items : List StoreRecord
  pub are : records ≡ over ++ items
  pub moved : went_to advances ≡ rises (config_of over) items

-- So it was moved in a life that opened over these records, up to these entries and so many refills behind them.
pub record HasMoved (role : Role) (over : List StoreRecord) (entries : List Entry) (fills : ℕ) (advances : List (ℕ × ℕ)) : Type 0 where
  pub told : List Told
  pub are : map (λ t. t.entry) told ≡ entries
  pub handled : AreHandled role over [] told
  pub moved : IsMoved over (past_now role over told fills).records advances

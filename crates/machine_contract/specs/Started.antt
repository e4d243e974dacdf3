-- What a machine opens with.
use Rattle.std.specs.Prelude.{◌≡◌, false, List, []}
use Rattle.flash_model.specs.Chip.{Chip}
use Rattle.record_types.specs.declared.records.StoreRecord.{StoreRecord}
use Rattle.seq_word.specs.Seen.{fresh}
use Rattle.store_definitions.specs.Config.{config_of}
use Rattle.store_definitions.specs.Recovered.{IsRecovered}
use Rattle.machine_contract.specs.declared.opening.Started.{Started}
use Rattle.machine_contract.specs.Opening.{FlashFound, found_of}
use Rattle.machine_contract.specs.View.{MachineView}

-- It opened over the records that are read, which say no Node Reset: with no entry, at the mark that they say, from which the counter draws. The
-- flash didn't fail.
pub record IsStarted {M : Type 0} (view : M → MachineView) (stands : FlashFound → Chip → List StoreRecord → M → Type 0)
    (old new : Chip) (s : Started M) : Type 0 where
  pub over : List StoreRecord
  pub read : IsRecovered old.now over
  pub runs : (config_of over).reset ≡ false
  pub state : s.state ≡ (config_of over).iv
  pub mark : s.mark ≡ (config_of over).mark
  pub published : (view s.machine).mark ≡ (config_of over).mark
  pub tie : stands (found_of old) new over s.machine
  pub no_fault : new.faults ≡ old.faults
  pub entries : (view s.machine).entries ≡ []
  pub taken : (view s.machine).taken ≡ 0
  pub fills : (view s.machine).fills ≡ 0
  pub usable : (view s.machine).closed ≡ false
  pub which : (view s.machine).which ≡ s.numbers.which
  pub opened : s.numbers.opened ≡ (config_of over).mark
  pub drawer : s.drawer ≡ fresh s.numbers.which [] 1024

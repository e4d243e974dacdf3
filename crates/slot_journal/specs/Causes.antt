-- When the calls on a journal are refused.
use Rattle.std.specs.Prelude.{◌≡◌, ◌<◌, None, IsTrue}
use Rattle.flash_model.specs.Chip.{Chip}
use Rattle.slot_journal.specs.declared.mounting.NoMount as mounting
use Rattle.slot_journal.specs.declared.mounting.NoMount.TheVariants as no_mount
use Rattle.slot_journal.specs.declared.formatting.FormatFault as formatting
use Rattle.slot_journal.specs.declared.formatting.FormatFault.TheVariants as format_fault
use Rattle.slot_definitions.specs.Slots.{counting}
use Rattle.slot_journal.specs.Format.{IsFirstWritten}

-- the flash failed in this call; or it didn't, and no bank has a sound header
abbrev pub IsMountCause : Chip → Chip → mounting.NoMount → Type 0
IsMountCause old new no_mount.Flash = old.faults < new.faults
IsMountCause old new no_mount.NoBank = (new.faults ≡ old.faults) × (IsTrue old.honest → counting old.now ≡ None)

-- the flash failed in this call; or it didn't, and an octet isn't ff
abbrev pub IsFormatCause : Chip → Chip → formatting.FormatFault → Type 0
IsFormatCause old new format_fault.Flash = old.faults < new.faults
IsFormatCause old new (format_fault.NotErased at) =
    (new.faults ≡ old.faults) × (IsTrue old.honest → IsFirstWritten old.now at)

abbrev pub IsNotErased : formatting.FormatFault → Type 0
IsNotErased format_fault.Flash = ⊥
IsNotErased (format_fault.NotErased at) = Unit {0}

-- A flash that fails at reads besides.
use Rattle.std.specs.Prelude.{ℕ, ◌+◌, false}
use Rattle.flash_model.specs.Chip.{Chip}

-- the flash below, which has failed so often more, and so often more at the last power cycle; it isn't steady
abbrev pub flawed : Chip → ℕ → ℕ → Chip
flawed chip flaws cycled = record chip {
  sure = false;
  steady = false;
  faults = chip.faults + flaws;
  setting = record chip.setting { faults = chip.setting.faults + cycled };
}

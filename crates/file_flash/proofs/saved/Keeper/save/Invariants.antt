use Rattle.file_flash.proofs.saved.Keeper.save.Given as goal

abbrev pub ghosts-save_shown : goal.ghosts-save_shown
ghosts-save_shown g a =
    let chip = g.F.Flash.chip a.flash.now in
    record { octets = chip.now; called = chip.changes; programmed = chip.octets }

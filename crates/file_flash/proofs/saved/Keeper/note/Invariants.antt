use Rattle.file_flash.proofs.saved.Keeper.note.Given as goal

abbrev pub ghosts-note_call : goal.ghosts-note_call
ghosts-note_call g a = record {
  began = (g.F.Flash.chip a.mirror.now).moment;
  old = (g.F.Flash.chip a.mirror.now).now;
  new = (g.F.Flash.chip a.goal.now).now;
}

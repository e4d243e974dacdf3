use Rattle.flash_model.proofs.past.Recorder.note.Given as goal

abbrev pub ghosts-add_call : goal.ghosts-add_call
ghosts-add_call a = record { content = a.content.now }

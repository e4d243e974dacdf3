use Rattle.seq_word.specs.Seen.{last_word, went_to}
use Rattle.entry_log.proofs.past.Recorder.note.Given as goal

abbrev pub ghosts-add_entry : goal.ghosts-add_entry
ghosts-add_entry a = record { entry = a.entry.now; moved = last_word (went_to a.keeper.now.advances) }

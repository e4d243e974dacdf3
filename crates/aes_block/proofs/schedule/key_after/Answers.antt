use Rattle.std.proofs.Common.{slice_index}
use Rattle.aes_block.proofs.Columns.{next_words}
use Rattle.aes_block.proofs.schedule.key_after.Goals as goal

pub returns : goal.returns
returns c =
    let k = c.args.key.now in
    next_words c.args.constant (slice_index k 0) (slice_index k 1) (slice_index k 2) (slice_index k 3) c.turned_word.result c.turned_word.ensures

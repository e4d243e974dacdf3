use Rattle.std.proofs.Common.{slice_index}
use Rattle.cipher_definitions.specs.Octets.{xor_lists}
use Rattle.aes_block.proofs.Columns.{four_same, sum_of_words}
use Rattle.aes_block.proofs.state.sum.Goals as goal

pub returns : goal.returns
unfolding xor_lists
returns c =
    let s = c.args.state.now in
    let k = c.args.key.now in
    four_same (sum_of_words (slice_index s 0) (slice_index k 0))
    (sum_of_words (slice_index s 1) (slice_index k 1))
    (sum_of_words (slice_index s 2) (slice_index k 2))
    (sum_of_words (slice_index s 3) (slice_index k 3))

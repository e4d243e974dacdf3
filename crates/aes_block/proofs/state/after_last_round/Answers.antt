use Rattle.std.proofs.Common.{refl, ◌∙◌}
use Rattle.cipher_definitions.specs.Aes.{sub_octets, shift_rows, last_round}
use Rattle.aes_block.proofs.Columns.{four_same, sum_same}
use Rattle.aes_block.proofs.state.after_last_round.Goals as goal

pub returns : goal.returns
unfolding last_round shift_rows sub_octets
returns c =
    c.sum.ensures
    ∙ sum_same (four_same c.shifted_column.ensures c.shifted_column-2.ensures c.shifted_column-3.ensures c.shifted_column-4.ensures) refl

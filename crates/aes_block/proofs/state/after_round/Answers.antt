use Rattle.std.proofs.Common.{refl, ◌∙◌}
use Rattle.cipher_definitions.specs.Aes.{sub_octets, shift_rows, mix_columns, round}
use Rattle.aes_block.proofs.Columns.{four_same, sum_same}
use Rattle.aes_block.proofs.state.after_round.Goals as goal

pub returns : goal.returns
unfolding round mix_columns shift_rows sub_octets
returns c =
    c.sum.ensures
    ∙ sum_same (four_same c.mixed_column.ensures c.mixed_column-2.ensures c.mixed_column-3.ensures c.mixed_column-4.ensures) refl

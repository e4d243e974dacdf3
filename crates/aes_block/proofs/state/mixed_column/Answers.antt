use Rattle.std.proofs.Common.{ap, ◌∙◌, slice_index}
use Rattle.cipher_definitions.specs.Aes.{sub_octet}
use Rattle.aes_block.specs.Columns.{added_from_row_0, added_from_row_1, added_from_row_2, added_from_row_3}
use Rattle.aes_block.proofs.Columns.{mixed_of_words}
use Rattle.aes_block.proofs.state.mixed_column.Goals as goal

pub returns : goal.returns
returns c =
    mixed_of_words _ _ _ _ _ _ _ _
    (c.added_0.ensures ∙ ap (λ w. added_from_row_0 (sub_octet (slice_index w 0))) c.to_be_bytes.ensures)
    (c.added_1.ensures ∙ ap (λ w. added_from_row_1 (sub_octet (slice_index w 1))) c.to_be_bytes-2.ensures)
    (c.added_2.ensures ∙ ap (λ w. added_from_row_2 (sub_octet (slice_index w 2))) c.to_be_bytes-3.ensures)
    (c.added_3.ensures ∙ ap (λ w. added_from_row_3 (sub_octet (slice_index w 3))) c.to_be_bytes-4.ensures)

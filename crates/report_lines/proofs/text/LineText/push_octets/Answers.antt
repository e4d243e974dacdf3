use Rattle.std.proofs.Common.{◌∷◌, [], ◌∙◌, append_assoc, arith}
use Rattle.hex.specs.Hex.{encode_lower}
use Rattle.report_lines.proofs.Texts.{part_more, parts_end}
use Rattle.report_lines.proofs.text.LineText.push_octets.Goals as goal

pub loop-rest-preserved : goal.loop-rest-preserved
loop-rest-preserved c =
    part_more _ _ _ _ _ _ _ c.split_at.ensures.front c.split_at.ensures.back c.in_ok-push_row.ensures.ok c.loop-rest.invariant

pub returns : goal.returns
returns c = record { ok = parts_end _ c.loop-rest.rest.now _ (omega arith) c.loop-rest.invariant ∙ append_assoc c.args.self.now (32 ∷ []) (encode_lower c.args.octets.now) }

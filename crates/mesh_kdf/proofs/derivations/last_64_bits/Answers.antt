use Rattle.std.proofs.Common.{sym, ◌∙◌, drop, ◌≤◌, length, length-drop, arith}
use Rattle.std.proofs.lemmas.List.{take_all}
use Rattle.mesh_kdf.proofs.Parts.{last_eight}
use Rattle.mesh_kdf.proofs.derivations.last_64_bits.Goals as goal

pub returns-clause-value : goal.returns-clause-value
returns-clause-value c =
    let h : length (drop 8 c.args.block.now) ≤ 8 = omega (arith, length-drop 8 c.args.block.now, c.told-block) in
    c.copy_from_slice.ensures.after ∙ take_all 8 (drop 8 c.args.block.now) h
    ∙ sym (last_eight c.args.block.now (record { each = c.fits-block }) c.told-block)

use Rattle.std.proofs.Common.{◌-◌, drop, length, ◌∙◌, arith, length-drop}
use Rattle.std.proofs.lemmas.List.{take_all}
use Rattle.upper_transport.proofs.ControlRows.{reads_list_add, reads_list_remove}
use Rattle.upper_transport.proofs.control_reading.list_of.Goals as goal

pub returns-clause-add : goal.returns-clause-add
returns-clause-add c =
    let p = c.args.params.now in
    let rest = c.addresses_of.ensures.value ∙ take_all (length p - 1) (drop 1 p) (omega (arith, length-drop 1 p)) in
    reads_list_add p c.addresses_of.result c.requires.least c.requires.most (λ i. (c.type_inv.params i).fits) rest c.addresses_of.ensures.widths

pub returns-clause-remove : goal.returns-clause-remove
returns-clause-remove c =
    let p = c.args.params.now in
    let rest = c.addresses_of.ensures.value ∙ take_all (length p - 1) (drop 1 p) (omega (arith, length-drop 1 p)) in
    reads_list_remove p c.addresses_of.result c.requires.least c.requires.most (λ i. (c.type_inv.params i).fits) rest c.addresses_of.ensures.widths

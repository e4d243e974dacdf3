-- What each row reads as is what stands in the octets. At an opcode with another number of parameters, or at another opcode, there is no row.
use Rattle.std.proofs.Common.{◌≡◌, false, length, sym, arith}
use Rattle.std.proofs.lemmas.Bool.Decides.{nat_tests}
use Rattle.layer_definitions.specs.ControlReading.{has_row}
use Rattle.layer_definitions.proofs.ControlLaws.{control_of_reading}
use Rattle.upper_transport.proofs.ControlRows.{no_count, no_list, other_of_none}
use Rattle.upper_transport.proofs.control_reading.read_control.Goals as goal
use Rattle.upper_transport.proofs.control_reading.read_control.Goals.{in_default-via-in-0+in_default, in_default-via-in-1+in_default, in_default-via-in-2+in_default, in_default-via-in-3+in_default, in_default-via-in-4+in_default, in_default-via-in-5+in_default, in_default-via-in-6+in_default, in_default-via-in-7+in_default, in_default-via-in-8+in_default, in_default-via-in-9+in_default, in_default-via-in_default}

pub returns-in-0-eq6-clause-value : goal.returns-in-0-eq6-clause-value
returns-in-0-eq6-clause-value c = rw c.in-0-eq6.is-0 (sym (control_of_reading 0 c.args.params.now _ c.acknowledgment_of.ensures))

pub returns-in-1-eq1-clause-value : goal.returns-in-1-eq1-clause-value
returns-in-1-eq1-clause-value c = rw c.in-1-eq1.is-0 (sym (control_of_reading 1 c.args.params.now _ c.fsn_of.ensures))

pub returns-in-2-eq6-clause-value : goal.returns-in-2-eq6-clause-value
returns-in-2-eq6-clause-value c = rw c.in-2-eq6.is-0 (sym (control_of_reading 2 c.args.params.now _ c.update_of.ensures))

pub returns-in-3-eq10-clause-value : goal.returns-in-3-eq10-clause-value
returns-in-3-eq10-clause-value c = rw c.in-3-eq10.is-0 (sym (control_of_reading 3 c.args.params.now _ c.request_of.ensures))

pub returns-in-4-eq6-clause-value : goal.returns-in-4-eq6-clause-value
returns-in-4-eq6-clause-value c = rw c.in-4-eq6.is-0 (sym (control_of_reading 4 c.args.params.now _ c.offer_of.ensures))

pub returns-in-5-eq4-clause-value : goal.returns-in-5-eq4-clause-value
returns-in-5-eq4-clause-value c = rw c.in-5-eq4.is-0 (sym (control_of_reading 5 c.args.params.now _ c.clear_of.ensures.clear))

pub returns-in-6-eq4-clause-value : goal.returns-in-6-eq4-clause-value
returns-in-6-eq4-clause-value c = rw c.in-6-eq4.is-0 (sym (control_of_reading 6 c.args.params.now _ c.clear_of-in-6-eq4.ensures.confirm))

pub returns-in-7-eq3-clause-value : goal.returns-in-7-eq3-clause-value
returns-in-7-eq3-clause-value c = rw c.in-7-eq3.is-0 (sym (control_of_reading 7 c.args.params.now _ c.list_of.ensures.add))

pub returns-in-8-eq3-clause-value : goal.returns-in-8-eq3-clause-value
returns-in-8-eq3-clause-value c = rw c.in-8-eq3.is-0 (sym (control_of_reading 8 c.args.params.now _ c.list_of-in-8-eq3.ensures.remove))

pub returns-in-9-eq1-clause-value : goal.returns-in-9-eq1-clause-value
returns-in-9-eq1-clause-value c = rw c.in-9-eq1.is-0 (sym (control_of_reading 9 c.args.params.now _ c.transaction_of.ensures))

pub returns-in_default-clause-other : goal.returns-in_default-clause-other
returns-in_default-clause-other c =
    let count = length c.args.params.now in
    let none : has_row c.args.opcode count ≡ false =
    elim c.in_default.branch [
      | in_default-via-in-0+in_default w ↦ rw w.in_default.is-0 (no_count count 6 w.in_default.is-1.1)
      | in_default-via-in-1+in_default w ↦ rw w.in_default.is-0 (no_count count 1 w.in_default.is-1.1)
      | in_default-via-in-2+in_default w ↦ rw w.in_default.is-0 (no_count count 6 w.in_default.is-1.1)
      | in_default-via-in-3+in_default w ↦ rw w.in_default.is-0 (no_count count 10 w.in_default.is-1.1)
      | in_default-via-in-4+in_default w ↦ rw w.in_default.is-0 (no_count count 6 w.in_default.is-1.1)
      | in_default-via-in-5+in_default w ↦ rw w.in_default.is-0 (no_count count 4 w.in_default.is-1.1)
      | in_default-via-in-6+in_default w ↦ rw w.in_default.is-0 (no_count count 4 w.in_default.is-1.1)
      | in_default-via-in-7+in_default w ↦ rw w.in_default.is-0 (no_list count w.in_default.is-1.1)
      | in_default-via-in-8+in_default w ↦ rw w.in_default.is-0 (no_list count w.in_default.is-1.1)
      | in_default-via-in-9+in_default w ↦ rw w.in_default.is-0 (no_count count 1 w.in_default.is-1.1)
      | in_default-via-in_default w ↦ (let h = w.in_default.is-0 in grind (arith, nat_tests))
    ] in
    other_of_none c.args.opcode c.args.params.now none

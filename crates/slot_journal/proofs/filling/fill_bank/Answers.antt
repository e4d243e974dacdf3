use Rattle.std.proofs.Common.{arith, ℕ, ◌≡◌, ◌<◌, ◌≤◌, ◌+◌, ◌*◌, ◌∙◌, Some, length, refl, sym, subst}
use Rattle.std.specs.Prelude.{slice_get}
use Rattle.std.proofs.lemmas.Option.{get_or_from_slice_get, slice_get_within}
use Rattle.node_limits.specs.declared.TheConstants.{BANK_RECORDS}
use Rattle.mesh_base.specs.declared.slot.Slot.{Slot}
use Rattle.flash_model.proofs.Runs.{keeps_none, keeps_more, begins_none, begins_more, programs_none, programs_more}
use Rattle.slot_definitions.specs.Slots.{text_of}
use Rattle.slot_journal.specs.Banks.{IsBankFilled}
use Rattle.slot_journal.proofs.Fills.{filled_more, next_item, item_leaves, none_leaves, past_all}
use Rattle.slot_journal.proofs.filling.fill_bank.Goals as goal

pub loop-slot-init : goal.loop-slot-init
loop-slot-init g c =
    let laws = g.met.F.Flash in
    let flash = c.args.flash.now in
    let chip = g.F.Flash.chip flash in
    record {
      within = omega arith;
      keeps = keeps_none chip;
      filled = λ base so. so;
      leaves = λ base so. none_leaves c.args.bank (g.S.Items.slots c.args.items.now) base chip (laws.only_now flash) so;
      calls = begins_none chip (laws.counted flash);
      unerased = refl;
      octets = programs_none chip (laws.counted_octets flash);
      reads = refl;
      faults = refl;
    }

pub loop-slot-smaller : goal.loop-slot-smaller
loop-slot-smaller g c =
    let less : c.loop-slot.count < length (g.S.Items.slots c.args.items.now) = slice_get_within (g.S.Items.slots c.args.items.now) c.loop-slot.count c.in-Some.slot (sym c.in-Some.ensures.value) in
    omega (arith, less)

pub loop-slot-preserved : goal.loop-slot-preserved
loop-slot-preserved g c =
    let before = c.loop-slot.invariant in
    let wrote = c.in_ok-write_slot.ensures in
    let bank = c.args.bank in
    let k = c.loop-slot.count in
    let items = g.S.Items.slots c.args.items.now in
    let start = g.F.Flash.chip c.args.flash.now in
    let mid = g.F.Flash.chip c.loop-slot.flash in
    let new = g.F.Flash.chip c.write_slot.new.flash in
    let item : Slot = c.in-Some.slot in
    let is : slice_get items k ≡ Some item = sym c.in-Some.ensures.value in
    let less : k < length items = slice_get_within items k item is in
    let few : k < BANK_RECORDS = omega (arith, less, c.requires.few) in
    record {
      within = omega (arith, less);
      keeps = keeps_more start mid new before.keeps wrote.frame;
      filled = λ base empty.
          let so = before.filled base empty in
          filled_more bank items k base mid c.requires.low few so new item (λ d. sym (get_or_from_slice_get items k item d is)) (wrote.fresh so.fresh) (wrote.written so.fresh (next_item bank items k base mid c.requires.low few so));
      leaves = λ base empty.
          let so = before.filled base empty in
          item_leaves bank items k base mid c.requires.low few so start new (text_of item) (before.leaves base empty) (wrote.any_moment so.fresh (next_item bank items k base mid c.requires.low few so));
      calls = begins_more (2 * k) 2 (2 * (k + 1)) start mid new (omega arith) before.calls wrote.calls;
      unerased = wrote.unerased ∙ before.unerased;
      octets = programs_more (32 * k) 32 (32 * (k + 1)) start mid new (omega arith) before.octets wrote.octets;
      reads = wrote.reads ∙ before.reads;
      faults = wrote.no_fault ∙ before.faults;
    }

pub returns-in_err-write_slot-clause-any_moment : goal.returns-in_err-write_slot-clause-any_moment
returns-in_err-write_slot-clause-any_moment g c base empty =
    let before = c.loop-slot.invariant in
    let k = c.loop-slot.count in
    let items = g.S.Items.slots c.args.items.now in
    let item : Slot = c.in-Some.slot in
    let less : k < length items = slice_get_within items k item (sym c.in-Some.ensures.value) in
    let few : k < BANK_RECORDS = omega (arith, less, c.requires.few) in
    let so = before.filled base empty in
    let mid = g.F.Flash.chip c.loop-slot.flash in
    item_leaves c.args.bank items k base mid c.requires.low few so (g.F.Flash.chip c.args.flash.now) (g.F.Flash.chip c.write_slot.new.flash) (text_of item)
    (before.leaves base empty) (c.in_err-write_slot.ensures.any_moment so.fresh (next_item c.args.bank items k base mid c.requires.low few so))

pub returns-in_err-write_slot-clause-most_calls : goal.returns-in_err-write_slot-clause-most_calls
returns-in_err-write_slot-clause-most_calls g c =
    let before = c.loop-slot.invariant in
    let less : c.loop-slot.count < length (g.S.Items.slots c.args.items.now) = slice_get_within (g.S.Items.slots c.args.items.now) c.loop-slot.count c.in-Some.slot (sym c.in-Some.ensures.value) in
    omega (arith, less, before.calls, c.in_err-write_slot.ensures.most_calls)

pub returns-in_err-write_slot-clause-most_octets : goal.returns-in_err-write_slot-clause-most_octets
returns-in_err-write_slot-clause-most_octets g c =
    let before = c.loop-slot.invariant in
    let less : c.loop-slot.count < length (g.S.Items.slots c.args.items.now) = slice_get_within (g.S.Items.slots c.args.items.now) c.loop-slot.count c.in-Some.slot (sym c.in-Some.ensures.value) in
    omega (arith, less, before.octets, c.in_err-write_slot.ensures.most_octets)

pub returns-clause-count : goal.returns-clause-count
returns-clause-count g c =
    let past : length (g.S.Items.slots c.args.items.now) ≤ c.loop-slot.count = past_all (g.S.Items.slots c.args.items.now) c.loop-slot.count (sym c.slot.ensures.value ∙ c.in_default.is) in
    omega (arith, past, c.loop-slot.invariant.within)

pub returns-clause-filled : goal.returns-clause-filled
returns-clause-filled g c base empty =
    let past : length (g.S.Items.slots c.args.items.now) ≤ c.loop-slot.count = past_all (g.S.Items.slots c.args.items.now) c.loop-slot.count (sym c.slot.ensures.value ∙ c.in_default.is) in
    let all : c.loop-slot.count ≡ length (g.S.Items.slots c.args.items.now) = omega (arith, past, c.loop-slot.invariant.within) in
    subst (λ (n : ℕ). IsBankFilled c.args.bank (g.S.Items.slots c.args.items.now) n base (g.F.Flash.chip c.loop-slot.flash)) all (c.loop-slot.invariant.filled base empty)

pub returns-clause-calls : goal.returns-clause-calls
returns-clause-calls g c =
    let past : length (g.S.Items.slots c.args.items.now) ≤ c.loop-slot.count = past_all (g.S.Items.slots c.args.items.now) c.loop-slot.count (sym c.slot.ensures.value ∙ c.in_default.is) in
    let all : c.loop-slot.count ≡ length (g.S.Items.slots c.args.items.now) = omega (arith, past, c.loop-slot.invariant.within) in
    rw (sym all) c.loop-slot.invariant.calls

pub returns-clause-octets : goal.returns-clause-octets
returns-clause-octets g c =
    let past : length (g.S.Items.slots c.args.items.now) ≤ c.loop-slot.count = past_all (g.S.Items.slots c.args.items.now) c.loop-slot.count (sym c.slot.ensures.value ∙ c.in_default.is) in
    let all : c.loop-slot.count ≡ length (g.S.Items.slots c.args.items.now) = omega (arith, past, c.loop-slot.invariant.within) in
    rw (sym all) c.loop-slot.invariant.octets

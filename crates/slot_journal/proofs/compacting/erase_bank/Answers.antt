use Rattle.std.proofs.Common.{◌+◌, ◌∙◌, refl}
use Rattle.flash_model.proofs.Runs.{keeps_none, keeps_more, begins_none, begins_more, erases_none, erases_more}
use Rattle.slot_journal.proofs.Erases.{erased_none, none_erased, erased_more, erase_fresh, erase_leaves}
use Rattle.slot_journal.proofs.compacting.erase_bank.Goals as goal

pub loop-k-init : goal.loop-k-init
loop-k-init g c =
    let laws = g.met.F.Flash in
    let flash = c.args.flash.now in
    let chip = g.F.Flash.chip flash in
    record {
      keeps = keeps_none chip;
      erased = λ fresh whole. erased_none c.args.bank chip fresh whole;
      leaves = λ fresh whole. none_erased c.args.bank chip (laws.only_now flash) fresh whole;
      calls = begins_none chip (laws.counted flash);
      erases = erases_none chip (laws.counted_erases flash) (laws.counted flash);
      unprogrammed = refl;
      reads = refl;
      faults = refl;
    }

pub loop-k-preserved : goal.loop-k-preserved
loop-k-preserved g c =
    let before = c.loop-k.invariant in
    let did = c.in_ok-erase.ensures in
    let start = g.F.Flash.chip c.args.flash.now in
    let mid = g.F.Flash.chip c.loop-k.flash in
    let new = g.F.Flash.chip c.erase.new.self in
    record {
      keeps = keeps_more start mid new before.keeps did.frame;
      erased = λ fresh whole.
          let so = before.erased fresh whole in
          let done = did.ok so.fresh.honest in
          erased_more c.args.bank c.loop-k.k start.now mid c.requires c.loop-k-test.true whole so new (erase_fresh c.args.bank c.loop-k.k start.now mid c.requires c.loop-k-test.true whole so new did.frame.honest done) done.reads;
      leaves = λ fresh whole.
          let so = before.erased fresh whole in
          erase_leaves c.args.bank c.loop-k.k start.now mid c.requires c.loop-k-test.true whole so start new (before.leaves fresh whole) (did.any_moment so.fresh.honest);
      calls = begins_more c.loop-k.k 1 (c.loop-k.k + 1) start mid new refl before.calls did.begins;
      erases = erases_more c.loop-k.k 1 (c.loop-k.k + 1) start mid new refl before.erases did.erases;
      unprogrammed = did.unprogrammed ∙ before.unprogrammed;
      reads = did.reads ∙ before.reads;
      faults = did.no_fault ∙ before.faults;
    }

pub returns-in_err-erase-clause-any_moment : goal.returns-in_err-erase-clause-any_moment
returns-in_err-erase-clause-any_moment g c fresh whole =
    let before = c.loop-k.invariant in
    let start = g.F.Flash.chip c.args.flash.now in
    let so = before.erased fresh whole in
    erase_leaves c.args.bank c.loop-k.k start.now (g.F.Flash.chip c.loop-k.flash) c.requires c.loop-k-test.true whole so start (g.F.Flash.chip c.erase.new.self) (before.leaves fresh whole)
    (c.in_err-erase.ensures.any_moment so.fresh.honest)

use Rattle.std.proofs.Common.{◌≡◌, false, ap, sym, subst, ◌∙◌}
use Rattle.machine_contract.specs.Refused.{IsStartCause, IsUntouched}
use Rattle.machine_contract.specs.declared.opening.StartFault.{StartFault}
use Rattle.machine_standing.proofs.Opened.{start_cause, untouched, unwritten_reset}
use Rattle.node_records.specs.Meaning.{IsMeaningOf}
use Rattle.node_store.proofs.Holding.{holds_exactly, store_meaning}
use Rattle.node_store.specs.Mounted.{IsMounted}
use Rattle.node_store.specs.Tie.{Holds, IsNode, IsStoreOf}
use Rattle.store_definitions.specs.Config.{Config, config_of}
use Rattle.machine_standing.proofs.opening.mount_node.Goals as goal

pub returns-in-Err-clause-untouched : goal.returns-in-Err-clause-untouched
returns-in-Err-clause-untouched g c =
    let old = g.F.Flash.chip c.args.flash.now in
    let new = g.F.Flash.chip c.mount.new.flash in
    let node : IsNode old.now = c.requires.node.each old.now (g.met.F.Flash.reads_image c.args.flash.now c.requires.fresh.honest) in
    let leaves = c.mount.ensures.any_moment c.requires.fresh node.tidy node.records (holds_exactly old.now node.records node.read) in
    untouched old new node (λ image is. leaves.each image (g.met.F.Flash.counts_now c.mount.new.flash _ image leaves.later is)) (c.mount.ensures.frame.honest ∙ c.requires.fresh.honest)

pub returns-in-Ok-clause-untouched : goal.returns-in-Ok-clause-untouched
returns-in-Ok-clause-untouched g c =
    let old = g.F.Flash.chip c.args.flash.now in
    let new = g.F.Flash.chip c.mount.new.flash in
    let node : IsNode old.now = c.requires.node.each old.now (g.met.F.Flash.reads_image c.args.flash.now c.requires.fresh.honest) in
    let leaves = c.mount.ensures.any_moment c.requires.fresh node.tidy node.records (holds_exactly old.now node.records node.read) in
    untouched old new node (λ image is. leaves.each image (g.met.F.Flash.counts_now c.mount.new.flash _ image leaves.later is)) (c.mount.ensures.frame.honest ∙ c.requires.fresh.honest)

pub returns-in-Err-clause-cause : goal.returns-in-Err-clause-cause
returns-in-Err-clause-cause g c =
    let old = g.F.Flash.chip c.args.flash.now in
    let new = g.F.Flash.chip c.mount.new.flash in
    let node : IsNode old.now = c.requires.node.each old.now (g.met.F.Flash.reads_image c.args.flash.now c.requires.fresh.honest) in
    let leaves = c.mount.ensures.any_moment c.requires.fresh node.tidy node.records (holds_exactly old.now node.records node.read) in
    let same : IsUntouched IsNode old new =
    untouched old new node (λ image is. leaves.each image (g.met.F.Flash.counts_now c.mount.new.flash _ image leaves.later is)) (c.mount.ensures.frame.honest ∙ c.requires.fresh.honest) in
    subst (λ (f : StartFault). IsStartCause IsNode old new f) (sym c.start_fault.ensures)
    (start_cause old new node c.in-Err.fault c.what_is_read_is_mounted.ensures.stands c.requires.fresh.honest c.in-Err.ensures.cause same (λ other. (c.in-Err.ensures.refused other).0))

pub returns-in-Ok-clause-ok : goal.returns-in-Ok-clause-ok
returns-in-Ok-clause-ok g c =
    let old = g.F.Flash.chip c.args.flash.now in
    let new = g.F.Flash.chip c.mount.new.flash in
    let node : IsNode old.now = c.requires.node.each old.now (g.met.F.Flash.reads_image c.args.flash.now c.requires.fresh.honest) in
    let holds : Holds old.now node.records = holds_exactly old.now node.records node.read in
    let store : IsStoreOf new c.in-Ok.store node.records = c.in-Ok.ensures.kept c.requires.fresh node.tidy node.records holds in
    let meaning : IsMeaningOf node.records c.in-Ok.store.persist = store_meaning new c.in-Ok.store node.records store in
    let mounted : IsMounted old.now c.in-Ok.store.persist = c.in-Ok.ensures.mounted c.requires.fresh.honest in
    let runs : (config_of node.records).reset ≡ false = ap (λ (x : Config). x.reset) (sym meaning.config ∙ mounted.meaning.config) ∙ mounted.stands in
    record {
      over = node.records;
      read = node.read.held;
      runs = runs;
      kept = store;
      node = record { meaning = meaning; ranges = node.read.held.ranges; whole = node.whole runs };
      usable = c.in-Ok.ensures.usable;
    }

pub returns-in-Ok-clause-writes : goal.returns-in-Ok-clause-writes
returns-in-Ok-clause-writes g c = record {
  unwritten = λ other. record { stays = c.mount.ensures.stays c.requires.fresh.honest other; no_calls = c.mount.ensures.no_calls c.requires.fresh.honest other };
  most_calls = c.mount.ensures.most_calls;
  most_erases = c.mount.ensures.most_erases;
  most_octets = c.mount.ensures.most_octets;
  most_reads = c.mount.ensures.most_reads;
  once = c.mount.ensures.once;
}

pub returns-in-Err-clause-writes : goal.returns-in-Err-clause-writes
returns-in-Err-clause-writes g c = record {
  unwritten = λ other. record { stays = c.mount.ensures.stays c.requires.fresh.honest other; no_calls = c.mount.ensures.no_calls c.requires.fresh.honest other };
  most_calls = c.mount.ensures.most_calls;
  most_erases = c.mount.ensures.most_erases;
  most_octets = c.mount.ensures.most_octets;
  most_reads = c.mount.ensures.most_reads;
  once = c.mount.ensures.once;
}

pub returns-in-Err-clause-reset : goal.returns-in-Err-clause-reset
returns-in-Err-clause-reset g c was =
    let old = g.F.Flash.chip c.args.flash.now in
    let node : IsNode old.now = c.requires.node.each old.now (g.met.F.Flash.reads_image c.args.flash.now c.requires.fresh.honest) in
    unwritten_reset old (g.F.Flash.chip c.mount.new.flash) node c.requires.fresh.honest c.mount.ensures.reset was

pub returns-in-Ok-clause-reset : goal.returns-in-Ok-clause-reset
returns-in-Ok-clause-reset g c was =
    let old = g.F.Flash.chip c.args.flash.now in
    let node : IsNode old.now = c.requires.node.each old.now (g.met.F.Flash.reads_image c.args.flash.now c.requires.fresh.honest) in
    unwritten_reset old (g.F.Flash.chip c.mount.new.flash) node c.requires.fresh.honest c.mount.ensures.reset was

pub returns-in-Ok-clause-calls : goal.returns-in-Ok-clause-calls
returns-in-Ok-clause-calls g c old = c.in-Ok.ensures.calls c.requires.fresh.honest old

pub returns-in-Ok-clause-wear : goal.returns-in-Ok-clause-wear
returns-in-Ok-clause-wear g c = c.in-Ok.ensures.wear c.requires.fresh.honest

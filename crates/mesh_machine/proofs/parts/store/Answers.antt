use Rattle.std.proofs.Common.{◌++◌, ◌∙◌, ap, sym, subst}
use Rattle.seq_word.specs.Seen.{went_to}
use Rattle.machine_standing.proofs.Moved.{advances_are}
use Rattle.mesh_hearing.specs.Tables.{IsFit}
use Rattle.mesh_reading.specs.Held.{AreHeldKeys}
use Rattle.node_records.specs.Tables.{config_in}
use Rattle.node_records.specs.declared.persist.Persist.{Persist}
use Rattle.mesh_machine.proofs.parts.store.Goals as goal

pub renew-requires-clause-held : goal.renew-requires-clause-held
renew-requires-clause-held g c =
    subst (λ (q : Persist). AreHeldKeys (config_in q)) (sym c.persist.ensures.value)
    (c.requires.held c.store_records.new.reserve.store.persist (c.in_ok-store_records.ensures.puts c.requires.usable).change)

pub returns-clause-stored : goal.returns-clause-stored
returns-clause-stored g c =
    let puts = c.in_ok-store_records.ensures.puts c.requires.usable in
    record {
      usable = puts.usable;
      value = puts.value;
      kept = puts.kept;
      no_fault = c.in_ok-store_records.ensures.leaves.no_fault;
      published = c.store_records.ensures.published;
      made = c.store_records.ensures.made;
      moved = c.in_ok-store_records.ensures.advanced
          ∙ ap (λ l. went_to c.args.parts.now.reserve.keeper.advances ++ l) (advances_are (config_in c.args.parts.now.reserve.store.persist) c.args.records.now);
      risen = c.in_ok-store_records.ensures.risen;
      keys = subst (λ (q : Persist). IsFit c.renew.new.tables.hearing q) c.persist.ensures.value c.renew.ensures.fit;
      tables = c.renew.ensures.tables;
      models = c.renew.ensures.unchanged;
      wear = c.in_ok-store_records.ensures.wear c.requires.usable;
    }

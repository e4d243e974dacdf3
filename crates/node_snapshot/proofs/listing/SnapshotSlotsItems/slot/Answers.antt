use Rattle.std.proofs.Common.{◌∙◌, Some, sym, ap}
use Rattle.store_definitions.specs.Ranges.{IsInRange}
use Rattle.node_snapshot.specs.Snapshot.{snapshot_of}
use Rattle.node_snapshot.proofs.Passing.{at_place, is_here, slot_behind, slot_here}
use Rattle.node_snapshot.proofs.listing.SnapshotSlotsItems.slot.Goals as goal

pub encode-requires : goal.encode-requires
encode-requires c =
    let records = snapshot_of c.self.inside.persist.now in
    at_place IsInRange records c.args.place c.in-Err.item c.self.invariant.0 (is_here records c.args.place c.in-Err.item (sym c.in-Err.ensures.value))

pub returns-in-Ok : goal.returns-in-Ok
returns-in-Ok c = record { value = slot_behind (snapshot_of c.self.inside.persist.now) c.args.self.now c.args.place c.in-Ok.field-0 c.self.view_is (sym c.in-Ok.ensures.value) }

pub returns-in-Err : goal.returns-in-Err
returns-in-Err c = record {
  value = ap (λ s. Some s) c.encode.ensures.value ∙ slot_here (snapshot_of c.self.inside.persist.now) c.args.self.now c.args.place c.in-Err.item c.self.view_is (sym c.in-Err.ensures.value);
}

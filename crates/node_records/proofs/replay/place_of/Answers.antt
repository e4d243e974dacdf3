use Rattle.std.proofs.Common.{ltb, ltb-true, ltb-false, arith, rules}
use Rattle.std.proofs.lemmas.List.Sorted.{IsPartitionPoint-from_clause, IsPartitionedBy-ltb}
use Rattle.mesh_base.specs.declared.pair.Name.{Name}
use Rattle.node_records.proofs.Sources.{non_decreasing}
use Rattle.node_records.proofs.replay.place_of.Goals as goal

pub returns : goal.returns
returns c =
    let parted = IsPartitionedBy-ltb (λ (row : Name). row.src.0) c.args.rows.now c.args.src (non_decreasing c.args.rows.now c.requires.order) in
    let point = IsPartitionPoint-from_clause (λ (row : Name). ltb row.src.0 c.args.src) c.args.rows.now _ c.partition_point.ensures.partitioned parted (λ a r q k. search rules) in
    record {
      within = c.partition_point.ensures.bound;
      before = λ k d h. ltb-true _ _ (point.0 k d (omega arith) h);
      there = λ k d h l. ltb-false _ _ (point.1 k d h l);
    }

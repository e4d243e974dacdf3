use Rattle.std.proofs.Common.{◌≤◌, length, map}
use Rattle.std.proofs.lemmas.List.{length-map}
use Rattle.node_limits.specs.declared.TheConstants.{SNAPSHOT_RECORDS}
use Rattle.store_definitions.specs.Recovered.{record_text}
use Rattle.node_snapshot.specs.Snapshot.{snapshot_of}
use Rattle.node_snapshot.proofs.Few.{snapshot_few}
use Rattle.node_snapshot.proofs.Whole.{snapshot_is}
use Rattle.node_snapshot.proofs.listing.snapshot.Goals as goal

pub invariant_of-result : goal.invariant_of-result
invariant_of-result c = ((snapshot_is c.args.p.now c.requires.said c.has_sizes.ensures).ranges, c.requires.names)

pub returns-clause-says : goal.returns-clause-says
returns-clause-says c = snapshot_is c.args.p.now c.requires.said c.has_sizes.ensures

pub returns-clause-few : goal.returns-clause-few
returns-clause-few c =
    let few : length (map record_text (snapshot_of c.args.p.now)) ≤ SNAPSHOT_RECORDS = rw (length-map (snapshot_of c.args.p.now) record_text) (snapshot_few c.args.p.now c.has_sizes.ensures) in
    few

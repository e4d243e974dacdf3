use Rattle.std.proofs.Common.{sym, subst}
use Rattle.std.specs.Prelude.{Option, IfSome}
use Rattle.mesh_base.specs.declared.pair.Name.{Name}
use Rattle.record_types.specs.declared.records.StoreRecord.TheVariants as R
use Rattle.node_records.specs.Places.{live_of, live_with, LacksPlace}
use Rattle.node_records.specs.Steps.{KeepsEntries}
use Rattle.node_records.proofs.Room.{place_after}
use Rattle.node_records.proofs.Rows.{keeps_one, keeps_two}
use Rattle.node_records.proofs.Sources.{apart_by_source}
use Rattle.node_records.proofs.replay.apply_to_rows.Goals as goal

pub returns-in-Some-clause-keeps : goal.returns-in-Some-clause-keeps
returns-in-Some-clause-keeps c =
    let current = c.args.current in
    let old = c.args.rows.now in
    let new = c.apply_name.new.rows in
    let first = c.args.first.now in
    let name = c.in-Some.name in
    let k = c.apply_name.ensures.keeps c.requires.first in
    let place : LacksPlace (live_with current (live_of current old) first) name → ⊥ =
    subst (λ (o : Option Name). IfSome o (λ n. LacksPlace (live_with current (live_of current old) first) n → ⊥)) c.in-Some.is c.requires.second in
    subst (λ (o : Option Name). KeepsEntries current old c.apply_name-in-Some.new.rows (R.Replay first o)) (sym c.in-Some.is)
    (keeps_two current old new c.apply_name-in-Some.new.rows first name k
    (c.apply_name-in-Some.ensures.keeps (λ h. place (place_after current old new first name (apart_by_source old c.requires.order) k h))))

pub returns-in-None-clause-keeps : goal.returns-in-None-clause-keeps
returns-in-None-clause-keeps c =
    subst (λ (o : Option Name). KeepsEntries c.args.current c.args.rows.now c.apply_name.new.rows (R.Replay c.args.first.now o)) (sym c.in-None.is)
    (keeps_one c.args.current c.args.rows.now c.apply_name.new.rows c.args.first.now (c.apply_name.ensures.keeps c.requires.first))

use Rattle.std.proofs.Common.{arith}
use Rattle.node_records.proofs.Rows.{none_at}
use Rattle.node_records.proofs.Sources.{insert_stands, put_order, put_pairs}
use Rattle.node_records.proofs.replay.put_row.Goals as goal

pub returns-clause-order : goal.returns-clause-order
returns-clause-order c =
    let rows = c.args.rows.now in
    let n = c.args.name.now in
    let i = c.place_of-place.result in
    let within = rw c.as_slice.ensures.value at c.place_of-place.ensures.within in
    let before = rw c.as_slice.ensures.value at c.place_of-place.ensures.before in
    let there = rw c.as_slice.ensures.value at c.place_of-place.ensures.there in
    put_order c.insert.result rows c.insert.new.self i n c.insert.ensures.ok c.insert.ensures.unchanged c.requires.order
    (insert_stands rows i n n c.requires.order within (λ k h. before k n h)
    (λ k h l.
    let least = there k n h l in
    let other = none_at rows k n.src.0 n c.requires.none l in
    omega (arith, least, other)))

pub returns-clause-ok : goal.returns-clause-ok
returns-clause-ok c =
    let within = rw c.as_slice.ensures.value at c.place_of-place.ensures.within in
    put_pairs c.insert.result c.args.rows.now c.insert.new.self c.place_of-place.result c.args.name.now c.insert.ensures.ok within c.requires.none

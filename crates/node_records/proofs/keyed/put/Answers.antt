use Rattle.std.proofs.Common.{◌≡◌, ◌+◌, length, insert, sym, ap, ◌∙◌, arith}
use Rattle.std.proofs.lemmas.List.Edits.{length-insert}
use Rattle.layer_definitions.specs.Order.{put_by}
use Rattle.node_records.proofs.Changes.{taken}
use Rattle.layer_definitions.proofs.PlaceLaws.{put_set, put_insert}
use Rattle.node_records.proofs.keyed.put.Goals as goal

pub returns-then-is_at : goal.returns-then-is_at
returns-then-is_at g c =
    let key = g.R.Keyed.key in
    let number = c.number-number.ensures.value in
    let before = rw (c.as_slice.ensures.value, number) at c.place_of-place.ensures.before in
    let yes = rw c.as_slice-2.ensures.value at c.if-is_at.ensures.yes in
    let here = rw (c.as_slice-2.ensures.value, number) at c.if-is_at.ensures.number in
    c.set.ensures.value ∙ sym (put_set key c.args.rows.now c.place_of-place.result c.args.row c.args.row yes (λ k h. before k c.args.row h) (here c.args.row))

pub unwrap-requires : goal.unwrap-requires
unwrap-requires g c =
    let key = g.R.Keyed.key in
    let number = c.number-number.ensures.value in
    let within = rw c.as_slice.ensures.value at c.place_of-place.ensures.within in
    let before = rw (c.as_slice.ensures.value, number) at c.place_of-place.ensures.before in
    let there = rw (c.as_slice.ensures.value, number) at c.place_of-place.ensures.there in
    let other = rw (c.as_slice-2.ensures.value, number) at c.if-is_at.ensures.no in
    let put : put_by key c.args.row c.args.rows.now ≡ insert c.args.rows.now c.place_of-place.result c.args.row =
    put_insert key c.args.rows.now c.place_of-place.result c.args.row c.args.row within (λ k h. before k c.args.row h)
    (λ h. let least = there c.args.row h in let apart = other c.args.row h in omega (arith, least, apart)) in
    let size : length (put_by key c.args.row c.args.rows.now) ≡ length c.args.rows.now + 1 =
    ap (λ rows. length rows) put ∙ length-insert c.args.rows.now c.place_of-place.result c.args.row within in
    c.insert.ensures.variant.1 (omega (arith, size, c.requires))

pub returns : goal.returns
returns g c =
    let key = g.R.Keyed.key in
    let number = c.number-number.ensures.value in
    let within = rw c.as_slice.ensures.value at c.place_of-place.ensures.within in
    let before = rw (c.as_slice.ensures.value, number) at c.place_of-place.ensures.before in
    let there = rw (c.as_slice.ensures.value, number) at c.place_of-place.ensures.there in
    let other = rw (c.as_slice-2.ensures.value, number) at c.if-is_at.ensures.no in
    let put : put_by key c.args.row c.args.rows.now ≡ insert c.args.rows.now c.place_of-place.result c.args.row =
    put_insert key c.args.rows.now c.place_of-place.result c.args.row c.args.row within (λ k h. before k c.args.row h)
    (λ h. let least = there c.args.row h in let apart = other c.args.row h in omega (arith, least, apart)) in
    let size : length (put_by key c.args.row c.args.rows.now) ≡ length c.args.rows.now + 1 =
    ap (λ rows. length rows) put ∙ length-insert c.args.rows.now c.place_of-place.result c.args.row within in
    taken c.insert.result _ (c.insert.ensures.variant.1 (omega (arith, size, c.requires))) c.insert.ensures.ok ∙ sym put

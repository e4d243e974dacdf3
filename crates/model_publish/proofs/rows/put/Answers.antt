-- The row takes the place that was found, or comes in there, for which there is room.
use Rattle.std.proofs.Common.{◌≡◌, ◌<◌, sym, ◌∙◌, length, insert}
use Rattle.layer_definitions.specs.Order.{put_by}
use Rattle.model_states.specs.Publication.{row_index}
use Rattle.layer_definitions.proofs.PlaceLaws.{put_set}
use Rattle.model_publish.proofs.Places.{put_new, room_for_new}
use Rattle.model_publish.proofs.rows.put.Goals as goal
use Rattle.model_publish.proofs.rows.put.Goals.{After-insert}

pub returns-then-is_at : goal.returns-then-is_at
returns-then-is_at c =
    c.set.ensures.value
    ∙ sym (put_set row_index c.args.rows.now c.place_of-place.result c.args.row c.args.row
    (rw c.as_slice-2.ensures.value at c.if-is_at.ensures.yes)
    (λ k h. rw (c.as_slice.ensures.value, c.row_index-index.ensures) at (c.place_of-place.ensures.before k c.args.row h))
    (rw (c.as_slice-2.ensures.value, c.row_index-index.ensures) at (c.if-is_at.ensures.index c.args.row)))

-- the row is new there
is_new : (c : After-insert) → put_by row_index c.args.row c.args.rows.now ≡ insert c.args.rows.now c.place_of-place.result c.args.row
is_new c =
    put_new row_index c.args.rows.now c.place_of-place.result c.args.row
    (rw c.as_slice.ensures.value at c.place_of-place.ensures.within)
    (λ k h. rw (c.as_slice.ensures.value, c.row_index-index.ensures) at (c.place_of-place.ensures.before k c.args.row h))
    (rw (c.as_slice.ensures.value, c.row_index-index.ensures) at (c.place_of-place.ensures.there c.args.row))
    (rw (c.as_slice-2.ensures.value, c.row_index-index.ensures) at (c.if-is_at.ensures.no c.args.row))

has_room : (c : After-insert) → length c.args.rows.now < 8
has_room c =
    room_for_new row_index c.args.rows.now c.place_of-place.result c.args.row (rw c.as_slice.ensures.value at c.place_of-place.ensures.within)
    (is_new c) c.requires

pub unwrap-requires : goal.unwrap-requires
unwrap-requires c = c.insert.ensures.variant.1 (has_room c)

pub returns : goal.returns
returns c =
    rw c.unwrap.ensures at c.insert.ensures.ok
    ∙ sym (put_new row_index c.args.rows.now c.place_of-place.result c.args.row
    (rw c.as_slice.ensures.value at c.place_of-place.ensures.within)
    (λ k h. rw (c.as_slice.ensures.value, c.row_index-index.ensures) at (c.place_of-place.ensures.before k c.args.row h))
    (rw (c.as_slice.ensures.value, c.row_index-index.ensures) at (c.place_of-place.ensures.there c.args.row))
    (rw (c.as_slice-2.ensures.value, c.row_index-index.ensures) at (c.if-is_at.ensures.no c.args.row)))

use Rattle.std.proofs.Common.{ℕ, ◌+◌, ◌∙◌, List, ap, arith}
use Rattle.flash_model.specs.Chip.{LeavesOnly, count_of}
use Rattle.record_types.specs.declared.records.StoreRecord.{StoreRecord}
use Rattle.node_store.specs.Tie.{IsPut, IsStoreOf}
use Rattle.node_store.proofs.Holding.{held_unchanged}
use Rattle.node_store.proofs.Puts.{put_cut, put_moment, put_same_mark, room_moment, room_puts}
use Rattle.node_store.proofs.Wears.{none_put, put_at_most, put_costs}
use Rattle.node_store.proofs.store.Store.put.Goals as goal

pub returns-in_err-check-clause-cut : goal.returns-in_err-check-clause-cut
returns-in_err-check-clause-cut g c =
    let old = g.F.Flash.chip c.args.flash.now in
    let store = c.args.self.now in
    let item = c.args.item.now in
    let new = old in
    let only = g.met.F.Flash.only_now c.args.flash.now in
    let leaves : (records : List StoreRecord) → IsStoreOf old store records → LeavesOnly old new (IsPut records item) =
    λ records tie. room_moment old old records item (held_unchanged old store records tie only) in
    put_cut old new store item c.requires.rises leaves

pub returns-in_err-check-clause-same_mark : goal.returns-in_err-check-clause-same_mark
returns-in_err-check-clause-same_mark g c records tie none =
    let old = g.F.Flash.chip c.args.flash.now in
    let store = c.args.self.now in
    let item = c.args.item.now in
    let new = old in
    let only = g.met.F.Flash.only_now c.args.flash.now in
    let leaves : LeavesOnly old new (IsPut records item) = room_moment old old records item (held_unchanged old store records tie only) in
    put_same_mark old store records item tie old new none leaves

pub returns-in_err-make_room-clause-cut : goal.returns-in_err-make_room-clause-cut
returns-in_err-make_room-clause-cut g c =
    let old = g.F.Flash.chip c.args.flash.now in
    let store = c.args.self.now in
    let item = c.args.item.now in
    let new = g.F.Flash.chip c.make_room.new.flash in
    let leaves : (records : List StoreRecord) → IsStoreOf old store records → LeavesOnly old new (IsPut records item) =
    λ records tie. room_moment old new records item (c.in_err-make_room.ensures.any_moment records tie) in
    put_cut old new store item c.requires.rises leaves

pub returns-in_err-make_room-clause-same_mark : goal.returns-in_err-make_room-clause-same_mark
returns-in_err-make_room-clause-same_mark g c records tie none =
    let old = g.F.Flash.chip c.args.flash.now in
    let store = c.args.self.now in
    let item = c.args.item.now in
    let new = g.F.Flash.chip c.make_room.new.flash in
    let leaves : LeavesOnly old new (IsPut records item) = room_moment old new records item (c.in_err-make_room.ensures.any_moment records tie) in
    put_same_mark old store records item tie old new none leaves

pub returns-in_err-add-clause-cut : goal.returns-in_err-add-clause-cut
returns-in_err-add-clause-cut g c =
    let old = g.F.Flash.chip c.args.flash.now in
    let store = c.args.self.now in
    let item = c.args.item.now in
    let mid = g.F.Flash.chip c.make_room.new.flash in
    let new = g.F.Flash.chip c.add.new.flash in
    let leaves : (records : List StoreRecord) → IsStoreOf old store records → LeavesOnly old new (IsPut records item) =
    λ records tie. put_moment old mid new records item (c.in_ok-make_room.ensures.any_moment records tie)
    (c.in_err-add.ensures.any_moment records (c.in_ok-make_room.ensures.kept records tie)) in
    put_cut old new store item c.requires.rises leaves

pub returns-in_err-add-clause-same_mark : goal.returns-in_err-add-clause-same_mark
returns-in_err-add-clause-same_mark g c records tie none =
    let old = g.F.Flash.chip c.args.flash.now in
    let store = c.args.self.now in
    let item = c.args.item.now in
    let mid = g.F.Flash.chip c.make_room.new.flash in
    let new = g.F.Flash.chip c.add.new.flash in
    let leaves : LeavesOnly old new (IsPut records item) = put_moment old mid new records item (c.in_ok-make_room.ensures.any_moment records tie)
    (c.in_err-add.ensures.any_moment records (c.in_ok-make_room.ensures.kept records tie)) in
    put_same_mark old store records item tie old new none leaves

pub returns-clause-cut : goal.returns-clause-cut
returns-clause-cut g c =
    let old = g.F.Flash.chip c.args.flash.now in
    let store = c.args.self.now in
    let item = c.args.item.now in
    let mid = g.F.Flash.chip c.make_room.new.flash in
    let new = g.F.Flash.chip c.add.new.flash in
    let leaves : (records : List StoreRecord) → IsStoreOf old store records → LeavesOnly old new (IsPut records item) =
    λ records tie. put_moment old mid new records item (c.in_ok-make_room.ensures.any_moment records tie)
    (c.in_ok-add.ensures.any_moment records (c.in_ok-make_room.ensures.kept records tie)) in
    put_cut old new store item c.requires.rises leaves

pub returns-clause-same_mark : goal.returns-clause-same_mark
returns-clause-same_mark g c records tie none =
    let old = g.F.Flash.chip c.args.flash.now in
    let store = c.args.self.now in
    let item = c.args.item.now in
    let mid = g.F.Flash.chip c.make_room.new.flash in
    let new = g.F.Flash.chip c.add.new.flash in
    let leaves : LeavesOnly old new (IsPut records item) = put_moment old mid new records item (c.in_ok-make_room.ensures.any_moment records tie)
    (c.in_ok-add.ensures.any_moment records (c.in_ok-make_room.ensures.kept records tie)) in
    put_same_mark old store records item tie old new none leaves

pub returns-clause-puts : goal.returns-clause-puts
returns-clause-puts g c =
    let room = c.in_ok-make_room.ensures in
    room_puts _ (g.F.Flash.chip c.args.flash.now) (g.F.Flash.chip c.make_room.new.flash) (g.F.Flash.chip c.add.new.flash) c.args.self.now c.make_room.new.self c.add.new.self room.stays
    (λ records tie. room.kept records tie) c.in_ok-add.ensures.puts

pub returns-in_err-make_room-clause-bounded : goal.returns-in_err-make_room-clause-bounded
returns-in_err-make_room-clause-bounded g c =
    let most = c.in_err-make_room.ensures.costs.most_calls in
    let few = c.in_err-make_room.ensures.bounded in
    omega (arith, most, few)

pub returns-in_err-add-clause-bounded : goal.returns-in_err-add-clause-bounded
returns-in_err-add-clause-bounded g c =
    let room = c.in_ok-make_room.ensures in
    let first = room.costs.most_calls in
    let few = room.bounded in
    let second = c.in_err-add.ensures.costs.most_calls in
    omega (arith, first, few, second)

pub returns-clause-bounded : goal.returns-clause-bounded
returns-clause-bounded g c =
    let room = c.in_ok-make_room.ensures in
    let first = room.costs.most_calls in
    let few = room.bounded in
    let second = c.in_ok-add.ensures.costs.most_calls in
    omega (arith, first, few, second)

pub returns-then-is_closed-clause-most_wear : goal.returns-then-is_closed-clause-most_wear
returns-then-is_closed-clause-most_wear g c = none_put c.args.self.now.journal.used (count_of (g.F.Flash.chip c.args.flash.now))

pub returns-in_err-check-clause-most_wear : goal.returns-in_err-check-clause-most_wear
returns-in_err-check-clause-most_wear g c = none_put c.args.self.now.journal.used (count_of (g.F.Flash.chip c.args.flash.now))

pub returns-in_err-make_room-clause-most_wear : goal.returns-in_err-make_room-clause-most_wear
returns-in_err-make_room-clause-most_wear g c =
    let room = c.in_err-make_room.ensures in
    let first = room.costs.most_calls in
    let erased = room.costs.most_erases in
    let compacted = room.costs.most_octets in
    put_at_most c.args.self.now _ _ room.bounded (omega (arith, first)) (omega (arith, erased)) (omega (arith, compacted))

pub returns-in_err-add-clause-most_wear : goal.returns-in_err-add-clause-most_wear
returns-in_err-add-clause-most_wear g c =
    let room = c.in_ok-make_room.ensures in
    let costs = c.in_err-add.ensures.costs in
    let first = room.costs.most_calls in
    let second = costs.most_calls in
    let erased = room.costs.most_erases in
    let none = costs.most_erases in
    let compacted = room.costs.most_octets in
    let slot = costs.most_octets in
    put_at_most c.args.self.now _ _ room.bounded (omega (arith, first, second)) (omega (arith, erased, none)) (omega (arith, compacted, slot))

pub returns-clause-most_wear : goal.returns-clause-most_wear
returns-clause-most_wear g c =
    let room = c.in_ok-make_room.ensures in
    let costs = c.in_ok-add.ensures.costs in
    let first = room.costs.most_calls in
    let second = costs.most_calls in
    let erased = room.costs.most_erases in
    let none = costs.most_erases in
    let compacted = room.costs.most_octets in
    let slot = costs.most_octets in
    put_at_most c.args.self.now _ _ room.bounded (omega (arith, first, second)) (omega (arith, erased, none)) (omega (arith, compacted, slot))

pub returns-clause-wear : goal.returns-clause-wear
returns-clause-wear g c =
    let room = c.in_ok-make_room.ensures in
    let costs = c.in_ok-add.ensures.costs in
    let first = room.costs.most_calls in
    let second = costs.most_calls in
    let erased = room.costs.most_erases in
    let none = costs.most_erases in
    let compacted = room.costs.most_octets in
    let slot = costs.most_octets in
    put_costs c.args.self.now _ _ room.bounded _ (omega (arith, first, second)) (omega (arith, erased, none)) (omega (arith, compacted, slot)) (c.in_ok-add.ensures.used ∙ ap (λ (n : ℕ). n + 1) room.used)

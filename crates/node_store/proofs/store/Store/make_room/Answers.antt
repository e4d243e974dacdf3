use Rattle.std.proofs.Common.{◌≤◌, length, ap, sym, subst, arith}
use Rattle.node_limits.specs.declared.TheConstants.{SNAPSHOT_RECORDS}
use Rattle.node_snapshot.specs.Snapshot.{snapshot_of}
use Rattle.node_store.specs.Tie.{IsStoreOf}
use Rattle.node_store.specs.View.{StoreView}
use Rattle.node_store.proofs.Holding.{held_unchanged, leaves_alike, store_alike}
use Rattle.node_store.proofs.Mounts.{on_ok}
use Rattle.node_store.proofs.Rooms.{room_few}
use Rattle.node_store.proofs.store.Store.make_room.Goals as goal

pub returns-then-used-lt-BANK_RECORDS-clause-any_moment : goal.returns-then-used-lt-BANK_RECORDS-clause-any_moment
returns-then-used-lt-BANK_RECORDS-clause-any_moment g c records tie = held_unchanged (g.F.Flash.chip c.args.flash.now) c.args.self.now records tie (g.met.F.Flash.only_now c.args.flash.now)

pub returns-then-used-lt-BANK_RECORDS-clause-bounded : goal.returns-then-used-lt-BANK_RECORDS-clause-bounded
returns-then-used-lt-BANK_RECORDS-clause-bounded g c = room_few c.args.self.now (λ full. let below = c.if-used-lt-BANK_RECORDS.true in let is = ap (λ (v : StoreView). v.journal.used) c.self.view_is in let used = c.used.ensures.value in absurd (omega (arith, full, below, is, used)))

pub returns-clause-bounded : goal.returns-clause-bounded
returns-clause-bounded g c = room_few c.args.self.now (λ full. subst (λ (v : StoreView). length (snapshot_of v.persist) ≤ SNAPSHOT_RECORDS) c.self.view_is c.compact.ensures.few)

pub returns-clause-kept : goal.returns-clause-kept
returns-clause-kept g c records tie =
    let old = g.F.Flash.chip c.args.flash.now in
    let new = g.F.Flash.chip c.compact.new.flash in
    let inside : StoreView = record { journal = c.self.inside.journal; persist = c.self.inside.persist } in
    let here : IsStoreOf old inside records = subst (λ (v : StoreView). IsStoreOf old v records) (sym c.self.view_is) tie in
    on_ok c.compact.result _ _ (c.compact.ensures.kept here.found here.exact)
    (λ kept. store_alike new (record { journal = c.compact.new.journal; persist = c.self.inside.persist }) here.found records here.alike kept)

pub returns-clause-any_moment : goal.returns-clause-any_moment
returns-clause-any_moment g c records tie =
    let old = g.F.Flash.chip c.args.flash.now in
    let new = g.F.Flash.chip c.compact.new.flash in
    let inside : StoreView = record { journal = c.self.inside.journal; persist = c.self.inside.persist } in
    let here : IsStoreOf old inside records = subst (λ (v : StoreView). IsStoreOf old v records) (sym c.self.view_is) tie in
    leaves_alike old new here.found records here.alike (c.compact.ensures.any_moment here.found here.exact)

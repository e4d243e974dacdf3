use Rattle.std.proofs.Common.{◌≡◌, ◌+◌, ◌≤◌, List, [], sym, subst}
use Rattle.std.specs.Prelude.{length, OnErr, OnOk}
use Rattle.flash_model.specs.Chip.{count_of}
use Rattle.node_store.specs.Calls.{only_slots}
use Rattle.node_store.specs.Several.{CostsEach, CostsSome}
use Rattle.node_store.specs.Tie.{IsFront}
use Rattle.node_store.specs.Writing.{CostsCalls, CutLeaves, Puts}
use Rattle.node_store.proofs.Fronts.{each_none, fronts_none}
use Rattle.node_store.proofs.Puts.{puts_none}
use Rattle.record_types.specs.declared.records.StoreRecord.{StoreRecord}
use Rattle.seq_reserve.specs.Reserving.{IsDurable}
use Rattle.seq_reserve.proofs.Keeping.{durable_of}
use Rattle.store_definitions.specs.Wear.{CostsAndUses, CostsAtMost}
use Rattle.store_definitions.proofs.Wear.{at_most_none, paid_none}
use Rattle.event_storing.proofs.Loops.{images_by}
use Rattle.event_storing.proofs.several.store_records.Goals as goal

-- no records

pub returns-then-is_empty-clause-puts : goal.returns-then-is_empty-clause-puts
returns-then-is_empty-clause-puts g c usable =
    let chip = g.F.Flash.chip c.args.flash.now in
    let store = c.args.reserve.now.store in
    let is : c.args.records.now ≡ [] = c.is_empty.ensures.0 c.if-is_empty.true in
    subst (λ (items : List StoreRecord). Puts items chip chip store store) (sym is) (puts_none chip store usable)

pub returns-then-is_empty-clause-cut : goal.returns-then-is_empty-clause-cut
returns-then-is_empty-clause-cut g c =
    let chip = g.F.Flash.chip c.args.flash.now in
    let store = c.args.reserve.now.store in
    let only = g.met.F.Flash.only_now c.args.flash.now in
    record {
      any_moment = λ records tie. (fronts_none chip store records c.args.records.now tie only).leaves;
      mark = λ records tie. (fronts_none chip store records c.args.records.now tie only).marks;
    }

pub returns-then-is_empty-clause-fronts : goal.returns-then-is_empty-clause-fronts
returns-then-is_empty-clause-fronts g c records tie =
    let chip = g.F.Flash.chip c.args.flash.now in
    images_by chip chip (IsFront records c.args.records.now) (λ image later is. g.met.F.Flash.counts_now c.args.flash.now _ image later is)
    ((returns-then-is_empty-clause-cut g c).any_moment records tie)

pub returns-then-is_empty-clause-durable : goal.returns-then-is_empty-clause-durable
returns-then-is_empty-clause-durable g c records tie =
    let chip = g.F.Flash.chip c.args.flash.now in
    subst (λ n. IsDurable chip n) (sym c.requires.published) (durable_of chip c.args.reserve.now.store records tie)

pub returns-then-is_empty-clause-each : goal.returns-then-is_empty-clause-each
returns-then-is_empty-clause-each g c usable =
    let laws = g.met.F.Flash in
    let flash = c.args.flash.now in
    let chip = g.F.Flash.chip flash in
    let store = c.args.reserve.now.store in
    let is : c.args.records.now ≡ [] = c.is_empty.ensures.0 c.if-is_empty.true in
    subst (λ (items : List StoreRecord). CostsEach items chip chip store store) (sym is) (each_none chip store (laws.counted flash) (laws.counted_erases flash) (laws.counted_octets flash))

pub returns-then-is_empty-clause-wear : goal.returns-then-is_empty-clause-wear
returns-then-is_empty-clause-wear g c usable =
    let chip = g.F.Flash.chip c.args.flash.now in
    let used = c.args.reserve.now.store.journal.used in
    let is : c.args.records.now ≡ [] = c.is_empty.ensures.0 c.if-is_empty.true in
    subst (λ (items : List StoreRecord). CostsAndUses used (length items) (count_of chip) (count_of chip) used) (sym is) (paid_none used (count_of chip))

pub returns-then-is_empty-clause-most_wear : goal.returns-then-is_empty-clause-most_wear
returns-then-is_empty-clause-most_wear g c =
    let chip = g.F.Flash.chip c.args.flash.now in
    at_most_none c.args.reserve.now.store.journal.used (length c.args.records.now) (count_of chip)

-- the store is closed

pub returns-then-is_closed-clause-most_wear : goal.returns-then-is_closed-clause-most_wear
returns-then-is_closed-clause-most_wear g c =
    let chip = g.F.Flash.chip c.args.flash.now in
    at_most_none c.args.reserve.now.store.journal.used (length c.args.records.now) (count_of chip)

-- each of them

pub returns-clause-puts : goal.returns-clause-puts
returns-clause-puts g c usable =
    let old = g.F.Flash.chip c.args.flash.now in
    let new = g.F.Flash.chip c.store_each.new.flash in
    subst (λ (items : List StoreRecord). OnOk c.store_each.result (Puts items old new c.args.reserve.now.store c.store_each.new.reserve.store))
    c.as_slice.ensures.value c.store_each.ensures.puts

pub returns-clause-cut : goal.returns-clause-cut
returns-clause-cut g c =
    let old = g.F.Flash.chip c.args.flash.now in
    let new = g.F.Flash.chip c.store_each.new.flash in
    subst (λ (items : List StoreRecord). CutLeaves (λ records. IsFront records items) old new c.args.reserve.now.store) c.as_slice.ensures.value c.store_each.ensures.cut

pub returns-clause-fronts : goal.returns-clause-fronts
returns-clause-fronts g c records tie =
    images_by (g.F.Flash.chip c.args.flash.now) (g.F.Flash.chip c.store_each.new.flash) (IsFront records c.args.records.now)
    (λ image later is. g.met.F.Flash.counts_now c.store_each.new.flash _ image later is) ((returns-clause-cut g c).any_moment records tie)

pub returns-clause-each : goal.returns-clause-each
returns-clause-each g c usable =
    let old = g.F.Flash.chip c.args.flash.now in
    let new = g.F.Flash.chip c.store_each.new.flash in
    subst (λ (items : List StoreRecord). OnOk c.store_each.result (CostsEach items old new c.args.reserve.now.store c.store_each.new.reserve.store))
    c.as_slice.ensures.value c.store_each.ensures.each

pub returns-clause-some : goal.returns-clause-some
returns-clause-some g c usable =
    let old = g.F.Flash.chip c.args.flash.now in
    let new = g.F.Flash.chip c.store_each.new.flash in
    subst (λ (items : List StoreRecord). OnErr c.store_each.result (CostsSome items old new c.args.reserve.now.store c.store_each.new.reserve.store))
    c.as_slice.ensures.value c.store_each.ensures.some

pub returns-clause-costs : goal.returns-clause-costs
returns-clause-costs g c =
    let old = g.F.Flash.chip c.args.flash.now in
    let new = g.F.Flash.chip c.store_each.new.flash in
    let used = c.args.reserve.now.store.journal.used in
    subst (λ (items : List StoreRecord). used + length items ≤ 1023 → CostsCalls (only_slots (length items)) c.store_each.result old new)
    c.as_slice.ensures.value c.store_each.ensures.costs

pub returns-clause-wear : goal.returns-clause-wear
returns-clause-wear g c usable =
    let old = g.F.Flash.chip c.args.flash.now in
    let new = g.F.Flash.chip c.store_each.new.flash in
    let used = c.args.reserve.now.store.journal.used in
    subst (λ (items : List StoreRecord). OnOk c.store_each.result (CostsAndUses used (length items) (count_of old) (count_of new) c.store_each.new.reserve.store.journal.used))
    c.as_slice.ensures.value c.store_each.ensures.wear

pub returns-clause-most_wear : goal.returns-clause-most_wear
returns-clause-most_wear g c =
    let old = g.F.Flash.chip c.args.flash.now in
    let new = g.F.Flash.chip c.store_each.new.flash in
    let used = c.args.reserve.now.store.journal.used in
    subst (λ (items : List StoreRecord). CostsAtMost used (length items) (count_of old) (count_of new)) c.as_slice.ensures.value c.store_each.ensures.most_wear

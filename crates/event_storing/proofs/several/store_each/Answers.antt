use Rattle.std.proofs.Common.{◌≡◌, ℕ, ◌+◌, ◌<◌, ◌∙◌, ◌++◌, length, take, refl, sym, subst, inl, arith, true≢false}
use Rattle.std.proofs.lemmas.List.{append-nil}
use Rattle.event_storing.specs.Storing.{moved_to}
use Rattle.flash_model.specs.Chip.{count_of}
use Rattle.flash_model.proofs.Runs.{keeps_more, keeps_none}
use Rattle.node_records.specs.Tables.{config_in}
use Rattle.node_records.proofs.Meanings.{said_more}
use Rattle.node_store.proofs.Mounts.{err_of, on_err_all, on_ok_none}
use Rattle.node_store.proofs.Puts.{puts_of}
use Rattle.node_store.proofs.Fronts.{all_calls, all_most, all_octets, calls_at_most, calls_more, config_all, config_more, each_all, each_more, each_none, each_some, erases_at_most, front_more, fronts_more, fronts_none, marks_more, most_octets, none_erased, octets_at_most, put_none, tie_all, value_all, value_more, value_none}
use Rattle.seq_reserve.specs.Reserving.{IsDurable}
use Rattle.seq_reserve.proofs.Keeping.{durable_of}
use Rattle.store_definitions.specs.Wear.{CostsAndUses}
use Rattle.store_definitions.proofs.Wear.{at_most_more, at_most_of, at_most_of_more, paid_more, paid_none}
use Rattle.event_storing.proofs.Loops.{next_may, next_moves, rest_moves, words_all, words_more}
use Rattle.event_storing.proofs.Moves.{risen_more}
use Rattle.event_storing.proofs.several.store_each.Goals as goal

pub loop-item-init : goal.loop-item-init
loop-item-init g c =
    let laws = g.met.F.Flash in
    let flash = c.args.flash.now in
    let chip = g.F.Flash.chip flash in
    let reserve = c.args.reserve.now in
    record {
      keeps = keeps_none chip;
      usable = c.requires.usable;
      published = c.requires.published;
      made = refl;
      said = c.requires.said;
      may = c.requires.may;
      moves = c.requires.moves;
      config = refl;
      value = λ records meaning. value_none records c.args.items.now reserve.store.persist meaning;
      advanced = sym (append-nil (moved_to reserve.keeper));
      risen = inl refl;
      fronts = λ records tie. fronts_none chip reserve.store records c.args.items.now tie (laws.only_now flash);
      durable = λ records tie. subst (λ n. IsDurable chip n) (sym c.requires.published) (durable_of chip reserve.store records tie);
      calls = λ room. put_none chip reserve.store (laws.counted flash) (laws.counted_erases flash) (laws.counted_octets flash);
      each = each_none chip reserve.store (laws.counted flash) (laws.counted_erases flash) (laws.counted_octets flash);
      wear = paid_none reserve.store.journal.used (count_of chip);
      reads = refl;
      faults = refl;
    }

pub loop-item-preserved : goal.loop-item-preserved
loop-item-preserved g c =
    let before = c.loop-item.invariant in
    let put = c.in_ok-store_one.ensures in
    let items = c.args.items.now in
    let i = c.loop-item.item-index in
    let less = c.loop-item-test.true in
    let start = g.F.Flash.chip c.args.flash.now in
    let mid = g.F.Flash.chip c.loop-item.flash in
    let new = g.F.Flash.chip c.store_one.new.flash in
    let first = c.args.reserve.now.store in
    let store = c.loop-item.reserve.store in
    let after = c.store_one.new.reserve.store in
    let may = next_may items i _ less store.persist before.may in
    let said = said_more _ store.persist after.persist may.0 put.puts.value before.said in
    record {
      keeps = keeps_more start mid new before.keeps put.leaves.frame;
      usable = put.puts.usable;
      published = put.published;
      made = put.made ∙ before.made;
      said = said;
      may = may.3 after.persist put.puts.change;
      moves = rest_moves items i _ less (config_in store.persist) (config_in after.persist) before.moves put.puts.change;
      config = put.puts.change ∙ config_more items i _ less (config_in store.persist) (config_in first.persist) before.config;
      value = λ records meaning. value_more items i _ less records store.persist after.persist (before.value records meaning) put.puts.value;
      advanced = words_more items i _ less (config_in first.persist) (config_in store.persist) (moved_to c.args.reserve.now.keeper) (moved_to c.loop-item.reserve.keeper)
          (moved_to c.store_one.new.reserve.keeper) before.config before.advanced put.advanced;
      risen = risen_more c.args.reserve.now.keeper c.loop-item.reserve.keeper c.store_one.new.reserve.keeper before.risen put.risen;
      fronts = λ records tie.
          let fronts = before.fronts records tie in
          let all = records ++ take i items in
          fronts_more items i _ less start first records mid store fronts new after may.1 put.puts.value (put.puts.kept all fronts.tie) (put.cut.any_moment all fronts.tie) (put.cut.mark all fronts.tie);
      durable = λ records tie. put.durable (records ++ take i items) (before.fronts records tie).tie;
      calls = λ room. calls_more (length items) i start mid new first store less room (before.calls room) after put.costs.calls put.costs.erases put.costs.octets put.used;
      each = each_more items i _ less start mid new first store before.each after
          (record { persist = record { config = put.puts.change; value = put.puts.value; said = said }; used = put.used }) put.costs.calls put.costs.erases put.costs.octets;
      wear = paid_more first.journal.used i 1 (count_of start) (count_of mid) (count_of new) store.journal.used after.journal.used before.wear put.wear;
      reads = put.leaves.reads ∙ before.reads;
      faults = put.leaves.no_fault ∙ before.faults;
    }

pub store_one-requires-clause-made : goal.store_one-requires-clause-made
store_one-requires-clause-made g c = c.loop-item.invariant.made ∙ c.requires.made

pub store_one-requires-clause-range : goal.store_one-requires-clause-range
store_one-requires-clause-range g c =
    (next_may c.args.items.now c.loop-item.item-index _ c.loop-item-test.true c.loop-item.reserve.store.persist c.loop-item.invariant.may).0

pub store_one-requires-clause-place : goal.store_one-requires-clause-place
store_one-requires-clause-place g c =
    (next_may c.args.items.now c.loop-item.item-index _ c.loop-item-test.true c.loop-item.reserve.store.persist c.loop-item.invariant.may).2

pub store_one-requires-clause-moves : goal.store_one-requires-clause-moves
store_one-requires-clause-moves g c =
    (next_moves c.args.items.now c.loop-item.item-index _ c.loop-item-test.true (config_in c.loop-item.reserve.store.persist) c.loop-item.invariant.moves).0

pub returns-in_err-store_one-clause-fails : goal.returns-in_err-store_one-clause-fails
returns-in_err-store_one-clause-fails g c =
    let before = c.loop-item.invariant in
    let fails = c.in_err-store_one.ensures.fails in
    let same = before.faults in
    let rose = fails.cause.rose in
    let result = c.from_residual.result in
    record {
      cause = on_err_all result _ (record { answer = err_of result c.in_err-store_one.field-0.0 c.from_residual.ensures.1 ∙ fails.cause.answer; closed = fails.cause.closed; rose = omega (arith, same, rose) });
      sure = λ sure. absurd (true≢false (sym (fails.sure (before.keeps.sure sure).0)));
    }

pub returns-in_err-store_one-clause-made : goal.returns-in_err-store_one-clause-made
returns-in_err-store_one-clause-made g c = c.in_err-store_one.ensures.made ∙ c.loop-item.invariant.made

pub returns-in_err-store_one-clause-cut : goal.returns-in_err-store_one-clause-cut
returns-in_err-store_one-clause-cut g c =
    let items = c.args.items.now in
    let i = c.loop-item.item-index in
    let start = g.F.Flash.chip c.args.flash.now in
    let mid = g.F.Flash.chip c.loop-item.flash in
    let new = g.F.Flash.chip c.store_one.new.flash in
    let first = c.args.reserve.now.store in
    let store = c.loop-item.reserve.store in
    let cut = c.in_err-store_one.ensures.cut in
    record {
      any_moment = λ records tie.
          let fronts = c.loop-item.invariant.fronts records tie in
          front_more items i _ c.loop-item-test.true start first records mid store fronts new (cut.any_moment (records ++ take i items) fronts.tie);
      mark = λ records tie.
          let fronts = c.loop-item.invariant.fronts records tie in
          marks_more items i start first records mid store fronts new (cut.mark (records ++ take i items) fronts.tie);
    }

pub returns-in_err-store_one-clause-durable : goal.returns-in_err-store_one-clause-durable
returns-in_err-store_one-clause-durable g c records tie =
    c.in_err-store_one.ensures.durable (records ++ take c.loop-item.item-index c.args.items.now) (c.loop-item.invariant.fronts records tie).tie

pub returns-in_err-store_one-clause-costs : goal.returns-in_err-store_one-clause-costs
returns-in_err-store_one-clause-costs g c room =
    let n : ℕ = length c.args.items.now in
    let i = c.loop-item.item-index in
    let start = g.F.Flash.chip c.args.flash.now in
    let mid = g.F.Flash.chip c.loop-item.flash in
    let new = g.F.Flash.chip c.store_one.new.flash in
    let first = c.args.reserve.now.store in
    let store = c.loop-item.reserve.store in
    let costs = c.in_err-store_one.ensures.costs in
    let so = c.loop-item.invariant.calls room in
    record {
      calls = on_ok_none c.from_residual.result c.in_err-store_one.field-0.0 c.from_residual.ensures.1 _;
      erases = on_ok_none c.from_residual.result c.in_err-store_one.field-0.0 c.from_residual.ensures.1 _;
      octets = on_ok_none c.from_residual.result c.in_err-store_one.field-0.0 c.from_residual.ensures.1 _;
      most_calls = calls_at_most n i start mid new first store c.loop-item-test.true room so costs.most_calls;
      most_erases = erases_at_most n i start mid new first store c.loop-item-test.true room so costs.most_erases;
      most_octets = octets_at_most n i start mid new first store c.loop-item-test.true room so costs.most_octets;
    }

pub returns-in_err-store_one-clause-some : goal.returns-in_err-store_one-clause-some
returns-in_err-store_one-clause-some g c =
    let before = c.loop-item.invariant in
    let start = g.F.Flash.chip c.args.flash.now in
    let mid = g.F.Flash.chip c.loop-item.flash in
    let new = g.F.Flash.chip c.store_one.new.flash in
    let one = c.in_err-store_one.ensures in
    on_err_all c.from_residual.result _
    (each_some c.args.items.now c.loop-item.item-index _ c.loop-item-test.true start mid new c.args.reserve.now.store c.loop-item.reserve.store c.store_one.new.reserve.store before.each
    before.fronts one.cut (λ image later is. g.met.F.Flash.counts_now c.store_one.new.flash _ image later is)
    one.refused one.costs.most_calls one.costs.most_erases one.costs.most_octets)

pub returns-in_err-store_one-clause-most_wear : goal.returns-in_err-store_one-clause-most_wear
returns-in_err-store_one-clause-most_wear g c =
    let i = c.loop-item.item-index in
    let n : ℕ = length c.args.items.now in
    let less : i < n = c.loop-item-test.true in
    let used = c.args.reserve.now.store.journal.used in
    let start = g.F.Flash.chip c.args.flash.now in
    let mid = g.F.Flash.chip c.loop-item.flash in
    let new = g.F.Flash.chip c.store_one.new.flash in
    at_most_of_more used (i + 1) n (count_of start) (count_of new) (omega (arith, less))
    (at_most_more used i 1 (count_of start) (count_of mid) (count_of new) c.loop-item.reserve.store.journal.used c.loop-item.invariant.wear c.in_err-store_one.ensures.most_wear)

pub returns-in_err-store_one-clause-leaves : goal.returns-in_err-store_one-clause-leaves
returns-in_err-store_one-clause-leaves g c =
    let before = c.loop-item.invariant in
    let leaves = c.in_err-store_one.ensures.leaves in
    let same = before.faults in
    let once = leaves.once in
    record {
      reads = leaves.reads ∙ before.reads;
      no_fault = on_ok_none c.from_residual.result c.in_err-store_one.field-0.0 c.from_residual.ensures.1 _;
      once = omega (arith, same, once);
      frame = keeps_more (g.F.Flash.chip c.args.flash.now) (g.F.Flash.chip c.loop-item.flash) (g.F.Flash.chip c.store_one.new.flash) before.keeps leaves.frame;
    }

pub returns-clause-puts : goal.returns-clause-puts
returns-clause-puts g c =
    let before = c.loop-item.invariant in
    let items = c.args.items.now in
    let i = c.loop-item.item-index in
    let new = g.F.Flash.chip c.loop-item.flash in
    let store = c.loop-item.reserve.store in
    let first = c.args.reserve.now.store in
    puts_of items (g.F.Flash.chip c.args.flash.now) new first store before.usable
    (config_all items i (omega (arith, c.loop-item-test.false)) (config_in store.persist) (config_in first.persist) before.config)
    (λ records meaning. value_all items i (omega (arith, c.loop-item-test.false)) records store.persist (before.value records meaning))
    (λ records tie. tie_all items i (omega (arith, c.loop-item-test.false)) records new store (before.fronts records tie).tie)

pub returns-clause-advanced : goal.returns-clause-advanced
returns-clause-advanced g c =
    words_all c.args.items.now c.loop-item.item-index (omega (arith, c.loop-item-test.false)) (config_in c.args.reserve.now.store.persist) (moved_to c.args.reserve.now.keeper)
    (moved_to c.loop-item.reserve.keeper) c.loop-item.invariant.advanced

pub returns-clause-cut : goal.returns-clause-cut
returns-clause-cut g c = record {
  any_moment = λ records tie. (c.loop-item.invariant.fronts records tie).leaves;
  mark = λ records tie. (c.loop-item.invariant.fronts records tie).marks;
}

pub returns-clause-durable : goal.returns-clause-durable
returns-clause-durable g c records tie = c.loop-item.invariant.durable records tie

pub returns-clause-costs : goal.returns-clause-costs
returns-clause-costs g c room =
    let n : ℕ = length c.args.items.now in
    let i = c.loop-item.item-index in
    let start = g.F.Flash.chip c.args.flash.now in
    let new = g.F.Flash.chip c.loop-item.flash in
    let so = c.loop-item.invariant.calls room in
    let all : i ≡ n = omega (arith, c.loop-item-test.false, c.loop-item.auto.item-index-end) in
    record {
      calls = all_calls n i start new all so.calls;
      erases = so.erases;
      octets = all_octets n i start new all so.octets;
      most_calls = all_most n i start new all so.calls;
      most_erases = none_erased start new so.erases;
      most_octets = most_octets n i start new all so.octets;
    }

pub returns-clause-each : goal.returns-clause-each
returns-clause-each g c =
    each_all c.args.items.now c.loop-item.item-index (omega (arith, c.loop-item-test.false)) (g.F.Flash.chip c.args.flash.now) (g.F.Flash.chip c.loop-item.flash) c.args.reserve.now.store
    c.loop-item.reserve.store c.loop-item.invariant.each

pub returns-clause-wear : goal.returns-clause-wear
returns-clause-wear g c =
    let n : ℕ = length c.args.items.now in
    let i = c.loop-item.item-index in
    let all : i ≡ n = omega (arith, c.loop-item-test.false, c.loop-item.auto.item-index-end) in
    let start = g.F.Flash.chip c.args.flash.now in
    let new = g.F.Flash.chip c.loop-item.flash in
    subst (λ (k : ℕ). CostsAndUses c.args.reserve.now.store.journal.used k (count_of start) (count_of new) c.loop-item.reserve.store.journal.used) all c.loop-item.invariant.wear

pub returns-clause-most_wear : goal.returns-clause-most_wear
returns-clause-most_wear g c =
    let start = g.F.Flash.chip c.args.flash.now in
    let new = g.F.Flash.chip c.loop-item.flash in
    at_most_of c.args.reserve.now.store.journal.used (length c.args.items.now) (count_of start) (count_of new) c.loop-item.reserve.store.journal.used (returns-clause-wear g c)

pub returns-clause-leaves : goal.returns-clause-leaves
returns-clause-leaves g c =
    let same = c.loop-item.invariant.faults in
    record { reads = c.loop-item.invariant.reads; no_fault = same; once = omega (arith, same); frame = c.loop-item.invariant.keeps }

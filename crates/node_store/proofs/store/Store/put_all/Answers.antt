use Rattle.std.proofs.Common.{◌≡◌, ℕ, ◌+◌, ◌*◌, ◌<◌, ◌++◌, length, take, refl, sym, subst, ◌∙◌, arith, true≢false}
use Rattle.node_limits.specs.declared.TheConstants.{PUT_CALLS}
use Rattle.flash_model.specs.Chip.{count_of}
use Rattle.flash_model.proofs.Runs.{at_most_more, keeps_more, keeps_none}
use Rattle.node_records.specs.Tables.{config_in}
use Rattle.node_store.proofs.Mounts.{err_of, on_err_all, on_ok_none}
use Rattle.node_store.proofs.Puts.{puts_of}
use Rattle.node_store.proofs.Fronts.{all_calls, all_most, all_octets, calls_at_most, calls_more, config_all, config_more, each_all, each_more, each_none, each_some, erases_at_most, front_more, fronts_more, fronts_none, marks_more, most_octets, next_may, none_erased, octets_at_most, put_none, tie_all, value_all, value_more, value_none}
use Rattle.store_definitions.specs.Wear.{CostsAndUses}
use Rattle.store_definitions.proofs.Wear.{at_most_more as worn_more, at_most_none, at_most_of, at_most_of_more, paid_more, paid_none}
use Rattle.node_store.proofs.store.Store.put_all.Goals as goal

pub loop-item-init : goal.loop-item-init
loop-item-init g c =
    let laws = g.met.F.Flash in
    let flash = c.args.flash.now in
    let chip = g.F.Flash.chip flash in
    record {
      keeps = keeps_none chip;
      usable = sym c.is_closed.ensures.value ∙ c.if-is_closed.false;
      may = c.requires.may;
      config = refl;
      value = λ records meaning. value_none records c.args.items.now c.args.self.now.persist meaning;
      fronts = λ records tie. fronts_none chip c.args.self.now records c.args.items.now tie (laws.only_now flash);
      calls = λ room. put_none chip c.args.self.now (laws.counted flash) (laws.counted_erases flash) (laws.counted_octets flash);
      each = each_none chip c.args.self.now (laws.counted flash) (laws.counted_erases flash) (laws.counted_octets flash);
      spent = omega arith;
      wear = paid_none c.args.self.now.journal.used (count_of chip);
      reads = refl;
      faults = refl;
    }

pub loop-item-preserved : goal.loop-item-preserved
loop-item-preserved g c =
    let before = c.loop-item.invariant in
    let put = c.in_ok-put.ensures in
    let items = c.args.items.now in
    let i = c.loop-item.item-index in
    let less = c.loop-item-test.true in
    let start = g.F.Flash.chip c.args.flash.now in
    let mid = g.F.Flash.chip c.loop-item.flash in
    let new = g.F.Flash.chip c.put.new.flash in
    let first = c.args.self.now in
    let store = c.loop-item.self in
    let after = c.put.new.self in
    let may = next_may items i _ less store.persist before.may in
    record {
      keeps = keeps_more start mid new before.keeps put.leaves.frame;
      usable = put.puts.usable;
      may = may.3 after.persist (record { config = put.puts.change; value = put.puts.value; said = put.said });
      config = put.puts.change ∙ config_more items i _ less (config_in store.persist) (config_in first.persist) before.config;
      value = λ records meaning. value_more items i _ less records store.persist after.persist (before.value records meaning) put.puts.value;
      fronts = λ records tie.
          let fronts = before.fronts records tie in
          let all = records ++ take i items in
          fronts_more items i _ less start first records mid store fronts new after may.1 put.puts.value (put.puts.kept all fronts.tie) (put.cut.any_moment all fronts.tie) (put.cut.mark all fronts.tie);
      calls = λ room. calls_more (length items) i start mid new first store less room (before.calls room) after put.costs.calls put.costs.erases put.costs.octets put.used;
      each = each_more items i _ less start mid new first store before.each after
          (record { persist = record { config = put.puts.change; value = put.puts.value; said = put.said }; used = put.used }) put.costs.calls put.costs.erases put.costs.octets;
      spent = at_most_more (PUT_CALLS * i) PUT_CALLS (PUT_CALLS * (i + 1)) start mid new (omega arith) before.spent put.bounded;
      wear = paid_more first.journal.used i 1 (count_of start) (count_of mid) (count_of new) store.journal.used after.journal.used before.wear put.wear;
      reads = put.leaves.reads ∙ before.reads;
      faults = put.leaves.no_fault ∙ before.faults;
    }

pub put-requires-clause-range : goal.put-requires-clause-range
put-requires-clause-range g c = (next_may c.args.items.now c.loop-item.item-index _ c.loop-item-test.true c.loop-item.self.persist c.loop-item.invariant.may).0

pub put-requires-clause-rises : goal.put-requires-clause-rises
put-requires-clause-rises g c = (next_may c.args.items.now c.loop-item.item-index _ c.loop-item-test.true c.loop-item.self.persist c.loop-item.invariant.may).1

pub returns-in_err-put-clause-fails : goal.returns-in_err-put-clause-fails
returns-in_err-put-clause-fails g c open_before =
    let before = c.loop-item.invariant in
    let may = next_may c.args.items.now c.loop-item.item-index _ c.loop-item-test.true c.loop-item.self.persist before.may in
    let fails = c.in_err-put.ensures.fails before.usable may.2 in
    let same = before.faults in
    let rose = fails.cause.rose in
    let result = c.from_residual.result in
    record {
      cause = on_err_all result _ (record { answer = err_of result c.in_err-put.field-0.0 c.from_residual.ensures.1 ∙ fails.cause.answer; closed = fails.cause.closed; rose = omega (arith, same, rose) });
      sure = λ sure. absurd (true≢false (sym (fails.sure (before.keeps.sure sure).0)));
    }

pub returns-in_err-put-clause-cut : goal.returns-in_err-put-clause-cut
returns-in_err-put-clause-cut g c =
    let items = c.args.items.now in
    let i = c.loop-item.item-index in
    let start = g.F.Flash.chip c.args.flash.now in
    let mid = g.F.Flash.chip c.loop-item.flash in
    let new = g.F.Flash.chip c.put.new.flash in
    let cut = c.in_err-put.ensures.cut in
    record {
      any_moment = λ records tie.
          let fronts = c.loop-item.invariant.fronts records tie in
          front_more items i _ c.loop-item-test.true start c.args.self.now records mid c.loop-item.self fronts new (cut.any_moment (records ++ take i items) fronts.tie);
      mark = λ records tie.
          let fronts = c.loop-item.invariant.fronts records tie in
          marks_more items i start c.args.self.now records mid c.loop-item.self fronts new (cut.mark (records ++ take i items) fronts.tie);
    }

pub returns-in_err-put-clause-costs : goal.returns-in_err-put-clause-costs
returns-in_err-put-clause-costs g c room =
    let before = c.loop-item.invariant in
    let n : ℕ = length c.args.items.now in
    let i = c.loop-item.item-index in
    let start = g.F.Flash.chip c.args.flash.now in
    let mid = g.F.Flash.chip c.loop-item.flash in
    let new = g.F.Flash.chip c.put.new.flash in
    let less = c.loop-item-test.true in
    let costs = c.in_err-put.ensures.costs in
    let result = c.from_residual.result in
    let fault = c.in_err-put.field-0.0 in
    record {
      calls = on_ok_none result fault c.from_residual.ensures.1 _;
      erases = on_ok_none result fault c.from_residual.ensures.1 _;
      octets = on_ok_none result fault c.from_residual.ensures.1 _;
      most_calls = calls_at_most n i start mid new c.args.self.now c.loop-item.self less room (before.calls room) costs.most_calls;
      most_erases = erases_at_most n i start mid new c.args.self.now c.loop-item.self less room (before.calls room) costs.most_erases;
      most_octets = octets_at_most n i start mid new c.args.self.now c.loop-item.self less room (before.calls room) costs.most_octets;
    }

pub returns-in_err-put-clause-some : goal.returns-in_err-put-clause-some
returns-in_err-put-clause-some g c open_before =
    let start = g.F.Flash.chip c.args.flash.now in
    let mid = g.F.Flash.chip c.loop-item.flash in
    let new = g.F.Flash.chip c.put.new.flash in
    let costs = c.in_err-put.ensures.costs in
    on_err_all c.from_residual.result _
    (each_some c.args.items.now c.loop-item.item-index _ c.loop-item-test.true start mid new c.args.self.now c.loop-item.self c.put.new.self c.loop-item.invariant.each
    c.loop-item.invariant.fronts c.in_err-put.ensures.cut (λ image later is. g.met.F.Flash.counts_now c.put.new.flash _ image later is)
    c.in_err-put.ensures.refused costs.most_calls costs.most_erases costs.most_octets)

pub returns-in_err-put-clause-bounded : goal.returns-in_err-put-clause-bounded
returns-in_err-put-clause-bounded g c =
    let before = c.loop-item.invariant in
    let i = c.loop-item.item-index in
    let n : ℕ = length c.args.items.now in
    let less : i < n = c.loop-item-test.true in
    at_most_more (PUT_CALLS * i) PUT_CALLS (PUT_CALLS * n) (g.F.Flash.chip c.args.flash.now) (g.F.Flash.chip c.loop-item.flash) (g.F.Flash.chip c.put.new.flash) (omega (arith, less)) before.spent c.in_err-put.ensures.bounded

pub returns-clause-bounded : goal.returns-clause-bounded
returns-clause-bounded g c =
    let i = c.loop-item.item-index in
    let n : ℕ = length c.args.items.now in
    let all : i ≡ n = omega (arith, c.loop-item-test.false, c.loop-item.auto.item-index-end) in
    let spent = c.loop-item.invariant.spent in
    omega (arith, all, spent)

pub returns-in_err-put-clause-most_wear : goal.returns-in_err-put-clause-most_wear
returns-in_err-put-clause-most_wear g c =
    let i = c.loop-item.item-index in
    let n : ℕ = length c.args.items.now in
    let less : i < n = c.loop-item-test.true in
    let used = c.args.self.now.journal.used in
    let start = g.F.Flash.chip c.args.flash.now in
    let mid = g.F.Flash.chip c.loop-item.flash in
    let new = g.F.Flash.chip c.put.new.flash in
    at_most_of_more used (i + 1) n (count_of start) (count_of new) (omega (arith, less))
    (worn_more used i 1 (count_of start) (count_of mid) (count_of new) c.loop-item.self.journal.used c.loop-item.invariant.wear c.in_err-put.ensures.most_wear)

pub returns-in_err-put-clause-leaves : goal.returns-in_err-put-clause-leaves
returns-in_err-put-clause-leaves g c =
    let before = c.loop-item.invariant in
    let leaves = c.in_err-put.ensures.leaves in
    let same = before.faults in
    let once = leaves.once in
    record {
      reads = leaves.reads ∙ before.reads;
      no_fault = on_ok_none c.from_residual.result c.in_err-put.field-0.0 c.from_residual.ensures.1 _;
      once = omega (arith, same, once);
      frame = keeps_more (g.F.Flash.chip c.args.flash.now) (g.F.Flash.chip c.loop-item.flash) (g.F.Flash.chip c.put.new.flash) before.keeps leaves.frame;
    }

pub returns-clause-puts : goal.returns-clause-puts
returns-clause-puts g c =
    let before = c.loop-item.invariant in
    let items = c.args.items.now in
    let i = c.loop-item.item-index in
    let new = g.F.Flash.chip c.loop-item.flash in
    let store = c.loop-item.self in
    let first = c.args.self.now in
    puts_of items (g.F.Flash.chip c.args.flash.now) new first store before.usable
    (config_all items i (omega (arith, c.loop-item-test.false)) (config_in store.persist) (config_in first.persist) before.config)
    (λ records meaning. value_all items i (omega (arith, c.loop-item-test.false)) records store.persist (before.value records meaning))
    (λ records tie. tie_all items i (omega (arith, c.loop-item-test.false)) records new store (before.fronts records tie).tie)

pub returns-clause-cut : goal.returns-clause-cut
returns-clause-cut g c = record {
  any_moment = λ records tie. (c.loop-item.invariant.fronts records tie).leaves;
  mark = λ records tie. (c.loop-item.invariant.fronts records tie).marks;
}

pub returns-clause-costs : goal.returns-clause-costs
returns-clause-costs g c room =
    let n = length c.args.items.now in
    let i = c.loop-item.item-index in
    let start = g.F.Flash.chip c.args.flash.now in
    let new = g.F.Flash.chip c.loop-item.flash in
    let put = c.loop-item.invariant.calls room in
    record {
      calls = all_calls n i start new (omega (arith, c.loop-item-test.false, c.loop-item.auto.item-index-end)) put.calls;
      erases = put.erases;
      octets = all_octets n i start new (omega (arith, c.loop-item-test.false, c.loop-item.auto.item-index-end)) put.octets;
      most_calls = all_most n i start new (omega (arith, c.loop-item-test.false, c.loop-item.auto.item-index-end)) put.calls;
      most_erases = none_erased start new put.erases;
      most_octets = most_octets n i start new (omega (arith, c.loop-item-test.false, c.loop-item.auto.item-index-end)) put.octets;
    }

pub returns-clause-each : goal.returns-clause-each
returns-clause-each g c =
    each_all c.args.items.now c.loop-item.item-index (omega (arith, c.loop-item-test.false)) (g.F.Flash.chip c.args.flash.now) (g.F.Flash.chip c.loop-item.flash) c.args.self.now c.loop-item.self
    c.loop-item.invariant.each

pub returns-clause-wear : goal.returns-clause-wear
returns-clause-wear g c =
    let n : ℕ = length c.args.items.now in
    let i = c.loop-item.item-index in
    let all : i ≡ n = omega (arith, c.loop-item-test.false, c.loop-item.auto.item-index-end) in
    let start = g.F.Flash.chip c.args.flash.now in
    let new = g.F.Flash.chip c.loop-item.flash in
    subst (λ (k : ℕ). CostsAndUses c.args.self.now.journal.used k (count_of start) (count_of new) c.loop-item.self.journal.used) all c.loop-item.invariant.wear

pub returns-clause-most_wear : goal.returns-clause-most_wear
returns-clause-most_wear g c =
    let start = g.F.Flash.chip c.args.flash.now in
    let new = g.F.Flash.chip c.loop-item.flash in
    at_most_of c.args.self.now.journal.used (length c.args.items.now) (count_of start) (count_of new) c.loop-item.self.journal.used (returns-clause-wear g c)

pub returns-then-is_closed-clause-most_wear : goal.returns-then-is_closed-clause-most_wear
returns-then-is_closed-clause-most_wear g c =
    let chip = g.F.Flash.chip c.args.flash.now in
    at_most_none c.args.self.now.journal.used (length c.args.items.now) (count_of chip)

pub returns-clause-leaves : goal.returns-clause-leaves
returns-clause-leaves g c =
    let same = c.loop-item.invariant.faults in
    record { reads = c.loop-item.invariant.reads; no_fault = same; once = omega (arith, same); frame = c.loop-item.invariant.keeps }

use Rattle.std.proofs.Common.{◌≡◌, true, [], ◌∷◌, ◌++◌, ◌+◌, ◌<◌, ◌^◌, refl, ap, sym, subst, ◌∙◌, arith}
use Rattle.std.proofs.lemmas.Bool.Decides.{nat_tests}
use Rattle.event_definitions.specs.History.{Past}
use Rattle.low_power_machine.proofs.Fitting.{filled_elements, fit_filled}
use Rattle.low_power_machine.proofs.Kind.{low_power_kind}
use Rattle.low_power_machine.specs.Memory.{IsFitFor}
use Rattle.low_power_machine.specs.Parts.{machine_of}
use Rattle.low_power_machine.specs.Views.{IsBefore, LowPowerNode, Stands, shown}
use Rattle.low_power_role.specs.Role.{low_power_role}
use Rattle.machine_contract.specs.Refused.{Closes}
use Rattle.machine_contract.specs.Standing.{past_now}
use Rattle.machine_contract.specs.declared.answers.Hand.TheVariants as H
use Rattle.machine_standing.proofs.Refills.{put_cut, refill_ready, refill_stands, refill_stops}
use Rattle.machine_standing.specs.Ties.{IsCutIn, IsOverBy, IsReadyBy, stopped_by}
use Rattle.node_records.specs.Meaning.{IsMeaningOf}
use Rattle.node_records.specs.Tables.{config_in}
use Rattle.node_records.specs.declared.persist.Persist.{Persist}
use Rattle.node_store.specs.Tie.{IsStoreOf}
use Rattle.record_types.specs.declared.records.StoreRecord.{StoreRecord}
use Rattle.seq_reserve.proofs.Keeping.{fill_meaning, fill_said}
use Rattle.seq_word.specs.Seen.{KeeperView}
use Rattle.seq_word.specs.Word.{seq_of}
use Rattle.store_definitions.specs.Config.{Config, changed, config_of}
use Rattle.store_definitions.specs.Numbers.{fill_of}
use Rattle.low_power_machine.proofs.state.LowPowerState.refill_numbers.Goals as goal

pub invariant_of-self : goal.invariant_of-self
invariant_of-self g c e =
    let i = c.self.inside in
    let m : LowPowerNode = machine_of i.reserve i.memory i.history i.fills i.closed i.hand i.elements in
    let ready : IsReadyBy IsBefore IsFitFor m = c.self.invariant c.if-self.false in
    let found : c.mark-seen.result ≡ c.persist.result.now.mark = grind (arith, nat_tests, c.if-seen-mark.false) in
    let stored : c.args.dry.mark ≡ c.persist.result.now.mark = sym c.mark-seen.ensures.value ∙ found in
    let seen : c.args.dry.mark ≡ i.reserve.keeper.mark = stored ∙ ap (λ (p : Persist). p.mark) c.persist.ensures.value ∙ sym ready.published in
    let seq : seq_of i.reserve.keeper.mark < 2 ^ 24 = subst (λ n. seq_of n < 2 ^ 24) seen c.requires.seq in
    let r = c.refill.new.self in
    let change : config_in r.store.persist ≡ changed (config_in i.reserve.store.persist) (fill_of (config_in i.reserve.store.persist)) = (c.in-Ok.ensures.puts seen).change in
    let meaning : IsMeaningOf (ready.past.records ++ fill_of (config_of ready.past.records) ∷ []) r.store.persist =
    fill_meaning ready.past.records i.reserve.store.persist r.store.persist ready.before.node.meaning (c.in-Ok.ensures.puts seen).value in
    refill_ready low_power_role IsBefore (low_power_kind c.node_law.ensures.kept) m IsFitFor ready r seq meaning c.refill.ensures.published (c.in-Ok.ensures.puts seen).usable
    (fit_filled i.memory i.reserve.store.persist r.store.persist change ready.fit)
    (ready.elements ∙ sym (ap (λ (x : Config). x.elements) change ∙ filled_elements (config_in i.reserve.store.persist)))
    (ap (λ (k : KeeperView). k.mark) (c.in-Ok.ensures.filled seen) ∙ ap (λ n. n + 256) seen)

pub returns-in-Ok-clause-kept : goal.returns-in-Ok-clause-kept
returns-in-Ok-clause-kept g c first over stands =
    let i = c.self.inside in
    let m : LowPowerNode = machine_of i.reserve i.memory i.history i.fills i.closed i.hand i.elements in
    let ready : IsReadyBy IsBefore IsFitFor m = c.self.invariant c.if-self.false in
    let found : c.mark-seen.result ≡ c.persist.result.now.mark = grind (arith, nat_tests, c.if-seen-mark.false) in
    let stored : c.args.dry.mark ≡ c.persist.result.now.mark = sym c.mark-seen.ensures.value ∙ found in
    let seen : c.args.dry.mark ≡ i.reserve.keeper.mark = stored ∙ ap (λ (p : Persist). p.mark) c.persist.ensures.value ∙ sym ready.published in
    let seq : seq_of i.reserve.keeper.mark < 2 ^ 24 = subst (λ n. seq_of n < 2 ^ 24) seen c.requires.seq in
    let old = g.F.Flash.chip c.args.flash.now in
    let new = g.F.Flash.chip c.refill.new.flash in
    let s : Stands first old over m = subst (λ (v : LowPowerNode). Stands first old over v) (sym c.self.view_is) stands in
    let past : Past = past_now low_power_role over s.life.told i.fills in
    let h : IsOverBy IsBefore old past m = s.usable c.if-self.false in
    let puts = c.in-Ok.ensures.puts seen in
    let said = h.before.node.meaning in
    let kept : IsStoreOf new c.refill.new.self.store (past.records ++ fill_of (config_of past.records) ∷ []) =
    subst (λ (item : StoreRecord). IsStoreOf new c.refill.new.self.store (past.records ++ item ∷ [])) (fill_said past.records i.reserve.store.persist (fill_of (config_in i.reserve.store.persist)) refl said) (puts.kept past.records h.store) in
    refill_stands low_power_role IsBefore (low_power_kind c.node_law.ensures.kept) m first old new over s c.if-self.false c.refill.new.self ready.published seq kept
    (fill_meaning past.records i.reserve.store.persist c.refill.new.self.store.persist said puts.value) c.refill.ensures.published
    (ap (λ (k : KeeperView). k.advances) (c.in-Ok.ensures.filled seen)) c.refill.ensures.leaves.frame (c.in-Ok.ensures.wear seen) c.refill.ensures.leaves.reads c.in-Ok.ensures.leaves.no_fault

pub returns-in-Err-clause-refused : goal.returns-in-Err-clause-refused
returns-in-Err-clause-refused g c =
    let i = c.self.inside in
    let m : LowPowerNode = machine_of i.reserve i.memory i.history i.fills i.closed i.hand i.elements in
    let ready : IsReadyBy IsBefore IsFitFor m = c.self.invariant c.if-self.false in
    let found : c.mark-seen.result ≡ c.persist.result.now.mark = grind (arith, nat_tests, c.if-seen-mark.false) in
    let stored : c.args.dry.mark ≡ c.persist.result.now.mark = sym c.mark-seen.ensures.value ∙ found in
    let seen : c.args.dry.mark ≡ i.reserve.keeper.mark = stored ∙ ap (λ (p : Persist). p.mark) c.persist.ensures.value ∙ sym ready.published in
    let old = g.F.Flash.chip c.args.flash.now in
    let new = g.F.Flash.chip c.refill.new.flash in
    let r = c.refill.new.self in
    let closes : Closes H.OfRefill (shown m) (shown (stopped_by m r m.tables H.OfRefill)) old new = record {
      usable = c.if-self.false;
      now = ap (λ which. record (shown m) { which = which; closed = true; hand = H.OfRefill; mark = r.keeper.mark }) c.refill.ensures.made;
      faults = (c.in-Err.ensures.fails seen ready.usable).cause.rose;
    } in
    subst (λ (v : LowPowerNode). Closes H.OfRefill (shown v) (shown (stopped_by m r m.tables H.OfRefill)) old new) c.self.view_is closes

pub returns-in-Err-clause-kept : goal.returns-in-Err-clause-kept
returns-in-Err-clause-kept g c first over stands =
    let i = c.self.inside in
    let m : LowPowerNode = machine_of i.reserve i.memory i.history i.fills i.closed i.hand i.elements in
    let ready : IsReadyBy IsBefore IsFitFor m = c.self.invariant c.if-self.false in
    let found : c.mark-seen.result ≡ c.persist.result.now.mark = grind (arith, nat_tests, c.if-seen-mark.false) in
    let stored : c.args.dry.mark ≡ c.persist.result.now.mark = sym c.mark-seen.ensures.value ∙ found in
    let seen : c.args.dry.mark ≡ i.reserve.keeper.mark = stored ∙ ap (λ (p : Persist). p.mark) c.persist.ensures.value ∙ sym ready.published in
    let seq : seq_of i.reserve.keeper.mark < 2 ^ 24 = subst (λ n. seq_of n < 2 ^ 24) seen c.requires.seq in
    let old = g.F.Flash.chip c.args.flash.now in
    let new = g.F.Flash.chip c.refill.new.flash in
    let s : Stands first old over m = subst (λ (v : LowPowerNode). Stands first old over v) (sym c.self.view_is) stands in
    let past : Past = past_now low_power_role over s.life.told i.fills in
    let h : IsOverBy IsBefore old past m = s.usable c.if-self.false in
    let leaves = c.refill.ensures.cut.any_moment past.records h.store in
    let cut : IsCutIn new past.records (fill_of (config_of past.records) ∷ []) c.refill.new.self.keeper.mark =
    subst (λ (item : StoreRecord). IsCutIn new past.records (item ∷ []) c.refill.new.self.keeper.mark) (fill_said past.records i.reserve.store.persist (fill_of (config_in i.reserve.store.persist)) refl h.before.node.meaning)
    (put_cut new past.records (fill_of (config_in i.reserve.store.persist)) c.refill.new.self.keeper.mark (c.refill.ensures.leaves.frame.honest ∙ s.life.node.honest)
    (λ image is. leaves.each image (g.met.F.Flash.counts_now c.refill.new.flash _ image leaves.later is)) (c.refill.ensures.durable past.records h.store)) in
    refill_stops low_power_role IsBefore (low_power_kind c.node_law.ensures.kept) m first old new over s c.if-self.false c.refill.new.self ready.published seq cut (c.in-Err.ensures.fails seen ready.usable).cause.rose c.refill.ensures.leaves.frame c.refill.ensures.most_wear c.refill.ensures.leaves.reads c.refill.ensures.leaves.once

use Rattle.std.proofs.Common.{◌≡◌, true, [], ◌∷◌, ◌++◌, ◌+◌, ◌<◌, ◌^◌, refl, ap, sym, subst, ◌∙◌, arith}
use Rattle.std.proofs.lemmas.Bool.Decides.{nat_tests}
use Rattle.machine_contract.specs.Refused.{Closes}
use Rattle.machine_contract.specs.Standing.{past_now}
use Rattle.machine_contract.specs.declared.answers.Hand.TheVariants as H
use Rattle.event_plans.specs.Memory.{IsFitFor}
use Rattle.machine_standing.proofs.Fronts.{IsSameNode}
use Rattle.machine_standing.proofs.Refills.{put_cut, refill_node, refill_ready, refill_stands, refill_stops}
use Rattle.machine_standing.specs.Ties.{IsCutIn}
use Rattle.machine_ties.proofs.Standings.{node_kind}
use Rattle.machine_ties.specs.Ties.{IsBefore, IsOver, IsReady, Stands, stopped}
use Rattle.machine_ties.specs.Views.{NodeMachine, shown}
use Rattle.mesh_machine.proofs.Same.{fill_elements, fill_keys}
use Rattle.mesh_machine.specs.Handling.{machine_of}
use Rattle.mesh_machine.proofs.Within.{within_refilled}
use Rattle.mesh_reading.specs.Held.{held_in}
use Rattle.node_layers.specs.NodeLayers.{node_layers}
use Rattle.node_records.specs.Meaning.{IsMeaningOf}
use Rattle.node_records.specs.Tables.{config_in}
use Rattle.node_records.specs.declared.persist.Persist.{Persist}
use Rattle.node_store.specs.Tie.{IsStoreOf}
use Rattle.record_types.specs.declared.records.StoreRecord.{StoreRecord}
use Rattle.event_definitions.specs.History.{Past}
use Rattle.event_definitions.specs.Role.{node_role}
use Rattle.seq_reserve.proofs.Keeping.{fill_meaning, fill_said}
use Rattle.seq_word.specs.Seen.{KeeperView}
use Rattle.seq_word.specs.Word.{seq_of}
use Rattle.store_definitions.specs.Config.{Config, changed, config_of}
use Rattle.store_definitions.specs.Numbers.{fill_of}
use Rattle.mesh_machine.proofs.state.MeshState.refill_numbers.Goals as goal

pub invariant_of-self : goal.invariant_of-self
invariant_of-self g c e =
    let i = c.self.inside in
    let m : NodeMachine = machine_of i.parts i.fills i.closed i.hand i.elements in
    let ready : IsReady m = c.self.invariant c.if-self.false in
    let found : c.mark-seen.result ≡ c.persist.result.now.mark = grind (arith, nat_tests, c.if-seen-mark.false) in
    let stored : c.args.dry.mark ≡ c.persist.result.now.mark = sym c.mark-seen.ensures.value ∙ found in
    let seen : c.args.dry.mark ≡ i.parts.reserve.keeper.mark = stored ∙ ap (λ (p : Persist). p.mark) c.persist.ensures.value ∙ sym ready.published in
    let seq : seq_of i.parts.reserve.keeper.mark < 2 ^ 24 = subst (λ n. seq_of n < 2 ^ 24) seen c.requires.seq in
    let r = c.refill.new.self in
    let change : config_in r.store.persist ≡ changed (config_in i.parts.reserve.store.persist) (fill_of (config_in i.parts.reserve.store.persist)) = (c.in-Ok.ensures.puts seen).change in
    let meaning : IsMeaningOf (ready.past.records ++ fill_of (config_of ready.past.records) ∷ []) r.store.persist =
    fill_meaning ready.past.records i.parts.reserve.store.persist r.store.persist ready.before.standing.meaning (c.in-Ok.ensures.puts seen).value in
    let node : IsSameNode (config_in i.parts.reserve.store.persist) (config_in r.store.persist) =
    refill_node (node_role node_layers) IsBefore (node_kind c.ties_law.ensures.laws) m ready.past r.store.persist ready.before ready.published seq meaning in
    refill_ready (node_role node_layers) IsBefore (node_kind c.ties_law.ensures.laws) m IsFitFor ready r seq meaning c.refill.ensures.published (c.in-Ok.ensures.puts seen).usable
    (record {
      keys = ready.fit.keys ∙ sym (ap held_in change ∙ fill_keys (config_in i.parts.reserve.store.persist));
      models = within_refilled c.node_models_law.ensures.within i.parts.tables.models i.parts.reserve.store.persist r.store.persist node ready.fit.models;
    })
    (ready.elements ∙ sym (ap (λ (x : Config). x.elements) change ∙ fill_elements (config_in i.parts.reserve.store.persist)))
    (ap (λ (k : KeeperView). k.mark) (c.in-Ok.ensures.filled seen) ∙ ap (λ n. n + 256) seen)

pub returns-in-Ok-clause-kept : goal.returns-in-Ok-clause-kept
returns-in-Ok-clause-kept g c first over stands =
    let i = c.self.inside in
    let m : NodeMachine = machine_of i.parts i.fills i.closed i.hand i.elements in
    let ready : IsReady m = c.self.invariant c.if-self.false in
    let found : c.mark-seen.result ≡ c.persist.result.now.mark = grind (arith, nat_tests, c.if-seen-mark.false) in
    let stored : c.args.dry.mark ≡ c.persist.result.now.mark = sym c.mark-seen.ensures.value ∙ found in
    let seen : c.args.dry.mark ≡ i.parts.reserve.keeper.mark = stored ∙ ap (λ (p : Persist). p.mark) c.persist.ensures.value ∙ sym ready.published in
    let seq : seq_of i.parts.reserve.keeper.mark < 2 ^ 24 = subst (λ n. seq_of n < 2 ^ 24) seen c.requires.seq in
    let old = g.F.Flash.chip c.args.flash.now in
    let new = g.F.Flash.chip c.refill.new.flash in
    let s : Stands first old over m = subst (λ (v : NodeMachine). Stands first old over v) (sym c.self.view_is) stands in
    let past : Past = past_now (node_role node_layers) over s.life.told i.fills in
    let h : IsOver old past m = s.usable c.if-self.false in
    let puts = c.in-Ok.ensures.puts seen in
    let said = h.before.standing.meaning in
    let kept : IsStoreOf new c.refill.new.self.store (past.records ++ fill_of (config_of past.records) ∷ []) =
    subst (λ (item : StoreRecord). IsStoreOf new c.refill.new.self.store (past.records ++ item ∷ [])) (fill_said past.records i.parts.reserve.store.persist (fill_of (config_in i.parts.reserve.store.persist)) refl said) (puts.kept past.records h.store) in
    refill_stands (node_role node_layers) IsBefore (node_kind c.ties_law.ensures.laws) m first old new over s c.if-self.false c.refill.new.self ready.published seq kept
    (fill_meaning past.records i.parts.reserve.store.persist c.refill.new.self.store.persist said puts.value) c.refill.ensures.published
    (ap (λ (k : KeeperView). k.advances) (c.in-Ok.ensures.filled seen)) c.refill.ensures.leaves.frame (c.in-Ok.ensures.wear seen) c.refill.ensures.leaves.reads c.in-Ok.ensures.leaves.no_fault

pub returns-in-Err-clause-refused : goal.returns-in-Err-clause-refused
returns-in-Err-clause-refused g c =
    let i = c.self.inside in
    let m : NodeMachine = machine_of i.parts i.fills i.closed i.hand i.elements in
    let ready : IsReady m = c.self.invariant c.if-self.false in
    let found : c.mark-seen.result ≡ c.persist.result.now.mark = grind (arith, nat_tests, c.if-seen-mark.false) in
    let stored : c.args.dry.mark ≡ c.persist.result.now.mark = sym c.mark-seen.ensures.value ∙ found in
    let seen : c.args.dry.mark ≡ i.parts.reserve.keeper.mark = stored ∙ ap (λ (p : Persist). p.mark) c.persist.ensures.value ∙ sym ready.published in
    let old = g.F.Flash.chip c.args.flash.now in
    let new = g.F.Flash.chip c.refill.new.flash in
    let r = c.refill.new.self in
    let closes : Closes H.OfRefill (shown m) (shown (stopped m r m.tables H.OfRefill)) old new = record {
      usable = c.if-self.false;
      now = ap (λ which. record (shown m) { which = which; closed = true; hand = H.OfRefill; mark = r.keeper.mark }) c.refill.ensures.made;
      faults = (c.in-Err.ensures.fails seen ready.usable).cause.rose;
    } in
    subst (λ (v : NodeMachine). Closes H.OfRefill (shown v) (shown (stopped m r m.tables H.OfRefill)) old new) c.self.view_is closes

pub returns-in-Err-clause-kept : goal.returns-in-Err-clause-kept
returns-in-Err-clause-kept g c first over stands =
    let i = c.self.inside in
    let m : NodeMachine = machine_of i.parts i.fills i.closed i.hand i.elements in
    let ready : IsReady m = c.self.invariant c.if-self.false in
    let found : c.mark-seen.result ≡ c.persist.result.now.mark = grind (arith, nat_tests, c.if-seen-mark.false) in
    let stored : c.args.dry.mark ≡ c.persist.result.now.mark = sym c.mark-seen.ensures.value ∙ found in
    let seen : c.args.dry.mark ≡ i.parts.reserve.keeper.mark = stored ∙ ap (λ (p : Persist). p.mark) c.persist.ensures.value ∙ sym ready.published in
    let seq : seq_of i.parts.reserve.keeper.mark < 2 ^ 24 = subst (λ n. seq_of n < 2 ^ 24) seen c.requires.seq in
    let old = g.F.Flash.chip c.args.flash.now in
    let new = g.F.Flash.chip c.refill.new.flash in
    let s : Stands first old over m = subst (λ (v : NodeMachine). Stands first old over v) (sym c.self.view_is) stands in
    let past : Past = past_now (node_role node_layers) over s.life.told i.fills in
    let h : IsOver old past m = s.usable c.if-self.false in
    let leaves = c.refill.ensures.cut.any_moment past.records h.store in
    let cut : IsCutIn new past.records (fill_of (config_of past.records) ∷ []) c.refill.new.self.keeper.mark =
    subst (λ (item : StoreRecord). IsCutIn new past.records (item ∷ []) c.refill.new.self.keeper.mark) (fill_said past.records i.parts.reserve.store.persist (fill_of (config_in i.parts.reserve.store.persist)) refl h.before.standing.meaning)
    (put_cut new past.records (fill_of (config_in i.parts.reserve.store.persist)) c.refill.new.self.keeper.mark (c.refill.ensures.leaves.frame.honest ∙ s.life.node.honest)
    (λ image is. leaves.each image (g.met.F.Flash.counts_now c.refill.new.flash _ image leaves.later is)) (c.refill.ensures.durable past.records h.store)) in
    refill_stops (node_role node_layers) IsBefore (node_kind c.ties_law.ensures.laws) m first old new over s c.if-self.false c.refill.new.self ready.published seq cut (c.in-Err.ensures.fails seen ready.usable).cause.rose c.refill.ensures.leaves.frame c.refill.ensures.most_wear c.refill.ensures.leaves.reads c.refill.ensures.leaves.once

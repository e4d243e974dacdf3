use Rattle.std.proofs.Common.{[], ◌∷◌, ◌++◌, ap, ◌∙◌, sym, subst, true≢false}
use Rattle.node_records.specs.declared.persist.Persist.{Persist}
use Rattle.node_records.specs.Meaning.{IsMeaningOf, IsSaid}
use Rattle.node_records.specs.Tables.{config_in, entry_in}
use Rattle.node_store.specs.Tie.{IsNoNumbers, IsPut}
use Rattle.node_store.specs.Writing.{CutLeaves, Puts}
use Rattle.node_store.proofs.Holding.{held_unchanged}
use Rattle.node_store.proofs.Puts.{put_cut, put_same_mark, room_moment}
use Rattle.record_types.specs.declared.records.StoreRecord.{StoreRecord}
use Rattle.store_definitions.specs.Config.{changed}
use Rattle.store_world.specs.Standing.{IsAboveKept}
use Rattle.store_world.proofs.Steps as step
use Rattle.rpl_journal.specs.Accepting.{accepting}
use Rattle.rpl_journal.proofs.Newer.{above_of}
use Rattle.rpl_journal.proofs.accepting.accept.Goals as goal

pub returns-in_err-check-clause-cut : goal.returns-in_err-check-clause-cut
returns-in_err-check-clause-cut g c =
    let chip = g.F.Flash.chip c.args.flash.now in
    let only = g.met.F.Flash.only_now c.args.flash.now in
    put_cut chip chip c.args.store.now (accepting c.args.name.now) tt
    (λ records tie. room_moment chip chip records (accepting c.args.name.now) (held_unchanged chip c.args.store.now records tie only))

pub returns-in_err-check-clause-same_mark : goal.returns-in_err-check-clause-same_mark
returns-in_err-check-clause-same_mark g c records tie =
    let chip = g.F.Flash.chip c.args.flash.now in
    put_same_mark chip c.args.store.now records (accepting c.args.name.now) tie chip chip tt
    (room_moment chip chip records (accepting c.args.name.now) (held_unchanged chip c.args.store.now records tie (g.met.F.Flash.only_now c.args.flash.now)))

pub returns-in_err-check-2-clause-cut : goal.returns-in_err-check-2-clause-cut
returns-in_err-check-2-clause-cut g c =
    let chip = g.F.Flash.chip c.args.flash.now in
    let only = g.met.F.Flash.only_now c.args.flash.now in
    put_cut chip chip c.args.store.now (accepting c.args.name.now) tt
    (λ records tie. room_moment chip chip records (accepting c.args.name.now) (held_unchanged chip c.args.store.now records tie only))

pub returns-in_err-check-2-clause-same_mark : goal.returns-in_err-check-2-clause-same_mark
returns-in_err-check-2-clause-same_mark g c records tie =
    let chip = g.F.Flash.chip c.args.flash.now in
    put_same_mark chip c.args.store.now records (accepting c.args.name.now) tie chip chip tt
    (room_moment chip chip records (accepting c.args.name.now) (held_unchanged chip c.args.store.now records tie (g.met.F.Flash.only_now c.args.flash.now)))

pub returns-in_err-put-clause-same_mark : goal.returns-in_err-put-clause-same_mark
returns-in_err-put-clause-same_mark g c records tie = c.in_err-put.ensures.same_mark records tie (subst (λ (i : StoreRecord). IsNoNumbers i) (sym c.record_of-item.ensures.value) tt)

pub returns-clause-same_mark : goal.returns-clause-same_mark
returns-clause-same_mark g c records tie = c.in_ok-put.ensures.same_mark records tie (subst (λ (i : StoreRecord). IsNoNumbers i) (sym c.record_of-item.ensures.value) tt)

pub returns-clause-same_config : goal.returns-clause-same_config
unfolding changed
returns-clause-same_config g c =
    c.in_ok-put.ensures.puts.change ∙ ap (λ (i : StoreRecord). changed (config_in c.args.store.now.persist) i) c.record_of-item.ensures.value

pub returns-clause-value : goal.returns-clause-value
returns-clause-value g c =
    let p = c.args.store.now.persist in
    let q = c.put.new.self.persist in
    let name = c.args.name.now in
    let said : IsSaid p = c.persist.ensures.said in
    let after : IsMeaningOf (said.records ++ accepting name ∷ []) q =
    subst (λ (i : StoreRecord). IsMeaningOf (said.records ++ i ∷ []) q) c.record_of-item.ensures.value (c.in_ok-put.ensures.puts.value said.records said.meaning) in
    let above : IsAboveKept (entry_in p name.src.0) name.pair =
    subst (λ (x : Persist). IsAboveKept (entry_in x name.src.0) name.pair) c.persist.ensures.value
    (above_of (entry_in c.persist.result.now name.src.0) name.pair (λ h. true≢false (sym (c.in_ok-check.ensures.exact.1 h)))) in
    step.entry_more p q said.records name said.meaning after c.requires.read above

pub returns-clause-steps : goal.returns-clause-steps
returns-clause-steps g c w published world =
    let p = c.args.store.now.persist in
    let q = c.put.new.self.persist in
    let name = c.args.name.now in
    let said : IsSaid p = c.persist.ensures.said in
    let after : IsMeaningOf (said.records ++ accepting name ∷ []) q =
    subst (λ (i : StoreRecord). IsMeaningOf (said.records ++ i ∷ []) q) c.record_of-item.ensures.value (c.in_ok-put.ensures.puts.value said.records said.meaning) in
    let above : IsAboveKept (entry_in p name.src.0) name.pair =
    subst (λ (x : Persist). IsAboveKept (entry_in x name.src.0) name.pair) c.persist.ensures.value
    (above_of (entry_in c.persist.result.now name.src.0) name.pair (λ h. true≢false (sym (c.in_ok-check.ensures.exact.1 h)))) in
    step.accept w p q published said.records name world said.meaning after c.requires.read above

pub returns-in_err-put-clause-cut : goal.returns-in_err-put-clause-cut
returns-in_err-put-clause-cut g c =
    subst (λ (i : StoreRecord). CutLeaves (λ records. IsPut records i) (g.F.Flash.chip c.args.flash.now) (g.F.Flash.chip c.put.new.flash) c.args.store.now) c.record_of-item.ensures.value
    c.in_err-put.ensures.cut

pub returns-clause-cut : goal.returns-clause-cut
returns-clause-cut g c =
    subst (λ (i : StoreRecord). CutLeaves (λ records. IsPut records i) (g.F.Flash.chip c.args.flash.now) (g.F.Flash.chip c.put.new.flash) c.args.store.now) c.record_of-item.ensures.value
    c.in_ok-put.ensures.cut

pub returns-clause-puts : goal.returns-clause-puts
returns-clause-puts g c =
    subst (λ (i : StoreRecord). Puts (i ∷ []) (g.F.Flash.chip c.args.flash.now) (g.F.Flash.chip c.put.new.flash) c.args.store.now c.put.new.self) c.record_of-item.ensures.value
    c.in_ok-put.ensures.puts

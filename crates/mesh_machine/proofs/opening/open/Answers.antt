use Rattle.std.proofs.Common.{◌≡◌, ◌∙◌, ℕ, List, [], false, refl, ap, sym, subst}
use Rattle.event_plans.specs.Memory.{AreNodeTablesOf, IsFitFor, NodeTablesView}
use Rattle.machine_standing.proofs.Opened.{opened_ready}
use Rattle.machine_standing.specs.Ties.{IsNodeStore}
use Rattle.machine_ties.proofs.Standings.{opened_before}
use Rattle.machine_ties.specs.Ties.{IsBefore, IsReady, opened}
use Rattle.machine_ties.specs.Views.{NodeMachine}
use Rattle.mesh_types.specs.declared.history.Entry.{Entry}
use Rattle.node_records.specs.Meaning.{IsMeaningOf}
use Rattle.node_records.specs.declared.persist.Persist.{Persist}
use Rattle.node_store.specs.View.{StoreView}
use Rattle.mesh_machine.proofs.opening.open.Goals as goal

pub invariant_of-apart : goal.invariant_of-apart
invariant_of-apart c e =
    let (over, node) = c.requires.node in
    let r = c.in_ok-reserve.reserve in
    let t = c.in_ok-tables.tables in
    let log = c.reserve_all.new.self in
    let store : c.args.store ≡ r.store = sym c.in_ok-reserve.ensures.store in
    let says : IsNodeStore over r.store.persist = subst (λ (s : StoreView). IsNodeStore over s.persist) store node in
    let meaning : IsMeaningOf over c.persist.result.now =
    subst (λ (p : Persist). IsMeaningOf over p) (sym c.persist.ensures.value) node.meaning in
    let base : IsReady (opened r t c.persist-p.result.now.elements) =
    opened_ready IsBefore IsFitFor over r t c.persist-p.result.now.elements
    (opened_before over r t c.persist-p.result.now.elements says (c.in_ok-tables.ensures.opened (record { told = []; records = over }) meaning refl)) c.in_ok-reserve.ensures.published
    (subst (λ (s : StoreView). IsFitFor t s.persist) store (subst (λ (p : Persist). IsFitFor t p) c.persist.ensures.value c.in_ok-tables.ensures.fit))
    (subst (λ (s : StoreView). s.journal.closed ≡ false) store c.requires.usable)
    (ap (λ (p : Persist). p.elements) c.persist-p.ensures.value) in
    subst (λ n. IsReady (record (opened r t c.persist-p.result.now.elements) { entries = log.entries; moves = log.moves; taken = n })) (sym (c.reserve_all.ensures.taken ∙ c.in_ok-history.ensures.taken))
    (subst (λ (l : List ℕ). IsReady (record (opened r t c.persist-p.result.now.elements) { entries = log.entries; moves = l })) (sym (c.reserve_all.ensures.moves ∙ c.in_ok-history.ensures.moves))
    (subst (λ (l : List Entry). IsReady (record (opened r t c.persist-p.result.now.elements) { entries = l })) (sym (c.reserve_all.ensures.entries ∙ c.in_ok-history.ensures.entries)) base))

pub returns-clause-tables : goal.returns-clause-tables
returns-clause-tables c over meaning =
    let boxed : c.in_ok-new.field-0.value.tables ≡ c.in_ok-tables.tables = ap (λ (m : NodeMachine). m.tables) c.in_ok-new.ensures.ok in
    subst (λ (t : NodeTablesView). AreNodeTablesOf t (record { told = []; records = over })) (sym boxed)
    (c.in_ok-tables.ensures.opened (record { told = []; records = over }) (subst (λ (p : Persist). IsMeaningOf over p) (sym c.persist.ensures.value) meaning) refl)

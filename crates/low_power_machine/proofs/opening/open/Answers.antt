use Rattle.std.proofs.Common.{◌≡◌, ℕ, List, false, ap, sym, subst, ◌∙◌}
use Rattle.low_power_definitions.specs.State.{no_friend}
use Rattle.low_power_machine.proofs.Kind.{opened_before}
use Rattle.low_power_machine.specs.Memory.{IsFitFor}
use Rattle.low_power_machine.specs.Views.{IsBefore}
use Rattle.machine_standing.proofs.Opened.{opened_ready}
use Rattle.machine_standing.specs.Ties.{IsNodeStore, IsReadyBy, opened_by}
use Rattle.mesh_types.specs.declared.history.Entry.{Entry}
use Rattle.node_records.specs.declared.persist.Persist.{Persist}
use Rattle.node_store.specs.View.{StoreView}
use Rattle.low_power_machine.proofs.opening.open.Goals as goal

pub invariant_of-apart : goal.invariant_of-apart
invariant_of-apart c e =
    let (over, node) = c.requires.node in
    let r = c.in_ok-reserve.reserve in
    let t = c.new-memory.result in
    let log = c.in_ok-history.history in
    let store : c.args.store ≡ r.store = sym c.in_ok-reserve.ensures.store in
    let says : IsNodeStore over r.store.persist = subst (λ (s : StoreView). IsNodeStore over s.persist) store node in
    let is : c.persist.result.now ≡ r.store.persist = c.persist.ensures.value ∙ ap (λ (s : StoreView). s.persist) store in
    let base : IsReadyBy IsBefore IsFitFor (opened_by r t c.persist-p.result.now.elements) =
    opened_ready IsBefore IsFitFor over r t c.persist-p.result.now.elements
    (opened_before over r t c.persist-p.result.now.elements says (c.new-memory.ensures.lpn ∙ ap (λ (p : Persist). no_friend p.unicast p.elements) is)) c.in_ok-reserve.ensures.published
    (subst (λ (p : Persist). IsFitFor t p) is c.new-memory.ensures.fit)
    (subst (λ (s : StoreView). s.journal.closed ≡ false) store c.requires.usable)
    (ap (λ (p : Persist). p.elements) c.persist-p.ensures.value) in
    subst (λ n. IsReadyBy IsBefore IsFitFor (record (opened_by r t c.persist-p.result.now.elements) { entries = log.entries; moves = log.moves; taken = n })) (sym c.in_ok-history.ensures.taken)
    (subst (λ (l : List ℕ). IsReadyBy IsBefore IsFitFor (record (opened_by r t c.persist-p.result.now.elements) { entries = log.entries; moves = l })) (sym c.in_ok-history.ensures.moves)
    (subst (λ (l : List Entry). IsReadyBy IsBefore IsFitFor (record (opened_by r t c.persist-p.result.now.elements) { entries = l })) (sym c.in_ok-history.ensures.entries) base))

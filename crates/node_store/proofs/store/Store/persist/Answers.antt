use Rattle.std.proofs.Common.{subst}
use Rattle.node_records.specs.Meaning.{IsSaid}
use Rattle.node_store.specs.View.{StoreView}
use Rattle.node_store.proofs.store.Store.persist.Goals as goal

pub returns-clause-numbers : goal.returns-clause-numbers
returns-clause-numbers c =
    let p = c.args.self.now.persist in
    let said : IsSaid p = subst (λ (v : StoreView). IsSaid v.persist) c.self.view_is c.self.invariant.0 in
    let law = c.value_law.ensures in
    record { current = law.current p said; transmit = law.transmit p said; mark = law.mark p said; hours = law.hours p said; since = law.since p said }

use Rattle.std.proofs.Common.{◌∙◌, ap, sym}
use Rattle.std.specs.Prelude.{not, if◌then◌else◌}
use Rattle.layer_states.specs.Cache.{remembered}
use Rattle.mesh_base.specs.declared.pair.Name.{Name}
use Rattle.relay_cache.proofs.Names.{held_is, is_put}
use Rattle.relay_cache.proofs.cache.Cache.first.Goals as goal

pub returns-then-contains-clause-value : goal.returns-then-contains-clause-value
returns-then-contains-clause-value c =
    let k : Name = record { src = c.args.src; pair = c.args.pair } in
    let held = held_is c.self.inside.names c.args.self.now k c.contains.result c.self.view_is c.contains.ensures in
    ap (λ b. not b) (sym c.if-contains.true ∙ held)

pub returns-then-contains-clause-state : goal.returns-then-contains-clause-state
returns-then-contains-clause-state c =
    let k : Name = record { src = c.args.src; pair = c.args.pair } in
    let held = held_is c.self.inside.names c.args.self.now k c.contains.result c.self.view_is c.contains.ensures in
    ap (λ b. if b then c.args.self.now else remembered c.args.self.now k) (sym c.if-contains.true ∙ held)

pub invariant_of-self-2 : goal.invariant_of-self-2
invariant_of-self-2 c =
    let k : Name = record { src = c.args.src; pair = c.args.pair } in
    let put = is_put c.self.inside.names c.put.new.self k c.self.invariant.0 (sym c.contains.ensures ∙ c.if-contains.false) c.in-Ok.ensures.entries in
    (put.cap, put.few)

pub returns-clause-value : goal.returns-clause-value
returns-clause-value c =
    let k : Name = record { src = c.args.src; pair = c.args.pair } in
    let held = held_is c.self.inside.names c.args.self.now k c.contains.result c.self.view_is c.contains.ensures in
    ap (λ b. not b) (sym c.if-contains.false ∙ held)

pub returns-clause-state : goal.returns-clause-state
returns-clause-state c =
    let k : Name = record { src = c.args.src; pair = c.args.pair } in
    let held = held_is c.self.inside.names c.args.self.now k c.contains.result c.self.view_is c.contains.ensures in
    let put = is_put c.self.inside.names c.put.new.self k c.self.invariant.0 (sym c.contains.ensures ∙ c.if-contains.false) c.in-Ok.ensures.entries in
    put.names
    ∙ ap (λ names. remembered names k) c.self.view_is
    ∙ ap (λ b. if b then c.args.self.now else remembered c.args.self.now k) (sym c.if-contains.false ∙ held)

-- The closure gives a name's source.
use Rattle.std.proofs.Common.{rules}
use Rattle.std.proofs.lemmas.List.Sorted.{answers_always}
use Rattle.mesh_base.specs.declared.pair.Name.{Name}
use Rattle.mesh_hearing.proofs.Halves.{found_by, missing_by}
use Rattle.mesh_hearing.proofs.again.place_of.Goals as goal

pub returns-clause-found : goal.returns-clause-found
returns-clause-found c =
    let facts = c.binary_search_by_key.ensures in
    let by = facts.position (λ (n : Name). n.src.0) (answers_always _ _ _ (λ f a r g called. search rules)) in
    found_by c.args.names.now c.args.src c.binary_search_by_key.result facts.bound by

pub returns-clause-missing : goal.returns-clause-missing
returns-clause-missing c = λ rising.
    let facts = c.binary_search_by_key.ensures in
    let by = facts.position (λ (n : Name). n.src.0) (answers_always _ _ _ (λ f a r g called. search rules)) in
    missing_by c.args.names.now c.args.src c.binary_search_by_key.result by rising

use Rattle.std.proofs.Common.{◌≡◌, ◌∙◌, ◌++◌, ◌∷◌, [], length, map, sym, ap, subst}
use Rattle.std.proofs.lemmas.List.{length-map}
use Rattle.mesh_node.specs.Going.{AreTold, IsGoing, IsOver}
use Rattle.mesh_node.specs.Given.{BeginWith}
use Rattle.mesh_node.proofs.Growing.{begin_both}
use Rattle.mesh_node.proofs.Stepping.{length_both}
use Rattle.mesh_node.proofs.steps.do_phase.Goals as goal

pub returns-clause-told : goal.returns-clause-told
returns-clause-told g c = λ told.
    subst (λ es. AreTold es c.in_ok-done.done.node) (sym c.in_ok-add.ensures.entries) (c.in_ok-done.ensures.told c.args.log.now.entries.items told)

pub returns-clause-going : goal.returns-clause-going
returns-clause-going g c = λ phases h off.
    let more = c.in_ok-done.ensures.going phases (map (λ v. v.items) c.args.log.now.sends.items) h off in
    subst (λ ss. IsGoing (phases ++ map (λ v. v.items) c.args.lists.now ∷ []) c.in_ok-done.done.node c.one_phase.new.seats.drawer ss c.one_phase.new.seats.counts.items) (sym c.in_ok-add.ensures.sends) more

pub returns-clause-over : goal.returns-clause-over
returns-clause-over g c = λ phases rest h on.
    let over = c.in_ok-done.ensures.over phases rest (map (λ v. v.items) c.args.log.now.sends.items) h on in
    subst (λ ss. IsOver (phases ++ map (λ v. v.items) c.args.lists.now ∷ rest) c.in_ok-done.done.node c.one_phase.new.seats.drawer ss) (sym c.in_ok-add.ensures.sends) over

pub returns-clause-many : goal.returns-clause-many
returns-clause-many g c =
    let old = c.args.log.now.sends.items in
    let more = c.in_ok-done.done.log.sends.items in
    let same : length (map (λ v. v.items) old) ≡ length (map (λ v. v.items) more) = length-map old (λ v. v.items) ∙ c.requires.sends ∙ sym c.in_ok-done.ensures.bearers ∙ sym (length-map more (λ v. v.items)) in
    (c.in_ok-done.ensures.many, sym (length-map c.add.new.self.sends.items (λ v. v.items)) ∙ ap length c.in_ok-add.ensures.sends ∙ length_both (map (λ v. v.items) old) (map (λ v. v.items) more) same ∙ length-map old (λ v. v.items))

pub returns-clause-longer : goal.returns-clause-longer
returns-clause-longer g c =
    let old = map (λ v. v.items) c.args.log.now.sends.items in
    subst (BeginWith old) (sym c.in_ok-add.ensures.sends) (begin_both old (map (λ v. v.items) c.in_ok-done.done.log.sends.items))

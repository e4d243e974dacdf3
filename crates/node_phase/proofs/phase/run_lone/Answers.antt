use Rattle.std.proofs.Common.{◌≡◌, ◌∙◌, ◌++◌, map, [], ◌∷◌, ap, sym, subst, get_or}
use Rattle.node_phase.specs.Worked.{WasPhase}
use Rattle.node_phase.proofs.Parting.{lone}
use Rattle.node_phase.proofs.phase.run_lone.Goals as goal

pub returns-clause-was : goal.returns-clause-was
returns-clause-was g c =
    let old = c.args.node in
    let new = c.in_ok-node.node in
    let d = c.args.drawer.now in
    let e = c.run_alone.new.drawer in
    let events = c.as_slice-events.result.now in
    let counts = c.args.counts.now in
    let dones = c.push.new.self.items in
    let all : events ∷ [] ≡ map (λ v. v.items) c.args.plan.now =
    ap (λ es. es ∷ []) c.as_slice-events.ensures.value
    ∙ ap (map (λ v. v.items)) (ap (λ v. v ∷ []) c.index-plan-0.is ∙ lone c.args.plan.now c.index-plan-0.result c.requires.lone) in
    let first : get_or counts 0 0 ∷ [] ≡ counts = lone counts 0 (sym c.requires.plan ∙ c.requires.lone) in
    let left : c.in_ok-node.done ∷ [] ≡ dones =
    sym (c.in_ok-push.ensures.items ∙ ap (λ ds. ds ++ c.in_ok-node.done ∷ []) c.in_ok-dones.ensures.items) in
    subst (λ es. WasPhase old new d e es counts dones) all
    (subst (λ ns. WasPhase old new d e (events ∷ []) ns dones) first
    (subst (WasPhase old new d e (events ∷ []) (get_or counts 0 0 ∷ [])) left c.in_ok-node.ensures.was))

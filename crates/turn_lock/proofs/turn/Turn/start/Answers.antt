use Rattle.std.proofs.Common.{◌≡◌, ◌^◌, ◌<◌, [], ◌∷◌, ◌++◌, length, Some, subst, sym, ap, ◌∙◌}
use Rattle.atomic_table.specs.Table.{opening}
use Rattle.turn_lock.specs.Views.{starting}
use Rattle.turn_lock.specs.Rule.{Ruled}
use Rattle.turn_lock.proofs.Moves.{starts}
use Rattle.turn_lock.proofs.turn.Turn.start.Goals as goal

pub new-requires : goal.new-requires
new-requires g c =
    let entries = g.T.Logged.entries in
    let origin = g.T.Logged.origin in
    let first = c.of-first.result.value in
    let same : c.args.value ≡ first = sym c.of-first.ensures in
    let few : length (entries first) < 2 ^ 64 = subst (λ x. length (entries x) < 2 ^ 64) same c.requires.few in
    let count : length (entries first) ≡ c.count.result = sym (c.count.ensures.value ∙ ap (λ x. length (entries x)) same) in
    let home : Some first ∷ [] ≡ c.push.new.self.items = sym (c.in_ok-push.ensures.items ∙ ap (λ l. l ++ (Some c.args.value ∷ [])) c.new-home.ensures.items ∙ ap (λ x. Some x ∷ []) same) in
    subst (λ n. Ruled entries origin first (opening (0 ∷ 0 ∷ n ∷ []) c.push.new.self.items (starting first (entries first)))) count
    (subst (λ l. Ruled entries origin first (opening (0 ∷ 0 ∷ length (entries first) ∷ []) l (starting first (entries first)))) home (starts entries origin first few))

use Rattle.std.proofs.Common.{true≢false}
use Rattle.called_node.proofs.Taking.{is_left}
use Rattle.called_node.proofs.called.CalledNode+M+NotedFlash.has_left.Goals as goal

pub returns-in-Some : goal.returns-in-Some
returns-in-Some g c =
    let some = c.in-Some.ensures.value in
    record { value = (λ e. absurd (true≢false e), λ t. is_left c.args.self.now.writes _ some.0 some.1 t.writes) }

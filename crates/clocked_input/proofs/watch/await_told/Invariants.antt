use Rattle.clocked_input.proofs.Watching.{IsWatched}
use Rattle.clocked_input.proofs.watch.await_told.Given as goal

abbrev pub invariant-loop-look : goal.invariant-loop-look
invariant-loop-look g l = IsWatched l.told l.due (g.W.Watch.view l.fn.watch) (g.W.Watch.view l.watch)

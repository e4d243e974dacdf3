use Rattle.std.proofs.Common.{map, ap, ◌∙◌}
use Rattle.std.specs.Prelude.{drop}
use Rattle.file_flash.specs.Noted.{put_of}
use Rattle.called_node.specs.Called.{is_erase}
use Rattle.called_node.proofs.Taking.{passed}
use Rattle.called_node.proofs.called.CalledNode+M+NotedFlash.pass_write.Goals as goal

pub returns-then-self-len-clause-writes : goal.returns-then-self-len-clause-writes
returns-then-self-len-clause-writes g c put rest e =
    passed c.self.inside.taken (map put_of c.self.inside.writes.items) c.args.self.now.writes rest (ap (λ n. n.writes) c.self.view_is) (ap (drop 1) e)

pub returns-then-self-len-clause-kinds : goal.returns-then-self-len-clause-kinds
returns-then-self-len-clause-kinds g c erase rest e =
    passed c.self.inside.taken (map is_erase c.self.inside.writes.items) c.args.self.now.erases rest (ap (λ n. n.erases) c.self.view_is) (ap (drop 1) e)

pub returns-then-self-len-clause-none : goal.returns-then-self-len-clause-none
returns-then-self-len-clause-none g c e =
    passed c.self.inside.taken (map put_of c.self.inside.writes.items) c.args.self.now.writes _ (ap (λ n. n.writes) c.self.view_is) (ap (drop 1) e)

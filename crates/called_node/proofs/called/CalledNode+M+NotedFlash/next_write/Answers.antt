use Rattle.std.proofs.Common.{rules, ◌≡◌, map, ap}
use Rattle.std.specs.Prelude.{drop}
use Rattle.std.specs.Slice.{IsItemAt}
use Rattle.file_flash.specs.Noted.{put_of}
use Rattle.called_node.specs.Called.{is_erase}
use Rattle.called_node.proofs.Taking.{next_kind, next_left}
use Rattle.called_node.proofs.called.CalledNode+M+NotedFlash.next_write.Goals as goal

pub returns-clause-value : goal.returns-clause-value
returns-clause-value g c =
    let xs = c.self.inside.writes.items in
    let there : IsItemAt xs c.self.inside.taken c.get.result = search rules in
    let is : drop c.self.inside.taken (map put_of xs) ≡ c.args.self.now.writes = ap (λ n. n.writes) c.self.view_is in
    next_left xs c.self.inside.taken c.get.result c.args.self.now.writes is there

pub returns-clause-kind : goal.returns-clause-kind
returns-clause-kind g c =
    let xs = c.self.inside.writes.items in
    let there : IsItemAt xs c.self.inside.taken c.get.result = search rules in
    let is : drop c.self.inside.taken (map is_erase xs) ≡ c.args.self.now.erases = ap (λ n. n.erases) c.self.view_is in
    next_kind xs c.self.inside.taken c.get.result c.args.self.now.erases is there

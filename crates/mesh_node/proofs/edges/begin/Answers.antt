use Rattle.std.proofs.Common.{◌∙◌, ap}
use Rattle.store_definitions.specs.Config.{config_of}
use Rattle.mesh_node.proofs.edges.begin.Goals as goal

-- it opens at the mark that the records say
pub new-requires-clause-published : goal.new-requires-clause-published
new-requires-clause-published g c κs lives = λ over read.
    let s = c.requires.started in
    s.published ∙ ap (λ o. (config_of o).mark) (c.one_list_is_recovered.ensures.one_list (g.F.Flash.chip c.args.beginning.start).now s.over over s.read read)

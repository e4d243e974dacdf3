use Rattle.std.proofs.Common.{rules, ◌≡◌, ◌∙◌, List, Vec, Global, Some, ap, map, refl, subst}
use Rattle.mesh_types.specs.declared.events.Event.{Event}
use Rattle.file_flash.specs.Noted.{put_of}
use Rattle.called_node.specs.Called.{IsGiven, is_erase}
use Rattle.called_node.proofs.Lines.{events_again, line_done, one_list}
use Rattle.called_node.proofs.Taking.{lost_is}
use Rattle.called_node.proofs.called.CalledNode+M+NotedFlash.line.Goals as goal

pub do_line-requires-clause-events : goal.do_line-requires-clause-events
do_line-requires-clause-events g c κs within =
    let is : c.args.self.now.life ≡ Some c.in-Some.life = search rules in
    let same : c.in-Ok.lists.items ≡ c.as_slice.result.now = search rules in
    let given : IsGiven c.args.text.now c.args.self.now (map (λ v. v.items) c.as_slice.result.now) =
    subst (λ (ls : List (Vec Event Global)). IsGiven c.args.text.now c.args.self.now (map (λ v. v.items) ls)) same c.in-Ok.ensures.given in
    events_again c.args.text.now c.args.self.now c.as_slice.result.now c.in-Some.life given is

pub do_line-requires-clause-one : goal.do_line-requires-clause-one
do_line-requires-clause-one g c κs within =
    let same : c.in-Ok.lists.items ≡ c.as_slice.result.now = search rules in
    let given : IsGiven c.args.text.now c.args.self.now (map (λ v. v.items) c.as_slice.result.now) =
    subst (λ (ls : List (Vec Event Global)). IsGiven c.args.text.now c.args.self.now (map (λ v. v.items) ls)) same c.in-Ok.ensures.given in
    one_list c.args.text.now c.args.self.now c.as_slice.result.now given

pub returns-in-Ok-do_line-clause-happened : goal.returns-in-Ok-do_line-clause-happened
returns-in-Ok-do_line-clause-happened g c e =
    let is : c.args.self.now.life ≡ Some c.in-Some.life = search rules in
    let same : c.in-Ok.lists.items ≡ c.as_slice.result.now = search rules in
    let given : IsGiven c.args.text.now c.args.self.now (map (λ v. v.items) c.as_slice.result.now) =
    subst (λ (ls : List (Vec Event Global)). IsGiven c.args.text.now c.args.self.now (map (λ v. v.items) ls)) same c.in-Ok.ensures.given in
    let left = c.in-Ok-do_line.left in
    line_done g.M.Machine.role g.M.Machine.image _ _ c.args.text.now c.args.self.now _ (map (λ v. v.items) c.as_slice.result.now) c.in-Some.life left.life
    (map put_of left.writes.items) (map is_erase left.writes.items) left.report.items given is c.keep.ensures.value c.in-Ok-do_line.ensures.done

pub returns-clause-lost : goal.returns-clause-lost
returns-clause-lost g c same =
    let inside = c.self.inside in
    let stays = c.self.view_is ∙ c.phase_of.ensures.frame in
    lost_is c.args.self.now _ c.replace.new.dest inside.writes.items inside.taken inside.report.items c.replace.ensures.after
    (ap (λ n. n.writes) stays) (ap (λ n. n.report) stays) c.in-Ok.ensures.given.said.taken refl

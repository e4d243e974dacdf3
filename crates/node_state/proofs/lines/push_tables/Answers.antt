use Rattle.std.proofs.Common.{codes, refl}
use Rattle.std.proofs.lemmas.Result.{IfOk-equal}
use Rattle.node_state.proofs.Joined.{counted, five}
use Rattle.node_state.proofs.lines.push_tables.Goals as goal

pub returns : goal.returns
returns c = record {
  ok = IfOk-equal c.push_count-5.result _ _ _ c.push_count-5.ensures.ok
      (five c.args.text.now c.push_count.new.text c.push_count-2.new.text c.push_count-3.new.text c.push_count-4.new.text _ _ _ _ _ _
      (counted _ _ (codes "bindings") _ _ c.in_ok-push_count.ensures.ok c.len.ensures.value)
      (counted _ _ (codes "groups") _ _ c.in_ok-push_count-2.ensures.ok c.len-2.ensures.value)
      (counted _ _ (codes "labels") _ _ c.in_ok-push_count-3.ensures.ok c.len-3.ensures.value)
      (counted _ _ (codes "publications") _ _ c.in_ok-push_count-4.ensures.ok c.len-4.ensures.value)
      (counted _ _ (codes "replay") _ _ refl c.len-5.ensures.value));
}

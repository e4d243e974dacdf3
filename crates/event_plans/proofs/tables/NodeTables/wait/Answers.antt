use Rattle.std.proofs.Common.{◌≡◌, ap, List, subst, sym}
use Rattle.event_plans.proofs.Waiting.{friends_wait}
use Rattle.event_plans.specs.Memory.{AreNodeTablesOf, NodeTablesView}
use Rattle.layer_states.specs.Friends as friendship
use Rattle.layer_states.specs.Friends.{FriendsState}
use Rattle.layer_states.specs.Reassembly as reassembly
use Rattle.layer_states.specs.Sending as sending
use Rattle.layer_states.specs.declared.reassembly.Assembly.{Assembly}
use Rattle.layer_states.specs.declared.sending.Sending.{Sending}
use Rattle.event_plans.proofs.tables.NodeTables.wait.Goals as goal

pub returns-clause-tables : goal.returns-clause-tables
returns-clause-tables c = λ past e records are still least nothing ticked same elements.
    let now = c.args.now in
    let t = subst (λ (v : NodeTablesView). AreNodeTablesOf v past) (sym c.self.view_is) are in
    record {
      hearing = c.wait.ensures.tables past.told e t.hearing
          (subst (λ (rows : List Assembly). reassembly.after rows (reassembly.tick now) ≡ rows) (sym t.hearing.parts) still.parts)
          (subst (λ (rows : List Sending). sending.after rows (sending.due now) ≡ rows) (sym t.hearing.own) still.own)
          nothing ticked;
      models = c.wait-2.ensures.models past e records t.models same ticked elements;
      friends = friends_wait c.friends_law.ensures.more past c.self.inside.friends now e t.friends least c.requires.most
          (subst (λ (st : FriendsState). friendship.after st (friendship.tick now) ≡ st) (sym t.friends) still.friends)
          still.rows nothing ticked same;
    }

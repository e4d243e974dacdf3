use Rattle.std.proofs.Common.{codes, ◌∙◌, ◌++◌, ap, length, List, ℕ}
use Rattle.std.specs.List.{flat_map}
use Rattle.mesh_base.specs.declared.keys.AppKeyRow.{AppKeyRow}
use Rattle.mesh_base.specs.declared.keys.NetKeyRow.{NetKeyRow}
use Rattle.node_records.specs.Tables.{config_in}
use Rattle.node_state.specs.State.{Shown, app_line, app_shown, count_line, net_line, net_shown, next_line, node_line, shown_of, state_text_of, table_lines}
use Rattle.node_state.proofs.Joined.{mapped, seven}
use Rattle.node_state.proofs.lines.state_text.Goals as goal

pub returns : goal.returns
unfolding state_text_of
returns c =
    let s : Shown = shown_of (config_in c.args.p.now) (length c.args.p.now.replay) c.args.slots c.args.format in
    record {
      value = seven c.push_node.new.text c.push_next.new.text c.push_nets.new.text c.push_apps.new.text c.push_tables.new.text c.push_count.new.text c.push_count-2.new.text
          (node_line s.unicast s.elements) (next_line s.reset s.iv s.mark) (flat_map net_line s.nets) (flat_map app_line s.apps) (table_lines s) (count_line (codes "slots") s.slots) (count_line (codes "format") s.format)
          (c.in_ok-push_node.ensures.ok ∙ ap (λ (t : List ℕ). t ++ node_line s.unicast s.elements) c.new-text.ensures.value)
          c.in_ok-push_next.ensures.ok
          (c.in_ok-push_nets.ensures.ok ∙ ap (λ (rows : List NetKeyRow). c.push_next.new.text ++ flat_map (λ row. net_line (net_shown row)) rows) c.as_slice.ensures.value
          ∙ ap (λ (t : List ℕ). c.push_next.new.text ++ t) (mapped net_line net_shown (config_in c.args.p.now).nets))
          (c.in_ok-push_apps.ensures.ok ∙ ap (λ (rows : List AppKeyRow). c.push_nets.new.text ++ flat_map (λ row. app_line (app_shown row)) rows) c.as_slice-2.ensures.value
          ∙ ap (λ (t : List ℕ). c.push_nets.new.text ++ t) (mapped app_line app_shown (config_in c.args.p.now).apps))
          c.in_ok-push_tables.ensures.ok c.in_ok-push_count.ensures.ok c.in_ok-push_count-2.ensures.ok;
    }

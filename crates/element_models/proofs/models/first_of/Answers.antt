use Rattle.std.proofs.Common.{List, [], ◌∷◌, ◌++◌, ap, arith, map, sym, ◌∙◌}
use Rattle.std.specs.Prelude.{length}
use Rattle.std.specs.List.{range_with_len}
use Rattle.std.proofs.lemmas.List.FromFn.{length-map-range_with_len, map-range_with_len_more}
use Rattle.element_models.specs.Stepping.{servers_first}
use Rattle.element_models.specs.declared.servers.Servers.{Servers}
use Rattle.node_records.specs.Tables.{config_in}
use Rattle.element_models.proofs.models.first_of.Goals as goal

pub push-requires : goal.push-requires
push-requires c =
    omega (arith, ap (λ (ss : List Servers). length ss) c.loop-element.invariant, length-map-range_with_len (servers_first (config_in c.args.p.now)) 0 c.loop-element.element)

pub loop-element-preserved : goal.loop-element-preserved
loop-element-preserved c =
    let first = servers_first (config_in c.args.p.now) in
    c.push.ensures.items
    ∙ ap (λ (ss : List Servers). ss ++ c.first_servers.result ∷ []) c.loop-element.invariant
    ∙ ap (λ (s : Servers). map first (range_with_len 0 c.loop-element.element) ++ s ∷ []) c.first_servers.ensures
    ∙ sym (map-range_with_len_more first 0 c.loop-element.element c.loop-element.element (omega arith))

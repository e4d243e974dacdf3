use Rattle.std.proofs.Common.{◌≡◌, ◌∙◌, ◌+◌, length, ap, arith}
use Rattle.std.specs.Prelude.{◌==◌, if◌then◌else◌, List, Option, Some}
use Rattle.std.proofs.lemmas.List.Edits.{length-remove}
use Rattle.mesh_base.specs.declared.pair.Name.{Name}
use Rattle.mesh_base.specs.declared.pair.Pair.{Pair}
use Rattle.node_records.specs.Tables.{pair_of}
use Rattle.node_records.proofs.Changes.{taken}
use Rattle.node_records.proofs.Sources.{none_removed, remove_pairs, remove_stands}
use Rattle.node_records.proofs.replay.replace.Goals as goal

pub put_row-requires : goal.put_row-requires
put_row-requires c = record {
  order = rw c.remove.ensures.value (remove_stands c.args.rows.now c.args.place c.requires.order c.requires.within);
  none = rw c.remove.ensures.value (none_removed c.args.rows.now c.args.place c.args.name.now c.requires.order c.requires.within c.requires.none);
}

pub unwrap-requires : goal.unwrap-requires
unwrap-requires c =
    let fewer : length c.remove.new.self + 1 ≡ length c.args.rows.now = rw c.remove.ensures.value (length-remove c.args.rows.now c.args.place c.requires.within) in
    c.put_row.ensures.variant.1 (omega (arith, fewer, c.len-held.ensures.length, c.len-held.ensures.value))

pub returns-clause-value : goal.returns-clause-value
returns-clause-value c = λ src d.
    let rows = c.args.rows.now in
    let n = c.args.name.now in
    let fewer : length c.remove.new.self + 1 ≡ length rows = rw c.remove.ensures.value (length-remove rows c.args.place c.requires.within) in
    let put = taken c.put_row.result _ (c.put_row.ensures.variant.1 (omega (arith, fewer, c.len-held.ensures.length, c.len-held.ensures.value))) c.put_row.ensures.ok in
    put src
    ∙ ap (λ (o : Option Pair). if n.src.0 == src then Some n.pair else o)
    (ap (λ (xs : List Name). pair_of xs src) c.remove.ensures.value ∙ remove_pairs rows c.args.place d src c.requires.order c.requires.within)

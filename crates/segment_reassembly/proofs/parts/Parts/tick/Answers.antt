use Rattle.std.proofs.Common.{◌≡◌, ◌∙◌, List, ap, map, subst, sym}
use Rattle.std.specs.Prelude.{IsTrue, length}
use Rattle.std.specs.List.{list_all, refill}
use Rattle.layer_states.specs.Reassembly.{live, rung}
use Rattle.layer_states.specs.declared.reassembly.Assembly.{Assembly}
use Rattle.segment_reassembly.specs.Short.{is_short}
use Rattle.mesh_base.proofs.Every.{refill_same}
use Rattle.segment_reassembly.proofs.Short.{all_rung_short, live_short}
use Rattle.segment_reassembly.proofs.parts.Parts.tick.Goals as goal

pub invariant_of-self : goal.invariant_of-self
invariant_of-self c =
    let rows = c.expire.new.rows.items in
    let left : refill (length rows) rows c.ring_all.new.rows ≡ map (rung c.args.now) (live c.args.now c.self.inside.rows.items) =
    refill_same rows c.ring_all.new.rows (c.ring_all.auto.rows ∙ ap (λ rows. length rows) c.as_mut_slice.ensures.value)
    ∙ c.ring_all.ensures
    ∙ ap (λ rows. map (rung c.args.now) rows) (c.as_mut_slice.ensures.value ∙ c.expire.ensures) in
    let AreShort : List Assembly → Type 0 = λ rows. IsTrue (list_all is_short rows) in
    subst AreShort (sym left) (all_rung_short c.args.now (live c.args.now c.self.inside.rows.items) (live_short c.args.now c.self.inside.rows.items c.self.invariant))

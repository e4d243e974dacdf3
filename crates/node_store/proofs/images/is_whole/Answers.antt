use Rattle.std.proofs.Common.{◌≡◌, ◌∙◌, List, All, true, sym, subst, true≢false}
use Rattle.mesh_base.specs.declared.keys.AppKeyRow.{AppKeyRow}
use Rattle.mesh_base.specs.declared.keys.NetKeyRow.{NetKeyRow}
use Rattle.store_definitions.specs.Node.{IsPhased, is_held}
use Rattle.node_store.proofs.images.is_whole.Goals as goal

abbrev AreBound : List NetKeyRow → List AppKeyRow → Type 0
AreBound nets apps = All (λ (row : AppKeyRow). is_held nets row.net ≡ true) apps

pub returns : goal.returns
returns c =
    let p = c.args.p.now in
    let law = c.value_law.ensures in
    let said = c.requires.said in
    let identity = c.has_identity.ensures.0 c.if-not-has_identity.false in
    let phased : All IsPhased p.nets = subst (All IsPhased) c.as_slice.ensures.value (c.all_phased.ensures.0 c.if-not-all_phased.false) in (
      λ bound. record {
        some = identity.0;
        few = identity.1;
        unicast = identity.2;
        last = identity.3;
        current = law.current p said;
        transmit = law.transmit p said;
        mark = law.mark p said;
        nets = λ none. absurd (true≢false (sym (c.is_empty.ensures.1 none) ∙ c.if-is_empty.false));
        phased = phased;
        bound = subst (λ (rows : List AppKeyRow). AreBound p.nets rows) c.as_slice-3.ensures.value
            (subst (λ (nets : List NetKeyRow). AreBound nets c.as_slice-3.result.now) c.as_slice-2.ensures.value (c.all_bound.ensures.0 bound));
      },
      λ whole. c.all_bound.ensures.1
          (subst (λ (nets : List NetKeyRow). AreBound nets c.as_slice-3.result.now) (sym c.as_slice-2.ensures.value)
          (subst (λ (rows : List AppKeyRow). AreBound p.nets rows) (sym c.as_slice-3.ensures.value) whole.bound)),
    )

use Rattle.std.proofs.Common.{refl, true≢false, sym}
use Rattle.node_store.proofs.Follows.{falls_of, rises_of}
use Rattle.node_store.proofs.Takes.{refused_by}
use Rattle.node_store.proofs.mounting.take.Goals as goal

pub returns-then-not-rises-clause-damaged : goal.returns-then-not-rises-clause-damaged
returns-then-not-rises-clause-damaged c =
    let ok = c.in-Ok.ensures.ok in (
      refl,
      refused_by c.args.format c.args.persist.now c.args.slot.now c.in-Ok.item ok.0 ok.1
          (λ records meaning follows. falls_of records c.args.persist.now meaning c.in-Ok.item (λ h. true≢false (sym (c.if-not-rises.ensures.1 h))) follows.rises),
    )

pub returns-in-Ok-apply-clause-taken : goal.returns-in-Ok-apply-clause-taken
returns-in-Ok-apply-clause-taken c =
    let ok = c.in-Ok.ensures.ok in
    let applied = c.in-Ok-apply.ensures in
    record {
      item = c.in-Ok.item;
      range = ok.0;
      text = ok.1;
      names = ok.2;
      follows = λ records meaning. (
        record {
          within = λ passes. true≢false (sym ((applied.passes records meaning).1 passes));
          rises = rises_of records c.args.persist.now meaning c.in-Ok.item (c.if-not-rises.ensures.0 refl);
        },
        applied.ok records meaning,
      );
    }

pub returns-in-Err-clause-damaged : goal.returns-in-Err-clause-damaged
returns-in-Err-clause-damaged c =
    let ok = c.in-Ok.ensures.ok in (
      refl,
      refused_by c.args.format c.args.persist.now c.args.slot.now c.in-Ok.item ok.0 ok.1
          (λ records meaning follows. follows.within ((c.in-Err.ensures.passes records meaning).0 refl)),
    )

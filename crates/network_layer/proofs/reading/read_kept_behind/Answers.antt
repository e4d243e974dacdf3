-- The first list reads, or else the second one does, or neither.
use Rattle.std.proofs.Common.{length, ◌+◌, ◌++◌, refl}
use Rattle.std.proofs.lemmas.Result.{IfOk-weaker}
use Rattle.network_layer.proofs.Lists.{read_not_unread, reads_behind, reads_front, unread_both, unread_second}
use Rattle.network_layer.proofs.reading.read_kept_behind.Goals as goal

pub returns-in-Ok-clause-ok : goal.returns-in-Ok-clause-ok
returns-in-Ok-clause-ok c =
    let r = c.in-Ok.ensures.ok in
    (r.0, reads_front c.args.keys.now c.args.more.now c.args.current c.args.bytes.now c.in-Ok.reading.fields r.0 c.in-Ok.reading.by r.1)

pub returns-in-Ok-clause-unread : goal.returns-in-Ok-clause-unread
returns-in-Ok-clause-unread c =
    let r = c.in-Ok.ensures.ok in (
      (λ e. absurd (cc)),
      (λ u. absurd (read_not_unread (c.args.keys.now ++ c.args.more.now) c.args.current c.args.bytes.now c.in-Ok.reading.fields r.0 c.in-Ok.reading.by
          (reads_front c.args.keys.now c.args.more.now c.args.current c.args.bytes.now c.in-Ok.reading.fields r.0 c.in-Ok.reading.by r.1) u)),
    )

pub returns-in-Err-clause-ok : goal.returns-in-Err-clause-ok
returns-in-Err-clause-ok c =
    IfOk-weaker c.read_kept-in-Err.result _ _
    (λ x r.
    (length c.args.keys.now + r.0, reads_behind c.args.keys.now c.args.more.now c.args.current c.args.bytes.now x.fields r.0 x.by (c.in-Err.ensures.unread.0 refl) r.1))
    c.read_kept-in-Err.ensures.ok

pub returns-in-Err-clause-unread : goal.returns-in-Err-clause-unread
returns-in-Err-clause-unread c = (
  (λ e. unread_both c.args.keys.now c.args.more.now c.args.current c.args.bytes.now (c.in-Err.ensures.unread.0 refl) (c.read_kept-in-Err.ensures.unread.0 e)),
  (λ u. c.read_kept-in-Err.ensures.unread.1 (unread_second c.args.keys.now c.args.more.now c.args.current c.args.bytes.now u)),
)

-- A network key reads, or else one of `more` does, or none.
use Rattle.std.proofs.Common.{length, ◌+◌, refl, subst}
use Rattle.layer_definitions.specs.KeyRefresh.{heard_keys}
use Rattle.layer_definitions.specs.Network.{IsUnread, Reads}
use Rattle.network_layer.proofs.Lists.{reads_behind, reads_front, unread_both}
use Rattle.mesh_reading.proofs.reading.read_under.Goals as goal

pub returns-in-Ok-clause-some : goal.returns-in-Ok-clause-some
returns-in-Ok-clause-some c =
    let keys = c.heard.ensures.value in
    let f = c.in-Ok.reading.fields in
    let by = c.in-Ok.reading.by in
    let r = c.in-Ok.ensures.ok in (
      r.0,
      reads_front (heard_keys c.args.nets.now) c.args.more.now c.args.current c.args.octets.now f r.0 by
          (subst (λ ks. Reads ks c.args.current c.args.octets.now f r.0 by) keys r.1),
    )

pub returns-in-Ok-read-clause-some : goal.returns-in-Ok-read-clause-some
returns-in-Ok-read-clause-some c =
    let keys = c.heard.ensures.value in
    let unread = subst (λ ks. IsUnread ks c.args.current c.args.octets.now) keys (c.in-Err.ensures.unread.0 refl) in
    let r = c.in-Ok-read.ensures.ok in (
      length (heard_keys c.args.nets.now) + r.0,
      reads_behind (heard_keys c.args.nets.now) c.args.more.now c.args.current c.args.octets.now c.in-Ok-read.reading.fields r.0
          c.in-Ok-read.reading.by unread r.1,
    )

pub returns-in-Err-read-clause-none : goal.returns-in-Err-read-clause-none
returns-in-Err-read-clause-none c =
    let keys = c.heard.ensures.value in
    let unread = subst (λ ks. IsUnread ks c.args.current c.args.octets.now) keys (c.in-Err.ensures.unread.0 refl) in
    λ none.
    unread_both (heard_keys c.args.nets.now) c.args.more.now c.args.current c.args.octets.now unread
    (c.in-Err-read.ensures.unread.0 refl)

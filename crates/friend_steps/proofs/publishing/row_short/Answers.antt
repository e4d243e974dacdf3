use Rattle.std.proofs.Common.{◌≡◌, ℕ, ◌<◌, ◌≤◌, ◌^◌, List, length, true, subst, sym}
use Rattle.std.specs.Prelude.{IfSome}
use Rattle.app_keys.specs.AppRows.{HasAidWidth}
use Rattle.friend_steps.proofs.Ttls.{row_ttl}
use Rattle.mesh_base.specs.declared.keys.UpperKey.{UpperKey}
use Rattle.node_layers.specs.Publishing.{is_still_held}
use Rattle.node_records.specs.Tables.{config_in}
use Rattle.friend_steps.proofs.publishing.row_short.Goals as goal

pub returns-clause-sendable : goal.returns-clause-sendable
returns-clause-sendable c =
    let held : is_still_held (config_in c.args.p.now) c.args.due.now.row ≡ true = cc (c.is_still_held.ensures.value, c.if-not-is_still_held.false) in
    record {
      ttl =
          subst (λ n. n < 2 ^ 7) (sym c.publish_ttl.ensures.value)
          (row_ttl c.args.p.now c.args.due.now.row c.requires.said held);
      key = subst (λ o. IfSome o (λ (sent : ℕ × UpperKey). HasAidWidth sent.1)) c.in_ok-net.was c.transmit.ensures.aid;
      payload = subst (λ (octets : List ℕ). 1 ≤ length octets) (sym c.copied.ensures.value) c.requires.octet;
    }

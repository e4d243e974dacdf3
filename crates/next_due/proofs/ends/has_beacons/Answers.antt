use Rattle.std.proofs.Common.{◌≡◌, Bool, true, false, not}
use Rattle.std.specs.Prelude.{IsTrue}
use Rattle.node_records.specs.Tables.{config_in}
use Rattle.next_due.proofs.Nothing.{some_beacon}
use Rattle.next_due.proofs.ends.has_beacons.Goals as goal

negated : (b : Bool) → not b ≡ true → IsTrue b → ⊥
negated true h k = absurd cc
negated false h k = absurd cc

pub returns-then-p-eq1-clause-some : goal.returns-then-p-eq1-clause-some
returns-then-p-eq1-clause-some c some none =
    let empty = c.is_empty.ensures.1 (some_beacon (config_in c.args.p.now) c.if-p-eq1.true none) in
    negated c.is_empty.result some empty

use Rattle.std.proofs.Common.{refl}
use Rattle.std.proofs.lemmas.Option.{IfSome_then}
use Rattle.net_beacon.proofs.Rows.{none_of_two, second_of_two}
use Rattle.net_beacon.proofs.kept.BeaconKeys.read_row.Goals as goal

pub returns-in-None-Some-clause-some : goal.returns-in-None-Some-clause-some
returns-in-None-Some-clause-some c =
    let old = c.read_under-old.ensures.none (rw c.in-None-Some.is-0 refl) in
    rw c.in-None-Some.is-1 (IfSome_then c.read_under.result c.read_under.ensures.some (λ b h. second_of_two _ _ _ b old h))

pub returns-in-None-Some-clause-none : goal.returns-in-None-Some-clause-none
returns-in-None-Some-clause-none c =
    let old = c.read_under-old.ensures.none (rw c.in-None-Some.is-0 refl) in
    rw c.in-None-Some.is-1 (λ none. none_of_two _ _ _ old (c.read_under.ensures.none none))

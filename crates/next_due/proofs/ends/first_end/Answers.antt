use Rattle.std.proofs.Common.{◌↔◌, ℕ, subst}
use Rattle.event_definitions.specs.Answers.{config_before}
use Rattle.next_due.specs.Still.{AreNoBeacons, IsNoHour}
use Rattle.store_definitions.specs.Config.{Config}
use Rattle.timer_ends.proofs.Firsts.{all_of}
use Rattle.timer_ends.specs.Ends.{IsBefore}
use Rattle.next_due.proofs.ends.first_end.Goals as goal

pub returns : goal.returns
returns c = λ past means are time later from most.
    let Node : Config → ℕ → Type 0 = λ d now. (IsNoHour now later × AreNoBeacons d now later) ↔ IsBefore later c.node_end.result in
    let by_config = subst (λ d. Node d c.args.now) means.config (c.node_end.ensures later from most) in
    let node = subst (λ now. Node (config_before past) now) time by_config in
    let all = all_of node (c.tables_end.ensures past are time later from most) (c.sooner.ensures.before later) in
    (λ h. all.0 ((h.hour, h.beacons), h.ends), λ w. let each = all.1 w in record { hour = each.0.0; beacons = each.0.1; ends = each.1 })

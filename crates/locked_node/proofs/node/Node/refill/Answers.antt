use Rattle.std.proofs.Common.{◌≡◌, ◌∙◌, ◌+◌, ◌≤◌, true, length, ap, refl, subst, sym}
use Rattle.machine_contract.specs.declared.answers.Hand.TheVariants as H
use Rattle.machine_contract.specs.Refused.{IsRefused}
use Rattle.turn_lock.specs.Entries.{IsPrefix}
use Rattle.locked_node.specs.Asked.{AreAsked, WasAsked}
use Rattle.locked_node.specs.Node.{NodeView, marks_of, node_marks, origin_of}
use Rattle.locked_node.specs.Stands.{Holds}
use Rattle.locked_node.proofs.Asking.{asked_more, holds_on}
use Rattle.locked_node.proofs.Behind.{origin_asked}
use Rattle.locked_node.proofs.Counting.{counted_raised}
use Rattle.locked_node.proofs.Counts.{front_more}
use Rattle.locked_node.proofs.node.Node.refill.Goals as goal

pub returns-in-Err-Closed-clause-front : goal.returns-in-Err-Closed-clause-front
returns-in-Err-Closed-clause-front g c =
    let view = g.M.Machine.view in
    let was = c.self.inside.held.value in
    let left = c.deref_mut.result.now in
    let old : NodeView g.row.F.Denot = record { machine = view was.machine; counters = was.watcher.counters; start = was.start; flash = was.flash; stops = was.stops } in
    let new : NodeView g.row.F.Denot = record { machine = view left.machine; counters = left.watcher.counters; start = left.start; flash = left.flash; stops = left.stops + 1 } in
    -- the machine and the flash that were called are those in the box
    let called = subst (λ h. IsRefused g.F.Flash.chip H.OfRefill (view h.machine) (view c.refill.new.self) h.flash c.refill.new.flash c.in-Err-Closed.field-0) c.deref_mut-held.ensures.value c.in-Err-Closed.ensures.refused in
    let refused = subst (λ s. IsRefused g.F.Flash.chip H.OfRefill (view was.machine) (view c.refill.new.self) was.flash c.refill.new.flash s) c.in-Err-Closed.field-0-is called in
    let same = ap (λ h. view h.machine) c.deref_mut.ensures.value ∙ refused.1 in
    let counters = ap (λ h. h.watcher.counters) c.deref_mut.ensures.value ∙ ap (λ h. h.watcher.counters) c.deref_mut-held.ensures.value in
    let more = ap (λ h. h.stops + 1) c.deref_mut.ensures.value ∙ ap (λ h. h.stops + 1) c.deref_mut-held.ensures.value in
    subst (λ v. IsPrefix (node_marks v) (node_marks new)) c.self.view_is (front_more old new same counters more (c.self.invariant.stopped refused.0))

-- the entry that has the job wasn't taken, so the refills before it are told
pub returns-in-Ok-clause-origin : goal.returns-in-Ok-clause-origin
returns-in-Ok-clause-origin g c =
    let view = g.M.Machine.view in
    let chip = g.F.Flash.chip in
    let held = c.deref_mut-held.result.now in
    let old : NodeView g.row.F.Denot = record { machine = view held.machine; counters = held.watcher.counters; start = held.start; flash = held.flash; stops = held.stops } in
    let new : NodeView g.row.F.Denot = record { machine = view c.refill.new.self; counters = held.watcher.counters; start = held.start; flash = c.refill.new.flash; stops = held.stops } in
    let e = c.in-Ok.ensures in
    let same : old ≡ c.args.self.now = ap (λ x. record { machine = view x.machine; counters = x.watcher.counters; start = x.start; flash = x.flash; stops = x.stops }) c.deref_mut-held.ensures.value ∙ c.self.view_is in
    let h = subst (λ x. Holds g.M.Machine.stands view chip x.machine x.watcher x.start x.flash x.stops) (sym c.deref_mut-held.ensures.value) c.self.invariant in
    origin_asked chip old new refl e.frame.setting (h.live e.usable) (subst (λ v. WasAsked v.machine.taken (node_marks v)) (sym same) c.requires.asked)
    old.machine.closed old.machine.hand new.machine.fills new.machine.mark e.ok
    ∙ ap (origin_of chip) same

pub returns-in-Err-Flash-clause-origin : goal.returns-in-Err-Flash-clause-origin
returns-in-Err-Flash-clause-origin g c =
    let view = g.M.Machine.view in
    let chip = g.F.Flash.chip in
    let held = c.deref_mut-held.result.now in
    let left = c.deref_mut-in-Err-Flash.result.now in
    let old : NodeView g.row.F.Denot = record { machine = view held.machine; counters = held.watcher.counters; start = held.start; flash = held.flash; stops = held.stops } in
    let new : NodeView g.row.F.Denot = record { machine = view left.machine; counters = left.watcher.counters; start = left.start; flash = left.flash; stops = left.stops + 1 } in
    let closes = subst (λ s. IsRefused chip H.OfRefill old.machine (view c.refill.new.self) held.flash c.refill.new.flash s) c.in-Err-Flash.field-0-is c.in-Err-Flash.ensures.refused in
    let same : old ≡ c.args.self.now = ap (λ x. record { machine = view x.machine; counters = x.watcher.counters; start = x.start; flash = x.flash; stops = x.stops }) c.deref_mut-held.ensures.value ∙ c.self.view_is in
    let h = subst (λ x. Holds g.M.Machine.stands view chip x.machine x.watcher x.start x.flash x.stops) (sym c.deref_mut-held.ensures.value) c.self.invariant in
    let at = c.deref_mut-in-Err-Flash.ensures.value in
    origin_asked chip old new (ap (λ x. x.start) at) (ap (λ x. (chip x.flash).setting) at ∙ c.in-Err-Flash.ensures.frame.setting) (h.live closes.usable)
    (subst (λ v. WasAsked v.machine.taken (node_marks v)) (sym same) c.requires.asked) true H.OfRefill old.machine.fills (view c.refill.new.self).mark (ap (λ x. view x.machine) at ∙ closes.now)
    ∙ ap (origin_of chip) same

-- a refill more, behind a job that draws
pub invariant_of-self : goal.invariant_of-self
invariant_of-self g c =
    let view = g.M.Machine.view in
    let held = c.deref_mut-held.result.now in
    let old = view held.machine in
    let new = view c.refill.new.self in
    let h = subst (λ x. Holds g.M.Machine.stands view g.F.Flash.chip x.machine x.watcher x.start x.flash x.stops) (sym c.deref_mut-held.ensures.value) c.self.invariant in
    let job = subst (λ x. WasAsked (view x.machine).taken (marks_of (view x.machine).entries (view x.machine).moves x.watcher.counters x.stops (view x.machine).hand)) (sym c.deref_mut-held.ensures.value)
    (subst (λ v. WasAsked v.machine.taken (node_marks v)) (sym c.self.view_is) c.requires.asked) in
    let e = c.in-Ok.ensures in
    holds_on g.M.Machine.stands view g.F.Flash.chip held.machine c.refill.new.self held.watcher held.watcher held.start held.flash c.refill.new.flash held.stops h e.usable (ap (λ m. m.closed) e.ok) e.frame e.no_fault e.kept
    (subst (λ es. AreAsked es new.fills) (sym (ap (λ m. m.entries) e.ok)) (asked_more old.taken old.entries old.moves held.watcher.counters held.stops old.hand (h.live e.usable) job old.fills new.fills h.asked))
    (subst (λ m. m.taken ≤ length m.entries) (sym e.ok) h.taken) (h.watches ∙ sym (ap (λ m. m.which) e.ok))
    (counted_raised _ old new held.watcher.counters c.args.dry.mark h.counted e.usable e.filled (λ other. (e.nothing other e.usable).1))

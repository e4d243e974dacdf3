use Rattle.std.proofs.Common.{◌≤◌, ap, subst, sym, ◌∙◌}
use Rattle.flash_model.proofs.Runs.{past_more}
use Rattle.machine_contract.specs.Opening.{found_of}
use Rattle.locked_node.specs.Stands.{Holds}
use Rattle.locked_node.proofs.node.Node.arm.Goals as goal

pub invariant_of-self : goal.invariant_of-self
invariant_of-self g c =
    let held = c.deref_mut.result.now in
    let h = subst (λ x. Holds g.M.Machine.stands g.M.Machine.view g.F.Flash.chip x.machine x.watcher x.start x.flash x.stops) (sym c.deref_mut.ensures.value) c.self.invariant in
    let first = found_of (g.F.Flash.chip held.start) in
    let life = c.tells.ensures.known first held.flash h.over held.machine h.tie in
    let kept = c.arm.ensures.frame in
    let stays = c.arm.ensures.stays life.node.honest in
    let began = ap (λ s. s.faults) c.arm.ensures.setting in
    record {
      over = h.over;
      read = h.read;
      tie = c.stays.ensures.kept first held.flash c.arm.new.self h.over held.machine (record {
        honest = kept.honest;
        stays = stays.images;
        now = stays.now;
        faults = kept.faults;
        began = began;
        count = λ i. record { calls = c.arm.ensures.changes i; erases = c.arm.ensures.erases i; octets = c.arm.ensures.octets i };
        reads = c.arm.ensures.reads;
      }) h.tie;
      few = h.few;
      live = h.live;
      stopped = h.stopped;
      no_fault = λ off. kept.faults ∙ h.no_fault off;
      later = record {
        faults = subst (λ n. (g.F.Flash.chip held.start).faults ≤ n) (sym kept.faults) h.later.faults;
        steady = kept.steady ∙ h.later.steady;
        began = began ∙ h.later.began;
        cycles = ap (λ s. s.cycles) c.arm.ensures.setting ∙ h.later.cycles;
        past = past_more (g.F.Flash.chip held.start) (g.F.Flash.chip held.flash) (g.F.Flash.chip c.arm.new.self) h.later.past kept.past;
      };
      asked = h.asked;
      taken = h.taken;
      watches = h.watches;
      counted = h.counted;
    }

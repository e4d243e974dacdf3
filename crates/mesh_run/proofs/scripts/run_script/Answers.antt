use Rattle.std.proofs.Common.{◌≡◌, ◌∙◌, ℕ, Err, Some, ap, rules, subst, sym}
use Rattle.run_steps.specs.declared.status.Status.TheVariants as Statuses
use Rattle.std.specs.Prelude.{IfSome, IsSomeAnd}
use Rattle.life_plans.specs.Plans.{provision_of, script_of}
use Rattle.node_store.specs.Provisioning.{provisioning}
use Rattle.node_store.specs.declared.provision.Provision.{Provision}
use Rattle.report_writer.specs.Writing.{view_of}
use Rattle.run_steps.specs.Provisioned.{FailsEarly, WasProvisioned, format_by}
use Rattle.slot_journal.specs.Causes.{IsFormatCause}
use Rattle.store_definitions.specs.Provisioning.{provisioned}
use Rattle.mesh_run.specs.Causes.{IsSameFlash, IsWrittenAt}
use Rattle.mesh_run.specs.Kind.{kind_of}
use Rattle.mesh_run.specs.Lived.{IsMemory, IsSinkFault, flash_left}
use Rattle.mesh_run.specs.Ran.{FrontFrom, RanFirst, RanFrom, RanFront}
use Rattle.mesh_run.proofs.Ends.{cycled, failed_first, fails_early, none_counted, same_left, through, was_provisioned, written_as, written_at}
use Rattle.mesh_run.proofs.scripts.run_script.Goals as goal

pub returns-in-Err-Flash-clause-ends : goal.returns-in-Err-Flash-clause-ends
returns-in-Err-Flash-clause-ends g c =
    let chip = g.B.Flash.chip in
    let law = g.met.B.Flash g.world.𝓛 g.world.𝓜 g.world.𝓡 ((λ s x. x), (λ x. x), (λ x. x), λ x. x) in
    let old = chip c.args.flash in
    let mid = chip c.power_cycle.new.self in
    let new = chip c.provision.new.flash in
    let cycle = c.power_cycle.ensures in
    let fresh = cycle.fresh c.requires.honest in
    let did = c.provision.ensures in
    let cause = subst (IsFormatCause mid new) c.in-Err-Flash.field-0-is c.in-Err-Flash.ensures.cause in
    let early : FailsEarly (provisioned (provisioning c.provision_of.result)) old new =
    fails_early (provisioned (provisioning c.provision_of.result)) old mid new cycle.frame (cycle.image c.requires.honest) fresh cycle.setting did.frame cause did.once
    (law.counts_now c.provision.new.flash) (did.any_moment fresh) (did.unchanged fresh.honest) (none_counted mid cycle.changes cycle.erases cycle.octets) did.costs.most_calls did.costs.most_erases did.costs.most_octets (did.no_calls fresh.honest) in
    let records = provisioned (provisioning (provision_of (g.S.LifeSource.script c.args.script.now).provision)) in
    let said : FailsEarly records old new = subst (λ (p : Provision). FailsEarly (provisioned (provisioning p)) old new) (c.provision_of.ensures.value ∙ ap provision_of c.node.ensures.value) early in
    let left : IsSomeAnd c.with_flash.result.flash (λ f. FailsEarly records old (chip f)) = subst (λ e. IsSomeAnd e.flash (λ f. FailsEarly records old (chip f))) (sym c.with_flash.ensures.value) said in
    record {
      due = search rules;
      write_fault = search rules;
      not_erased = search rules;
      flash_fault = search rules;
      early = λ is. left;
      erased = search rules;
      complete = search rules;
      unfailed = λ sink erased unfailed. absurd (failed_first chip records old c.with_flash.result.flash left unfailed);
      handed_back = search rules;
      frame = search rules;
      no_fault = search rules;
      later = search rules;
    }

pub returns-in-Err-NotErased-clause-ends : goal.returns-in-Err-NotErased-clause-ends
returns-in-Err-NotErased-clause-ends g c =
    let chip = g.B.Flash.chip in
    let old = chip c.args.flash in
    let mid = chip c.power_cycle.new.self in
    let new = chip c.provision.new.flash in
    let cycle = c.power_cycle.ensures in
    let fresh = cycle.fresh c.requires.honest in
    let cause = subst (IsFormatCause mid new) c.in-Err-NotErased.field-0-is c.in-Err-NotErased.ensures.cause in
    let said : IsWrittenAt c.in-Err-NotErased.at old new =
    written_at old mid new c.in-Err-NotErased.at cycle.frame (cycle.image c.requires.honest) fresh cycle.setting c.provision.ensures.frame cause.0
    (cause.1 fresh.honest) (c.provision.ensures.unchanged fresh.honest) (none_counted mid cycle.changes cycle.erases cycle.octets) (c.provision.ensures.no_calls fresh.honest) in
    record {
      due = search rules;
      write_fault = search rules;
      not_erased = λ at is. subst (λ e. (k : ℕ) → e.status ≡ Statuses.NotErased k → IsSomeAnd e.flash (λ f. IsWrittenAt k old (chip f))) (sym c.with_flash-in-Err-NotErased.ensures.value)
          (written_as chip old c.provision.new.flash c.in-Err-NotErased.at said) at is;
      flash_fault = search rules;
      early = search rules;
      erased = search rules;
      complete = search rules;
      unfailed = search rules;
      handed_back = search rules;
      frame = search rules;
      no_fault = search rules;
      later = search rules;
    }

-- what was run was run from the flash that provisioning left
pub returns-in-Ok-live_all-clause-done : goal.returns-in-Ok-live_all-clause-done
returns-in-Ok-live_all-clause-done g c = λ is.
    let chip = g.B.Flash.chip in
    let view = view_of g.K.Sink.held g.K.Sink.pieces in
    let kind = kind_of g.M.Machine.view g.M.Machine.stands g.M.Machine.role g.M.Machine.image in
    let s = script_of (g.S.LifeSource.script c.args.script.now) in
    let told = g.L.LifeSink.told c.args.lives.now c.live_all.new.lives in
    let broken = g.L.LifeSink.broken c.live_all.new.lives in
    let old = chip c.args.flash in
    let start = chip c.provision.new.flash in
    let before = view c.args.sink.now in
    let after = view c.live_all.new.sink in
    let format = format_by c.args.old in
    let cycle = c.power_cycle.ensures in
    let fresh = cycle.fresh c.requires.honest in
    let was : WasProvisioned format (provisioned s.node) old start =
    was_provisioned format c.provision_of.result (provision_of (g.S.LifeSource.script c.args.script.now).provision) old (chip c.power_cycle.new.self) start (c.provision_of.ensures.value ∙ ap provision_of c.node.ensures.value) cycle.frame
    (cycle.image c.requires.honest) cycle.setting (c.in-Ok.ensures.erased fresh.honest) c.provision.ensures.frame c.in-Ok.ensures.no_fault
    (none_counted (chip c.power_cycle.new.self) cycle.changes cycle.erases cycle.octets) c.in-Ok.ensures.costs.calls c.in-Ok.ensures.costs.erases c.in-Ok.ensures.costs.octets (c.in-Ok.ensures.provisioned fresh) (c.in-Ok.ensures.format fresh) in
    subst (λ e. IsSomeAnd e.flash (λ f. RanFrom chip kind format s told old before f after))
    (sym c.with_flash-in-Ok-live_all.ensures.value) (record { start = c.provision.new.flash; provisioned = was; ran = c.in-Ok-live_all.ensures.all })

pub returns-in-Err-Fault-clause-front : goal.returns-in-Err-Fault-clause-front
returns-in-Err-Fault-clause-front g c = λ is.
    let chip = g.B.Flash.chip in
    let view = view_of g.K.Sink.held g.K.Sink.pieces in
    let kind = kind_of g.M.Machine.view g.M.Machine.stands g.M.Machine.role g.M.Machine.image in
    let s = script_of (g.S.LifeSource.script c.args.script.now) in
    let told = g.L.LifeSink.told c.args.lives.now c.live_all.new.lives in
    let broken = g.L.LifeSink.broken c.live_all.new.lives in
    let old = chip c.args.flash in
    let start = chip c.provision.new.flash in
    let before = view c.args.sink.now in
    let after = view c.live_all.new.sink in
    let format = format_by c.args.old in
    let cycle = c.power_cycle.ensures in
    let fresh = cycle.fresh c.requires.honest in
    let was : WasProvisioned format (provisioned s.node) old start =
    was_provisioned format c.provision_of.result (provision_of (g.S.LifeSource.script c.args.script.now).provision) old (chip c.power_cycle.new.self) start (c.provision_of.ensures.value ∙ ap provision_of c.node.ensures.value) cycle.frame
    (cycle.image c.requires.honest) cycle.setting (c.in-Ok.ensures.erased fresh.honest) c.provision.ensures.frame c.in-Ok.ensures.no_fault
    (none_counted (chip c.power_cycle.new.self) cycle.changes cycle.erases cycle.octets) c.in-Ok.ensures.costs.calls c.in-Ok.ensures.costs.erases c.in-Ok.ensures.costs.octets (c.in-Ok.ensures.provisioned fresh) (c.in-Ok.ensures.format fresh) in
    let ran : RanFront chip kind s told broken c.provision.new.flash before c.in-Err-Fault.flash after =
    subst (λ e. IsSinkFault (Err e) → IsSomeAnd (flash_left (Err e)) (λ f. RanFront chip kind s told broken c.provision.new.flash before f after)) c.in-Err-Fault.field-0-is c.in-Err-Fault.ensures.front tt in
    subst (λ e. IsSomeAnd e.flash (λ f. FrontFrom chip kind format s told broken old before f after))
    (sym c.with_flash-in-Err-Fault.ensures.value) (record { start = c.provision.new.flash; provisioned = was; ran = ran })

pub returns-in-Err-Memory-clause-whole : goal.returns-in-Err-Memory-clause-whole
returns-in-Err-Memory-clause-whole g c = λ is.
    let chip = g.B.Flash.chip in
    let view = view_of g.K.Sink.held g.K.Sink.pieces in
    let kind = kind_of g.M.Machine.view g.M.Machine.stands g.M.Machine.role g.M.Machine.image in
    let s = script_of (g.S.LifeSource.script c.args.script.now) in
    let told = g.L.LifeSink.told c.args.lives.now c.live_all.new.lives in
    let broken = g.L.LifeSink.broken c.live_all.new.lives in
    let old = chip c.args.flash in
    let start = chip c.provision.new.flash in
    let before = view c.args.sink.now in
    let after = view c.live_all.new.sink in
    let format = format_by c.args.old in
    let cycle = c.power_cycle.ensures in
    let fresh = cycle.fresh c.requires.honest in
    let was : WasProvisioned format (provisioned s.node) old start =
    was_provisioned format c.provision_of.result (provision_of (g.S.LifeSource.script c.args.script.now).provision) old (chip c.power_cycle.new.self) start (c.provision_of.ensures.value ∙ ap provision_of c.node.ensures.value) cycle.frame
    (cycle.image c.requires.honest) cycle.setting (c.in-Ok.ensures.erased fresh.honest) c.provision.ensures.frame c.in-Ok.ensures.no_fault
    (none_counted (chip c.power_cycle.new.self) cycle.changes cycle.erases cycle.octets) c.in-Ok.ensures.costs.calls c.in-Ok.ensures.costs.erases c.in-Ok.ensures.costs.octets (c.in-Ok.ensures.provisioned fresh) (c.in-Ok.ensures.format fresh) in
    record {
      start = c.provision.new.flash;
      provisioned = was;
      ran = subst (λ e. IsMemory (Err e) → RanFirst chip kind s told c.provision.new.flash before (flash_left (Err e)) after) c.in-Err-Memory.field-0-is c.in-Err-Memory.ensures.whole tt;
    }

pub returns-in-Err-Memory-clause-ends : goal.returns-in-Err-Memory-clause-ends
returns-in-Err-Memory-clause-ends g c =
    let chip = g.B.Flash.chip in
    let old = chip c.args.flash in
    let start = chip c.provision.new.flash in
    let first = through old (chip c.power_cycle.new.self) start (cycled old (chip c.power_cycle.new.self) c.requires.honest c.power_cycle.ensures.frame) c.provision.ensures.frame in
    record {
      due = search rules;
      write_fault = search rules;
      not_erased = search rules;
      flash_fault = search rules;
      early = search rules;
      erased = search rules;
      complete = search rules;
      unfailed = search rules;
      handed_back = search rules;
      frame = same_left chip c.in-Err-Memory.flash old start first
          (subst (λ e. IfSome (flash_left (Err e)) (λ f. IsSameFlash start (chip f))) c.in-Err-Memory.field-0-is c.in-Err-Memory.ensures.frame);
      no_fault = search rules;
      later = search rules;
    }

pub returns-in-Ok-live_all-clause-ends : goal.returns-in-Ok-live_all-clause-ends
returns-in-Ok-live_all-clause-ends g c =
    record {
      due = search rules;
      write_fault = search rules;
      not_erased = search rules;
      flash_fault = search rules;
      early = search rules;
      erased = search rules;
      complete = search rules;
      unfailed = search rules;
      handed_back = search rules;
      frame = search rules;
      no_fault = search rules;
      later = search rules;
    }

pub returns-in-Err-Fault-clause-ends : goal.returns-in-Err-Fault-clause-ends
returns-in-Err-Fault-clause-ends g c =
    let chip = g.B.Flash.chip in
    let old = chip c.args.flash in
    let start = chip c.provision.new.flash in
    let first = through old (chip c.power_cycle.new.self) start (cycled old (chip c.power_cycle.new.self) c.requires.honest c.power_cycle.ensures.frame) c.provision.ensures.frame in
    record {
      due = search rules;
      write_fault = search rules;
      not_erased = search rules;
      flash_fault = search rules;
      early = search rules;
      erased = search rules;
      complete = search rules;
      unfailed = search rules;
      handed_back = search rules;
      frame = subst (λ e. IfSome e.flash (λ f. IsSameFlash old (chip f))) (sym c.with_flash-in-Err-Fault.ensures.value)
          (same_left chip (Some c.in-Err-Fault.flash) old start first
          (subst (λ e. IfSome (flash_left (Err e)) (λ f. IsSameFlash start (chip f))) c.in-Err-Fault.field-0-is c.in-Err-Fault.ensures.frame));
      no_fault = search rules;
      later = search rules;
    }

use Rattle.std.proofs.Common.{◌≡◌, ◌∙◌, ◌+◌, ◌*◌, ◌≤◌, ℕ, None, length, take, refl, sym, ap, subst, arith}
use Rattle.std.specs.Prelude.{IsTrue, slice_range}
use Rattle.flash_model.specs.Octets.{programmed}
use Rattle.file_flash.proofs.Filling.{filled_more, filled_whole, fresh_changed, programmed_none}
use Rattle.file_flash.proofs.Tying.{on_ok}
use Rattle.file_flash.proofs.flash.fill.Goals as goal

pub loop-sector-init : goal.loop-sector-init
loop-sector-init g c = record {
  now = programmed_none (g.F.Flash.chip c.args.flash.now).now;
  fresh = c.requires.fresh;
  sure = c.requires.sure;
  steady = c.requires.steady;
  setting = refl;
}

pub loop-sector-preserved : goal.loop-sector-preserved
loop-sector-preserved g c =
    let chip = g.F.Flash.chip in
    let at : ℕ = 4096 * c.loop-sector.sector in
    let image = c.args.image.now in
    let before = c.loop-sector.invariant in
    let frame = c.program.ensures.frame in
    let change = programmed at (slice_range image at (at + 4096)) in
    let done = on_ok _ c.program.result (c.program.ensures.sure before.sure) (c.program.ensures.ok before.fresh.honest) in
    let within : at + 4096 ≤ length image = omega (arith, c.loop-sector-test.true, c.requires.size) in
    let next : 4096 * (c.loop-sector.sector + 1) ≡ at + 4096 = omega arith in
    record {
      now = done.reads ∙ ap change before.now ∙ filled_more image (chip c.args.flash.now).now at 4096 within
          ∙ ap (λ (k : ℕ). programmed 0 (take k image) (chip c.args.flash.now).now) (sym next);
      fresh = fresh_changed change (chip c.loop-sector.flash) (chip c.program.new.self) before.fresh frame.honest done;
      sure = (frame.sure before.sure).0;
      steady = subst IsTrue (sym frame.steady) before.steady;
      setting = frame.setting ∙ before.setting;
    }

pub returns-clause-now : goal.returns-clause-now
returns-clause-now g c =
    let end = c.loop-sector.invariant in
    let now = (g.F.Flash.chip c.power_cycle.new.self).now in
    let at : ℕ = 4096 * c.loop-sector.sector in
    end.fresh.only now (c.power_cycle.ensures.image end.fresh.honest) ∙ end.now
    ∙ filled_whole 65536 c.args.image.now (g.F.Flash.chip c.args.flash.now).now at (omega (arith, c.loop-sector-test.false)) c.requires.size c.requires.erased (λ i. (c.type_inv.image i).fits)

pub returns-clause-setting : goal.returns-clause-setting
returns-clause-setting g c =
    let new = g.F.Flash.chip c.power_cycle.new.self in
    let faults = sym c.power_cycle.ensures.frame.faults in
    let saved = returns-clause-now g c in
    let before = c.loop-sector.invariant.setting in
    c.power_cycle.ensures.setting ∙ (λ i. record { faults = faults i; arm = None; saved = saved i; moment = new.moment; called = 0; programmed = 0; cycles = (before i).cycles + 1 })

pub returns-clause-fresh : goal.returns-clause-fresh
returns-clause-fresh g c = c.power_cycle.ensures.fresh c.loop-sector.invariant.fresh.honest

pub returns-clause-sure : goal.returns-clause-sure
returns-clause-sure g c = c.power_cycle.ensures.sure c.loop-sector.invariant.steady

pub returns-clause-steady : goal.returns-clause-steady
returns-clause-steady g c = subst IsTrue (sym c.power_cycle.ensures.frame.steady) c.loop-sector.invariant.steady

use Rattle.std.proofs.Common.{◌≡◌, refl, sym, subst, length, replicate, None, true≢false, arith}
use Rattle.flash_model.specs.declared.past.Past.{Past}
use Rattle.flash_model.specs.Chip.{Setting}
use Rattle.flash_model.specs.Past.{HadBeen}
use Rattle.flash_model.proofs.Mixed.{blank_content}
use Rattle.flash_model.proofs.memory.MemFlash.new.Goals as goal

pub invariant_of-result : goal.invariant_of-result
invariant_of-result c =
    let begins = c.in_ok-past.ensures in
    record {
      content = blank_content 65536 c.in_ok-octets.octets.items refl (c.in_ok-octets.ensures.items_if_clones_equal (λ y e. e));
      contents = λ d had. absurd (subst (λ (p : Past). HadBeen p.contents d) begins had);
      whole = λ not. subst (λ (p : Past). p.faults ≡ p.cycled) (sym begins) refl;
      cut = λ yes. absurd (true≢false (sym yes));
      ahead = λ not. refl;
      few = omega arith;
      fewer = omega arith;
      counted = omega arith;
      within = refl;
    }

pub returns-clause-erased : goal.returns-clause-erased
returns-clause-erased c = c.in_ok-octets.ensures.items_if_clones_equal (λ y e. e)

abbrev SameSetting : Setting → Setting → Type 0
SameSetting a b = a ≡ b

pub returns-clause-unarmed : goal.returns-clause-unarmed
returns-clause-unarmed c =
    subst (λ (p : Past). SameSetting
    (record { faults = p.cycled; arm = None; saved = p.saved; moment = p.moment; called = 0; programmed = 0; cycles = p.cycles })
    (record { faults = p.faults; arm = None; saved = replicate 65536 255; moment = length p.contents; called = 0; programmed = 0; cycles = 0 }))
    (sym c.in_ok-past.ensures) refl

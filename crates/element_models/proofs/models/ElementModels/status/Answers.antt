use Rattle.std.proofs.Common.{◌≡◌, ◌∙◌, ℕ, ◌≤◌, List, length, ap, arith, get_or, subst, sym, true, false}
use Rattle.std.specs.Prelude.{◌==◌}
use Rattle.std.proofs.lemmas.Bool.Decides.{nat_tests}
use Rattle.element_models.proofs.Filled.{level_filled, onoff_filled}
use Rattle.element_models.proofs.Lives.{at_place, level_shown, onoff_shown}
use Rattle.element_models.specs.declared.servers.Servers.{Servers}
use Rattle.element_models.proofs.models.ElementModels.status.Goals as goal

pub returns-then-model-eq-ONOFF_SERVER : goal.returns-then-model-eq-ONOFF_SERVER
returns-then-model-eq-ONOFF_SERVER c = record {
  octet = subst (λ (octets : List ℕ). 1 ≤ length octets) (sym c.status.ensures.value) (onoff_filled c.index-as_slice-element.result.onoff c.args.now);
  value = λ past d row are at is.
      let here = c.index-as_slice-element.result in
      let read : here ≡ get_or c.args.self.now c.args.element here =
      c.index-as_slice-element.is ∙ ap (λ (ss : List Servers). get_or ss c.args.element here) (c.as_slice.ensures.value ∙ c.self.view_is) in
      let test : (c.args.model == 0x1000) ≡ true = grind (arith, nat_tests, c.if-model-eq-ONOFF_SERVER.true) in
      c.status.ensures.value
      ∙ onoff_shown past d row c.args.element c.args.model c.args.now here test (at_place c.args.self.now past c.args.element here are c.requires.element read) at is;
}

pub returns-else-model-eq-ONOFF_SERVER : goal.returns-else-model-eq-ONOFF_SERVER
returns-else-model-eq-ONOFF_SERVER c = record {
  octet =
      subst (λ (octets : List ℕ). 1 ≤ length octets) (sym c.status-else-model-eq-ONOFF_SERVER.ensures.value)
      (level_filled c.index-as_slice-element.result.level c.args.now);
  value = λ past d row are at is.
      let here = c.index-as_slice-element.result in
      let read : here ≡ get_or c.args.self.now c.args.element here =
      c.index-as_slice-element.is ∙ ap (λ (ss : List Servers). get_or ss c.args.element here) (c.as_slice.ensures.value ∙ c.self.view_is) in
      let test : (c.args.model == 0x1000) ≡ false = grind (arith, nat_tests, c.if-model-eq-ONOFF_SERVER.false) in
      c.status-else-model-eq-ONOFF_SERVER.ensures.value
      ∙ level_shown past d row c.args.element c.args.model c.args.now here test (at_place c.args.self.now past c.args.element here are c.requires.element read) at is;
}

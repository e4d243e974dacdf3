use Rattle.std.proofs.Common.{ℕ, ◌+◌, ◌/◌, ◌%◌, ◌==◌, ◌<◌, ◌≤◌, ◌^◌, IsTrue, arith}
use Rattle.std.proofs.lemmas.Bool.Decides.{nat_tests}
use Rattle.life_plans.specs.Plans as Said
use Rattle.node_store.specs.Provisioning.{IsProvision}
use Rattle.script_definitions.specs.Forms.{flags_fit}
use Rattle.script_definitions.specs.Lines.{elements_fit}
use Rattle.script_definitions.specs.Ranges as Asked
use Rattle.script_definitions.specs.declared.script.ProvisionLine.{ProvisionLine}
use Rattle.life_plans.proofs.scripts.script_law.Goals as goal

-- an update in progress needs an IV Index of at least 1
transmits : (flags iv : ℕ) → flags < 4 → IsTrue (flags_fit flags iv) → IsTrue (flags / 2 % 2 == 1) → 0 < iv
transmits flags iv few fit progress = grind (arith, nat_tests)

fits : (unicast elements : ℕ) → IsTrue (elements_fit unicast elements) → (1 ≤ elements) × (elements ≤ 4) × (1 ≤ unicast) × (unicast + elements ≤ 2 ^ 15)
fits unicast elements h = grind (arith, nat_tests)

node : (line : ProvisionLine) → Asked.IsProvision line → IsProvision (Said.provision_of line)
node line h =
    let e = fits line.unicast.0 line.elements h.elements in
    record {
      some = e.0;
      few = e.1;
      unicast = e.2;
      last = e.3;
      flags = omega (arith, h.flags);
      transmit = transmits line.flags line.iv h.flags h.iv;
      index = omega (arith, h.net_index);
    }

pub returns : goal.returns
returns c = record {
  lives = λ grammar s script k d l. (λ i e m. (grammar, s.provision.elements, (script.lives k d l).lines i e m), script.lives k d l);
  node = λ grammar s script. node s.provision script.provision;
}

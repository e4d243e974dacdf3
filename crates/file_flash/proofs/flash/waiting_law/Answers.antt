use Rattle.std.proofs.Common.{inr}
use Rattle.file_flash.specs.Backed.{TornSince, backed_chip}
use Rattle.file_flash.proofs.Fronts.{fronts_in}
use Rattle.file_flash.proofs.flash.waiting_law.Goals as goal

pub returns-clause-fronts : goal.returns-clause-fronts
returns-clause-fronts g c = λ f puts some.
    let chip = g.F.Flash.chip in
    fronts_in puts f.saved.octets (TornSince f.saved.calls f.saved.moment) ((backed_chip (chip f.mirror) (chip f.goal) f.failed f.saved).since f.saved.moment) (λ c torn. inr torn) (f.fronts puts some)

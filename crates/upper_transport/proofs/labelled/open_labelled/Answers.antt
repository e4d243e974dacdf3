use Rattle.std.proofs.Common.{refl}
use Rattle.upper_transport.proofs.Labels.{too_few}
use Rattle.upper_transport.proofs.labelled.open_labelled.Goals as goal

pub returns-in_err-d-clause-none : goal.returns-in_err-d-clause-none
returns-in_err-d-clause-none c = λ _ i label other s address. too_few c.args.key.now c.args.f.now label c.args.upper.now other (c.in_err-d.ensures.none refl)

use Rattle.store_world.proofs.Steps.{advance, publish, reserve}
use Rattle.store_world.proofs.numbers_law.Goals as goal

pub returns : goal.returns
returns c = record { reserve = reserve; publish = publish; advance = advance }

use Rattle.script_generator.proofs.Ranges.{generated_is}
use Rattle.script_generator.proofs.scripts.generated_law.Goals as goal

pub returns : goal.returns
returns c = record { read = λ count start few fits. generated_is start fits count few }

use Rattle.reassembly_laws.proofs.Acks.{acknowledged}
use Rattle.reassembly_laws.proofs.Pasts as proof
use Rattle.reassembly_laws.proofs.laws.reassembly_law.Goals as goal

pub returns : goal.returns
returns c =
    record {
      progress = λ past n h. proof.progress past h n;
      once = proof.once;
      answers = proof.answers;
      whole = proof.wholes;
      acknowledged = acknowledged;
    }

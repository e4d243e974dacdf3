use Rattle.element_models.proofs.Standing as proof
use Rattle.element_models.proofs.laws.models_law.Goals as goal

pub returns : goal.returns
returns c =
    record {
      more = proof.go_on;
      over = proof.stand_over;
      with_items = proof.stand_with;
      refill = proof.stand_refilled;
      elements = proof.keep_elements;
      few = proof.are_few;
    }

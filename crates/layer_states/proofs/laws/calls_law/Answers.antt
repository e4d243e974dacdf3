use Rattle.std.specs.Prelude.{[], ◌∷◌}
use Rattle.std.proofs.lemmas.List.Sums.{fold-append}
use Rattle.layer_states.specs.Friends as friends
use Rattle.layer_states.specs.Reassembly as reassembly
use Rattle.layer_states.specs.Sending as sending
use Rattle.layer_states.proofs.laws.calls_law.Goals as goal

pub returns : goal.returns
returns c =
    record {
      reassembly = λ calls call. fold-append reassembly.after [] calls (call ∷ []);
      sending = λ calls call. fold-append sending.after [] calls (call ∷ []);
      friends = λ calls call. fold-append friends.after (record { slots = []; offers = 0 }) calls (call ∷ []);
    }

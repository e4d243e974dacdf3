use Rattle.worked_layers.proofs.Friendship as proof
use Rattle.worked_layers.proofs.laws.friendship_rows.Goals as goal

pub returns : goal.returns
returns c = record { stands = proof.friendship_stands; stored = proof.messages_are_stored }

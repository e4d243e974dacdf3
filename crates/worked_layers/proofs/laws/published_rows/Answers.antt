use Rattle.worked_layers.proofs.Published as proof
use Rattle.worked_layers.proofs.laws.published_rows.Goals as goal

pub returns : goal.returns
returns c = record { label = proof.labels_are_heard; publication = proof.status_is_published }

use Rattle.model_publish.proofs.Own.{few_rows, opened_rows, put_rows}
use Rattle.model_publish.proofs.laws.rows_law.Goals as goal

pub returns : goal.returns
returns c = record { few = few_rows; put = put_rows; opened = opened_rows }

use Rattle.store_definitions.proofs.Texts.{text_once, recovered_once}
use Rattle.store_definitions.proofs.recovery.one_list_is_recovered.Goals as goal

pub returns : goal.returns
returns c = record { one_text = text_once; one_list = recovered_once }

use Rattle.layer_definitions.specs.KeyRefresh.{net_index, app_index}
use Rattle.store_definitions.specs.Config.{config_of, publication_index}
use Rattle.node_records.proofs.Rising.{keyed_of, rises_by_index}
use Rattle.node_records.proofs.laws.order_law.Goals as goal

pub returns : goal.returns
returns c = record {
  nets = λ records. rises_by_index net_index (config_of records).nets (keyed_of records).nets;
  apps = λ records. rises_by_index app_index (config_of records).apps (keyed_of records).apps;
  publications = λ records. rises_by_index publication_index (config_of records).publications (keyed_of records).publications;
}

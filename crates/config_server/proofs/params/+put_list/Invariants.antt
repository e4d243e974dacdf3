use Rattle.std.proofs.Common.{length}
use Rattle.config_server.proofs.params.+put_list.Given as goal

abbrev pub decreases-put_list : goal.decreases-put_list
decreases-put_list l = length l.indexes.now

-- The servers of the elements so far.
use Rattle.std.proofs.Common.{◌≡◌, map}
use Rattle.std.specs.List.{range_with_len}
use Rattle.element_models.specs.Stepping.{servers_first}
use Rattle.node_records.specs.Tables.{config_in}
use Rattle.element_models.proofs.models.first_of.Given as goal

abbrev pub invariant-loop-element : goal.invariant-loop-element
invariant-loop-element l = l.servers.items ≡ map (servers_first (config_in l.p)) (range_with_len 0 l.element)

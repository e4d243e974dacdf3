-- The servers of the elements so far have taken the message, the rest are as they were.
use Rattle.std.proofs.Common.{◌≡◌, ◌*◌, ◌++◌, ◌≤◌, drop, length, map, take}
use Rattle.std.specs.Prelude.{All}
use Rattle.element_models.specs.Messages.{message_in, reply_in}
use Rattle.element_models.specs.Places.{flat_from, map_from}
use Rattle.element_models.specs.Stepping.{servers_replied, servers_step, servers_stored}
use Rattle.node_records.specs.Tables.{config_in}
use Rattle.store_definitions.specs.Ranges.{IsInRange}
use Rattle.element_models.proofs.models.take_all.Given as goal

abbrev pub invariant-loop-place : goal.invariant-loop-place
invariant-loop-place l =
    record {
      state : l.servers ≡ map_from (servers_step (config_in l.p) l.now (message_in l.m)) 0 (take l.place l.initial.servers) ++ drop l.place l.initial.servers;
      records : l.taken.records ≡ flat_from (servers_stored (config_in l.p) l.now (message_in l.m)) 0 (take l.place l.initial.servers);
      replies : map reply_in l.taken.replies ≡ flat_from (servers_replied (config_in l.p) l.now (message_in l.m)) 0 (take l.place l.initial.servers);
      few_records : length l.taken.records ≤ 2 * l.place;
      few_replies : length l.taken.replies ≤ 2 * l.place;
      ranges : All IsInRange l.taken.records;
    }

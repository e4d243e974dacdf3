-- A network PDU heard, as the definitions of a run have it.
use Rattle.std.specs.Prelude.{Option, Some, List, ◌++◌}
use Rattle.std.specs.Option.{option_map}
use Rattle.mesh_base.specs.declared.lower.Lower.{Lower}
use Rattle.mesh_reading.specs.Held.{low_in, opened_in, opening_of, reading_of}
use Rattle.mesh_reading.specs.declared.heard.HeardPdu.{HeardPdu}
use Rattle.mesh_types.specs.declared.answers.Answer.{Answer}
use Rattle.mesh_types.specs.declared.jobs.Job.{Job}
use Rattle.network_layer.specs.declared.reading.NetReading.{NetReading}
use Rattle.event_definitions.specs.History.{Insight, OfPdu, Opening, Past}
use Rattle.node_layers.specs.NodeLayers.{node_layers}
use Rattle.event_definitions.specs.Answers.{config_before}
use Rattle.event_definitions.specs.Jobs.{ack_jobs, message_jobs, refresh_jobs, relay_jobs}
use Rattle.store_definitions.specs.Config.{Config}

-- what a PDU was read as
abbrev pub insight_of : Option NetReading → Option Lower → Option Opening → Insight
insight_of r low opening = OfPdu (option_map reading_of r) low opening

-- the same where this network PDU was read, and how far its octets were read is told
abbrev pub insight_read : NetReading → HeardPdu → Insight
insight_read r heard = insight_of (Some r) (low_in heard) (option_map opening_of (opened_in heard))

-- the jobs of a network PDU that got past the message cache
abbrev pub read_jobs : Past → Config → NetReading → HeardPdu → Answer → List Job
read_jobs past c r heard answer =
    relay_jobs c (reading_of r)
    ++ ack_jobs c (reading_of r) (low_in heard) answer
    ++ message_jobs node_layers past c (reading_of r) (insight_read r heard) answer
    ++ refresh_jobs (config_before past) c

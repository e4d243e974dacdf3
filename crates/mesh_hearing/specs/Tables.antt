-- The tables in memory: what they hold, the entries that they stand for, and what an entry more leaves of them.
use Rattle.std.specs.Prelude.{◌≡◌, ℕ, List, [], ◌∷◌, ◌++◌, fold, Option, Some, None}
use Rattle.layer_states.specs.Cache.{last_of, remembered}
use Rattle.layer_states.specs.Reassembly.{after}
use Rattle.layer_states.specs.Sending as sending
use Rattle.layer_states.specs.declared.reassembly.Assembly.{Assembly}
use Rattle.layer_states.specs.declared.sending.Sending.{Sending}
use Rattle.mesh_base.specs.declared.pair.Name.{Name}
use Rattle.mesh_hearing.specs.Again.{name_with, newest_of}
use Rattle.mesh_reading.specs.Held.{held_in}
use Rattle.mesh_reading.specs.Keys.{HeldKeys}
use Rattle.mesh_types.specs.declared.answers.Answer.{Answer}
use Rattle.mesh_types.specs.declared.events.Event.{Event}
use Rattle.node_layers.specs.Reassembly.{message_calls, messages, tick_calls}
use Rattle.node_layers.specs.Sending as own
use Rattle.node_layers.specs.Steps.{cached_names, segmented_name, segmented_names}
use Rattle.node_records.specs.Tables.{config_in}
use Rattle.node_records.specs.declared.persist.Persist.{Persist}
use Rattle.event_definitions.specs.Answers.{cached_name, is_before_cache}
use Rattle.event_definitions.specs.History.{Insight, Told, now_of, ticks_after}
use Rattle.store_definitions.specs.Config.{Config, config_of}
use Rattle.node_limits.specs.declared.TheConstants.{MESSAGE_CACHE}

-- The keys that are derived from the store; the message cache, the oldest name first; the messages in progress, in the order in which they
-- began; of the names that were accepted from segments in this life the newest of each source; the own segmented messages that are held, in the
-- order in which they began; and its ticks so far.
pub record TablesView : Type 0 where
  pub keys : HeldKeys
  pub cache : List Name
  pub parts : List Assembly
  pub again : List Name
  pub own : List Sending
  pub ticks : ℕ

-- The keys are those that the store's value says.
abbrev pub IsFit : TablesView → Persist → Type 0
IsFit t p = t.keys ≡ held_in (config_in p)

-- The tables are those of a life with these entries so far.
pub record AreTablesOf (t : TablesView) (told : List Told) : Type 0 where
  pub cache : t.cache ≡ last_of MESSAGE_CACHE (cached_names told)
  pub parts : t.parts ≡ messages (record { told = told; records = [] })
  pub again : t.again ≡ newest_of (segmented_names told)
  pub own : t.own ≡ own.messages (record { told = told; records = [] })
  pub ticks : t.ticks ≡ now_of told

-- the message cache with the PDU of an entry, if it gets into it
abbrev pub cache_after : List Name → Option Name → List Name
cache_after names None = names
cache_after names (Some n) = remembered names n

-- the newest names accepted from segments with that of an entry, if it has one
abbrev pub again_after : List Name → Option Name → List Name
again_after names None = names
again_after names (Some n) = name_with names n

-- What an entry leaves, where the records before it say `c`: nothing changes but by a PDU that was read, by time that passed, by an own
-- segmented message that begins, and by IV Index Recovery.
abbrev pub tables_after : TablesView → Config → Event → Insight → Answer → TablesView
tables_after t c event insight answer = record t {
  cache = cache_after t.cache (cached_name insight (is_before_cache answer));
  parts = fold after t.parts (message_calls t.ticks c insight answer ++ tick_calls answer);
  again = again_after t.again (segmented_name insight answer);
  own = fold sending.after t.own (own.own_calls t.ticks event answer);
  ticks = ticks_after t.ticks answer;
}

-- An entry more is one step.
abbrev pub GoOn : Type 0
GoOn =
    (t : TablesView) (told : List Told) (e : Told) → AreTablesOf t told
    → AreTablesOf (tables_after t (config_of e.records) e.entry.event e.insight e.entry.answer) (told ++ e ∷ [])

-- A life begins with no entries.
abbrev pub BeginWith : Type 0
BeginWith =
    (keys : HeldKeys) → AreTablesOf (record { keys = keys; cache = []; parts = []; again = []; own = []; ticks = 0 }) []

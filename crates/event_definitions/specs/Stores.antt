-- The records that an event stores.
use Rattle.std.specs.Prelude.{ℕ, ◌-◌, ◌/◌, ◌%◌, ◌^◌, ◌==◌, if◌then◌else◌, List, [], ◌∷◌, ◌++◌, Option, Some, None, replicate}
use Rattle.std.specs.Option.{option_map_or}
use Rattle.layer_definitions.specs.IvIndex.{iv_hours}
use Rattle.mesh_base.specs.declared.address.Address.{Address}
use Rattle.mesh_base.specs.declared.iv_state.IvState.{IvState}
use Rattle.mesh_base.specs.declared.iv_state.IvStep.{IvStep}
use Rattle.mesh_base.specs.declared.iv_state.IvStep.TheVariants as I
use Rattle.mesh_base.specs.declared.pair.Name.{Name}
use Rattle.mesh_types.specs.declared.answers.Answer.{Answer}
use Rattle.mesh_types.specs.declared.answers.Answer.TheVariants as A
use Rattle.mesh_types.specs.declared.answers.KeyStep.{KeyStep}
use Rattle.mesh_types.specs.declared.answers.KeyStep.TheVariants as S
use Rattle.mesh_types.specs.declared.events.Event.{Event}
use Rattle.mesh_types.specs.declared.events.Event.TheVariants as E
use Rattle.record_types.specs.declared.records.StoreRecord.{StoreRecord}
use Rattle.record_types.specs.declared.records.StoreRecord.TheVariants as R
use Rattle.event_definitions.specs.Answers.{config_before, is_busy, later}
use Rattle.store_definitions.specs.Config.{Config}
use Rattle.store_definitions.specs.Numbers.{moved}
use Rattle.event_definitions.specs.History.{Insight, OfPdu, Past, now_of}
use Rattle.event_definitions.specs.Layers.{Layers, AccessMessage}

abbrev pub step_records : Config → IvStep → List StoreRecord
step_records c (I.Ignore rule) = []
step_records c (I.Begin s) = moved c s ∷ []
step_records c (I.Finish s) = moved c s ∷ []
step_records c (I.Recover s) = moved c s ∷ []
step_records c I.Wait = []

-- the record of a beacon that changes the Key Refresh phase of its network key
abbrev pub phase_records : ℕ → KeyStep → List StoreRecord
phase_records index S.Same = []
phase_records index S.Phase2 = R.NetKey 3 index (replicate 16 0) ∷ []
phase_records index S.Phase0 = R.NetKey 4 index (replicate 16 0) ∷ []

-- 360,000 ticks of 10 ms are an hour: how many hours of the life end when so many ticks more have passed
abbrev pub hours_passed : Past → ℕ → ℕ
hours_passed past ticks = later past ticks / 360000 - now_of past.told / 360000

-- the IV state with these hours, and what it does of its own
abbrev pub hours_step : Layers → Past → ℕ → IvState × IvStep
hours_step layers past ticks =
    let c = config_before past in iv_hours c.iv (hours_passed past ticks) (c.mark % 2 ^ 25) (is_busy layers past)

-- where hours passed, the record of them, and then that of a new IV state, if there is one
abbrev pub tick_records : Layers → Past → ℕ → List StoreRecord
tick_records layers past ticks =
    if hours_passed past ticks == 0 then []
    else R.Hour (hours_step layers past ticks).0.hours (hours_step layers past ticks).0.since
    ∷ step_records (config_before past) (hours_step layers past ticks).1

-- the access message that a PDU completed, as it opened
abbrev pub message_of : Insight → Name → Address → Option AccessMessage
message_of (OfPdu (Some r) lower (Some o)) name dst =
    Some
    (record {
      name = name;
      dst = dst;
      net = r.by.index;
      ttl = r.fields.ttl;
      key = o.key;
      label = o.label;
      payload = o.payload;
    })
message_of _ name dst = None

-- the records that an accepted message asks for
abbrev pub asked : Layers → Past → Option AccessMessage → List StoreRecord
asked layers past message = option_map_or (layers.changes past) message []

-- What an event stores, by its answer. An accepted message is recorded before what it asks for; the phase of a network key
-- before the IV state of the same beacon.
unfoldable pub stores : Layers → Past → Event → Insight → Answer → List StoreRecord
stores layers past (E.Net octets) insight (A.Delivered name dst key payload) =
    R.Replay name None ∷ asked layers past (message_of insight name dst)
stores layers past (E.Net octets) insight (A.Control name dst opcode params) = R.Replay name None ∷ []
stores layers past (E.Bcn octets) insight (A.Beacon index key iv) =
    phase_records index key ++ step_records (config_before past) iv
stores layers past (E.Tick ticks) insight (A.Ticked now) = tick_records layers past ticks
stores layers past _ insight _ = []

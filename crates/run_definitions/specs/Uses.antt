-- What a run does with its keys and its messages, and when that is safe.
use Rattle.std.specs.Prelude.{ℕ, ◌+◌, ◌*◌, true, false, List, [], ◌++◌, Option, Some, None, filter, slice_index}
use Rattle.std.specs.List.{filter_map, flat_map}
use Rattle.std.specs.Option.{option_map, option_to_list}
use Rattle.layer_definitions.specs.Network.{network_nonce, network_plaintext}
use Rattle.layer_definitions.specs.Upper.{key_octets, upper_nonce}
use Rattle.mesh_base.specs.declared.address.Address.{Address}
use Rattle.mesh_base.specs.declared.fields.NetFields.{NetFields}
use Rattle.mesh_base.specs.declared.fields.NetMaterial.{NetMaterial}
use Rattle.mesh_base.specs.declared.keys.UpperKey.{UpperKey}
use Rattle.mesh_base.specs.declared.pair.Name.{Name}
use Rattle.mesh_base.specs.declared.pair.Pair.{Pair}
use Rattle.mesh_types.specs.declared.jobs.Job.{Job}
use Rattle.mesh_types.specs.declared.jobs.Job.TheVariants as J
use Rattle.mesh_types.specs.declared.lines.Outcome.{Outcome}
use Rattle.mesh_types.specs.declared.lines.Outcome.TheVariants as O
-- a use of a key, and what safety means: of the uses of keys, and of the messages accepted
pub use Rattle.mesh_base.specs.Safety.{Use, NoReuse, AtMostOnce}
use Rattle.event_definitions.specs.Answers.{accepted}
use Rattle.store_definitions.specs.Config.{Config, config_of, is_element}
use Rattle.report_definitions.specs.Record.{Life, Run, first_over, shown}
use Rattle.run_definitions.specs.Seals.{own_fields, own_upper_fields, message_fields}

-- The seals of a line.

-- the material that a job seals network PDUs with, if it seals any
abbrev pub material_of : Job → Option NetMaterial
material_of (J.Relay material fields) = Some material
material_of (J.Control material ttl src dst tpdu keep) = Some material
material_of (J.Message net material key ttl src dst payload keep) = Some material
material_of (J.Sent net material key ttl src dst) = Some material
material_of (J.Segment s) = Some s.material
material_of (J.Repeat name pdu) = None
material_of (J.Beacon octets) = None

-- the key that a job seals a payload with, if it seals one
abbrev pub upper_key_of : Job → Option UpperKey
upper_key_of (J.Relay material fields) = None
upper_key_of (J.Control material ttl src dst tpdu keep) = None
upper_key_of (J.Message net material key ttl src dst payload keep) = Some key
upper_key_of (J.Sent net material key ttl src dst) = Some key
upper_key_of (J.Segment s) = None
upper_key_of (J.Repeat name pdu) = None
upper_key_of (J.Beacon octets) = None

-- the transport PDU of a segment
abbrev pub segment_of : Job → List ℕ
segment_of (J.Segment s) = s.tpdu
segment_of _ = []

-- the seal of a network PDU: of DST and the transport PDU, under the EncryptionKey and the network nonce
abbrev pub network_use : NetFields → NetMaterial → Use
network_use f m = record { key = m.encryption; nonce = network_nonce f; plain = network_plaintext f }

abbrev pub network_uses : Job → NetFields → List Use
network_uses job f = option_to_list (option_map (network_use f) (material_of job))

-- the seal of a payload under the application or device nonce
abbrev pub upper_use : Pair → Address → Address → List ℕ → UpperKey → Use
upper_use pair src dst payload key =
    record { key = key_octets key; nonce = upper_nonce key (own_upper_fields pair src dst); plain = payload }

abbrev pub upper_uses : Job → Pair → Address → Address → List ℕ → List Use
upper_uses job pair src dst payload = option_to_list (option_map (upper_use pair src dst payload) (upper_key_of job))

-- the seal of the network PDU of an unsegmented access message, whose transport PDU has the payload sealed
abbrev pub message_uses : Job → Pair → ℕ → Address → Address → List ℕ → List Use
message_uses job pair ttl src dst payload =
    flat_map (λ key. network_uses job (message_fields key pair ttl src dst payload)) (option_to_list (upper_key_of job))

-- What a line of a job seals. A segmented message's payload is sealed in its `long` line; kept octets, a number that is spent or too
-- late and a beacon are no seals.
unfoldable pub seals_of : Job → Outcome → List Use
seals_of job (O.Ctl pair ttl src dst tpdu pdu) = network_uses job (own_fields pair true ttl src dst tpdu)
seals_of job (O.Msg pair ttl src dst key payload pdu) =
    upper_uses job pair src dst payload ++ message_uses job pair ttl src dst payload
seals_of job (O.Long pair ttl src dst key payload) = upper_uses job pair src dst payload
seals_of job (O.Seg pair ttl src dst seg_o seg_n auth pdu) =
    network_uses job (own_fields pair false ttl src dst (segment_of job))
seals_of job (O.Relay pair ctl ttl src dst tpdu pdu) = network_uses job (own_fields pair ctl ttl src dst tpdu)
seals_of job (O.Rep name pdu) = []
seals_of job (O.Bcn octets) = []
seals_of job (O.Spent iv) = []
seals_of job (O.Late pair) = []

-- The uses and the deliveries of a run.

-- the seals of all lines of a life, bearer by bearer
abbrev pub life_seals : Life → List Use
life_seals l = flat_map (λ s. seals_of s.job s.outcome) (shown l)

-- SRC in a nonce of any of the three types: its octets 5 and 6
abbrev pub nonce_source : List ℕ → ℕ
nonce_source nonce = slice_index nonce 5 * 256 + slice_index nonce 6

-- The node of a run, as the records say that its first life opened over: its identity never changes.
abbrev pub node_of : Run → Config
node_of r = config_of (first_over r.lives r.last)

-- all seals of a run whose nonce has an own address as SRC
abbrev pub uses : Run → List Use
uses r = filter (λ u. is_element (node_of r) (nonce_source u.nonce)) (flat_map (λ x. life_seals x.life) r.lives)

-- the names that were accepted in a life, in the order of its history
abbrev pub life_delivered : Life → List Name
life_delivered l = filter_map (λ e. accepted e.answer) l.entries

-- the names that were accepted in a run, in order
abbrev pub delivered : Run → List Name
delivered r = flat_map (λ x. life_delivered x.life) r.lives

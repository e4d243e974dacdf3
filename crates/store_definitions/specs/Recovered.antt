-- The text of a record in a slot, and the list of records that an image of the flash recovers. (The records are this project's own.)
use Rattle.std.specs.Prelude.{◌≡◌, ℕ, ◌-◌, List, [], ◌∷◌, ◌++◌, length, replicate, map, Some, None, All, if◌then◌else◌, ⊤}
use Rattle.std.specs.List.{flat_map}
use Rattle.std.specs.Option.{option_to_list}
use Rattle.cipher_definitions.specs.Octets.{two_octets, three_octets, four_octets, octets_of}
use Rattle.slot_definitions.specs.Slots.{Held, recovered}
use Rattle.mesh_base.specs.declared.pair.Name.{Name}
use Rattle.mesh_base.specs.declared.slot.Slot.{Slot}
use Rattle.record_types.specs.declared.records.StoreRecord.{StoreRecord}
use Rattle.record_types.specs.declared.records.StoreRecord.TheVariants as R
use Rattle.store_definitions.specs.Ranges.{IsInRange}

-- a slot of a kind with these octets, and zeros behind them
abbrev pub slot_of : ℕ → List ℕ → Slot
slot_of kind octets = record { kind = kind; body = octets ++ replicate (30 - length octets) 0 }

-- the octets of a name: SRC, IV Index and SEQ
abbrev pub name_octets : Name → List ℕ
name_octets name = two_octets name.src.0 ++ four_octets name.pair.iv ++ three_octets name.pair.seq

-- the text of a record: its kind, then its fields high octet first
unfoldable pub record_text : StoreRecord → Slot
record_text (R.Identity unicast elements dev_key) = slot_of 1 (two_octets unicast.0 ++ elements ∷ dev_key)
record_text (R.Numbers current progress mark hours since) =
    slot_of 2
    (four_octets current ++ (if progress then 1 else 0) ∷ octets_of 8 mark ++ two_octets hours ++ two_octets since)
record_text (R.Hour hours since) = slot_of 3 (two_octets hours ++ two_octets since)
record_text (R.Replay first second) = slot_of 4 (name_octets first ++ flat_map name_octets (option_to_list second))
record_text (R.NetKey op index key) = slot_of 5 (op ∷ two_octets index ++ key)
record_text (R.AppKey op net index key) = slot_of 6 (op ∷ two_octets net ++ two_octets index ++ key)
record_text (R.Bind op element model app) = slot_of 7 (op ∷ two_octets element.0 ++ two_octets model ++ two_octets app)
record_text (R.Subscribe op element model address) =
    slot_of 8 (op ∷ two_octets element.0 ++ two_octets model ++ two_octets address.0)
record_text (R.Feature which value) = slot_of 9 (which ∷ two_octets value)
record_text R.Reset = slot_of 10 []
record_text (R.Model element model value) = slot_of 11 (element ∷ two_octets model ++ two_octets value)
record_text (R.Label op element model label) = slot_of 12 (op ∷ two_octets element.0 ++ two_octets model ++ label)
record_text (R.Publish row) =
    slot_of 13 (two_octets row.element.0 ++ two_octets row.model ++ two_octets row.address.0 ++ two_octets row.app
    ++ row.ttl ∷ row.period ∷ row.retransmit ∷ [])

-- a Replay record with one name alone
abbrev pub HasOneName : StoreRecord → Type 0
HasOneName (R.Replay first second) = second ≡ None
HasOneName _ = ⊤

-- An image recovers these records: the slots that it recovers are their texts, each has its fields in their ranges, and in a bank of format
-- 01 no Replay record has a second name.
pub record IsRecovered (image : List ℕ) (records : List StoreRecord) : Type 0 where
  pub format : ℕ
  pub texts : recovered image ≡ Some (record { format = format; slots = map record_text records })
  pub ranges : All IsInRange records
  pub names : format ≡ 1 → All HasOneName records

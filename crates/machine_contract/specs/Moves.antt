-- Where records move the counter of sequence numbers to.
use Rattle.std.specs.Prelude.{ℕ, ◌*◌, ◌^◌, nat_lt, if◌then◌else◌, List, [], ◌∷◌, ◌++◌, drop, length}
use Rattle.mesh_base.specs.IvState.{transmit_of}
use Rattle.record_types.specs.declared.records.StoreRecord.{StoreRecord}
use Rattle.event_definitions.specs.Handling.{past_of, records_after}
use Rattle.event_definitions.specs.History.{Told}
use Rattle.event_definitions.specs.Role.{Role}
use Rattle.seq_word.specs.Seen.{last_word}
use Rattle.store_definitions.specs.Config.{Config, changed, config_of}

-- from what is stored to what is stored then: where the transmit IV Index rises, to the first word under the new one
abbrev pub rise : Config → Config → List ℕ
rise old new = if nat_lt (transmit_of old.iv) (transmit_of new.iv) then transmit_of new.iv * 2 ^ 25 ∷ [] else []

-- with records that are stored one after another
abbrev pub rises : Config → List StoreRecord → List ℕ
rises c [] = []
rises c (item ∷ items) = rise c (changed c item) ++ rises (changed c item) items

-- Behind each of these entries, of a life that opened over some records: the word that the counter was moved to last, as far as the records that the
-- entry left, and 0 where it wasn't moved.
abbrev pub moves_from : Role → List StoreRecord → List Told → List Told → List ℕ
moves_from role over before [] = []
moves_from role over before (t ∷ ts) =
    last_word (rises (config_of over) (drop (length over) (records_after role (past_of before t) t))) ∷ moves_from role over (before ++ t ∷ []) ts

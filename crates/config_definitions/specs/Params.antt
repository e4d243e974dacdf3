-- Numbers and statuses in configuration messages, and acts (Mesh Profile 1.0.1, sections 3.1.1.2, 4.3.1 and 4.3.5). The low octet of a number stands first.
use Rattle.std.specs.Prelude.{ℕ, ◌+◌, ◌*◌, ◌/◌, ◌%◌, Bool, true, false, List, [], ◌∷◌, ◌++◌, Option, Some, None}
use Rattle.config_definitions.specs.declared.acts.ConfigAct.{ConfigAct}
use Rattle.config_definitions.specs.declared.acts.Outcome.{Outcome}
use Rattle.config_definitions.specs.declared.acts.Status.{Status}
use Rattle.config_definitions.specs.declared.acts.Status.TheVariants as S
use Rattle.config_definitions.specs.declared.messages.ModelId.{ModelId}
use Rattle.config_definitions.specs.declared.messages.ModelId.TheVariants as I
use Rattle.mesh_base.specs.declared.address.Address.{Address}
use Rattle.model_states.specs.Access.{two_low_first}
use Rattle.record_types.specs.declared.records.StoreRecord.{StoreRecord}

-- a number, an address, and a key index, which has 12 bits: those above it aren't read
abbrev pub number_of : ℕ → ℕ → ℕ
number_of low high = low + high * 256

abbrev pub address_of : ℕ → ℕ → Address
address_of low high = record { 0 = number_of low high }

abbrev pub index_of : ℕ → ℕ → ℕ
index_of low high = number_of low high % 4096

-- Two key indexes in three octets (4.3.1.1): the low 8 bits of the first; its high 4 bits with the low 4 bits of the second above them;
-- the high 8 bits of the second.
abbrev pub first_index : ℕ → ℕ → ℕ
first_index a b = a + b % 16 * 256

abbrev pub second_index : ℕ → ℕ → ℕ
second_index b c = b / 16 + c * 16

abbrev pub packed : ℕ → ℕ → List ℕ
packed first second = first % 256 ∷ (first / 256 % 16 + second % 16 * 16) ∷ second / 16 % 256 ∷ []

-- a list of key indexes goes in pairs, an odd last one in two octets (4.3.1.1)
abbrev pub packed_list : List ℕ → List ℕ
packed_list [] = []
packed_list (x ∷ []) = two_low_first x
packed_list (x ∷ y ∷ rest) = packed x y ++ packed_list rest

-- a model
abbrev pub model_text : ModelId → List ℕ
model_text (I.Sig n) = two_low_first n
model_text (I.Vendor company model) = two_low_first company ++ two_low_first model

-- a switch
abbrev pub switch_octet : Bool → ℕ
switch_octet true = 0x01
switch_octet false = 0x00

-- the octet of a status (4.3.5)
abbrev pub status_octet : Status → ℕ
status_octet S.Success = 0x00
status_octet S.InvalidAddress = 0x01
status_octet S.InvalidModel = 0x02
status_octet S.InvalidAppKey = 0x03
status_octet S.InvalidNetKey = 0x04
status_octet S.InsufficientResources = 0x05
status_octet S.KeyIndexStored = 0x06
status_octet S.InvalidPublish = 0x07
status_octet S.NotSubscribe = 0x08
status_octet S.CannotUpdate = 0x0b
status_octet S.CannotRemove = 0x0c
status_octet S.CannotBind = 0x0d
status_octet S.CannotSet = 0x0f

-- How a message ends: refused, done with nothing to store, or done with a record.
abbrev pub refused : Status → Outcome
refused status = record { status = status; change = None }

abbrev pub unchanged : Outcome
unchanged = record { status = S.Success; change = None }

abbrev pub stored : StoreRecord → Outcome
stored item = record { status = S.Success; change = Some item }

-- a reply alone, and one with what is stored
abbrev pub replied : List ℕ → ConfigAct
replied reply = record { change = None; reply = reply; beat = None; ends_friendships = false }

abbrev pub acted : Option StoreRecord → List ℕ → ConfigAct
acted change reply = record (replied reply) { change = change }

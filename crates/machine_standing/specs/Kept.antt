-- Records that may be put behind those of a node that can be run, and leave one.
use Rattle.std.specs.Prelude.{⊤, List, [], ◌∷◌}
use Rattle.record_types.specs.declared.records.StoreRecord.{StoreRecord}
use Rattle.record_types.specs.declared.records.StoreRecord.TheVariants as R
use Rattle.store_definitions.specs.Config.{Config, changed}
use Rattle.store_definitions.specs.Node.{IsWhole, KeepsWhole}
use Rattle.store_definitions.specs.Ranges.{IsInRange}

-- no identity is said
abbrev pub IsNoIdentity : StoreRecord → Type 0
IsNoIdentity (R.Identity unicast elements dev_key) = ⊥
IsNoIdentity _ = ⊤

-- Each record is in range, keeps a node whole over what those before it leave, and says no identity.
abbrev pub AreKept : Config → List StoreRecord → Type 0
AreKept c [] = ⊤
AreKept c (item ∷ items) = IsInRange item × KeepsWhole c item × IsNoIdentity item × AreKept (changed c item) items

-- each keeps a node whole, and says no identity
abbrev pub KeepWhole : Config → List StoreRecord → Type 0
KeepWhole c [] = ⊤
KeepWhole c (item ∷ items) = KeepsWhole c item × IsNoIdentity item × KeepWhole (changed c item) items

-- the law of such a record: what it leaves is whole
abbrev pub KeptLaw : Type 0
KeptLaw = (c : Config) (item : StoreRecord) → IsInRange item → KeepsWhole c item → IsWhole c → IsWhole (changed c item)

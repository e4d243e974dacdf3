-- Why an image isn't opened.
use Rattle.std.specs.Prelude.{◌≡◌, ◌≢◌, ℕ, true, List, length, ⊤}
use Rattle.node_store.specs.Images.{IsWrongSo}
use Rattle.node_store.specs.declared.mounting.StoreFault.TheVariants as F
use Rattle.node_store.specs.declared.images.ImageFault.TheVariants as I
use Rattle.record_types.specs.declared.records.StoreRecord.{StoreRecord}
use Rattle.store_definitions.specs.Config.{config_of}
use Rattle.store_definitions.specs.Recovered.{IsRecovered}
use Rattle.linked_node.specs.declared.faults.OpenFault.{OpenFault}
use Rattle.linked_node.specs.declared.faults.OpenFault.TheVariants as O

-- Want of memory comes at any time, and so does a flash that fails for it. Every other cause is one of the octets.
abbrev pub IsOpenCause : List ℕ → OpenFault → Type 0
IsOpenCause content (O.Size octets) = (octets ≡ length content) × (octets ≢ 65536)
IsOpenCause content (O.Image (I.Store F.Flash)) = ⊤
IsOpenCause content (O.Image fault) = IsWrongSo content fault
IsOpenCause content O.WasReset = (over : List StoreRecord) × IsRecovered content over × ((config_of over).reset ≡ true)
IsOpenCause content O.Flash = ⊤
IsOpenCause content O.Memory = ⊤

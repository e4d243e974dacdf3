-- What safety needs of a kind of node.
use Rattle.std.specs.Prelude.{◌≡◌, ℕ, ◌+◌, ◌*◌, ◌^◌, ◌<◌, ◌≤◌, true, false, List, [], ◌∷◌, Option, Some, None, ⊤}
use Rattle.std.specs.List.{AllByRecursion}
use Rattle.mesh_base.specs.IvState.{transmit_of}
use Rattle.mesh_base.specs.Pairs.{is_expired}
use Rattle.mesh_base.specs.declared.address.Address.{Address}
use Rattle.mesh_base.specs.declared.lower.Lower.{Lower}
use Rattle.mesh_base.specs.declared.pair.Name.{Name}
use Rattle.mesh_base.specs.declared.pair.Pair.{Pair}
use Rattle.mesh_types.specs.declared.answers.Answer.{Answer}
use Rattle.mesh_types.specs.declared.events.Event.{Event}
use Rattle.mesh_types.specs.declared.events.Event.TheVariants as E
use Rattle.mesh_types.specs.declared.jobs.Job.{Job}
use Rattle.mesh_types.specs.declared.jobs.Job.TheVariants as J
use Rattle.mesh_types.specs.declared.jobs.Segment.{Segment}
use Rattle.record_types.specs.declared.records.StoreRecord.{StoreRecord}
use Rattle.record_types.specs.declared.records.StoreRecord.TheVariants as R
use Rattle.event_definitions.specs.Answers.{accepted, config_before, is_before_cache, replayed}
use Rattle.event_definitions.specs.History.{Insight, OfPdu, Opening, Past, Reading, Told}
use Rattle.event_definitions.specs.Role.{Role}
use Rattle.store_definitions.specs.Config.{Config, changed, is_element}
use Rattle.store_definitions.specs.Entries.{entry_of}

-- The mark is at most the end of its transmit IV Index, and the known IV Index has 32 bits.
pub record Marked (c : Config) : Type 0 where
  pub mark : c.mark ≤ transmit_of c.iv * 2 ^ 25 + 2 ^ 24
  pub current : c.iv.current < 2 ^ 32

-- a record lowers neither the known IV Index nor the mark, and is no identity
abbrev pub Rises : Config → StoreRecord → Type 0
Rises c (R.Identity unicast elements dev_key) = ⊥
Rises c (R.Numbers current progress mark hours since) = (c.iv.current ≤ current) × (c.mark ≤ mark)
Rises c _ = ⊤

abbrev pub RiseAll : Config → List StoreRecord → Type 0
RiseAll c [] = ⊤
RiseAll c (r ∷ rs) = Rises c r × RiseAll (changed c r) rs

-- a name that is read, and newer than the entry of its source
pub record Fresh (past : Past) (n : Name) : Type 0 where
  pub read : is_expired (config_before past).iv.current n.pair ≡ false
  pub newer : replayed (entry_of past.records n.src.0) n.pair ≡ None

-- a source is none of the node's elements, and is within its width
abbrev pub Foreign : Config → Address → Type 0
Foreign own src = (is_element own src.0 ≡ false) × (src.0 < 2 ^ 16)

-- a job that is neither a first segment nor a PDU of this node that goes on
abbrev pub Fine : Config → Job → Type 0
Fine own (J.Relay material f) = Foreign own f.src
Fine own (J.Segment s) = s.first ≡ false
Fine own _ = ⊤

-- a job that is the first segment of the message with this pair
pub data FirstOf (p : Pair) : Job → Type 0 where
  first_of : {s : Segment} → s.first ≡ true → s.name.pair ≡ p → FirstOf p (J.Segment s)

abbrev pub BeginFits : Config → Pair → List Job → Type 0
BeginFits own p [] = ⊤
BeginFits own p (job ∷ jobs) = FirstOf p job × AllByRecursion (Fine own) jobs

abbrev pub JobsFit : Config → Event → List Job → Type 0
JobsFit own (E.Begin m) jobs = BeginFits own m.name.pair jobs
JobsFit own _ jobs = AllByRecursion (Fine own) jobs

-- what got into the message cache is of a foreign source
abbrev pub IsHeardFrom : Config → Insight → Answer → Type 0
IsHeardFrom own insight answer =
    (r : Reading) (low : Option Lower) (opening : Option Opening)
    → insight ≡ OfPdu (Some r) low opening → is_before_cache answer ≡ false → Foreign own r.fields.src

abbrev pub HeardFits : Config → Told → Type 0
HeardFits own t = IsHeardFrom own t.insight t.entry.answer

-- What an event stores by its answer lowers neither the known IV Index nor the mark, and is no identity. An accepted message is fresh, and
-- its name is stored first. What got past the answer `own` is another node's. A PDU that goes on was heard, and a first segment is the first
-- job of a message that begins.
pub record IsSafeRole (role : Role) : Type 0 where
  pub rises : (past : Past) (event : Event) (insight : Insight) → Marked (config_before past)
      → RiseAll (config_before past) (role.stores past event insight (role.answer past event insight))
  pub fresh : (past : Past) (event : Event) (insight : Insight) (n : Name) → role.sees past event insight
      → accepted (role.answer past event insight) ≡ Some n → Fresh past n
  pub replay : (past : Past) (event : Event) (insight : Insight) (n : Name) → role.sees past event insight
      → accepted (role.answer past event insight) ≡ Some n
      → (rest : List StoreRecord) × (role.stores past event insight (role.answer past event insight) ≡ R.Replay n None ∷ rest)
  pub heard : (past : Past) (event : Event) (insight : Insight) → role.sees past event insight
      → IsHeardFrom (config_before past) insight (role.answer past event insight)
  pub jobs : (own c : Config) (past : Past) (event : Event) (insight : Insight) (answer : Answer)
      → AllByRecursion (HeardFits own) past.told → IsHeardFrom own insight answer
      → JobsFit own event (role.jobs past c event insight answer)

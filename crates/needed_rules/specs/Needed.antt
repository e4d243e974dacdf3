-- Rules that are easy to lose, and what happens without them: for each there is a record that keeps all other rules
-- of a run and isn't safe.
use Rattle.std.specs.Prelude.{◌≡◌, ◌≢◌, ℕ, ◌^◌, ◌<◌, ◌≤◌, false, List, [], ◌∷◌, ◌++◌, All, AllPairs, ⊤}
use Rattle.std.specs.List.{flat_map}
use Rattle.mesh_types.specs.declared.answers.Answer.{Answer}
use Rattle.mesh_types.specs.declared.answers.Answer.TheVariants as A
use Rattle.record_types.specs.declared.records.StoreRecord.{StoreRecord}
use Rattle.store_definitions.specs.Config.{Config, config_of}
use Rattle.store_definitions.specs.Entries.{entry_of}
use Rattle.event_definitions.specs.Handling.{Handles, past_of, records_after}
use Rattle.event_definitions.specs.History.{Past, Told}
use Rattle.event_definitions.specs.Layers.{Layers}
use Rattle.run_definitions.specs.Order.{Part, PartsOf, Step, is_cut, phases_of, placed_from}
use Rattle.mesh_base.specs.Pairs.{word_of}
use Rattle.report_definitions.specs.Record.{Life, Run, list_at, shown, shown_by}
use Rattle.event_definitions.specs.Role.{Role, node_role}
use Rattle.run_definitions.specs.RunOf.{RunOf, Script, draws, words_told}
use Rattle.run_safety.specs.Rules.{Rules, RunBy, all_rules}
use Rattle.event_definitions.specs.Safe.{AreSafe}
use Rattle.store_definitions.specs.Numbers.{filled}
use Rattle.run_definitions.specs.Uses.{AtMostOnce, NoReuse, delivered, uses}

-- By all rules it is a run.
abbrev pub IsRunByAll : Type 0
IsRunByAll = (layers : Layers) (s : Script) (r : Run) → RunBy all_rules (node_role layers) s r → RunOf (node_role layers) s r

-- there is a record by these rules that seals two plaintexts under one key and nonce, or delivers a message twice
abbrev pub Reuses : Rules → Type 0
Reuses rules =
    (layers : Layers) × (s : Script) × (r : Run) × AreSafe layers × RunBy rules (node_role layers) s r × (NoReuse (uses r) → ⊥)

abbrev pub Repeats : Rules → Type 0
Repeats rules =
    (layers : Layers) × (s : Script) × (r : Run) × AreSafe layers × RunBy rules (node_role layers) s r
    × (AtMostOnce (delivered r) → ⊥)

-- without the bound on SEQ: the word behind the last SEQ of an IV Index may lie between the marks, and its nonce is
-- that of SEQ 0
pub record DrawsWithoutBound (over next : List StoreRecord) (l : Life) : Type 0 where
  pub from : All (λ p. (config_of over).mark ≤ word_of p) (draws (shown l))
  pub below : All (λ p. word_of p < (config_of next).mark) (draws (shown l))
  pub once : AllPairs (λ p q. word_of p ≢ word_of q) (draws (shown l))
  pub rise : (k : ℕ) → AllPairs (λ p q. word_of p < word_of q) (draws (shown_by l k))
  pub onward : (k : ℕ) → AllPairs (λ x y. x ≤ y) (words_told (shown_by l k))

-- without the mark that a life opens with: it may draw what the life before drew
pub record DrawsFromAnywhere (over next : List StoreRecord) (l : Life) : Type 0 where
  pub seq : All (λ p. p.seq < 2 ^ 24) (draws (shown l))
  pub below : All (λ p. word_of p < (config_of next).mark) (draws (shown l))
  pub once : AllPairs (λ p q. word_of p ≢ word_of q) (draws (shown l))
  pub rise : (k : ℕ) → AllPairs (λ p q. word_of p < word_of q) (draws (shown_by l k))
  pub onward : (k : ℕ) → AllPairs (λ x y. x ≤ y) (words_told (shown_by l k))

-- without the mark that it leaves: it may draw what the next life draws
pub record DrawsUnreserved (over next : List StoreRecord) (l : Life) : Type 0 where
  pub seq : All (λ p. p.seq < 2 ^ 24) (draws (shown l))
  pub from : All (λ p. (config_of over).mark ≤ word_of p) (draws (shown l))
  pub once : AllPairs (λ p q. word_of p ≢ word_of q) (draws (shown l))
  pub rise : (k : ℕ) → AllPairs (λ p q. word_of p < word_of q) (draws (shown_by l k))
  pub onward : (k : ℕ) → AllPairs (λ x y. x ≤ y) (words_told (shown_by l k))

-- without a rule for two bearers: both may draw one pair
pub record DrawsTwice (over next : List StoreRecord) (l : Life) : Type 0 where
  pub seq : All (λ p. p.seq < 2 ^ 24) (draws (shown l))
  pub from : All (λ p. (config_of over).mark ≤ word_of p) (draws (shown l))
  pub below : All (λ p. word_of p < (config_of next).mark) (draws (shown l))
  pub rise : (k : ℕ) → AllPairs (λ p q. word_of p < word_of q) (draws (shown_by l k))
  pub onward : (k : ℕ) → AllPairs (λ x y. x ≤ y) (words_told (shown_by l k))

-- Without the order of a bearer's work: the first segment of a message may go without the line that sealed the message.
pub record IsInAnyOrder (plan : List Step) (l : Life) : Type 0 where
  pub parts : List Part
  pub entries : placed_from 0 l.entries ≡ flat_map (λ part. part.entries) parts
  pub sends : (k : ℕ) → list_at l.sends k ≡ flat_map (λ part. list_at part.sends k) parts

-- without that the lines of a life are those of its parts: they may be of no job
pub record WritesAnything (plan : List Step) (l : Life) : Type 0 where
  pub parts : List Part
  pub entries : placed_from 0 l.entries ≡ flat_map (λ part. part.entries) parts
  pub phases : PartsOf (is_cut l.end) (phases_of plan) parts

-- without that the entries of a life are those of its parts: the lines may be of other jobs
pub record WorksOnAnything (plan : List Step) (l : Life) : Type 0 where
  pub parts : List Part
  pub sends : (k : ℕ) → list_at l.sends k ≡ flat_map (λ part. list_at part.sends k) parts
  pub phases : PartsOf (is_cut l.end) (phases_of plan) parts

-- without that a life that isn't run does nothing: what it does has no order
abbrev pub MayWork : Life → Type 0
MayWork l = ⊤

-- without that the entries of a life are told: none of them need be handled
abbrev pub TellsAnything : List Told → Life → Type 0
TellsAnything told l = ⊤

-- entries that are handled so, each after those before it and over the records that these left
abbrev pub AreHandledSo : (Role → Past → Told → Type 0) → Role → List StoreRecord → List Told → List Told → Type 0
AreHandledSo handles role records before [] = ⊤
AreHandledSo handles role records before (t ∷ ts) =
    (t.records ≡ filled t.entry.fills records)
    × handles role (past_of before t) t
    × AreHandledSo handles role (records_after role (past_of before t) t) (before ++ t ∷ []) ts

-- without the jobs of an entry: it may let PDUs of the node's own go on
pub record HandlesButJobs (role : Role) (past : Past) (t : Told) : Type 0 where
  pub sees : role.sees past t.entry.event t.insight
  pub answer : t.entry.answer ≡ role.answer past t.entry.event t.insight

-- without that octets are read as what they seal: a message of an IV Index that expired may be seen again and again
pub record HandlesButSight (role : Role) (past : Past) (t : Told) : Type 0 where
  pub answer : t.entry.answer ≡ role.answer past t.entry.event t.insight
  pub jobs : t.entry.jobs
      ≡ role.jobs past (config_of (records_after role past t)) t.entry.event t.insight t.entry.answer

-- without the table of the IV Index, so that a beacon may take any step: where the known IV Index falls, a name comes
-- back whose entry was expired

abbrev pub IsAnswerButStep : Answer → Answer → Type 0
IsAnswerButStep (A.Beacon index key iv) (A.Beacon index' key' iv') = (index ≡ index') × (key ≡ key')
IsAnswerButStep a b = a ≡ b

pub record HandlesButStep (role : Role) (past : Past) (t : Told) : Type 0 where
  pub sees : role.sees past t.entry.event t.insight
  pub answer : IsAnswerButStep t.entry.answer (role.answer past t.entry.event t.insight)
  pub jobs : t.entry.jobs
      ≡ role.jobs past (config_of (records_after role past t)) t.entry.event t.insight t.entry.answer

-- without the records that the entries before have left: an entry may see a store that has forgotten what was accepted
abbrev pub AreHandledOverAny : Role → List StoreRecord → List Told → List Told → Type 0
AreHandledOverAny role records before [] = ⊤
AreHandledOverAny role records before (t ∷ ts) =
    Handles role (past_of before t) t
    × AreHandledOverAny role (records_after role (past_of before t) t) (before ++ t ∷ []) ts

-- without the entries before: an entry may see a PDU of the node's own among what was heard, which a layer lets go on
abbrev pub AreHandledAfterAny : Role → List StoreRecord → List Told → List Told → Type 0
AreHandledAfterAny role records before [] = ⊤
AreHandledAfterAny role records before (t ∷ ts) =
    (t.records ≡ filled t.entry.fills records)
    × ((heard : List Told) × Handles role (past_of heard t) t)
    × AreHandledAfterAny role (records_after role (past_of before t) t) (before ++ t ∷ []) ts

-- without a rule on what outlasts a cut: a mark may outlast it that is lower than the one before
abbrev pub OutlastsAnything : Role → List Step → Life → Past → List StoreRecord → Type 0
OutlastsAnything role plan l past more = ⊤

-- without the ranges of a record's fields: so many numbers may be reserved that an IV Index outgrows its 32 bits, and its
-- nonce is that of a lower one
abbrev pub HasAnyFields : StoreRecord → Type 0
HasAnyFields r = ⊤

-- with one thing left out of what the next life opens over
pub record IsAlikeBut (without : Config → Config) (a b : List StoreRecord) : Type 0 where
  pub config : without (config_of a) ≡ without (config_of b)
  pub entries : (src : ℕ) → entry_of a src ≡ entry_of b src

-- the mark: the next life may draw again what was drawn
abbrev pub without_mark : Config → Config
without_mark c = record c { mark = 0 }

-- the IV state: where the known IV Index falls, a name comes back whose entry was expired
abbrev pub without_iv_state : Config → Config
without_iv_state c = record c { iv = record { current = 0; progress = false; hours = 0; since = 0 } }

-- the address of the first element, or the number of elements: PDUs of what was an element go on
abbrev pub without_unicast : Config → Config
without_unicast c = record c { unicast = record { 0 = 0 } }

abbrev pub without_elements : Config → Config
without_elements c = record c { elements = 0 }

-- without the replay list in what is left: a power cut forgets what was accepted
pub record SaysTheSame (a b : List StoreRecord) : Type 0 where
  pub config : config_of a ≡ config_of b

-- by all rules, but with layers that aren't safe: they may let a PDU of the node's own go on
abbrev pub ReusesUnsafely : Type 0
ReusesUnsafely = (layers : Layers) × (s : Script) × (r : Run) × RunOf (node_role layers) s r × (NoReuse (uses r) → ⊥)

-- what each rule is needed for
pub record AreNeeded : Type 0 where
  pub bound : Reuses (record all_rules { is_drawn = DrawsWithoutBound })
  pub from : Reuses (record all_rules { is_drawn = DrawsFromAnywhere })
  pub below : Reuses (record all_rules { is_drawn = DrawsUnreserved })
  pub once : Reuses (record all_rules { is_drawn = DrawsTwice })
  pub order : Reuses (record all_rules { is_ordered = IsInAnyOrder })
  pub lines : Reuses (record all_rules { is_ordered = WritesAnything })
  pub history : Reuses (record all_rules { is_ordered = WorksOnAnything })
  pub idle : Reuses (record all_rules { is_idle = MayWork })
  pub told : Reuses (record all_rules { are_told = TellsAnything })
  pub jobs : Reuses (record all_rules { are_handled = AreHandledSo HandlesButJobs })
  pub sight : Repeats (record all_rules { are_handled = AreHandledSo HandlesButSight })
  pub iv_table : Repeats (record all_rules { are_handled = AreHandledSo HandlesButStep })
  pub records : Repeats (record all_rules { are_handled = AreHandledOverAny })
  pub before : Reuses (record all_rules { are_handled = AreHandledAfterAny })
  pub outlasts : Reuses (record all_rules { does_outlast = OutlastsAnything })
  pub ranges : Reuses (record all_rules { is_in_range = HasAnyFields })
  pub mark : Reuses (record all_rules { is_alike = IsAlikeBut without_mark })
  pub iv_state : Repeats (record all_rules { is_alike = IsAlikeBut without_iv_state })
  pub unicast : Reuses (record all_rules { is_alike = IsAlikeBut without_unicast })
  pub elements : Reuses (record all_rules { is_alike = IsAlikeBut without_elements })
  pub replay_list : Repeats (record all_rules { is_alike = SaysTheSame })
  pub safe_layers : ReusesUnsafely

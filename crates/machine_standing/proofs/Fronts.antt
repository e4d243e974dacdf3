-- Fronts of records that keep a node whole.
use Rattle.std.proofs.Common.{◌≡◌, ℕ, suc, zero, List, [], ◌∷◌, ◌++◌, take, refl, sym, subst, ◌∙◌}
use Rattle.std.specs.Prelude.{All, fold}
use Rattle.std.specs.List.{AllByRecursion as Every}
use Rattle.std.proofs.lemmas.Grind.{fold-append}
use Rattle.std.proofs.lemmas.List.Elements.{All-from_recursion, recursion_from_All}
use Rattle.event_records.specs.Putting.{ArePuttable}
use Rattle.machine_standing.proofs.Lists.{every_append, every_take}
use Rattle.machine_standing.specs.Kept.{AreKept, IsNoIdentity, KeepWhole, KeptLaw}
use Rattle.node_records.specs.Tables.{config_in}
use Rattle.node_records.specs.declared.persist.Persist.{Persist}
use Rattle.record_types.specs.declared.records.StoreRecord.{StoreRecord}
use Rattle.record_types.specs.declared.records.StoreRecord.TheVariants as R
use Rattle.store_definitions.specs.Config.{Config, changed, config_of, no_config}
use Rattle.store_definitions.specs.Node.{IsWhole}
use Rattle.store_definitions.specs.Ranges.{IsInRange}

whole_front : KeptLaw → (c : Config) (n : ℕ) (items : List StoreRecord) → AreKept c items → IsWhole c → IsWhole (fold changed c (take n items))
whole_front law c zero items h k = k
whole_front law c (suc n) [] h k = k
whole_front law c (suc n) (item ∷ items) h k = whole_front law (changed c item) n items h.3 (law c item h.0 h.1 k)

kept_ranges : (c : Config) (items : List StoreRecord) → AreKept c items → Every IsInRange items
kept_ranges c [] h = tt
kept_ranges c (item ∷ items) h = (h.0, kept_ranges (changed c item) items h.3)

pub front_whole : KeptLaw → (records items : List StoreRecord) (n : ℕ) → AreKept (config_of records) items → IsWhole (config_of records) → IsWhole (config_of (records ++ take n items))
front_whole law records items n h k =
    subst IsWhole (sym (fold-append changed no_config records (take n items))) (whole_front law (config_of records) n items h k)

pub front_ranges : (records items : List StoreRecord) (n : ℕ) → AreKept (config_of records) items → All IsInRange records → All IsInRange (records ++ take n items)
front_ranges records items n h k =
    All-from_recursion IsInRange (records ++ take n items)
    (every_append IsInRange records (take n items) (recursion_from_All IsInRange records k) (every_take IsInRange n items (kept_ranges (config_of records) items h)))

whole_all : KeptLaw → (c : Config) (items : List StoreRecord) → AreKept c items → IsWhole c → IsWhole (fold changed c items)
whole_all law c [] h k = k
whole_all law c (item ∷ items) h k = whole_all law (changed c item) items h.3 (law c item h.0 h.1 k)

pub all_whole : KeptLaw → (records items : List StoreRecord) → AreKept (config_of records) items → IsWhole (config_of records) → IsWhole (config_of (records ++ items))
all_whole law records items h k = subst IsWhole (sym (fold-append changed no_config records items)) (whole_all law (config_of records) items h k)

pub all_ranges : (records items : List StoreRecord) → AreKept (config_of records) items → All IsInRange records → All IsInRange (records ++ items)
all_ranges records items h k =
    All-from_recursion IsInRange (records ++ items)
    (every_append IsInRange records items (recursion_from_All IsInRange records k) (kept_ranges (config_of records) items h))

-- Some value says each configuration.

abbrev saying : Config → Persist
saying c = record {
  unicast = c.unicast;
  elements = c.elements;
  dev_key = c.dev_key;
  iv = c.iv;
  mark = c.mark;
  nets = c.nets;
  apps = c.apps;
  binds = c.binds;
  subs = c.subs;
  labels = c.labels;
  publications = c.publications;
  onoffs = c.onoffs;
  levels = c.levels;
  beacon = c.beacon;
  ttl = c.ttl;
  friend = c.friend;
  relay = c.relay;
  retransmit = c.retransmit;
  transmit = c.transmit;
  reset = c.reset;
  replay = [];
}

-- so records that may be put one after another are in range
pub puttable_kept : (p : Persist) (items : List StoreRecord) → ArePuttable p items → KeepWhole (config_in p) items → AreKept (config_in p) items
puttable_kept p [] h k = tt
puttable_kept p (item ∷ items) h k =
    let q : Persist = saying (changed (config_in p) item) in
    (h.0, k.0, k.1, puttable_kept q items (h.3 q refl) k.2)

-- and the elements stay

pub record IsSameNode (c d : Config) : Type 0 where
  pub unicast : d.unicast ≡ c.unicast
  pub elements : d.elements ≡ c.elements

same_changed : (c : Config) (item : StoreRecord) → IsNoIdentity item → IsSameNode c (changed c item)
unfolding changed
same_changed c (R.Identity unicast elements dev_key) h = absurd h
same_changed c _ h = record { unicast = refl; elements = refl }

pub kept_node : (c : Config) (items : List StoreRecord) → AreKept c items → IsSameNode c (fold changed c items)
kept_node c [] h = record { unicast = refl; elements = refl }
kept_node c (item ∷ items) h =
    let one : IsSameNode c (changed c item) = same_changed c item h.2 in
    let rest : IsSameNode (changed c item) (fold changed (changed c item) items) = kept_node (changed c item) items h.3 in
    record { unicast = rest.unicast ∙ one.unicast; elements = rest.elements ∙ one.elements }

-- those that records say
pub kept_node_of : (records items : List StoreRecord) → AreKept (config_of records) items → IsSameNode (config_of records) (config_of (records ++ items))
kept_node_of records items h =
    subst (λ c. IsSameNode (config_of records) c) (sym (fold-append changed no_config records items)) (kept_node (config_of records) items h)

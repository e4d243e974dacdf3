-- A value of the store's tables as what records say of a node, and as the replay list that it holds.
use Rattle.std.specs.Prelude.{◌≡◌, ℕ, ◌==◌, if◌then◌else◌, List, [], ◌∷◌, Option, Some, None}
use Rattle.mesh_base.specs.declared.pair.Pair.{Pair}
use Rattle.mesh_base.specs.declared.pair.Name.{Name}
use Rattle.store_definitions.specs.Config.{Config}
use Rattle.store_definitions.specs.Entries.{unexpired}
use Rattle.node_records.specs.declared.persist.Persist.{Persist}

-- the fields, and the tables as lists
abbrev pub config_in : Persist → Config
config_in p = record {
  unicast = p.unicast;
  elements = p.elements;
  dev_key = p.dev_key;
  iv = p.iv;
  mark = p.mark;
  nets = p.nets;
  apps = p.apps;
  binds = p.binds;
  subs = p.subs;
  labels = p.labels;
  publications = p.publications;
  onoffs = p.onoffs;
  levels = p.levels;
  beacon = p.beacon;
  ttl = p.ttl;
  friend = p.friend;
  relay = p.relay;
  retransmit = p.retransmit;
  transmit = p.transmit;
  reset = p.reset;
}

-- the pair of a source's row, if it has one
abbrev pub pair_of : List Name → ℕ → Option Pair
pair_of [] src = None
pair_of (row ∷ rows) src = if row.src.0 == src then Some row.pair else pair_of rows src

-- no source has two rows
abbrev pub IsApart : List Name → Type 0
IsApart [] = Unit {0}
IsApart (row ∷ rows) = (pair_of rows row.src.0 ≡ None) × IsApart rows

-- the entry of a source: the pair of its row, if it has one that isn't expired under the known IV Index
abbrev pub entry_in : Persist → ℕ → Option Pair
entry_in p src = unexpired p.iv.current (pair_of p.replay src)

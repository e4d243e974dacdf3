-- What is told of a node that a flash stores, and how.
use Rattle.std.specs.Prelude.{ℕ, Bool, true, false, List, [], ◌∷◌, ◌++◌, length, map, codes}
use Rattle.std.specs.Fmt.{decimal}
use Rattle.std.specs.List.{flat_map}
use Rattle.mesh_base.specs.declared.address.Address.{Address}
use Rattle.mesh_base.specs.declared.iv_state.IvState.{IvState}
use Rattle.mesh_base.specs.declared.keys.AppKeyRow.{AppKeyRow}
use Rattle.mesh_base.specs.declared.keys.NetKeyRow.{NetKeyRow}
use Rattle.mesh_types.specs.declared.report.Opened.{Opened}
use Rattle.mesh_types.specs.declared.report.Opened.TheVariants as W
use Rattle.report_definitions.specs.Report.{line_text, opened_line}
use Rattle.report_definitions.specs.Text.{address_text, hex_digits, word_text}
use Rattle.store_definitions.specs.Config.{Config}

-- a network key by its index and its phase, an application key by its index and that of its network key: no key itself
pub record NetShown : Type 0 where
  pub index : ℕ
  pub phase : ℕ

pub record AppShown : Type 0 where
  pub index : ℕ
  pub net : ℕ

-- What is told. It has no key: neither a network, an application or a device key, nor the label of a virtual address.
pub record Shown : Type 0 where
  pub unicast : Address
  pub elements : ℕ
  pub reset : Bool
  pub iv : IvState
  pub mark : ℕ
  pub nets : List NetShown
  pub apps : List AppShown
  pub bindings : ℕ
  pub groups : ℕ
  pub labels : ℕ
  pub publications : ℕ
  pub replay : ℕ
  pub slots : ℕ
  pub format : ℕ

abbrev pub net_shown : NetKeyRow → NetShown
net_shown row = record { index = row.index; phase = row.phase }

abbrev pub app_shown : AppKeyRow → AppShown
app_shown row = record { index = row.index; net = row.net }

-- what is told of records that say this, with so many rows in the replay list, in so many slots of this format
abbrev pub shown_of : Config → ℕ → ℕ → ℕ → Shown
shown_of c replay slots format = record {
  unicast = c.unicast;
  elements = c.elements;
  reset = c.reset;
  iv = c.iv;
  mark = c.mark;
  nets = map net_shown c.nets;
  apps = map app_shown c.apps;
  bindings = length c.binds;
  groups = length c.subs;
  labels = length c.labels;
  publications = length c.publications;
  replay = replay;
  slots = slots;
  format = format;
}

-- a line of a word and a number
abbrev pub count_line : List ℕ → ℕ → List ℕ
count_line word n = word ++ word_text (decimal n) ++ 10 ∷ []

-- `node UNICAST ELEMENTS`
abbrev pub node_line : Address → ℕ → List ℕ
node_line unicast elements = codes "node" ++ address_text unicast ++ word_text (decimal elements) ++ 10 ∷ []

-- how the next life opens: it isn't run where there was a Node Reset
abbrev pub next_opened : Bool → IvState → ℕ → Opened
next_opened true iv mark = W.WasReset
next_opened false iv mark = W.On iv mark

-- the line that it begins with
abbrev pub next_line : Bool → IvState → ℕ → List ℕ
next_line reset iv mark = line_text (opened_line 1 (next_opened reset iv mark))

-- `net INDEX PHASE`
abbrev pub net_line : NetShown → List ℕ
net_line row = codes "net" ++ word_text (hex_digits 3 row.index) ++ word_text (decimal row.phase) ++ 10 ∷ []

-- `app INDEX NET`
abbrev pub app_line : AppShown → List ℕ
app_line row = codes "app" ++ word_text (hex_digits 3 row.index) ++ word_text (hex_digits 3 row.net) ++ 10 ∷ []

-- a line for each table
abbrev pub table_lines : Shown → List ℕ
table_lines s =
    count_line (codes "bindings") s.bindings ++ count_line (codes "groups") s.groups
    ++ count_line (codes "labels") s.labels ++ count_line (codes "publications") s.publications
    ++ count_line (codes "replay") s.replay

-- The text: a line for the node, the line that its next life begins with, a line for each key and for each table, and two for the journal.
unfoldable pub state_text_of : Shown → List ℕ
state_text_of s =
    node_line s.unicast s.elements ++ next_line s.reset s.iv s.mark ++ flat_map net_line s.nets
    ++ flat_map app_line s.apps ++ table_lines s ++ count_line (codes "slots") s.slots ++ count_line (codes "format") s.format

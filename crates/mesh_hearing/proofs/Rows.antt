-- The answers of the network layer, row by row.
use Rattle.std.proofs.Common.{◌≡◌, ℕ, Bool, true, false, cond, not, ◌||◌, List, [], ◌∷◌, refl, ap, sym, ◌∙◌, Option, Some, None}
use Rattle.std.specs.Prelude.{◌==◌, map}
use Rattle.std.specs.List.{list_any}
use Rattle.cipher_definitions.specs.Kdf.{virtual_address}
use Rattle.layer_states.specs.Cache.{after_heard, last_of, remembered}
use Rattle.layer_states.specs.Cache as cache
use Rattle.mesh_base.specs.declared.address.Address.{Address}
use Rattle.mesh_base.specs.declared.fields.NetFields.{NetFields}
use Rattle.mesh_base.specs.declared.pair.Name.{Name}
use Rattle.mesh_hearing.specs.Below.{own_address}
use Rattle.message_answers.specs.Sender.{sender_answer}
use Rattle.mesh_types.specs.declared.answers.Answer.{Answer}
use Rattle.mesh_types.specs.declared.answers.Answer.TheVariants as A
use Rattle.node_layers.specs.Steps.{cached_names}
use Rattle.layer_states.specs.Names.{is_unicast}
use Rattle.event_definitions.specs.Answers.{config_before, is_cached, is_mine, name_of, network_answer}
use Rattle.event_definitions.specs.History.{Past, Reading}
use Rattle.event_definitions.specs.Readings.{labels_tried}
use Rattle.store_definitions.specs.Config.{Config, config_of, is_element}
use Rattle.virtual_labels.specs.Addresses.{has_address}

-- the label of a subscription has an address where a label held has it
pub labelled : (rows : List (Address × ℕ × List ℕ)) (a : Address)
    → has_address (map (λ (l : Address × ℕ × List ℕ). l.2) rows) a ≡ list_any (λ (l : Address × ℕ × List ℕ). virtual_address l.2 == a.0) rows
labelled [] a = refl
labelled (row ∷ rows) a = ap (λ b. (virtual_address row.2 == a.0) || b) (labelled rows a)

-- the last test of what is mine
last_test : (own last b : Bool) → own ≡ false → b ≡ last → b ≡ (own || last)
last_test true last b e f = absurd cc
last_test false last b e f = f

pub mine_last : (c : Config) (labels : List (List ℕ)) (a : Address) (own b : Bool) → own ≡ own_address c a → own ≡ false
    → labels ≡ labels_tried c → b ≡ has_address labels a → b ≡ is_mine c a
mine_last c labels a own b e f g h =
    last_test (own_address c a) (list_any (λ (x : Address × ℕ × List ℕ). virtual_address x.2 == a.0) c.labels) b (sym e ∙ f)
    (h ∙ ap (λ ls. has_address ls a) g ∙ labelled c.labels a)

-- the rows from the message cache on
abbrev pub below_sender : Bool → Bool → Option Answer
below_sender cached mine = cond cached (Some A.Cached) (cond (not mine) (Some A.NotMine) None)

first_rows : (bad own : Bool) (rest : Option Answer) (a : Answer)
    → cond bad (Some A.BadAddress) (cond own (Some A.Own) None) ≡ Some a → cond bad (Some A.BadAddress) (cond own (Some A.Own) rest) ≡ Some a
first_rows true own rest a e = e
first_rows false true rest a e = e
first_rows false false rest a e = absurd cc

later_rows : (bad own : Bool) (rest : Option Answer)
    → cond bad (Some A.BadAddress) (cond own (Some A.Own) None) ≡ None → cond bad (Some A.BadAddress) (cond own (Some A.Own) rest) ≡ rest
later_rows true own rest e = absurd cc
later_rows false true rest e = absurd cc
later_rows false false rest e = refl

pub row_first : (past : Past) (r : Reading) (c : Config) (a : Answer) → c ≡ config_of past.records → sender_answer c r.fields ≡ Some a
    → Some a ≡ network_answer past r
row_first past r c a e s =
    let before = config_before past in
    let rest = below_sender (is_cached past r.fields) (is_mine before r.fields.dst) in
    sym (first_rows (not (is_unicast r.fields.src) || (r.fields.dst.0 == 0)) (is_element before r.fields.src.0) rest a
    (ap (λ d. sender_answer d r.fields) (sym e) ∙ s))

pub row_below : (past : Past) (r : Reading) (c : Config) → c ≡ config_of past.records → sender_answer c r.fields ≡ None
    → below_sender (is_cached past r.fields) (is_mine c r.fields.dst) ≡ network_answer past r
row_below past r c e s =
    let before = config_before past in
    let rest = below_sender (is_cached past r.fields) (is_mine before r.fields.dst) in
    ap (λ d. below_sender (is_cached past r.fields) (is_mine d r.fields.dst)) e
    ∙ sym (later_rows (not (is_unicast r.fields.src) || (r.fields.dst.0 == 0)) (is_element before r.fields.src.0) rest
    (ap (λ d. sender_answer d r.fields) (sym e) ∙ s))

-- the message cache has what the definitions say
pub cached_is : (past : Past) (f : NetFields) (names : List Name) (n : Name) → names ≡ last_of 128 (cached_names past.told) → n ≡ name_of f
    → cache.is_cached names n ≡ is_cached past f
cached_is past f names n e g = ap (λ m. cache.is_cached names m) g ∙ ap (λ ns. cache.is_cached ns (name_of f)) e

-- what is in the cache stays, and what isn't comes in
pub stays : (names : List Name) (n : Name) (b : Bool) → b ≡ not (cache.is_cached names n) → b ≡ false → after_heard names n ≡ names
stays names n b e f = held (cache.is_cached names n) (sym e ∙ f)
  where
    held : (h : Bool) → not h ≡ false → cond h names (remembered names n) ≡ names
    held true g = refl
    held false g = absurd cc

pub comes : (names : List Name) (n : Name) (b : Bool) → b ≡ not (cache.is_cached names n) → b ≡ true → after_heard names n ≡ remembered names n
comes names n b e f = held (cache.is_cached names n) (sym e ∙ f)
  where
    held : (h : Bool) → not h ≡ true → cond h names (remembered names n) ≡ remembered names n
    held true g = absurd cc
    held false g = refl

-- and so the row of the cache holds or doesn't
pub not_first : (h b : Bool) → b ≡ not h → b ≡ false → h ≡ true
not_first true b e f = refl
not_first false b e f = absurd cc

pub is_first : (h b : Bool) → b ≡ not h → b ≡ true → h ≡ false
is_first true b e f = absurd cc
is_first false b e f = refl

-- A whole message: from its opening and its place to its answer.
use Rattle.std.proofs.Common.{◌≡◌, ℕ, Bool, true, false, cond, not, ◌&&◌, List, refl, ap, sym, subst, ◌∙◌, Option, Some, None, inl, inr}
use Rattle.std.specs.Prelude.{is_none, is_some}
use Rattle.std.specs.Option.{option_map}
use Rattle.mesh_base.specs.declared.lower.Lower.TheVariants.{Access, Control, AccessPart, ControlPart}
use Rattle.mesh_base.specs.declared.pair.Name.{Name}
use Rattle.mesh_base.specs.declared.pair.Pair.{Pair}
use Rattle.mesh_hearing.specs.Below.{IsAccessAs, IsWholeAs}
use Rattle.message_answers.specs.declared.whole.Judged.{Judged}
use Rattle.mesh_reading.specs.Held.{opening_of}
use Rattle.mesh_reading.specs.declared.opening.Opened.{Opened}
use Rattle.mesh_types.specs.KeyName.{key_name_of}
use Rattle.mesh_types.specs.declared.answers.Answer.{Answer}
use Rattle.mesh_types.specs.declared.answers.Answer.TheVariants as A
use Rattle.mesh_types.specs.declared.answers.KeyName.{KeyName}
use Rattle.node_layers.specs.BuiltLayers.{built_layers}
use Rattle.node_layers.specs.ConfiguredLayers.{configured_layers}
use Rattle.node_layers.specs.NodeLayers.{node_layers}
use Rattle.node_layers.specs.Reassembly.{octets_after}
use Rattle.node_records.specs.Full.{IsHeldByOthers}
use Rattle.node_records.specs.Meaning.{IsMeaningOf}
use Rattle.node_records.specs.Tables.{config_in, entry_in}
use Rattle.node_records.specs.declared.persist.Persist.{Persist}
use Rattle.record_types.specs.declared.records.StoreRecord.TheVariants as R
use Rattle.event_definitions.specs.Answers.{config_before, placed_answer}
use Rattle.event_definitions.specs.History.{Past, Reading}
use Rattle.event_definitions.specs.Readings.{IsOpenedFor, fields_heard, keys_tried}
use Rattle.store_definitions.specs.Entries.{entry_of, has_room, others_held}
use Rattle.store_definitions.specs.Following.{PassesLimit}

-- Places in the replay list.

has_entry : (kept : Option Pair) (room : Bool) (full a : Answer) → is_some kept ≡ true → a ≡ cond (is_none kept && not room) full a
has_entry None room full a e = absurd cc
has_entry (Some p) room full a e = refl

pub placed_held : (past : Past) (p : Persist) (n : Name) (kept : Option Pair) (a : Answer) → IsMeaningOf past.records p → kept ≡ entry_in p n.src.0
    → is_some kept ≡ true → a ≡ placed_answer past n a
placed_held past p n kept a m e s =
    has_entry (entry_of past.records n.src.0) (has_room past.records n.src.0) (A.ListFull (others_held past.records n.src.0)) a
    (ap (λ (o : Option Pair). is_some o) (sym (e ∙ m.entries n.src.0)) ∙ s)

has_place : (kept : Option Pair) (room : Bool) (full a : Answer) → kept ≡ None → (room ≡ false → ⊥) → a ≡ cond (is_none kept && not room) full a
has_place None true full a e f = refl
has_place None false full a e f = absurd (f refl)
has_place (Some p) room full a e f = refl

has_none : (kept : Option Pair) (room : Bool) (held other : ℕ) (a : Answer) → kept ≡ None → room ≡ false → held ≡ other
    → A.ListFull held ≡ cond (is_none kept && not room) (A.ListFull other) a
has_none None true held other a e f g = absurd cc
has_none None false held other a e f g = ap A.ListFull g
has_none (Some p) room held other a e f g = absurd cc

none_of : (kept : Option Pair) → is_some kept ≡ false → kept ≡ None
none_of None e = refl
none_of (Some p) e = absurd cc

no_entry : (past : Past) (p : Persist) (n : Name) (kept : Option Pair) → IsMeaningOf past.records p → kept ≡ entry_in p n.src.0
    → is_some kept ≡ false → entry_of past.records n.src.0 ≡ None
no_entry past p n kept m e s = sym (e ∙ m.entries n.src.0) ∙ none_of kept s

pub placed_free : (past : Past) (p : Persist) (n : Name) (kept : Option Pair) (a : Answer) → IsMeaningOf past.records p → kept ≡ entry_in p n.src.0
    → is_some kept ≡ false → (PassesLimit past.records (R.Replay n None) → ⊥) → a ≡ placed_answer past n a
placed_free past p n kept a m e s f =
    let none = no_entry past p n kept m e s in
    has_place (entry_of past.records n.src.0) (has_room past.records n.src.0) (A.ListFull (others_held past.records n.src.0)) a none (λ r. f (inl (none, r)))

pub placed_full : (past : Past) (p : Persist) (n : Name) (kept : Option Pair) (held : ℕ) (a : Answer) → IsMeaningOf past.records p → kept ≡ entry_in p n.src.0
    → is_some kept ≡ false → IsHeldByOthers past.records (R.Replay n None) held → A.ListFull held ≡ placed_answer past n a
placed_full past p n kept held a m e s f = either f
  where
    either : IsHeldByOthers past.records (R.Replay n None) held → A.ListFull held ≡ placed_answer past n a
    either (inl (place, count)) = has_none (entry_of past.records n.src.0) (has_room past.records n.src.0) held (others_held past.records n.src.0) a place.0 place.1 count
    either (inr h) = absurd h

-- Access messages.

pub access_opened : (past : Past) (p : Persist) (r : Reading) (n : Name) (akf : Bool) (aid : ℕ) (szmic : Bool) (octets : List ℕ) (o : Opened) (key : KeyName)
    (a : Answer) → IsMeaningOf past.records p
    → IsOpenedFor (config_in p) (keys_tried (config_in p) r akf aid) (fields_heard r n szmic) octets (Some (opening_of o))
    → key ≡ key_name_of o.key → a ≡ placed_answer past n (A.Delivered n r.fields.dst key o.payload)
    → IsAccessAs past r n akf aid szmic octets (record { opened = Some o; answer = a })
access_opened past p r n akf aid szmic octets o key a m opens e g = record {
  opens = subst (λ c. IsOpenedFor c (keys_tried c r akf aid) (fields_heard r n szmic) octets (Some (opening_of o))) m.config opens;
  answer = g ∙ ap (λ k. placed_answer past n (A.Delivered n r.fields.dst k o.payload)) e;
}

pub access_unopened : (past : Past) (p : Persist) (r : Reading) (n : Name) (akf : Bool) (aid : ℕ) (szmic : Bool) (octets : List ℕ) → IsMeaningOf past.records p
    → IsOpenedFor (config_in p) (keys_tried (config_in p) r akf aid) (fields_heard r n szmic) octets None
    → IsAccessAs past r n akf aid szmic octets (record { opened = None; answer = A.NoKey })
access_unopened past p r n akf aid szmic octets m opens = record {
  opens = subst (λ c. IsOpenedFor c (keys_tried c r akf aid) (fields_heard r n szmic) octets None) m.config opens;
  answer = refl;
}

-- Whole messages.

pub whole_access : (past : Past) (r : Reading) (n : Name) (akf : Bool) (aid : ℕ) (upper octets : List ℕ) (j : Judged) → octets ≡ upper
    → IsAccessAs past r n akf aid false octets j → IsWholeAs past r (Access akf aid upper) n j
whole_access past r n akf aid upper octets j e h = record {
  opens = subst (λ os. IsOpenedFor (config_before past) (keys_tried (config_before past) r akf aid) (fields_heard r n false) os (option_map opening_of j.opened)) e h.opens;
  answer = h.answer;
}

pub whole_access_part : (past : Past) (r : Reading) (n : Name) (akf : Bool) (aid : ℕ) (szmic : Bool) (seq_zero seg_o seg_n : ℕ) (piece octets : List ℕ) (j : Judged)
    → octets ≡ octets_after past n (AccessPart akf aid szmic seq_zero seg_o seg_n piece)
    → IsAccessAs past r n akf aid szmic octets j → IsWholeAs past r (AccessPart akf aid szmic seq_zero seg_o seg_n piece) n j
unfolding node_layers configured_layers built_layers
whole_access_part past r n akf aid szmic seq_zero seg_o seg_n piece octets j e h = record {
  opens = subst (λ os. IsOpenedFor (config_before past) (keys_tried (config_before past) r akf aid) (fields_heard r n szmic) os (option_map opening_of j.opened)) e h.opens;
  answer = h.answer;
}

pub whole_control : (past : Past) (r : Reading) (n : Name) (opcode : ℕ) (params octets : List ℕ) (a : Answer) → octets ≡ params
    → a ≡ placed_answer past n (A.Control n r.fields.dst opcode octets)
    → IsWholeAs past r (Control opcode params) n (record { opened = None; answer = a })
whole_control past r n opcode params octets a e h = record {
  opens = refl;
  answer = h ∙ ap (λ os. placed_answer past n (A.Control n r.fields.dst opcode os)) e;
}

pub whole_control_part : (past : Past) (r : Reading) (n : Name) (opcode seq_zero seg_o seg_n : ℕ) (piece octets : List ℕ) (a : Answer)
    → octets ≡ octets_after past n (ControlPart opcode seq_zero seg_o seg_n piece)
    → a ≡ placed_answer past n (A.Control n r.fields.dst opcode octets)
    → IsWholeAs past r (ControlPart opcode seq_zero seg_o seg_n piece) n (record { opened = None; answer = a })
unfolding node_layers configured_layers built_layers
whole_control_part past r n opcode seq_zero seg_o seg_n piece octets a e h = record {
  opens = refl;
  answer = h ∙ ap (λ os. placed_answer past n (A.Control n r.fields.dst opcode os)) e;
}

-- What leaves the models, and what a delivered message asks for.
use Rattle.std.proofs.Common.{◌≡◌, ℕ, Bool, true, false, cond, not, ◌&&◌, ◌||◌, eqb, ltb, leb, List, [], ◌∷◌, ◌++◌, ◌<◌, ◌^◌, length, refl, ap, sym, subst, ◌∙◌, Option, Some, None}
use Rattle.std.proofs.lemmas.List.Sums.{fold-append}
use Rattle.std.specs.Bool.{⊤}
use Rattle.std.specs.Prelude.{All}
use Rattle.std.specs.List.{list_any}
use Rattle.std.specs.Option.{is_none, option_map_or, option_or, unwrap_or}
use Rattle.event_records.specs.Asked.{AreAskedFor}
use Rattle.friend_steps.proofs.Delivered.{delivered_is}
use Rattle.mesh_hearing.specs.Heard.{delivered_from}
use Rattle.friend_steps.specs.Hearing.{AreTaken, AreTakenBy}
use Rattle.friend_steps.specs.Others.{changes_friends, has_reading}
use Rattle.layer_states.specs.Names.{is_name, is_unicast}
use Rattle.layer_states.specs.Reassembly.{is_segment}
use Rattle.layer_laws.specs.Laws.{IsWithinLimits, StoreFitting}
use Rattle.mesh_base.specs.Pairs.{is_newer}
use Rattle.mesh_base.specs.declared.beacon.Beacon.{Beacon}
use Rattle.mesh_base.specs.declared.lower.Lower.{Lower}
use Rattle.mesh_base.specs.declared.lower.Lower.TheVariants.{Access, Control, AccessPart, ControlPart}
use Rattle.mesh_base.specs.declared.pair.Name.{Name}
use Rattle.mesh_base.specs.declared.pair.Pair.{Pair}
use Rattle.mesh_types.specs.declared.answers.Answer.{Answer}
use Rattle.mesh_types.specs.declared.answers.Answer.TheVariants as A
use Rattle.mesh_types.specs.declared.events.Event.{Event}
use Rattle.mesh_types.specs.declared.events.Event.TheVariants as E
use Rattle.node_layers.specs.ConfiguredLayers.{changes_of, configured_layers}
use Rattle.node_layers.specs.NodeLayers.{node_layers}
use Rattle.node_layers.specs.Steps.{with_entry}
use Rattle.node_models.specs.Models.{AreNodeModelsOf, GoOn, ModelsView, is_ticked}
use Rattle.node_models.specs.declared.taken.MessageReplies.{MessageReplies}
use Rattle.record_types.specs.declared.records.StoreRecord.{StoreRecord}
use Rattle.record_types.specs.declared.records.StoreRecord.TheVariants as R
use Rattle.event_definitions.proofs.Accepting.{some_is}
use Rattle.event_definitions.specs.Answers.{answer_of, config_before, is_again, is_cached, is_mine, lower_answer, message_name, named_answer, network_answer, opened_answer, pdu_answer, placed_answer, replayed, segment_answer, transport_answer, whole_answer}
use Rattle.event_definitions.specs.Fit.{AreStorable}
use Rattle.event_definitions.specs.History.{Insight, OfBeacon, OfNothing, OfPdu, Opening, Past, Reading, Told}
use Rattle.event_definitions.specs.Layers.{AccessMessage, Layers}
use Rattle.event_definitions.specs.Safe.{AreSafe, IsChange}
use Rattle.store_definitions.specs.Config.{changed, config_of, is_element, no_config}
use Rattle.store_definitions.specs.Entries.{entry_of, has_room}
use Rattle.store_definitions.specs.Node.{IsWhole}

-- An answer that neither delivers a message nor tells of time.
abbrev pub IsApart : Answer → Type 0
IsApart (A.Delivered name dst key payload) = ⊥
IsApart (A.Ticked now) = ⊥
IsApart _ = ⊤

none_delivered : (i : Insight) (a : Answer) → IsApart a → delivered_from i a ≡ None
none_delivered i (A.Delivered name dst key payload) h = absurd h
none_delivered i _ h = refl

not_ticked : (a : Answer) → IsApart a → is_ticked a ≡ false
not_ticked (A.Ticked now) h = absurd h
not_ticked _ h = refl

-- it leaves the models
pub models_stay : GoOn → (m : ModelsView) (past : Past) (t : Told) (records : List StoreRecord) (a : Answer) → IsApart a → AreNodeModelsOf m past
    → t.entry.answer ≡ a → t.records ≡ past.records → (config_of records).elements ≡ (config_before past).elements
    → AreNodeModelsOf m (with_entry past.told t records)
models_stay law m past t records a apart h answer same elements =
    law m past t records h same (delivered_is t t.insight a refl answer ∙ none_delivered t.insight a apart) (ap (λ x. is_ticked x) answer ∙ not_ticked a apart) elements

-- The answer to a beacon is such a one.

unless_apart : (b : Bool) (a : Answer) → IsApart a → IsApart (cond b A.Reset a)
unless_apart true a h = tt
unless_apart false a h = h

pub beacon_apart : (past : Past) (octets : List ℕ) (i : Insight) → IsApart (answer_of node_layers past (E.Bcn octets) i)
unfolding answer_of
beacon_apart past octets (OfBeacon (Some b)) = unless_apart (config_before past).reset _ tt
beacon_apart past octets (OfBeacon None) = unless_apart (config_before past).reset _ tt
beacon_apart past octets (OfPdu r low opening) = unless_apart (config_before past).reset _ tt
beacon_apart past octets OfNothing = unless_apart (config_before past).reset _ tt

-- So a beacon leaves the friendships.

pub beacon_leaves : (octets : List ℕ) (a : Answer) → IsApart a → changes_friends (E.Bcn octets) a ≡ false
beacon_leaves octets (A.Ticked now) h = absurd h
beacon_leaves octets _ h = refl

pub beacon_reads : (reset : Bool) (b : Option Beacon) → has_reading (cond reset OfNothing (OfBeacon b)) ≡ false
beacon_reads true b = refl
beacon_reads false b = refl

-- The answer to time tells of it, or there was a Node Reset.

pub ticked_is : (b : Bool) (now : ℕ) (a : Answer) (told : ℕ) → a ≡ cond b A.Reset (A.Ticked now) → a ≡ A.Ticked told → a ≡ A.Ticked now
ticked_is true now a told is e = absurd (no_reset (sym is ∙ e))
  where
    no_reset : A.Reset ≡ A.Ticked told → ⊥
    no_reset x = cc
ticked_is false now a told is e = is

pub untold_apart : (b : Bool) (now : ℕ) (a : Answer) → a ≡ cond b A.Reset (A.Ticked now) → ((n : ℕ) → a ≡ A.Ticked n → ⊥) → IsApart a
untold_apart true now a is untold = subst IsApart (sym is) tt
untold_apart false now a is untold = absurd (untold now is)

-- Without its telling of it, it leaves the friendships.
pub untold_leaves : (b : Bool) (now : ℕ) (event : Event) (a : Answer) → a ≡ cond b A.Reset (A.Ticked now) → ((n : ℕ) → a ≡ A.Ticked n → ⊥)
    → changes_friends event a ≡ false
untold_leaves true now event a is untold = ap (λ x. changes_friends event x) is ∙ reset_leaves event
  where
    reset_leaves : (event : Event) → changes_friends event A.Reset ≡ false
    reset_leaves (E.Send element dst ttl key payload) = refl
    reset_leaves (E.Kept lpn fsn name pdu) = refl
    reset_leaves _ = refl
untold_leaves false now event a is untold = absurd (untold now is)

-- The answer to a network PDU tells of no time.

data Untimed : Option Answer → Type 0 where
  no_answer : Untimed None
  untimed : {a : Answer} → is_ticked a ≡ false → Untimed (Some a)

pick_untimed : (b : Bool) (x y : Option Answer) → Untimed x → Untimed y → Untimed (cond b x y)
pick_untimed true x y h k = h
pick_untimed false x y h k = k

or_untimed : (x y : Option Answer) → Untimed x → Untimed y → Untimed (option_or x y)
or_untimed None y h k = k
or_untimed (Some a) y h k = h

unwrap_untimed : (o : Option Answer) (a : Answer) → Untimed o → is_ticked a ≡ false → is_ticked (unwrap_or o a) ≡ false
unwrap_untimed None a h k = k
unwrap_untimed (Some x) a (untimed h) k = h

cond_untimed : (b : Bool) (x y : Answer) → is_ticked x ≡ false → is_ticked y ≡ false → is_ticked (cond b x y) ≡ false
cond_untimed true x y h k = h
cond_untimed false x y h k = k

network_untimed : (past : Past) (r : Reading) → Untimed (network_answer past r)
network_untimed past r =
    pick_untimed (not (is_unicast r.fields.src) || eqb r.fields.dst.0 0) (Some A.BadAddress) _ (untimed refl)
    (pick_untimed (is_element (config_before past) r.fields.src.0) (Some A.Own) _ (untimed refl)
    (pick_untimed (is_cached past r.fields) (Some A.Cached) _ (untimed refl)
    (pick_untimed (not (is_mine (config_before past) r.fields.dst)) (Some A.NotMine) None (untimed refl) no_answer)))

segment_untimed : (layers : Layers) (past : Past) (r : Reading) (low : Lower) (n : Name) → Untimed (segment_answer layers past r low n)
segment_untimed layers past r low n =
    pick_untimed (not (list_any (is_name n) (layers.in_progress past)) && leb 8 (length (layers.in_progress past))) _ _ (untimed refl)
    (pick_untimed (layers.conflicts past n r low) _ _ (untimed refl) (pick_untimed (ltb 0 (layers.missing past n low)) _ _ (untimed refl) no_answer))

replay_untimed : (kept : Option Pair) (p : Pair) → Untimed (replayed kept p)
replay_untimed None p = no_answer
replay_untimed (Some q) p = pick_untimed (is_newer p q) _ _ no_answer (untimed refl)

lower_untimed : (layers : Layers) (past : Past) (r : Reading) (low : Lower) (n : Name) → Untimed (lower_answer layers past r low n)
lower_untimed layers past r low n =
    pick_untimed (is_segment low && is_again past n) _ _ (untimed refl)
    (or_untimed _ _ (replay_untimed (entry_of past.records n.src.0) n.pair) (pick_untimed (is_segment low) _ _ (segment_untimed layers past r low n) no_answer))

placed_untimed : (past : Past) (n : Name) (a : Answer) → is_ticked a ≡ false → is_ticked (placed_answer past n a) ≡ false
placed_untimed past n a h = cond_untimed (is_none (entry_of past.records n.src.0) && not (has_room past.records n.src.0)) _ a refl h

opened_untimed : (past : Past) (r : Reading) (n : Name) (o : Option Opening) → is_ticked (opened_answer past r n o) ≡ false
opened_untimed past r n None = refl
opened_untimed past r n (Some o) = placed_untimed past n _ refl

whole_untimed : (layers : Layers) (past : Past) (r : Reading) (low : Lower) (n : Name) (o : Option Opening) → is_ticked (whole_answer layers past r low n o) ≡ false
whole_untimed layers past r (Access akf aid upper) n o = opened_untimed past r n o
whole_untimed layers past r (AccessPart akf aid szmic seq_zero seg_o seg_n piece) n o = opened_untimed past r n o
whole_untimed layers past r (Control opcode params) n o = placed_untimed past n _ refl
whole_untimed layers past r (ControlPart opcode seq_zero seg_o seg_n piece) n o = placed_untimed past n _ refl

named_untimed : (layers : Layers) (past : Past) (r : Reading) (low : Lower) (n : Option Name) (o : Option Opening) → is_ticked (named_answer layers past r low n o) ≡ false
named_untimed layers past r low None o = refl
named_untimed layers past r low (Some n) o = unwrap_untimed _ _ (lower_untimed layers past r low n) (whole_untimed layers past r low n o)

transport_untimed : (layers : Layers) (past : Past) (r : Reading) (low : Option Lower) (o : Option Opening) → is_ticked (transport_answer layers past r low o) ≡ false
transport_untimed layers past r None o = refl
transport_untimed layers past r (Some low) o = named_untimed layers past r low (message_name r.fields low) o

pdu_untimed : (layers : Layers) (past : Past) (i : Insight) → is_ticked (pdu_answer layers past i) ≡ false
pdu_untimed layers past (OfPdu (Some r) low o) = unwrap_untimed _ _ (network_untimed past r) (transport_untimed layers past r low o)
pdu_untimed layers past (OfPdu None low o) = refl
pdu_untimed layers past (OfBeacon b) = refl
pdu_untimed layers past OfNothing = refl

pub heard_untimed : (past : Past) (octets : List ℕ) (i : Insight) → is_ticked (answer_of node_layers past (E.Net octets) i) ≡ false
unfolding answer_of
heard_untimed past octets i = cond_untimed (config_before past).reset A.Reset _ refl (pdu_untimed node_layers past i)

-- What a message asks for, and what the models made of it.

pub some_asked : (past : Past) (i : Insight) (a : Answer) (m : AccessMessage) (changes : List StoreRecord) → delivered_from i a ≡ Some m
    → changes ≡ changes_of past m → AreAskedFor node_layers past i a changes
unfolding node_layers configured_layers
some_asked past i (A.Delivered name dst key payload) m changes d e = e ∙ ap (λ (o : Option AccessMessage). option_map_or (changes_of past) o []) (sym d)
some_asked past i _ m changes d e = tt

pub none_asked : (past : Past) (i : Insight) (a : Answer) (changes : List StoreRecord) → delivered_from i a ≡ None
    → changes ≡ [] → AreAskedFor node_layers past i a changes
unfolding node_layers configured_layers
none_asked past i (A.Delivered name dst key payload) changes d e = e ∙ ap (λ (o : Option AccessMessage). option_map_or (changes_of past) o []) (sym d)
none_asked past i _ changes d e = tt

pub some_taken : (past : Past) (i : Insight) (a : Answer) (m : AccessMessage) (ttl : ℕ) (ends : Bool) (r : MessageReplies) → delivered_from i a ≡ Some m
    → AreTaken past m ttl ends r → AreTakenBy past i a ttl ends r
some_taken past i a m ttl ends r d taken x is = subst (λ (y : AccessMessage). AreTaken past y ttl ends r) (some_is (sym d ∙ is)) taken

pub none_taken : (past : Past) (i : Insight) (a : Answer) (ttl : ℕ) (ends : Bool) (r : MessageReplies) → delivered_from i a ≡ None → AreTakenBy past i a ttl ends r
none_taken past i a ttl ends r d x is = absurd (no_message d is)
  where
    no_message : {o : Option AccessMessage} {x : AccessMessage} → o ≡ None → o ≡ Some x → ⊥
    no_message e f = cc

-- What a message stores may be put, and moves nothing.

pub all_changes : AreSafe node_layers → (past : Past) (m : AccessMessage) → All IsChange (changes_of past m)
unfolding node_layers configured_layers
all_changes h past m = h.changes past m

pub all_storable : StoreFitting node_layers → (past : Past) (m : AccessMessage) → IsWhole (config_before past) → IsWithinLimits (config_before past)
    → All (λ octet. octet < 2 ^ 8) m.payload → AreStorable (past.records ++ R.Replay m.name None ∷ []) (changes_of past m)
unfolding node_layers configured_layers
all_storable h past m whole within octets = h past m whole within octets

-- a name leaves what the records say besides
pub config_named : (records : List StoreRecord) (n : Name) → config_of (records ++ R.Replay n None ∷ []) ≡ config_of records
unfolding changed
config_named records n = fold-append changed no_config records (R.Replay n None ∷ [])

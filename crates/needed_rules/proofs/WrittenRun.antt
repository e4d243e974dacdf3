-- The written run is a run of its script.
use Rattle.std.proofs.Common.{◌≡◌, ℕ, ◌≢◌, zero, suc, length, ◌+◌, ◌*◌, get_or, ◌/◌, ◌%◌, ◌^◌, ◌<◌, ◌≤◌, lit<, lit≤, inl, true, false, eqb, List, [], ◌∷◌, ◌++◌, map, refl, sym, arith, ne_eqb, append-nil, Some, None}
use Rattle.cipher_definitions.specs.Octets.{xor_lists, blocks, whole_block, whole_blocks}
use Rattle.cipher_definitions.specs.Aes.{times_x, times_low_bits, inverse_from, inverse, affine, sub_octet, sub_octets, shift_rows, mixed, mix_columns, round, last_round, rounds, turned_word, words_after, next_key, keys_from, round_keys, cipher, aes, chained}
use Rattle.cipher_definitions.specs.Ccm.{additional_blocks, ccm_tag, stream, ccm_text, ccm_mic}
use Rattle.layer_definitions.specs.Upper.{upper_text}
use Rattle.std.specs.List.{All, AllByRecursion, AllPairs, filter, slice_range}
use Rattle.std.proofs.lemmas.Bool.{true≢false}
use Rattle.std.proofs.lemmas.List.Elements.{All-from_recursion}
use Rattle.cipher_definitions.specs.Kdf.{k2, k2_number, master_credentials}
use Rattle.layer_definitions.specs.KeyRefresh.{master_material}
use Rattle.layer_definitions.specs.Lower.{ReadsLower, lower_text}
use Rattle.layer_definitions.specs.Network.{HasPdu, IsInWidths, net_text}
use Rattle.mesh_base.specs.IvState.{transmit_of}
use Rattle.mesh_base.specs.declared.fields.NetFields.{NetFields}
use Rattle.mesh_base.specs.declared.fields.NetMaterial.{NetMaterial}
use Rattle.mesh_base.specs.declared.keys.UpperKey.TheVariants as U
use Rattle.mesh_base.specs.declared.lower.Lower.TheVariants.{Access}
use Rattle.mesh_base.specs.declared.pair.Pair.{Pair}
use Rattle.mesh_base.specs.declared.upper.UpperFields.{UpperFields}
use Rattle.mesh_types.specs.declared.answers.Answer.TheVariants as A
use Rattle.mesh_types.specs.declared.answers.KeyName.TheVariants as N
use Rattle.mesh_types.specs.declared.events.Event.{Event}
use Rattle.mesh_types.specs.declared.history.Entry.{Entry}
use Rattle.mesh_types.specs.declared.jobs.Job.TheVariants as J
use Rattle.mesh_types.specs.declared.lines.Outcome.TheVariants as O
use Rattle.record_types.specs.declared.records.StoreRecord.{StoreRecord}
use Rattle.record_types.specs.declared.records.StoreRecord.TheVariants as R
use Rattle.event_definitions.specs.Answers.{answer_of}
use Rattle.store_definitions.specs.Config.{changed, config_of}
use Rattle.event_definitions.specs.Handling.{AreHandled, Handles, past_of}
use Rattle.event_definitions.specs.History.{Insight, OfNothing, OfPdu, Past, Told}
use Rattle.event_definitions.specs.Jobs.{jobs_of}
use Rattle.run_definitions.specs.Lines.{after_line, shows_first, shows_relay, shows_sent_long}
use Rattle.run_definitions.specs.Order.{BreaksOff, IsOrdered, Part, Placed, Task, Walks, broken, follow, follows, handle, handles, of_bearer, placed_from, stops, write, writes}
use Rattle.mesh_base.specs.Pairs.{word_of}
use Rattle.store_definitions.specs.Ranges.{IsInRange, IsKey}
use Rattle.event_definitions.specs.Readings.{IsOpened, IsReading, Sees, sees_pdu, sees_nothing}
use Rattle.report_definitions.specs.Record.{Shown, list_at, shown, shown_by}
use Rattle.event_definitions.specs.Role.{node_role}
use Rattle.run_definitions.specs.RunOf.{IsDrawn, IsNumbered, IsSpentRight, Leaves, LifeOf, Opens, draws, no_record, opens, past_at_end, words_told}
use Rattle.store_definitions.specs.Provisioning.{provisioned}
use Rattle.event_definitions.specs.Safe.{AreSafe}
use Rattle.run_definitions.specs.Seals.{own_upper}
use Rattle.event_definitions.specs.Stores.{stores}
use Rattle.run_safety.proofs.Lists.{pairs_from_apart}
use Rattle.event_definitions.specs.Layers.{quiet_layers}
use Rattle.needed_rules.specs.WrittenRun.{IsWritten, address, asked, asked_event, asked_fields, asked_name, asked_upper, begin_event, dev_key, entries, key_heard, left, life, lines, material, net_key, node, pair, passing_event, passing_fields, plan, said, said_event, said_segment, said_upper}

abbrev asked_upper_fields : UpperFields
asked_upper_fields = record { pair = pair 1; src = address 3; dst = address 0x1201; long_mic = false; label = None }

asked_opens : upper_text (U.Device dev_key) asked_upper_fields asked ≡ asked_upper
unfolding xor_lists blocks whole_block whole_blocks times_x times_low_bits inverse_from inverse affine sub_octet sub_octets shift_rows mixed mix_columns round last_round rounds turned_word words_after next_key keys_from round_keys cipher aes chained additional_blocks ccm_tag stream ccm_text ccm_mic upper_text
asked_opens = refl

said_seals : own_upper (U.Device dev_key) (pair 0) (address 0x1201) (address 3) said ≡ said_upper
unfolding xor_lists blocks whole_block whole_blocks times_x times_low_bits inverse_from inverse affine sub_octet sub_octets shift_rows mixed mix_columns round last_round rounds turned_word words_after next_key keys_from round_keys cipher aes chained additional_blocks ccm_tag stream ccm_text ccm_mic upper_text
said_seals = refl

-- Lists and numbers.

pub all_of : {A : Type 0} (P : A → Type 0) (xs : List A) → AllByRecursion P xs → All P xs
all_of P xs h = All-from_recursion P xs h

pub zero_suc : (k : ℕ) → eqb 0 (suc k) ≡ false
zero_suc k = ne_eqb 0 (suc k) (λ e. absurd (omega (arith, e)))

-- a bearer other than 0 has nothing
pub others_none : (k : ℕ) (es : List Entry) → AllByRecursion (λ (e : Entry). e.bearer ≡ 0) es → filter (λ (e : Entry). eqb e.bearer (suc k)) es ≡ []
others_none k [] h = refl
others_none k (e ∷ es) h = rw (h.0, zero_suc k) (others_none k es h.1)

pub quiet_safe : AreSafe quiet_layers
quiet_safe = record {
  acks_due = λ past c ticks. all_of _ [] tt;
  segments_due = λ past c ticks. all_of _ [] tt;
  control_jobs = λ past c m. all_of _ [] tt;
  replies = λ past c m. all_of _ [] tt;
  published = λ past c ticks. all_of _ [] tt;
  changes = λ past m. all_of _ [] tt;
}

-- What was read.

abbrev over : List StoreRecord
over = provisioned node

abbrev after_asked : List StoreRecord
after_asked = over ++ R.Replay asked_name None ∷ []

abbrev asked_insight : Insight
asked_insight = OfPdu (Some (record { fields = asked_fields; by = key_heard })) (Some (Access false 0 asked_upper)) (Some (record { key = U.Device dev_key; label = None; payload = asked }))

abbrev passing_insight : Insight
passing_insight = OfPdu (Some (record { fields = passing_fields 2; by = key_heard })) None None

abbrev told_of : Entry → Insight → List StoreRecord → Told
told_of e insight records = record { entry = e; insight = insight; records = records }

abbrev first_told : Told
first_told = told_of (record { bearer = 0; number = 1; event = asked_event; fills = 0; answer = A.Delivered asked_name (address 0x1201) N.Dev asked; jobs = [] }) asked_insight over

abbrev second_told : Told
second_told =
    told_of (record { bearer = 0; number = 2; event = passing_event; fills = 0; answer = A.NotMine; jobs = J.Relay material (passing_fields 1) ∷ [] }) passing_insight after_asked

abbrev third_told : Told
third_told =
    told_of (record { bearer = 0; number = 3; event = said_event; fills = 0; answer = A.Planned; jobs = J.Sent 0 material (U.Device dev_key) 7 (address 0x1201) (address 3) ∷ [] })
    OfNothing after_asked

abbrev fourth_told : Told
fourth_told = told_of (record { bearer = 0; number = 4; event = begin_event; fills = 1; answer = A.Begun; jobs = said_segment 0 true ∷ said_segment 1 false ∷ [] }) OfNothing left

-- IVI of the node's key
nid_small : (n : ℕ) → n % 2 ^ 263 / 2 ^ 256 < 2 ^ 7
nid_small n = omega arith

pub material_nid : material.nid < 2 ^ 7
unfolding master_material master_credentials k2 k2_number
material_nid = nid_small _

pub ivi : (m : NetMaterial) (f : NetFields) → m.nid < 2 ^ 7 → f.iv % 2 ≡ get_or (net_text m f) 0 0 / 2 ^ 7
unfolding net_text
ivi m f h = omega (arith, h)

-- the first PDU

asked_has_pdu : HasPdu asked_fields
asked_has_pdu = record { ttl = lit< tt; seq = lit< tt; least = lit≤ tt; most = lit≤ tt }

asked_in_widths : IsInWidths asked_fields
asked_in_widths = record {
  iv = lit< tt;
  src = lit< tt;
  dst = lit< tt;
  tpdu = all_of (λ x. x < 2 ^ 8) asked_fields.tpdu (lit< tt, (lit< tt, (lit< tt, (lit< tt, (lit< tt, (lit< tt, (lit< tt, (lit< tt, tt))))))));
}

asked_reads : IsReading quiet_layers (past_of [] first_told) (net_text material asked_fields) (Some (record { fields = asked_fields; by = key_heard }))
unfolding changed
asked_reads = (
  0,
  record {
    key = refl;
    reads = record { has_pdu = asked_has_pdu; in_widths = asked_in_widths; iv = (inl refl, ivi material asked_fields material_nid); text = refl };
    first = λ k h g lt is reads. absurd (omega arith);
  },
)

asked_lower : ReadsLower false (0 ∷ asked_upper) (Access false 0 asked_upper)
unfolding lower_text
asked_lower = record { kind = refl; fits = (lit< tt, λ e. refl, lit≤ tt, lit≤ tt); text = refl }

asked_opening : IsOpened quiet_layers (past_of [] first_told) (record { fields = asked_fields; by = key_heard }) asked_name (Access false 0 asked_upper) (Some (record { key = U.Device dev_key; label = None; payload = asked }))
unfolding changed
asked_opening = (
  0,
  refl,
  refl,
  record {
    key = U.Device dev_key;
    key_is = refl;
    opens = record { least = lit≤ tt; text = asked_opens };
    first = λ k earlier other lt is opens. absurd (omega arith);
  },
)

first_sees : Sees quiet_layers (past_of [] first_told) asked_event asked_insight
unfolding changed
first_sees = sees_pdu refl asked_reads asked_lower asked_opening

first_handled : Handles (node_role quiet_layers) (past_of [] first_told) first_told
unfolding changed answer_of stores jobs_of
first_handled = record { sees = first_sees; answer = refl; jobs = refl }

-- the second PDU

passing_has_pdu : HasPdu (passing_fields 2)
passing_has_pdu = record { ttl = lit< tt; seq = lit< tt; least = lit≤ tt; most = lit≤ tt }

passing_in_widths : IsInWidths (passing_fields 2)
passing_in_widths = record { iv = lit< tt; src = lit< tt; dst = lit< tt; tpdu = all_of (λ x. x < 2 ^ 8) (passing_fields 2).tpdu (lit< tt, tt) }

abbrev second_past : Past
second_past = past_of (first_told ∷ []) second_told

passing_reads : IsReading quiet_layers second_past (net_text material (passing_fields 2)) (Some (record { fields = passing_fields 2; by = key_heard }))
unfolding changed
passing_reads = (
  0,
  record {
    key = refl;
    reads = record { has_pdu = passing_has_pdu; in_widths = passing_in_widths; iv = (inl refl, ivi material (passing_fields 2) material_nid); text = refl };
    first = λ k h g lt is reads. absurd (omega arith);
  },
)

second_handled : Handles (node_role quiet_layers) second_past second_told
unfolding changed answer_of stores jobs_of
second_handled = record { sees = sees_pdu refl passing_reads refl refl; answer = refl; jobs = refl }

-- the node's own message

abbrev third_past : Past
third_past = past_of (first_told ∷ second_told ∷ []) third_told

third_handled : Handles (node_role quiet_layers) third_past third_told
unfolding changed answer_of stores jobs_of
third_handled = record { sees = sees_nothing refl; answer = refl; jobs = refl }

abbrev fourth_past : Past
fourth_past = past_of (first_told ∷ second_told ∷ third_told ∷ []) fourth_told

fourth_handled : Handles (node_role quiet_layers) fourth_past fourth_told
unfolding changed answer_of stores jobs_of transmit_of
fourth_handled = record { sees = sees_nothing refl; answer = refl; jobs = refl }

abbrev all_told : List Told
all_told = first_told ∷ second_told ∷ third_told ∷ fourth_told ∷ []

all_handled : AreHandled (node_role quiet_layers) over [] all_told
unfolding changed stores transmit_of
all_handled = (refl, first_handled, (refl, second_handled, (refl, third_handled, (refl, fourth_handled, tt))))

-- The order of bearer 0, and of the others, which have nothing.

abbrev placed : List Placed
placed = placed_from 0 entries

abbrev part : Part
part = record { entries = placed; sends = lines ∷ [] }

abbrev events : List Event
events = asked_event ∷ passing_event ∷ said_event ∷ []

abbrev rest_tasks : List Task
rest_tasks = write 3 1 begin_event (said_segment 1 false) ∷ []

abbrev entry_at : ℕ → Told → Placed
entry_at at t = record { at = at; entry = t.entry }

abbrev begun : Placed
begun = entry_at 3 fourth_told

-- from the `begin` entry on
last_walk : Walks (follow begin_event ∷ []) (begun ∷ []) (slice_range lines 2 3) rest_tasks
last_walk = follows begun (writes (shows_first refl) stops)

-- after the line of the message
long_walk : Walks (map follow (after_line (J.Sent 0 material (U.Device dev_key) 7 (address 0x1201) (address 3)) (O.Long (pair 0) 7 (address 0x1201) (address 3) N.Dev said)) ++ []) (begun ∷ [])
    (slice_range lines 2 3) rest_tasks
long_walk = rw said_seals last_walk

first_walk : Walks (map handle events) placed lines rest_tasks
first_walk =
    handles (entry_at 0 first_told) refl
    (handles (entry_at 1 second_told) refl
    (writes shows_relay (handles (entry_at 2 third_told) refl (writes (shows_sent_long (lit< tt)) long_walk))))

zero_bearers : AllByRecursion (λ (e : Entry). e.bearer ≡ 0) entries
zero_bearers = (refl, (refl, (refl, (refl, tt))))

pub others_placed : (k n : ℕ) (es : List Entry) → AllByRecursion (λ (e : Entry). e.bearer ≡ 0) es → of_bearer (suc k) (placed_from n es) ≡ []
others_placed k n [] h = refl
others_placed k n (e ∷ es) h = rw (h.0, zero_suc k) (others_placed k (n + 1) es h.1)

-- the segment that is left draws a pair
does : (k : ℕ) → BreaksOff (events ∷ []) part k
does zero = record { left = rest_tasks; does = first_walk; stuck = refl }
does (suc k) = record { left = []; does = rw (others_placed k 0 entries zero_bearers) stops; stuck = tt }

ordered : IsOrdered plan life
ordered = record { parts = part ∷ []; entries = refl; sends = λ k. sym (append-nil (list_at (lines ∷ []) k)); phases = broken does }

numbered : (k : ℕ) → IsNumbered life k
numbered zero = refl
numbered (suc k) = rw (others_none k entries zero_bearers) refl

-- What it leaves.

key_of : (key : List ℕ) → length key ≡ 16 → AllByRecursion (λ x. x < 2 ^ 8) key → IsKey key
key_of key size small = record { size = size; octets = all_of (λ x. x < 2 ^ 8) key small }

pub net_key_is : IsKey net_key
net_key_is = key_of net_key refl (lit< tt, (lit< tt, (lit< tt, (lit< tt, (lit< tt, (lit< tt, (lit< tt, (lit< tt, (lit< tt, (lit< tt, (lit< tt, (lit< tt, (lit< tt, (lit< tt, (lit< tt, (lit< tt, tt))))))))))))))))

pub dev_key_is : IsKey dev_key
dev_key_is = key_of dev_key refl (lit< tt, (lit< tt, (lit< tt, (lit< tt, (lit< tt, (lit< tt, (lit< tt, (lit< tt, (lit< tt, (lit< tt, (lit< tt, (lit< tt, (lit< tt, (lit< tt, (lit< tt, (lit< tt, tt))))))))))))))))

left_ranges : AllByRecursion IsInRange left
unfolding transmit_of
left_ranges = (
  (lit≤ tt, lit≤ tt, lit≤ tt, lit≤ tt, dev_key_is),
  (
    (lit< tt, (λ e. lit< tt), record { seq = 0; word = refl; most = lit≤ tt; block = refl }, lit< tt, lit< tt),
    (
      (lit≤ tt, lit≤ tt, lit≤ tt, net_key_is),
      (
        (record { src = lit< tt; iv = lit< tt; seq = lit< tt }, tt),
        ((lit< tt, (λ e. lit< tt), record { seq = 256; word = refl; most = lit≤ tt; block = refl }, lit< tt, lit< tt), tt),
      ),
    ),
  ),
)

leaves : Leaves (node_role quiet_layers) plan life (past_at_end (node_role quiet_layers) over life all_told) left
unfolding changed stores transmit_of
leaves = record {
  more = [];
  outlasts = no_record;
  ranges = all_of IsInRange left left_ranges;
  alike = record { config = refl; entries = λ src. refl };
}

drawn : IsDrawn over left life
unfolding changed transmit_of
drawn = record {
  seq = all_of (λ (p : Pair). p.seq < 2 ^ 24) (pair 0 ∷ []) (lit< tt, tt);
  from = all_of (λ (p : Pair). 5 * 2 ^ 25 ≤ word_of p) (pair 0 ∷ []) (lit≤ tt, tt);
  below = all_of (λ (p : Pair). word_of p < 5 * 2 ^ 25 + 256) (pair 0 ∷ []) (lit< tt, tt);
  once = pairs_from_apart (λ p q. word_of p ≢ word_of q) (pair 0 ∷ []) (tt, tt);
  rise = rises;
  onward = onward;
}
  where
    rises : (k : ℕ) → AllPairs (λ p q. word_of p < word_of q) (draws (shown_by life k))
    rises zero = pairs_from_apart (λ p q. word_of p < word_of q) (pair 0 ∷ []) (tt, tt)
    rises (suc k) = pairs_from_apart (λ p q. word_of p < word_of q) [] tt

    onward : (k : ℕ) → AllPairs (λ x y. x ≤ y) (words_told (shown_by life k))
    onward zero = pairs_from_apart (λ x y. x ≤ y) (word_of (pair 0) ∷ []) (tt, tt)
    onward (suc k) = pairs_from_apart (λ x y. x ≤ y) [] tt

spent : All (λ s. IsSpentRight over left life s.outcome) (shown life)
spent = all_of (λ (s : Shown). IsSpentRight over left life s.outcome) (shown life) (tt, (tt, (tt, tt)))

opens_on : Opens (config_of over) life.opened life.end
unfolding changed transmit_of
opens_on = opens refl

life_of : LifeOf (node_role quiet_layers) plan over life left
life_of = record {
  opening = opens_on;
  idle = λ e. absurd (true≢false e);
  told = all_told;
  entries = refl;
  handled = all_handled;
  numbers = numbered;
  order = λ e. ordered;
  leaves = leaves;
  drawn = drawn;
  spent = spent;
}

pub is_written : IsWritten
is_written = record { safe = quiet_safe; run_of = record { first = refl; lives = (life_of, tt) } }

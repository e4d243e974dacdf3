-- The records that show that the address and the number of the elements in what the next life opens over are needed:
-- where the element 1202 is none any more, two lives let PDUs of it go on, of one pair.
use Rattle.std.proofs.Common.{◌≡◌, ℕ, zero, suc, ◌^◌, ◌<◌, lit<, lit≤, inl, get_or, Bool, true, false, List, [], ◌∷◌, ◌++◌, refl, ap, sym, ◌∙◌, arith, append-nil, Some, None}
use Rattle.std.specs.List.{AllByRecursion}
use Rattle.std.proofs.lemmas.Bool.{true≢false}
use Rattle.layer_definitions.specs.Network.{HasPdu, IsInWidths, net_text}
use Rattle.mesh_base.specs.IvState.{transmit_of}
use Rattle.mesh_base.specs.declared.fields.NetFields.{NetFields}
use Rattle.mesh_types.specs.declared.answers.Answer.TheVariants as A
use Rattle.mesh_types.specs.declared.events.Event.{Event}
use Rattle.mesh_types.specs.declared.events.Event.TheVariants as E
use Rattle.mesh_types.specs.declared.history.Entry.{Entry}
use Rattle.mesh_types.specs.declared.history.Sent.{Sent}
use Rattle.mesh_types.specs.declared.jobs.Job.TheVariants as J
use Rattle.mesh_types.specs.declared.lines.Outcome.TheVariants as O
use Rattle.record_types.specs.declared.records.StoreRecord.{StoreRecord}
use Rattle.record_types.specs.declared.records.StoreRecord.TheVariants as R
use Rattle.mesh_types.specs.declared.report.End.TheVariants as F
use Rattle.mesh_types.specs.declared.report.Opened.TheVariants as W
use Rattle.event_definitions.specs.Answers.{answer_of}
use Rattle.store_definitions.specs.Config.{Config, changed, config_of}
use Rattle.store_definitions.specs.Entries.{entry_of}
use Rattle.event_definitions.specs.Handling.{AreHandled, past_of}
use Rattle.event_definitions.specs.History.{OfPdu, Told}
use Rattle.event_definitions.specs.Jobs.{jobs_of}
use Rattle.run_definitions.specs.Lines.{shows_relay}
use Rattle.run_definitions.specs.Order.{Does, IsOrdered, Part, Step, ends, handles, phase, placed_from, stops, whole, writes}
use Rattle.store_definitions.specs.Ranges.{IsInRange}
use Rattle.event_definitions.specs.Readings.{IsReading, sees_pdu}
use Rattle.report_definitions.specs.Record.{Life, Run, Shown, list_at, shown, shown_by}
use Rattle.event_definitions.specs.Role.{node_role}
use Rattle.run_definitions.specs.RunOf.{IsNumbered, IsSpentRight, Opens, Script, draws, no_record, opens, past_at_end, words_told}
use Rattle.store_definitions.specs.Provisioning.{Provisioning, provisioned}
use Rattle.event_definitions.specs.Stores.{stores}
use Rattle.run_definitions.specs.Uses.{NoReuse, seals_of, uses}
use Rattle.needed_rules.specs.Needed.{IsAlikeBut, Reuses, without_elements, without_unicast}
use Rattle.run_safety.specs.Rules.{LeavesBy, LifeBy, Rules, RunBy, all_rules}
use Rattle.event_definitions.specs.Layers.{quiet_layers}
use Rattle.needed_rules.specs.WrittenRun.{address, dev_key, key_heard, material, net_key, opened_state, pair}
use Rattle.event_definitions.proofs.Each.{every_front}
use Rattle.needed_rules.proofs.NeededDraws.{mark, some_use}
use Rattle.needed_rules.proofs.NeededNames.{nothing_drawn}
use Rattle.needed_rules.proofs.WrittenRun.{all_of, dev_key_is, ivi, material_nid, net_key_is, others_none, others_placed, quiet_safe}

-- a node of two elements, 1201 and 1202
abbrev two : Provisioning
two = record { unicast = address 0x1201; elements = 2; iv = 5; in_progress = false; net_index = 0; net_key = net_key; dev_key = dev_key }

abbrev first : List StoreRecord
first = provisioned two

-- with another address of the first element, or with one element alone
abbrev identity : Bool → StoreRecord
identity true = R.Identity (address 0x1101) 2 dev_key
identity false = R.Identity (address 0x1201) 1 dev_key

abbrev over : Bool → List StoreRecord
over other = first ++ identity other ∷ []

-- A control PDU of the element 1202 to another node, which goes on.

abbrev fields : ℕ → ℕ → NetFields
fields ttl octet = record { iv = 5; ctl = true; ttl = ttl; seq = 16; src = address 0x1202; dst = address 9; tpdu = octet ∷ [] }

abbrev event : ℕ → Event
event octet = E.Net (net_text material (fields 2 octet))

abbrev entry : ℕ → Entry
entry octet = record { bearer = 0; number = 1; event = event octet; fills = 0; answer = A.NotMine; jobs = J.Relay material (fields 1 octet) ∷ [] }

abbrev line : ℕ → Sent
line octet = record { entry = 0; job = 0; outcome = O.Relay (pair 16) true 1 (address 0x1202) (address 9) (octet ∷ []) (net_text material (fields 1 octet)) }

abbrev events : ℕ → List (List Event)
events octet = (event octet ∷ []) ∷ []

abbrev plan : ℕ → List Step
plan octet = phase (events octet) ∷ []

abbrev life : ℕ → Life
life octet = record { opened = W.On opened_state mark; entries = entry octet ∷ []; refills = 0; sends = (line octet ∷ []) ∷ []; end = F.Ended }

abbrev part : ℕ → Part
part octet = record { entries = placed_from 0 (entry octet ∷ []); sends = (line octet ∷ []) ∷ [] }

abbrev told : ℕ → Bool → Told
told octet other = record { entry = entry octet; insight = OfPdu (Some (record { fields = fields 2 octet; by = key_heard })) None None; records = over other }

does : (octet k : ℕ) → Does (events octet) (part octet) k []
does octet zero = handles (record { at = 0; entry = entry octet }) refl (writes shows_relay stops)
does octet (suc k) = rw (others_placed k 0 (entry octet ∷ []) (refl, tt)) stops

ordered : (octet : ℕ) → IsOrdered (plan octet) (life octet)
ordered octet = record { parts = part octet ∷ []; entries = refl; sends = λ k. sym (append-nil (list_at ((line octet ∷ []) ∷ []) k)); phases = whole (does octet) ends }

numbered : (octet k : ℕ) → IsNumbered (life octet) k
numbered octet zero = refl
numbered octet (suc k) = rw (others_none k (entry octet ∷ []) (refl, tt)) refl

draws_none : (octet k : ℕ) → (draws (shown_by (life octet) k) ≡ []) × (words_told (shown_by (life octet) k) ≡ [])
draws_none octet zero = (refl, refl)
draws_none octet (suc k) = (refl, refl)

has_pdu : (octet : ℕ) → HasPdu (fields 2 octet)
has_pdu octet = record { ttl = lit< tt; seq = lit< tt; least = lit≤ tt; most = lit≤ tt }

in_widths : (octet : ℕ) → octet < 2 ^ 8 → IsInWidths (fields 2 octet)
in_widths octet h = record { iv = lit< tt; src = lit< tt; dst = lit< tt; tpdu = all_of (λ x. x < 2 ^ 8) (octet ∷ []) (h, tt) }

reads : (octet : ℕ) → octet < 2 ^ 8 → (other : Bool) → IsReading quiet_layers (past_of [] (told octet other)) (net_text material (fields 2 octet)) (Some (record { fields = fields 2 octet; by = key_heard }))
unfolding changed
reads octet h true = (
  0,
  record {
    key = refl;
    reads = record { has_pdu = has_pdu octet; in_widths = in_widths octet h; iv = (inl refl, ivi material (fields 2 octet) material_nid); text = refl };
    first = λ k h g lt is reads. absurd (omega arith);
  },
)
reads octet h false = (
  0,
  record {
    key = refl;
    reads = record { has_pdu = has_pdu octet; in_widths = in_widths octet h; iv = (inl refl, ivi material (fields 2 octet) material_nid); text = refl };
    first = λ k h g lt is reads. absurd (omega arith);
  },
)

handled : (octet : ℕ) → octet < 2 ^ 8 → (other : Bool) → AreHandled (node_role quiet_layers) (over other) [] (told octet other ∷ [])
unfolding changed answer_of stores jobs_of
handled octet h true = (refl, record { sees = sees_pdu refl (reads octet h true) refl refl; answer = refl; jobs = refl }, tt)
handled octet h false = (refl, record { sees = sees_pdu refl (reads octet h false) refl refl; answer = refl; jobs = refl }, tt)

range : (other : Bool) → AllByRecursion IsInRange (over other)
unfolding transmit_of
range true = (
  (lit≤ tt, lit≤ tt, lit≤ tt, lit≤ tt, dev_key_is),
  (
    (lit< tt, (λ e. lit< tt), record { seq = 0; word = refl; most = lit≤ tt; block = refl }, lit< tt, lit< tt),
    ((lit≤ tt, lit≤ tt, lit≤ tt, net_key_is), ((lit≤ tt, lit≤ tt, lit≤ tt, lit≤ tt, dev_key_is), tt)),
  ),
)
range false = (
  (lit≤ tt, lit≤ tt, lit≤ tt, lit≤ tt, dev_key_is),
  (
    (lit< tt, (λ e. lit< tt), record { seq = 0; word = refl; most = lit≤ tt; block = refl }, lit< tt, lit< tt),
    ((lit≤ tt, lit≤ tt, lit≤ tt, net_key_is), ((lit≤ tt, lit≤ tt, lit≤ tt, lit≤ tt, dev_key_is), tt)),
  ),
)

first_range : AllByRecursion IsInRange first
first_range = every_front IsInRange first (identity true ∷ []) (range true)

opening : (other : Bool) → Opens (config_of (over other)) (W.On opened_state mark) F.Ended
unfolding changed transmit_of
opening true = opens refl
opening false = opens refl

first_opening : Opens (config_of first) (W.On opened_state mark) F.Ended
unfolding changed transmit_of
first_opening = opens refl

-- by a rule on what the next life opens over that has one thing less
abbrev rules : (Config → Config) → Rules
rules without = record all_rules { is_alike = IsAlikeBut without }

-- The life in which nothing happens takes the identity, where the rule lets it.

first_entries : (other : Bool) (src : ℕ) → entry_of (over other) src ≡ entry_of first src
first_entries true src = refl
first_entries false src = refl

abbrev empty : Life
empty = record { opened = W.On opened_state mark; entries = []; refills = 0; sends = []; end = F.Ended }

empty_ordered : IsOrdered [] empty
empty_ordered = record { parts = []; entries = refl; sends = λ k. refl; phases = ends }

first_by : (without : Config → Config) (other : Bool) → without (config_of (over other)) ≡ without (config_of first) → LifeBy (rules without) (node_role quiet_layers) [] first empty (over other)
first_by without other e = record {
  opening = first_opening;
  idle = λ e. absurd (true≢false e);
  told = [];
  entries = refl;
  handled = tt;
  numbers = λ k. refl;
  order = λ e. empty_ordered;
  leaves = record { more = []; outlasts = no_record; ranges = all_of IsInRange first first_range; alike = record { config = e; entries = first_entries other } };
  drawn = nothing_drawn first (over other) empty refl (λ k. (refl, refl));
  spent = all_of (λ (s : Shown). IsSpentRight first (over other) empty s.outcome) (shown empty) tt;
}

-- The lives that let a PDU go on.

leaves : (without : Config → Config) (octet : ℕ) (other : Bool)
    → LeavesBy (rules without) (node_role quiet_layers) (plan octet) (life octet) (past_at_end (node_role quiet_layers) (over other) (life octet) (told octet other ∷ [])) (over other)
unfolding stores
leaves without octet other = record { more = []; outlasts = no_record; ranges = all_of IsInRange (over other) (range other); alike = record { config = refl; entries = λ src. refl } }

life_by : (without : Config → Config) (octet : ℕ) → octet < 2 ^ 8 → (other : Bool) → LifeBy (rules without) (node_role quiet_layers) (plan octet) (over other) (life octet) (over other)
life_by without octet h other = record {
  opening = opening other;
  idle = λ e. absurd (true≢false e);
  told = told octet other ∷ [];
  entries = refl;
  handled = handled octet h other;
  numbers = numbered octet;
  order = λ e. ordered octet;
  leaves = leaves without octet other;
  drawn = nothing_drawn (over other) (over other) (life octet) refl (draws_none octet);
  spent = all_of (λ (s : Shown). IsSpentRight (over other) (over other) (life octet) s.outcome) (shown (life octet)) (tt, tt);
}

abbrev script : Script
script = record { node = two; lives = [] ∷ plan 0x7f ∷ plan 0x7e ∷ [] }

abbrev run : Bool → Run
run other = record {
  lives =
      record { over = first; life = empty }
      ∷ record { over = over other; life = life 0x7f }
      ∷ record { over = over other; life = life 0x7e }
      ∷ [];
  last = over other;
}

by_identity : (without : Config → Config) (other : Bool) → without (config_of (over other)) ≡ without (config_of first) → RunBy (rules without) (node_role quiet_layers) script (run other)
by_identity without other e = record { first = refl; lives = (first_by without other e, (life_by without 0x7f (lit< tt) other, (life_by without 0x7e (lit< tt) other, tt))) }

other_octets : (xs ys : List ℕ) → xs ≡ 0 ∷ 9 ∷ 0x7f ∷ [] → ys ≡ 0 ∷ 9 ∷ 0x7e ∷ [] → xs ≡ ys → ⊥
other_octets xs ys e f g = let h : 0x7f ≡ 0x7e = ap (λ l. get_or l 2 0) (sym e) ∙ ap (λ l. get_or l 2 0) g ∙ ap (λ l. get_or l 2 0) f in absurd (omega (arith, h))

clash : (other : Bool) → NoReuse (uses (run other)) → ⊥
unfolding changed seals_of
clash other h = other_octets _ _ refl refl (h 0 1 some_use (lit< tt) (lit< tt) refl refl)

same_but_unicast : without_unicast (config_of (over true)) ≡ without_unicast (config_of first)
unfolding changed
same_but_unicast = refl

same_but_elements : without_elements (config_of (over false)) ≡ without_elements (config_of first)
unfolding changed
same_but_elements = refl

pub unicast_needed : Reuses (record all_rules { is_alike = IsAlikeBut without_unicast })
unicast_needed = (quiet_layers, script, run true, quiet_safe, by_identity without_unicast true same_but_unicast, clash true)

pub elements_needed : Reuses (record all_rules { is_alike = IsAlikeBut without_elements })
elements_needed = (quiet_layers, script, run false, quiet_safe, by_identity without_elements false same_but_elements, clash false)

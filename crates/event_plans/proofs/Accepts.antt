-- What is stored for an accepted message: its SEQ has 24 bits, and there is a place for it.
use Rattle.std.proofs.Common.{◌≡◌, ℕ, ◌-◌, ◌<◌, ◌^◌, Bool, true, false, cond, not, eqb, ◌||◌, List, refl, ap, sym, subst, ◌∙◌, arith, Option, Some, None}
use Rattle.std.specs.Prelude.{IfSome, ◌%◌}
use Rattle.std.specs.Option.{option_map}
use Rattle.layer_definitions.specs.Lower.{seq_auth}
use Rattle.layer_states.specs.Names.{is_unicast}
use Rattle.mesh_base.specs.declared.fields.NetFields.{NetFields}
use Rattle.mesh_base.specs.declared.lower.Lower.{Lower}
use Rattle.mesh_base.specs.declared.lower.Lower.TheVariants.{Access, Control, AccessPart, ControlPart}
use Rattle.mesh_base.specs.declared.pair.Name.{Name}
use Rattle.mesh_base.specs.declared.pair.Pair.{Pair}
use Rattle.mesh_types.specs.declared.answers.Answer.{Answer}
use Rattle.mesh_types.specs.declared.answers.Answer.TheVariants as A
use Rattle.mesh_types.specs.declared.events.Event.TheVariants as E
use Rattle.node_layers.specs.NodeLayers.{node_layers}
use Rattle.message_answers.proofs.Places.{not_full}
use Rattle.node_records.specs.Full.{IsFull}
use Rattle.node_records.specs.Meaning.{IsMeaningOf}
use Rattle.node_records.specs.declared.persist.Persist.{Persist}
use Rattle.record_types.specs.declared.records.StoreRecord.TheVariants as R
use Rattle.event_definitions.proofs.Accepting.{HasPlace, Refuses, named_accepts, no_answer, past_refusal, refused, refuses_pick, some_is}
use Rattle.event_definitions.specs.Answers.{accepted, answer_of, config_before, is_cached, is_mine, message_name, message_pair, network_answer, pair_of, pdu_answer, transport_answer}
use Rattle.event_definitions.specs.History.{Insight, OfBeacon, OfNothing, OfPdu, Opening, Past, Reading}
use Rattle.event_definitions.specs.Readings.{Sees, sees_pdu}
use Rattle.store_definitions.specs.Config.{is_element}

-- The SEQ of a message.

auth_seq : (p q : Pair) (z : ℕ) → seq_auth p z ≡ Some q → p.seq < 2 ^ 24 → q.seq < 2 ^ 24
unfolding seq_auth
auth_seq p q z e h = pick _ e
  where
    pick : (b : Bool) → cond b (Some (record { iv = p.iv; seq = p.seq - (p.seq - z) % 2 ^ 13 })) None ≡ Some q → q.seq < 2 ^ 24
    pick true e = subst (λ n. n < 2 ^ 24) (ap (λ (x : Pair). x.seq) (some_is e)) (omega (arith, h))
    pick false e = absurd cc

pair_seq : (f : NetFields) (low : Lower) (p : Pair) → message_pair f low ≡ Some p → f.seq < 2 ^ 24 → p.seq < 2 ^ 24
pair_seq f (Access akf aid upper) p e h = subst (λ n. n < 2 ^ 24) (ap (λ (x : Pair). x.seq) (some_is e)) h
pair_seq f (Control opcode params) p e h = subst (λ n. n < 2 ^ 24) (ap (λ (x : Pair). x.seq) (some_is e)) h
pair_seq f (AccessPart akf aid szmic seq_zero seg_o seg_n piece) p e h = auth_seq (pair_of f) p seq_zero e h
pair_seq f (ControlPart opcode seq_zero seg_o seg_n piece) p e h = auth_seq (pair_of f) p seq_zero e h

name_seq : (f : NetFields) (low : Lower) (n : Name) → message_name f low ≡ Some n → f.seq < 2 ^ 24 → n.pair.seq < 2 ^ 24
name_seq f low n e h = pick (message_pair f low) refl e
  where
    pick : (o : Option Pair) → message_pair f low ≡ o → option_map (λ (p : Pair). let m : Name = record { src = f.src; pair = p } in m) o ≡ Some n → n.pair.seq < 2 ^ 24
    pick None is e = absurd cc
    pick (Some p) is e = subst (λ k. k < 2 ^ 24) (ap (λ (x : Name). x.pair.seq) (some_is e)) (pair_seq f low p is h)

-- An accepted message: what its PDU and the table of answers say of it.
pub record IsTaken (past : Past) (n : Name) : Type 0 where
  pub seq : n.pair.seq < 2 ^ 24
  pub place : HasPlace past n

network_refuses : (past : Past) (r : Reading) → Refuses (network_answer past r)
network_refuses past r =
    refuses_pick (not (is_unicast r.fields.src) || eqb r.fields.dst.0 0) (Some A.BadAddress) _ (refused refl)
    (refuses_pick (is_element (config_before past) r.fields.src.0) (Some A.Own) _ (refused refl)
    (refuses_pick (is_cached past r.fields) (Some A.Cached) _ (refused refl)
    (refuses_pick (not (is_mine (config_before past) r.fields.dst)) (Some A.NotMine) None (refused refl) no_answer)))

transport_taken : (past : Past) (r : Reading) (low : Option Lower) (opening : Option Opening) (n : Name) → r.fields.seq < 2 ^ 24
    → accepted (transport_answer node_layers past r low opening) ≡ Some n → IsTaken past n
transport_taken past r None opening n h e = absurd cc
transport_taken past r (Some low) opening n h e =
    let (named, passes) = named_accepts node_layers past r low (message_name r.fields low) opening n e in
    record { seq = name_seq r.fields low n named h; place = passes.place }

unless : (b : Bool) (a : Answer) (n : Name) → accepted (cond b A.Reset a) ≡ Some n → accepted a ≡ Some n
unless true a n e = absurd cc
unless false a n e = e

pub heard_taken : (past : Past) (octets : List ℕ) (i : Insight) (n : Name) → Sees node_layers past (E.Net octets) i
    → accepted (answer_of node_layers past (E.Net octets) i) ≡ Some n → IsTaken past n
unfolding answer_of
heard_taken past octets (OfPdu (Some r) low opening) n (sees_pdu reset reads lower opens) e =
    let inner = unless (config_before past).reset (pdu_answer node_layers past (OfPdu (Some r) low opening)) n e in
    let (none, taken) = past_refusal (network_answer past r) (transport_answer node_layers past r low opening) n (network_refuses past r) inner in
    transport_taken past r low opening n reads.1.reads.has_pdu.seq taken
heard_taken past octets (OfPdu None low opening) n h e = absurd (none_taken (unless (config_before past).reset A.Unread n e))
  where
    none_taken : accepted A.Unread ≡ Some n → ⊥
    none_taken e = cc
heard_taken past octets (OfBeacon b) n h e = absurd (none_taken (unless (config_before past).reset A.Unread n e))
  where
    none_taken : accepted A.Unread ≡ Some n → ⊥
    none_taken e = cc
heard_taken past octets OfNothing n h e = absurd (none_taken (unless (config_before past).reset A.Unread n e))
  where
    none_taken : accepted A.Unread ≡ Some n → ⊥
    none_taken e = cc

-- The records of an answer.

pub seq_of_answer : (past : Past) (octets : List ℕ) (i : Insight) (a : Answer) → Sees node_layers past (E.Net octets) i → a ≡ answer_of node_layers past (E.Net octets) i
    → IfSome (accepted a) (λ (n : Name). n.pair.seq < 2 ^ 24)
seq_of_answer past octets i a sees is = pick (accepted a) refl
  where
    pick : (o : Option Name) → accepted a ≡ o → IfSome o (λ (n : Name). n.pair.seq < 2 ^ 24)
    pick None e = tt
    pick (Some n) e = (heard_taken past octets i n sees (ap accepted (sym is) ∙ e)).seq

-- there is a place for the name of an accepted message
pub place_of_answer : (past : Past) (p : Persist) (octets : List ℕ) (i : Insight) (a : Answer) → IsMeaningOf past.records p
    → Sees node_layers past (E.Net octets) i → a ≡ answer_of node_layers past (E.Net octets) i
    → IfSome (accepted a) (λ (n : Name). IsFull p (R.Replay n None) → ⊥)
place_of_answer past p octets i a m sees is = pick (accepted a) refl
  where
    pick : (o : Option Name) → accepted a ≡ o → IfSome o (λ (n : Name). IsFull p (R.Replay n None) → ⊥)
    pick None e = tt
    pick (Some n) e = not_full past p n m (heard_taken past octets i n sees (ap accepted (sym is) ∙ e)).place

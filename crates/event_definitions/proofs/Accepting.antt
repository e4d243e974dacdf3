-- What the table of answers says of an accepted message, whatever the layers say: it has the source and the IV Index of its PDU, it is
-- newer than the entry of its source, and there is a place for it.
use Rattle.std.proofs.Common.{◌≡◌, ℕ, ◌+◌, ◌⊎◌, Bool, true, false, cond, not, ◌&&◌, ◌||◌, ltb, leb, length, refl, ap, sym, subst, arith, Option, Some, None}
use Rattle.std.specs.Prelude.{IsTrue}
use Rattle.std.specs.Option.{option_or, option_map, unwrap_or, is_none, is_some}
use Rattle.std.specs.List.{list_any}
use Rattle.std.proofs.lemmas.Bool.Decides.{nat_tests}
use Rattle.layer_definitions.specs.Lower.{seq_auth}
use Rattle.layer_states.specs.Names.{is_name}
use Rattle.layer_states.specs.Reassembly.{is_segment}
use Rattle.mesh_base.specs.Pairs.{is_expired, is_newer}
use Rattle.mesh_base.specs.declared.fields.NetFields.{NetFields}
use Rattle.mesh_base.specs.declared.lower.Lower.{Lower}
use Rattle.mesh_base.specs.declared.lower.Lower.TheVariants.{Access, Control, AccessPart, ControlPart}
use Rattle.mesh_base.specs.declared.pair.Name.{Name}
use Rattle.mesh_base.specs.declared.pair.Pair.{Pair}
use Rattle.mesh_types.specs.declared.answers.Answer.{Answer}
use Rattle.mesh_types.specs.declared.answers.Answer.TheVariants as A
use Rattle.store_definitions.specs.Entries.{entry_of, has_room}
use Rattle.event_definitions.specs.Answers.{accepted, is_again, lower_answer, message_name, message_pair, named_answer, opened_answer, pair_of, placed_answer, replayed, segment_answer, transport_answer, whole_answer}
use Rattle.event_definitions.specs.History.{Opening, Past, Reading}
use Rattle.event_definitions.specs.Layers.{Layers}

pub some_is : {A : Type 0} {a b : A} → Some a ≡ Some b → a ≡ b
some_is e = cc

-- an answer that isn't one of an accepted message, or none
pub data Refuses : Option Answer → Type 0 where
  no_answer : Refuses None
  refused : {a : Answer} → accepted a ≡ None → Refuses (Some a)

pub refuses_pick : (b : Bool) (x y : Option Answer) → Refuses x → Refuses y → Refuses (cond b x y)
refuses_pick true x y h k = h
refuses_pick false x y h k = k

-- so what is accepted comes from what follows it
pub past_refusal : (o : Option Answer) (a : Answer) (n : Name) → Refuses o → accepted (unwrap_or o a) ≡ Some n → (o ≡ None) × (accepted a ≡ Some n)
past_refusal None a n no_answer e = (refl, e)
past_refusal (Some x) a n (refused r) e = cc

segment_refuses : (layers : Layers) (past : Past) (r : Reading) (low : Lower) (n : Name) → Refuses (segment_answer layers past r low n)
segment_refuses layers past r low n =
    refuses_pick (not (list_any (is_name n) (layers.in_progress past)) && leb 8 (length (layers.in_progress past))) _ _ (refused refl)
    (refuses_pick (layers.conflicts past n r low) _ _ (refused refl)
    (refuses_pick (ltb 0 (layers.missing past n low)) _ _ (refused refl) no_answer))

pub replay_refuses : (kept : Option Pair) (p : Pair) → Refuses (replayed kept p)
replay_refuses None p = no_answer
replay_refuses (Some q) p = refuses_pick (is_newer p q) _ _ no_answer (refused refl)

refuses_or : (x y : Option Answer) → Refuses x → Refuses y → Refuses (option_or x y)
refuses_or None y h k = k
refuses_or (Some a) y h k = h

lower_refuses : (layers : Layers) (past : Past) (r : Reading) (low : Lower) (n : Name) → Refuses (lower_answer layers past r low n)
lower_refuses layers past r low n =
    refuses_pick (is_segment low && is_again past n) _ _ (refused refl)
    (refuses_or _ _ (replay_refuses (entry_of past.records n.src.0) n.pair) (refuses_pick (is_segment low) _ _ (segment_refuses layers past r low n) no_answer))

-- where the lower transport layer has no answer, the name is no replay
or_none : (x y : Option Answer) → option_or x y ≡ None → x ≡ None
or_none None y e = refl
or_none (Some a) y e = e

pick_none : (b : Bool) (a : Answer) (x : Option Answer) → cond b (Some a) x ≡ None → x ≡ None
pick_none true a x e = absurd (cc)
pick_none false a x e = e

not_replayed : (layers : Layers) (past : Past) (r : Reading) (low : Lower) (n : Name) → lower_answer layers past r low n ≡ None → replayed (entry_of past.records n.src.0) n.pair ≡ None
not_replayed layers past r low n e = or_none _ _ (pick_none (is_segment low && is_again past n) A.Again _ e)

-- a whole message is accepted under its name, where there is a place for it
abbrev pub HasPlace : Past → Name → Type 0
HasPlace past n = IsTrue (is_some (entry_of past.records n.src.0) || has_room past.records n.src.0)

placed_accepts : (past : Past) (m : Name) (a : Answer) (n : Name) → accepted (placed_answer past m a) ≡ Some n → (accepted a ≡ Some n) × HasPlace past m
placed_accepts past m a n e = placed_pick (entry_of past.records m.src.0) (has_room past.records m.src.0) _ a n e
  where
    placed_pick : (kept : Option Pair) (room : Bool) (held : ℕ) (a : Answer) (n : Name) → accepted (cond (is_none kept && not room) (A.ListFull held) a) ≡ Some n
        → (accepted a ≡ Some n) × IsTrue (is_some kept || room)
    placed_pick None true held a n e = (e, refl)
    placed_pick None false held a n e = absurd cc
    placed_pick (Some p) true held a n e = (e, refl)
    placed_pick (Some p) false held a n e = (e, refl)

opened_accepts : (past : Past) (r : Reading) (m : Name) (opening : Option Opening) (n : Name) → accepted (opened_answer past r m opening) ≡ Some n → (m ≡ n) × HasPlace past m
opened_accepts past r m None n e = absurd cc
opened_accepts past r m (Some o) n e = let (same, place) = placed_accepts past m _ n e in (some_is same, place)

pub whole_accepts : (layers : Layers) (past : Past) (r : Reading) (low : Lower) (m : Name) (opening : Option Opening) (n : Name)
    → accepted (whole_answer layers past r low m opening) ≡ Some n → (m ≡ n) × HasPlace past m
whole_accepts layers past r (Access akf aid upper) m opening n e = opened_accepts past r m opening n e
whole_accepts layers past r (AccessPart akf aid szmic seq_zero seg_o seg_n piece) m opening n e = opened_accepts past r m opening n e
whole_accepts layers past r (Control opcode params) m opening n e = let (same, place) = placed_accepts past m _ n e in (some_is same, place)
whole_accepts layers past r (ControlPart opcode seq_zero seg_o seg_n piece) m opening n e = let (same, place) = placed_accepts past m _ n e in (some_is same, place)

-- what the table says of a name that it accepts
pub record Passes (past : Past) (n : Name) : Type 0 where
  pub newer : replayed (entry_of past.records n.src.0) n.pair ≡ None
  pub place : HasPlace past n

pub named_accepts : (layers : Layers) (past : Past) (r : Reading) (low : Lower) (m : Option Name) (opening : Option Opening) (n : Name)
    → accepted (named_answer layers past r low m opening) ≡ Some n → (m ≡ Some n) × Passes past n
named_accepts layers past r low None opening n e = absurd cc
named_accepts layers past r low (Some m) opening n e =
    let (passed, whole) = past_refusal (lower_answer layers past r low m) _ n (lower_refuses layers past r low m) e in
    let (same, place) = whole_accepts layers past r low m opening n whole in
    let passes : Passes past m = record { newer = not_replayed layers past r low m passed; place = place } in
    (ap Some same, subst (Passes past) same passes)

-- the name of a message has the source and the IV Index of its PDU
seq_auth_iv : (p q : Pair) (z : ℕ) → seq_auth p z ≡ Some q → q.iv ≡ p.iv
unfolding seq_auth
seq_auth_iv p q z e = iv_pick _ p q _ e
  where
    iv_pick : (b : Bool) (p q : Pair) (seq : ℕ) → cond b (Some (record { iv = p.iv; seq = seq })) None ≡ Some q → q.iv ≡ p.iv
    iv_pick true p q seq e = sym (ap (λ x. x.iv) (some_is e))
    iv_pick false p q seq e = absurd cc

named_by : (f : NetFields) (o : Option Pair) (n : Name) → option_map (λ (p : Pair). let m : Name = record { src = f.src; pair = p } in m) o ≡ Some n → (n.src ≡ f.src) × (o ≡ Some n.pair)
named_by f None n e = absurd cc
named_by f (Some p) n e = (sym (ap (λ x. x.src) (some_is e)), ap (λ (x : Name). Some x.pair) (some_is e))

pair_iv : (f : NetFields) (low : Lower) (p : Pair) → message_pair f low ≡ Some p → p.iv ≡ f.iv
pair_iv f (Access akf aid upper) p e = sym (ap (λ x. x.iv) (some_is e))
pair_iv f (Control opcode params) p e = sym (ap (λ x. x.iv) (some_is e))
pair_iv f (AccessPart akf aid szmic seq_zero seg_o seg_n piece) p e = seq_auth_iv (pair_of f) p seq_zero e
pair_iv f (ControlPart opcode seq_zero seg_o seg_n piece) p e = seq_auth_iv (pair_of f) p seq_zero e

-- An accepted message of a PDU: it has the PDU's source and IV Index, is newer than the entry of its source, and has a place.
pub record AcceptedFrom (past : Past) (r : Reading) (n : Name) : Type 0 where
  pub src : n.src ≡ r.fields.src
  pub iv : n.pair.iv ≡ r.fields.iv
  pub newer : replayed (entry_of past.records n.src.0) n.pair ≡ None
  pub place : HasPlace past n

from_named : (past : Past) (r : Reading) (low : Lower) (n : Name) → message_name r.fields low ≡ Some n → Passes past n → AcceptedFrom past r n
from_named past r low n e h =
    let (src, pair) = named_by r.fields (message_pair r.fields low) n e in
    record { src = src; iv = pair_iv r.fields low n.pair pair; newer = h.newer; place = h.place }

pub transport_accepts : (layers : Layers) (past : Past) (r : Reading) (low : Option Lower) (opening : Option Opening) (n : Name)
    → accepted (transport_answer layers past r low opening) ≡ Some n → AcceptedFrom past r n
transport_accepts layers past r None opening n e = absurd cc
transport_accepts layers past r (Some low) opening n e =
    let (named, passes) = named_accepts layers past r low (message_name r.fields low) opening n e in
    from_named past r low n named passes

-- the IV Index of a PDU is the known one or the one before
pub not_expired : (c iv : ℕ) (p : Pair) → p.iv ≡ iv → (iv ≡ c) ⊎ (iv + 1 ≡ c) → is_expired c p ≡ false
not_expired c iv p e h = grind (arith, nat_tests)

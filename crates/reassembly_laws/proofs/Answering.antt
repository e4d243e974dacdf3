-- Where the answer to a network PDU comes from, and the time that an entry tells.
use Rattle.std.proofs.Common.{◌≡◌, ℕ, ◌^◌, ◌≤◌, Bool, true, false, cond, not, ◌&&◌, ◌||◌, ltb, leb, eqb, length, refl, ap, sym, ◌∙◌, arith, Option, Some, None, is_none, is_some}
use Rattle.std.specs.Prelude.{unwrap_or, MatchOption}
use Rattle.std.specs.List.{list_any}
use Rattle.std.specs.Option.{option_or}
use Rattle.event_definitions.specs.Answers.{answer_of, beacon_answer, begin_answer, config_before, is_again, is_cached, is_mine, later, message_name, named_answer, network_answer, opened_answer, pdu_answer, placed_answer, replayed, segment_answer, send_answer, transport_answer, unless_reset, whole_answer}
use Rattle.event_definitions.specs.History.{Insight, OfBeacon, OfNothing, OfPdu, Opening, Past, Reading, now_of}
use Rattle.event_definitions.specs.Layers.{Layers}
use Rattle.event_definitions.specs.Readings.{IsLower, IsLowerPdu, Sees, sees_pdu}
use Rattle.layer_definitions.specs.KeyRefresh.{app_row}
use Rattle.layer_definitions.specs.Lower.{Fits}
use Rattle.layer_states.specs.Names.{is_name, is_unicast}
use Rattle.layer_states.specs.Reassembly.{is_segment, seg_n_of, seg_o_of}
use Rattle.mesh_base.specs.IvState.{transmit_of}
use Rattle.mesh_base.specs.Pairs.{is_newer}
use Rattle.mesh_base.specs.declared.address.Address.{Address}
use Rattle.mesh_base.specs.declared.lower.Lower.{Lower}
use Rattle.mesh_base.specs.declared.lower.Lower.TheVariants.{Access, Control, AccessPart, ControlPart}
use Rattle.mesh_base.specs.declared.pair.Name.{Name}
use Rattle.mesh_base.specs.declared.pair.Pair.{Pair}
use Rattle.mesh_types.specs.declared.answers.Answer.{Answer}
use Rattle.mesh_types.specs.declared.answers.Answer.TheVariants as A
use Rattle.mesh_types.specs.declared.events.Event.{Event}
use Rattle.mesh_types.specs.declared.events.Event.TheVariants as E
use Rattle.mesh_types.specs.declared.events.SendKey.{SendKey}
use Rattle.mesh_types.specs.declared.low_power.LowPowerAnswer.TheVariants as P
use Rattle.mesh_types.specs.declared.events.SendKey.TheVariants as K
use Rattle.node_layers.specs.NodeLayers.{node_layers}
use Rattle.node_limits.specs.declared.TheConstants.{MESSAGES_IN_PROGRESS, OWN_MESSAGES}
use Rattle.store_definitions.specs.Config.{is_element}
use Rattle.store_definitions.specs.Entries.{entry_of, has_room}

-- an answer that a segment has by the state of reassembly, and one that tells the time
abbrev pub is_row : Answer → Bool
is_row (A.NoRoom held) = true
is_row A.Conflict = true
is_row (A.Waiting missing) = true
is_row _ = false

abbrev pub is_time : Answer → Bool
is_time (A.Ticked now) = true
is_time _ = false

-- What holds of each other answer holds of that to a PDU, if it holds of what the state of reassembly answers.
module _ (P : Answer → Type 0) (plain : (a : Answer) → is_row a ≡ false → is_time a ≡ false → P a) where
  data Of : Option Answer → Type 0 where
    none_of : Of None
    one_of : {a : Answer} → P a → Of (Some a)

  pick_of : (b : Bool) (x y : Option Answer) → Of x → Of y → Of (cond b x y)
  pick_of true x y h k = h
  pick_of false x y h k = k

  or_of : (x y : Option Answer) → Of x → Of y → Of (option_or x y)
  or_of None y h k = k
  or_of (Some a) y h k = h

  unwrap_of : (o : Option Answer) (a : Answer) → Of o → P a → P (unwrap_or o a)
  unwrap_of None a h k = k
  unwrap_of (Some x) a (one_of h) k = h

  pick : (b : Bool) (x y : Answer) → P x → P y → P (cond b x y)
  pick true x y h k = h
  pick false x y h k = k

  network_of : (past : Past) (r : Reading) → Of (network_answer past r)
  network_of past r =
      pick_of (not (is_unicast r.fields.src) || eqb r.fields.dst.0 0) (Some A.BadAddress) _ (one_of (plain A.BadAddress refl refl))
      (pick_of (is_element (config_before past) r.fields.src.0) (Some A.Own) _ (one_of (plain A.Own refl refl))
      (pick_of (is_cached past r.fields) (Some A.Cached) _ (one_of (plain A.Cached refl refl))
      (pick_of (not (is_mine (config_before past) r.fields.dst)) (Some A.NotMine) None (one_of (plain A.NotMine refl refl)) none_of)))

  replay_of : (kept : Option Pair) (p : Pair) → Of (replayed kept p)
  replay_of None p = none_of
  replay_of (Some q) p = pick_of (is_newer p q) None (Some (A.Replay q)) none_of (one_of (plain (A.Replay q) refl refl))

  placed_of : (past : Past) (n : Name) (a : Answer) → P a → P (placed_answer past n a)
  placed_of past n a h = pick (is_none (entry_of past.records n.src.0) && not (has_room past.records n.src.0)) _ a (plain _ refl refl) h

  opened_of : (past : Past) (r : Reading) (n : Name) (o : Option Opening) → P (opened_answer past r n o)
  opened_of past r n None = plain A.NoKey refl refl
  opened_of past r n (Some o) = placed_of past n _ (plain _ refl refl)

  whole_of : (layers : Layers) (past : Past) (r : Reading) (low : Lower) (n : Name) (o : Option Opening) → P (whole_answer layers past r low n o)
  whole_of layers past r (Access akf aid upper) n o = opened_of past r n o
  whole_of layers past r (AccessPart akf aid szmic seq_zero seg_o seg_n piece) n o = opened_of past r n o
  whole_of layers past r (Control opcode params) n o = placed_of past n _ (plain _ refl refl)
  whole_of layers past r (ControlPart opcode seq_zero seg_o seg_n piece) n o = placed_of past n _ (plain _ refl refl)

  named_of : (layers : Layers) (past : Past) (r : Reading) (low : Lower) (n : Name) (o : Option Opening) → Of (segment_answer layers past r low n)
      → P (named_answer layers past r low (Some n) o)
  named_of layers past r low n o segment =
      unwrap_of _ _
      (pick_of (is_segment low && is_again past n) _ _ (one_of (plain A.Again refl refl))
      (or_of _ _ (replay_of (entry_of past.records n.src.0) n.pair) (pick_of (is_segment low) _ _ segment none_of))) (whole_of layers past r low n o)

  pdu_of : (layers : Layers) (past : Past) → ((r : Reading) (low : Lower) (n : Name) → Of (segment_answer layers past r low n))
      → (i : Insight) → P (pdu_answer layers past i)
  pdu_of layers past segments (OfPdu (Some r) low o) = unwrap_of _ _ (network_of past r) (transport low)
    where
      named : (low : Lower) (n : Option Name) → P (named_answer layers past r low n o)
      named low None = plain A.Malformed refl refl
      named low (Some n) = named_of layers past r low n o (segments r low n)

      transport : (low : Option Lower) → P (transport_answer layers past r low o)
      transport None = plain A.Malformed refl refl
      transport (Some low) = named low (message_name r.fields low)
  pdu_of layers past segments (OfPdu None low o) = plain A.Unread refl refl
  pdu_of layers past segments (OfBeacon b) = plain A.Unread refl refl
  pdu_of layers past segments OfNothing = plain A.Unread refl refl

-- Time.

abbrev Untimed : Answer → Type 0
Untimed a = is_time a ≡ false

segment_untimed : (layers : Layers) (past : Past) (r : Reading) (low : Lower) (n : Name) → Of Untimed (λ a row time. time) (segment_answer layers past r low n)
segment_untimed layers past r low n =
    pick_of Untimed (λ a row time. time) (not (list_any (is_name n) (layers.in_progress past)) && leb MESSAGES_IN_PROGRESS (length (layers.in_progress past))) _ _ (one_of refl)
    (pick_of Untimed (λ a row time. time) (layers.conflicts past n r low) _ _ (one_of refl)
    (pick_of Untimed (λ a row time. time) (ltb 0 (layers.missing past n low)) _ _ (one_of refl) none_of))

pdu_untimed : (layers : Layers) (past : Past) (i : Insight) → Untimed (pdu_answer layers past i)
pdu_untimed layers past i = pdu_of Untimed (λ a row time. time) layers past (segment_untimed layers past) i

timed : {a : Answer} {v : ℕ} → Untimed a → a ≡ A.Ticked v → ⊥
timed h e = absurd (let told : false ≡ true = sym h ∙ ap is_time e in cc)

send_untimed : (past : Past) (key : SendKey) → Untimed (send_answer past key)
send_untimed past K.Own = refl
send_untimed past (K.Other key) = refl
send_untimed past (K.App index) = pick Untimed (λ a row time. time) (is_some (app_row (config_before past).apps index)) A.Planned (A.NoAppKey index) refl refl

beacon_untimed : (layers : Layers) (past : Past) (i : Insight) → Untimed (beacon_answer layers past i)
beacon_untimed layers past (OfBeacon (Some b)) = refl
beacon_untimed layers past (OfBeacon None) = refl
beacon_untimed layers past (OfPdu r low o) = refl
beacon_untimed layers past OfNothing = refl

begin_untimed : (layers : Layers) (past : Past) (pair : Pair) (dst : Address) → Untimed (begin_answer layers past pair dst)
begin_untimed layers past pair dst =
    let iv : ℕ = transmit_of (config_before past).iv in
    pick Untimed (λ a row time. time) (not (eqb pair.iv iv)) (A.Moved iv) _ refl
    (pick Untimed (λ a row time. time) (layers.is_befriended past dst) A.Befriended _ refl
    (pick Untimed (λ a row time. time) (leb OWN_MESSAGES (layers.unacknowledged past)) (A.SendFull (layers.unacknowledged past)) A.Begun refl refl))

unless_untimed : (past : Past) (a : Answer) → Untimed a → Untimed (unless_reset past a)
unless_untimed past a h = pick Untimed (λ b row time. time) (config_before past).reset A.Reset a refl h

-- the time doesn't go back, and stops at 2^48
pub time_later : (layers : Layers) (past : Past) (event : Event) (i : Insight) (v : ℕ) → now_of past.told ≤ 2 ^ 48
    → answer_of layers past event i ≡ A.Ticked v → (now_of past.told ≤ v) × (v ≤ 2 ^ 48)
unfolding answer_of
time_later layers past (E.Net octets) i v h e = absurd (timed (unless_untimed past _ (pdu_untimed layers past i)) e)
time_later layers past (E.Bcn octets) i v h e = absurd (timed (unless_untimed past _ (beacon_untimed layers past i)) e)
time_later layers past (E.Send element dst ttl key payload) i v h e = absurd (timed (unless_untimed past _ (send_untimed past key)) e)
time_later layers past (E.Raw dst ttl tpdu) i v h e = absurd (timed (unless_untimed past A.Planned refl) e)
time_later layers past (E.Tick ticks) i v h e = test (config_before past).reset e
  where
    test : (b : Bool) → cond b A.Reset (A.Ticked (later past ticks)) ≡ A.Ticked v → (now_of past.told ≤ v) × (v ≤ 2 ^ 48)
    test true f = absurd cc
    test false f = let is : later past ticks ≡ v = cc in (omega (arith, is, h), omega (arith, is))
time_later layers past (E.LowPower heard) i v h e = absurd (timed (unless_untimed past (A.LowPower P.NoFriend) refl) e)
time_later layers past (E.Begin m) i v h e = absurd (timed (begin_untimed layers past m.name.pair m.dst) e)
time_later layers past (E.Kept lpn fsn name pdu) i v h e =
    absurd (timed (pick Untimed (λ a row time. time) (layers.is_noted past lpn fsn) A.Kept A.Dropped refl refl) e)

-- A segment that gets to the lower transport layer.

pub record Reaches (past : Past) (r : Reading) (low : Lower) : Type 0 where
  pub network : network_answer past r ≡ None
  pub fits : Fits low
  pub reset : (config_before past).reset ≡ false

reaches_by : (past : Past) (r : Reading) (low : Lower) → (config_before past).reset ≡ false → IsLower past (Some r) (Some low) → Reaches past r low
reaches_by past r low reset h = (elim (network_answer past r) as (λ o. network_answer past r ≡ o → MatchOption o (IsLowerPdu r.fields (Some low)) (λ (answer : Answer). Some low ≡ None) → Reaches past r low) [
  | None ↦ λ e k. record { network = e; fits = k.fits; reset = reset }
  | Some answer ↦ λ e k. absurd cc
]) refl h

of_itself : (P : Answer → Type 0) (plain : (a : Answer) → is_row a ≡ false → is_time a ≡ false → P a) (o : Option Answer)
    → ((a : Answer) → o ≡ Some a → P a) → Of P plain o
of_itself P plain None h = none_of
of_itself P plain (Some a) h = one_of (h a refl)

module _ (past : Past) (r : Reading) (low : Lower) (n : Name) (opening : Option Opening) where
  abbrev IsSaid : Answer → Type 0
  IsSaid a = is_row a ≡ true → segment_answer node_layers past r low n ≡ Some a

  plain_said : (a : Answer) → is_row a ≡ false → is_time a ≡ false → IsSaid a
  plain_said a row time h = absurd (let other : false ≡ true = sym row ∙ h in cc)

  named_said : IsSaid (named_answer node_layers past r low (Some n) opening)
  named_said = named_of IsSaid plain_said node_layers past r low n opening (of_itself IsSaid plain_said (segment_answer node_layers past r low n) (λ a e row. e))

  answer_said : Reaches past r low → message_name r.fields low ≡ Some n → IsSaid (unless_reset past (pdu_answer node_layers past (OfPdu (Some r) (Some low) opening)))
  answer_said h e = rw (h.reset, h.network, e) named_said

-- what the state of reassembly says of it, where the answer is one of its rows
pub row_said : (past : Past) (event : Event) (r : Reading) (low : Lower) (n : Name) (opening : Option Opening) (a : Answer)
    → Sees node_layers past event (OfPdu (Some r) (Some low) opening) → message_name r.fields low ≡ Some n
    → a ≡ answer_of node_layers past event (OfPdu (Some r) (Some low) opening) → is_row a ≡ true
    → segment_answer node_layers past r low n ≡ Some a
unfolding answer_of
row_said past _ r low n opening a (sees_pdu reset reading lower opened) named is row =
    answer_said past r low n opening (reaches_by past r low reset lower) named (ap is_row (sym is) ∙ row) ∙ ap Some (sym is)

pub reached : (past : Past) (event : Event) (r : Reading) (low : Lower) (opening : Option Opening)
    → Sees node_layers past event (OfPdu (Some r) (Some low) opening) → Fits low
reached past _ r low opening (sees_pdu reset reading lower opened) = (reaches_by past r low reset lower).fits

pub place_fits : (low : Lower) → is_segment low ≡ true → Fits low → seg_o_of low ≤ seg_n_of low
place_fits (Access akf aid upper) s h = absurd cc
place_fits (Control opcode params) s h = absurd cc
place_fits (AccessPart akf aid szmic seq_zero seg_o seg_n piece) s h = h.4.in_order
place_fits (ControlPart opcode seq_zero seg_o seg_n piece) s h = h.3.in_order

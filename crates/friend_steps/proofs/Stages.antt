-- What the friendships make of a PDU, by how far its octets were read.
use Rattle.std.proofs.Common.{◌≡◌, ◌∙◌, ℕ, true, false, cond, refl, ap, sym, subst, fold, List, Option, Some, None}
use Rattle.std.specs.Prelude.{⊤}
use Rattle.friend_steps.specs.Hearing.{IsActBy, control_left}
use Rattle.layer_definitions.specs.ControlReading.{control_of}
use Rattle.layer_states.specs.Friends.{FriendsState, after}
use Rattle.mesh_base.specs.declared.address.Address.{Address}
use Rattle.mesh_base.specs.declared.lower.Lower.{Lower}
use Rattle.mesh_base.specs.declared.pair.Name.{Name}
use Rattle.mesh_reading.specs.Held.{opening_of, pdu_insight, reading_in, reading_of}
use Rattle.mesh_reading.specs.declared.heard.HeardPdu.{HeardPdu}
use Rattle.mesh_reading.specs.declared.heard.HeardPdu.TheVariants as H
use Rattle.mesh_types.specs.declared.answers.Answer.{Answer}
use Rattle.mesh_types.specs.declared.answers.Answer.TheVariants as A
use Rattle.network_layer.specs.declared.reading.NetReading.{NetReading}
use Rattle.node_friends.specs.Acts.{IsActOf}
use Rattle.node_friends.specs.Steps.{after_control, heard_step}
use Rattle.node_friends.specs.declared.acts.FriendAct.{FriendAct}
use Rattle.node_layers.specs.Friendship.{heard_calls}
use Rattle.event_definitions.proofs.Accepting.{some_is}
use Rattle.event_definitions.specs.Answers.{is_before_cache}
use Rattle.event_definitions.specs.History.{Insight, OfBeacon, OfNothing, OfPdu, Opening}
use Rattle.store_definitions.specs.Config.{Config}

-- A PDU that got past the message cache is stored.

pub step_before : (st : FriendsState) (i : Insight) (a : Answer) → is_before_cache a ≡ true → st ≡ heard_step st i a
step_before st (OfPdu (Some r) low opening) a e = rw e refl
step_before st (OfPdu None low opening) a e = refl
step_before st (OfBeacon b) a e = refl
step_before st OfNothing a e = refl

pub step_unread : (st : FriendsState) (h : HeardPdu) (a : Answer) → reading_in h ≡ None → st ≡ heard_step st (pdu_insight h) a
step_unread st H.Reset a e = refl
step_unread st H.Unread a e = refl
step_unread st (H.Network r) a e = absurd cc
step_unread st (H.Lower r low) a e = absurd cc
step_unread st (H.Opened r low o) a e = absurd cc

one_read : (st : FriendsState) (r x : NetReading) (low : Option Lower) (opening : Option Opening) (a : Answer) → is_before_cache a ≡ false → Some x ≡ Some r
    → fold after st (heard_calls (reading_of r)) ≡ heard_step st (OfPdu (Some (reading_of x)) low opening) a
one_read st r x low opening a e is =
    ap (λ (y : NetReading). fold after st (heard_calls (reading_of y))) (sym (some_is is)) ∙ rw e refl

pub step_read : (st : FriendsState) (h : HeardPdu) (a : Answer) (r : NetReading) → is_before_cache a ≡ false → reading_in h ≡ Some r
    → fold after st (heard_calls (reading_of r)) ≡ heard_step st (pdu_insight h) a
step_read st H.Reset a r e is = absurd cc
step_read st H.Unread a r e is = absurd cc
step_read st (H.Network x) a r e is = one_read st r x None None a e is
step_read st (H.Lower x low) a r e is = one_read st r x (Some low) None a e is
step_read st (H.Opened x low o) a r e is = one_read st r x (Some low) (Some (opening_of o)) a e is

-- A control message.

pub unread_left : (st : FriendsState) (c : Config) (now : ℕ) (h : HeardPdu) (a : Answer) → reading_in h ≡ None → st ≡ control_left st c now (pdu_insight h) a
unread_left st c now H.Reset (A.Control name dst opcode params) e = refl
unread_left st c now H.Unread (A.Control name dst opcode params) e = refl
unread_left st c now (H.Network r) a e = absurd cc
unread_left st c now (H.Lower r low) a e = absurd cc
unread_left st c now (H.Opened r low o) a e = absurd cc
unread_left st c now h _ e = refl

pub unread_act : (st : FriendsState) (c : Config) (now : ℕ) (h : HeardPdu) (a : Answer) (act : FriendAct) → reading_in h ≡ None → IsActBy st c now (pdu_insight h) a act
unread_act st c now H.Reset (A.Control name dst opcode params) act e = tt
unread_act st c now H.Unread (A.Control name dst opcode params) act e = tt
unread_act st c now (H.Network r) a act e = absurd cc
unread_act st c now (H.Lower r low) a act e = absurd cc
unread_act st c now (H.Opened r low o) a act e = absurd cc
unread_act st c now h _ act e = tt

one_left : (st : FriendsState) (c : Config) (now : ℕ) (r x : NetReading) (low : Option Lower) (opening : Option Opening) (name : Name) (dst : Address) (opcode : ℕ) (params : List ℕ)
    → Some x ≡ Some r
    → after_control st now c (reading_of r) (control_of opcode params) ≡ control_left st c now (OfPdu (Some (reading_of x)) low opening) (A.Control name dst opcode params)
one_left st c now r x low opening name dst opcode params is =
    ap (λ (y : NetReading). after_control st now c (reading_of y) (control_of opcode params)) (sym (some_is is))

read_left : (st : FriendsState) (c : Config) (now : ℕ) (h : HeardPdu) (r : NetReading) (name : Name) (dst : Address) (opcode : ℕ) (params : List ℕ) → reading_in h ≡ Some r
    → after_control st now c (reading_of r) (control_of opcode params) ≡ control_left st c now (pdu_insight h) (A.Control name dst opcode params)
read_left st c now H.Reset r name dst opcode params e = absurd cc
read_left st c now H.Unread r name dst opcode params e = absurd cc
read_left st c now (H.Network x) r name dst opcode params e = one_left st c now r x None None name dst opcode params e
read_left st c now (H.Lower x low) r name dst opcode params e = one_left st c now r x (Some low) None name dst opcode params e
read_left st c now (H.Opened x low o) r name dst opcode params e = one_left st c now r x (Some low) (Some (opening_of o)) name dst opcode params e

pub control_read : (st : FriendsState) (c : Config) (now : ℕ) (h : HeardPdu) (a : Answer) (r : NetReading) (name : Name) (dst : Address) (opcode : ℕ) (params : List ℕ)
    → reading_in h ≡ Some r → a ≡ A.Control name dst opcode params
    → after_control st now c (reading_of r) (control_of opcode params) ≡ control_left st c now (pdu_insight h) a
control_read st c now h a r name dst opcode params e is =
    read_left st c now h r name dst opcode params e ∙ ap (λ (x : Answer). control_left st c now (pdu_insight h) x) (sym is)

one_act : (st : FriendsState) (c : Config) (now : ℕ) (r x : NetReading) (low : Option Lower) (opening : Option Opening) (name : Name) (dst : Address) (opcode : ℕ) (params : List ℕ) (act : FriendAct)
    → Some x ≡ Some r → IsActOf c st now (reading_of r) (control_of opcode params) act
    → IsActBy st c now (OfPdu (Some (reading_of x)) low opening) (A.Control name dst opcode params) act
one_act st c now r x low opening name dst opcode params act is h =
    subst (λ (y : NetReading). IsActOf c st now (reading_of y) (control_of opcode params) act) (sym (some_is is)) h

read_act : (st : FriendsState) (c : Config) (now : ℕ) (h : HeardPdu) (r : NetReading) (name : Name) (dst : Address) (opcode : ℕ) (params : List ℕ) (act : FriendAct) → reading_in h ≡ Some r
    → IsActOf c st now (reading_of r) (control_of opcode params) act → IsActBy st c now (pdu_insight h) (A.Control name dst opcode params) act
read_act st c now H.Reset r name dst opcode params act e is = absurd cc
read_act st c now H.Unread r name dst opcode params act e is = absurd cc
read_act st c now (H.Network x) r name dst opcode params act e is = one_act st c now r x None None name dst opcode params act e is
read_act st c now (H.Lower x low) r name dst opcode params act e is = one_act st c now r x (Some low) None name dst opcode params act e is
read_act st c now (H.Opened x low o) r name dst opcode params act e is = one_act st c now r x (Some low) (Some (opening_of o)) name dst opcode params act e is

pub act_read : (st : FriendsState) (c : Config) (now : ℕ) (h : HeardPdu) (a : Answer) (r : NetReading) (name : Name) (dst : Address) (opcode : ℕ) (params : List ℕ) (act : FriendAct)
    → reading_in h ≡ Some r → a ≡ A.Control name dst opcode params
    → IsActOf c st now (reading_of r) (control_of opcode params) act → IsActBy st c now (pdu_insight h) a act
act_read st c now h a r name dst opcode params act e is of =
    subst (λ (x : Answer). IsActBy st c now (pdu_insight h) x act) (sym is) (read_act st c now h r name dst opcode params act e of)

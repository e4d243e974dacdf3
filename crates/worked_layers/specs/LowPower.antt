-- A Low Power node: Request, Offer and Polls, what its friend sends, its list, and its answers to a PDU.
use Rattle.std.specs.Prelude.{◌≡◌, ℕ, Bool, true, false, List, [], ◌∷◌, ◌++◌, Option, Some, None, fold}
use Rattle.std.specs.List.{range_with_len}
use Rattle.layer_definitions.specs.KeyRefresh.{friendship_material, master_material}
use Rattle.low_power_role.specs.Role.{low_power_role}
use Rattle.mesh_base.specs.declared.fields.Heard.{Heard}
use Rattle.mesh_base.specs.declared.fields.NetMaterial.{NetMaterial}
use Rattle.mesh_base.specs.declared.keys.UpperKey.TheVariants as U
use Rattle.mesh_base.specs.declared.lower.Lower.{Lower}
use Rattle.mesh_base.specs.declared.lower.Lower.TheVariants.{Access, Control}
use Rattle.mesh_types.specs.declared.answers.Answer.{Answer}
use Rattle.mesh_types.specs.declared.answers.Answer.TheVariants as A
use Rattle.mesh_types.specs.declared.answers.KeyName.TheVariants as N
use Rattle.mesh_types.specs.declared.events.Event.{Event}
use Rattle.mesh_types.specs.declared.events.Event.TheVariants as E
use Rattle.mesh_types.specs.declared.jobs.Job.{Job}
use Rattle.mesh_types.specs.declared.jobs.Job.TheVariants as J
use Rattle.mesh_types.specs.declared.low_power.LowPowerAnswer.{LowPowerAnswer}
use Rattle.mesh_types.specs.declared.low_power.LowPowerAnswer.TheVariants as P
use Rattle.mesh_types.specs.declared.low_power.LowPowerEvent.{LowPowerEvent}
use Rattle.mesh_types.specs.declared.low_power.LowPowerEvent.TheVariants as W
use Rattle.record_types.specs.declared.records.StoreRecord.TheVariants as R
use Rattle.event_definitions.specs.History.{Insight, OfNothing, OfPdu, Opening, Past}
use Rattle.worked_layers.specs.Walk.{Handled, address, handled_in, iv, name, start, then_at}

abbrev handled : Past → Event → Insight → Handled
handled past event insight = handled_in low_power_role past event insight

-- what it is told to do
abbrev told : Past → LowPowerEvent → Handled
told past what = handled past (E.LowPower what) OfNothing

abbrev then_told : Past → LowPowerEvent → LowPowerAnswer → Past
then_told past what answer = then_at past (E.LowPower what) OfNothing (A.LowPower answer) []

abbrev says : LowPowerAnswer → List Job → Handled
says answer jobs = record { answer = A.LowPower answer; jobs = jobs }

-- a life that begins where another one ended
abbrev next_life : Past → Past
next_life past = record { told = []; records = past.records }

module _ (net_key dev_key pdu : List ℕ) where
  -- the node 1201, and its friend 0100, with LPNCounter 0 and FriendCounter 0
  abbrev friend_material : NetMaterial
  friend_material = friendship_material net_key 0x1201 0x0100 0 0

  abbrev by_master : Heard
  by_master = record { index = 0; lpn = None; fresh = false; material = master_material net_key }

  abbrev by_friend : Heard
  by_friend = record { index = 0; lpn = Some (address 0x1201); fresh = false; material = friend_material }

  -- a PDU with this transport PDU
  abbrev heard : Heard → Bool → ℕ → ℕ → ℕ → List ℕ → Option Lower → Option Opening → Insight
  heard by ctl seq src dst tpdu low opening =
      OfPdu
      (Some
      (record {
        fields = record { iv = iv; ctl = ctl; ttl = 0; seq = seq; src = address src; dst = address dst; tpdu = tpdu };
        by = by;
      })) low opening

  abbrev control : Heard → ℕ → ℕ → ℕ → ℕ → List ℕ → Insight
  control by seq src dst opcode params =
      heard by true seq src dst (opcode ∷ params) (Some (Control opcode params)) None

  abbrev accepted : ℕ → ℕ → ℕ → ℕ → List ℕ → Answer
  accepted seq src dst opcode params = A.Control (name src seq) (address dst) opcode params

  abbrev then_control : Past → Heard → ℕ → ℕ → ℕ → List ℕ → Past
  then_control past by seq src opcode params =
      then_at past (E.Net pdu) (control by seq src 0x1201 opcode params) (accepted seq src 0x1201 opcode params)
      (R.Replay (name src seq) None ∷ [])

  abbrev to_friend : List ℕ → Job
  to_friend tpdu = J.Control friend_material 0 (address 0x1201) (address 0x0100) tpdu None

  abbrev poll : ℕ → Job
  poll fsn = to_friend (0x01 ∷ fsn ∷ [])

  abbrev sought : Past
  sought = then_told (start 0 net_key dev_key) W.Seek P.Sought

  abbrev offer : List ℕ
  offer = 0x64 ∷ 0x10 ∷ 0x10 ∷ 0x7f ∷ 0x00 ∷ 0x00 ∷ []

  abbrev offered : Past
  offered = then_control sought by_master 1 0x0100 4 offer

  abbrev update : List ℕ
  update = 0x00 ∷ 0x12 ∷ 0x34 ∷ 0x56 ∷ 0x78 ∷ 0x00 ∷ []

  -- the first Poll was closed by an Update, and another one is open
  abbrev polled : Past
  polled = then_told (then_control offered by_friend 2 0x0100 2 update) W.Poll P.Polled

  -- it was closed by a message of another node
  abbrev closed : Past
  closed = then_control (then_told polled W.Poll P.Polled) by_friend 9 0x0300 0x7f []

  abbrev handled_control : Past → Heard → ℕ → ℕ → ℕ → List ℕ → Handled
  handled_control past by seq src opcode params = handled past (E.Net pdu) (control by seq src 0x1201 opcode params)

  abbrev accepts : ℕ → ℕ → ℕ → List ℕ → List Job → Handled
  accepts seq src opcode params jobs = record { answer = accepted seq src 0x1201 opcode params; jobs = jobs }

  pub record Befriends : Type 0 where
    pub seeks : told (start 0 net_key dev_key) W.Seek
        ≡ says P.Sought
        (J.Control (master_material net_key) 0 (address 0x1201) (address 0xfffd)
        (0x03 ∷ 0x01 ∷ 0x64 ∷ 0x00 ∷ 0x02 ∷ 0x58 ∷ 0x00 ∷ 0x00 ∷ 0x01 ∷ 0x00 ∷ 0x00 ∷ []) None ∷ [])
    pub takes_offer : handled_control sought by_master 1 0x0100 4 offer ≡ accepts 1 0x0100 4 offer (poll 0 ∷ [])
    -- a second Offer, and one that wasn't asked for
    pub leaves_offer : handled_control offered by_master 1 0x0102 4 offer ≡ accepts 1 0x0102 4 offer []
    pub unsought : handled_control (start 0 net_key dev_key) by_master 1 0x0100 4 offer ≡ accepts 1 0x0100 4 offer []
    pub updated : handled_control offered by_friend 2 0x0100 2 update ≡ accepts 2 0x0100 2 update []
    pub polls : told (then_control offered by_friend 2 0x0100 2 update) W.Poll ≡ says P.Polled (poll 1 ∷ [])
    pub polls_again : told polled W.Poll ≡ says P.Polled (poll 1 ∷ [])
    pub message : handled_control (then_told polled W.Poll P.Polled) by_friend 9 0x0300 0x7f [] ≡ accepts 9 0x0300 0x7f [] []
    pub unasked : handled_control closed by_friend 9 0x0300 0x7f [] ≡ says P.Unasked []
    pub goes_on : told closed W.Poll ≡ says P.Polled (poll 0 ∷ [])
    pub repeated : handled_control (then_told closed W.Poll P.Polled) by_friend 9 0x0300 0x7f [] ≡ says P.Repeat []
    -- the Request names the last friend, and counts; the friendship is over with it, and with the life
    pub seeks_again : told closed W.Seek
        ≡ says P.Sought
        (J.Control (master_material net_key) 0 (address 0x1201) (address 0xfffd)
        (0x03 ∷ 0x01 ∷ 0x64 ∷ 0x00 ∷ 0x02 ∷ 0x58 ∷ 0x01 ∷ 0x00 ∷ 0x01 ∷ 0x00 ∷ 0x01 ∷ []) None ∷ [])
    pub friendless : told (then_told closed W.Seek P.Sought) W.Poll ≡ says P.NoFriend []
    pub next_life : told (next_life closed) W.Poll ≡ says P.NoFriend []

  -- an address that is listed, and a message to it

  abbrev listed : ℕ → Past → Past
  listed a past = then_told past (W.List (address a)) P.Listed

  abbrev full : Past
  full = fold (λ past i. listed i past) polled (range_with_len 0xc000 16)

  pub record Lists : Type 0 where
    pub lists : told polled (W.List (address 0xc000)) ≡ says P.Listed (to_friend (0x07 ∷ 0x00 ∷ 0xc0 ∷ 0x00 ∷ []) ∷ [])
    pub again : told (listed 0xc000 polled) (W.List (address 0xc000)) ≡ says P.Listed (to_friend (0x07 ∷ 0x01 ∷ 0xc0 ∷ 0x00 ∷ []) ∷ [])
    pub friend_lost : told (then_told full W.Seek P.Sought) (W.List (address 0xc000)) ≡ says P.NoFriend []
    pub too_many : told full (W.List (address 0xc010)) ≡ says (P.TooMany 16) []
    pub held_before : told full (W.List (address 0xc00f)) ≡ says P.Listed (to_friend (0x07 ∷ 0x10 ∷ 0xc0 ∷ 0x0f ∷ []) ∷ [])
    pub friendless : told (start 0 net_key dev_key) (W.List (address 0xc000)) ≡ says P.NoFriend []
    pub mine : handled (listed 0xc000 polled) (E.Net pdu) (control by_friend 3 0x0300 0xc000 0x7f [])
        ≡ record { answer = accepted 3 0x0300 0xc000 0x7f []; jobs = [] }

  -- each row of its answers, in their order

  abbrev answered : Answer → Handled
  answered answer = record { answer = answer; jobs = [] }

  -- an access message that its device key opens, or doesn't
  abbrev access : ℕ → Option Opening → Insight
  access seq opening = heard by_friend false seq 0x0300 0x1201 (0x00 ∷ []) (Some (Access false 0 [])) opening

  abbrev opening : Opening
  opening = record { key = U.Device dev_key; label = None; payload = 0x7f ∷ [] }

  pub record Hears : Type 0 where
    pub unread : handled polled (E.Net pdu) (OfPdu None None None) ≡ answered A.Unread
    pub bad_address : handled polled (E.Net pdu) (heard by_master true 3 0x0300 0 (0x7f ∷ []) None None) ≡ answered A.BadAddress
    pub own : handled polled (E.Net pdu) (heard by_master true 3 0x1201 0x1201 (0x7f ∷ []) None None) ≡ answered A.Own
    pub not_mine : handled polled (E.Net pdu) (heard by_friend true 3 0x0300 0xc000 (0x7f ∷ []) None None) ≡ answered A.NotMine
    pub friends : handled polled (E.Net pdu) (heard by_master true 3 0x0300 0xfffd (0x7f ∷ []) None None) ≡ answered A.NotMine
    pub segmented : handled polled (E.Net pdu) (heard by_friend false 3 0x0300 0x1201 (0x80 ∷ []) None None)
        ≡ answered (A.LowPower P.Segmented)
    pub malformed : handled closed (E.Net pdu) (heard by_friend false 3 0x0300 0x1201 (0x00 ∷ []) None None) ≡ answered A.Malformed
    pub unasked : handled closed (E.Net pdu) (access 3 None) ≡ answered (A.LowPower P.Unasked)
    pub replay : handled polled (E.Net pdu) (control by_friend 1 0x0100 0x1201 0x7f [])
        ≡ answered (A.Replay (record { iv = iv; seq = 2 }))
    pub no_key : handled polled (E.Net pdu) (access 3 None) ≡ answered A.NoKey
    pub delivered : handled polled (E.Net pdu) (access 3 (Some opening))
        ≡ answered (A.Delivered (name 0x0300 3) (address 0x1201) N.Dev (0x7f ∷ []))
    -- what no key opens closes the Poll, too
    pub closes : told (then_at polled (E.Net pdu) (access 3 None) A.NoKey []) W.Poll ≡ says P.Polled (poll 0 ∷ [])
    -- and so does a replay
    pub replay_closes : told (then_at polled (E.Net pdu) (control by_friend 1 0x0100 0x1201 0x7f []) (A.Replay (record { iv = iv; seq = 2 })) []) W.Poll
        ≡ says P.Polled (poll 0 ∷ [])
    -- what is under the master credentials, doesn't
    pub stays_open : told (then_control polled by_master 10 0x0300 0x7f []) W.Poll ≡ says P.Polled (poll 1 ∷ [])
    pub beacon : handled polled (E.Bcn pdu) OfNothing ≡ answered A.Dropped

abbrev pub LowPowerBefriends : Type 0
LowPowerBefriends = (net_key dev_key pdu : List ℕ) → Befriends net_key dev_key pdu

abbrev pub LowPowerLists : Type 0
LowPowerLists = (net_key dev_key pdu : List ℕ) → Lists net_key dev_key pdu

abbrev pub LowPowerHears : Type 0
LowPowerHears = (net_key dev_key pdu : List ℕ) → Hears net_key dev_key pdu

-- The Generic OnOff Server (Mesh Model 1.0.1, sections 3.1.1, 3.2.1 and 3.3.1). Time is in ticks of 10 ms.
use Rattle.std.specs.Prelude.{ℕ, ◌+◌, ◌-◌, ◌*◌, ◌==◌, ◌&&◌, ◌||◌, not, nat_lt, Bool, true, false, if◌then◌else◌, List, [], ◌∷◌, Option, Some, None}
use Rattle.std.specs.Option.{option_map}
use Rattle.mesh_base.specs.declared.address.Address.{Address}
use Rattle.model_states.specs.declared.models.OnOffMessage.{OnOffMessage}
use Rattle.model_states.specs.declared.models.OnOffMessage.TheVariants.{Get, Set}
use Rattle.model_states.specs.declared.models.OnOffState.{OnOffState}
use Rattle.model_states.specs.declared.models.Timing.{Timing}
use Rattle.model_states.specs.Timing.{timing_of, is_delayed, is_over, ticks_left, remaining_time, is_repeated, transaction}

-- Messages (3.2.1).

-- a set's parameters: OnOff, which is 0 or 1, and TID, then transition time and delay or nothing (3.2.1.2)
abbrev pub onoff_set : Bool → List ℕ → Option OnOffMessage
onoff_set acknowledged (value ∷ tid ∷ rest) =
    if nat_lt 1 value then None
    else option_map (λ t. Set (record { acknowledged = acknowledged; target = value == 1; tid = tid; timing = t }))
    (timing_of rest)
onoff_set acknowledged _ = None

abbrev pub onoff_get : List ℕ → Option OnOffMessage
onoff_get [] = Some Get
onoff_get _ = None

-- the message of an access payload: Get 8201, Set 8202, Set Unacknowledged 8203
unfoldable pub onoff_message : List ℕ → Option OnOffMessage
onoff_message (high ∷ low ∷ params) =
    let opcode = high * 256 + low in
    if opcode == 0x8201 then onoff_get params
    else if opcode == 0x8202 then onoff_set true params
    else if opcode == 0x8203 then onoff_set false params
    else None
onoff_message _ = None

-- The state (3.1.1).

-- a node opens with a value, and no message was taken
abbrev pub onoff_opened : Bool → OnOffState
onoff_opened value =
    record { start = value; target = value; taken = 0; timing = record { delay = 0; duration = 0 }; last = None }

-- Present OnOff: a change to on is made as soon as its delay is over, and a change to off when the transition ends (1.4.1.1, 3.1.1).
abbrev pub onoff_present : OnOffState → ℕ → Bool
onoff_present s now =
    let elapsed = now - s.taken in
    if s.target then s.start || not (is_delayed s.timing elapsed) else s.start && not (is_over s.timing elapsed)

-- what a power cycle keeps: the target of the last change
abbrev pub onoff_kept : OnOffState → Bool
onoff_kept s = s.target

-- A set message makes its target the target, unless it is of the transaction of the last one, which it only renews (3.3.1.2.2).
abbrev pub onoff_taken : OnOffState → ℕ → Address → Address → OnOffMessage → OnOffState
onoff_taken s now src dst Get = s
onoff_taken s now src dst (Set m) =
    if is_repeated s.last now src dst m.tid then record s { last = Some (transaction now src dst m.tid) }
    else record {
      start = onoff_present s now;
      target = m.target;
      taken = now;
      timing = m.timing;
      last = Some (transaction now src dst m.tid);
    }

-- Status (3.2.1.4).

abbrev pub onoff_octet : Bool → ℕ
onoff_octet value = if value then 1 else 0

-- Status 8204: Present OnOff, and until the change is over Target OnOff and Remaining Time
abbrev pub onoff_status : OnOffState → ℕ → List ℕ
onoff_status s now =
    let elapsed = now - s.taken in
    0x82 ∷ 0x04 ∷ onoff_octet (onoff_present s now)
    ∷ (if is_over s.timing elapsed then [] else onoff_octet s.target ∷ remaining_time (ticks_left s.timing elapsed)
    ∷ [])

-- Get and Set ask for the Status (3.3.1.2.1, 3.3.1.2.2)
abbrev pub onoff_asks : OnOffMessage → Bool
onoff_asks Get = true
onoff_asks (Set m) = m.acknowledged

-- An access payload from SRC to DST: what the state is after it, and the reply. What is no message of this model changes nothing and has none.
abbrev pub onoff_after : OnOffState → ℕ → Address → Address → List ℕ → OnOffState
onoff_after s now src dst payload = after_message (onoff_message payload)
  where
    after_message : Option OnOffMessage → OnOffState
    after_message None = s
    after_message (Some m) = onoff_taken s now src dst m

abbrev pub onoff_reply : OnOffState → ℕ → Address → Address → List ℕ → Option (List ℕ)
onoff_reply s now src dst payload = reply_to (onoff_message payload)
  where
    reply_to : Option OnOffMessage → Option (List ℕ)
    reply_to None = None
    reply_to (Some m) = if onoff_asks m then Some (onoff_status (onoff_taken s now src dst m) now) else None

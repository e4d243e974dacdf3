-- What the fields of an entry's line say was answered. The answer's word is field 5, behind `e`, the place, the bearer, its number and the
-- kind of the event.
use Rattle.std.specs.Prelude.{ℕ, ◌+◌, ◌^◌, if◌then◌else◌, List, [], ◌∷◌, codes, Option, Some, None}
use Rattle.std.specs.Option.{option_map}
use Rattle.std.specs.Str.{bytes_eq}
use Rattle.mesh_base.specs.declared.iv_state.IvStep.{IvStep}
use Rattle.mesh_base.specs.declared.iv_state.IvStep.TheVariants as I
use Rattle.mesh_types.specs.declared.answers.Answer.{Answer}
use Rattle.mesh_types.specs.declared.answers.Answer.TheVariants as A
use Rattle.mesh_types.specs.declared.answers.KeyStep.{KeyStep}
use Rattle.mesh_types.specs.declared.answers.KeyStep.TheVariants as S
use Rattle.mesh_types.specs.declared.events.Kind.{Kind}
use Rattle.mesh_types.specs.declared.events.Kind.TheVariants as K
use Rattle.mesh_types.specs.declared.low_power.LowPowerAnswer.{LowPowerAnswer}
use Rattle.mesh_types.specs.declared.low_power.LowPowerAnswer.TheVariants as P
use Rattle.script_definitions.specs.Digits.{◌>>=◌, number_word}
use Rattle.script_definitions.specs.Forms.{address_word}
use Rattle.script_definitions.specs.Words.{word_at}
use Rattle.report_reader.specs.Forms.{below_word, decimal_from, pair_at, name_at, key_name_word, octets_word}
use Rattle.report_reader.specs.ReportLine.{untold}

unfoldable pub kind_word : List ℕ → Option Kind
kind_word word =
    if bytes_eq word (codes "net") then Some K.Net
    else if bytes_eq word (codes "bcn") then Some K.Bcn
    else if bytes_eq word (codes "send") then Some K.Send
    else if bytes_eq word (codes "raw") then Some K.Raw
    else if bytes_eq word (codes "tick") then Some K.Tick
    else if bytes_eq word (codes "begin") then Some K.Begin
    else if bytes_eq word (codes "kept") then Some K.Kept
    else if bytes_eq word (codes "seek") then Some K.Seek
    else if bytes_eq word (codes "poll") then Some K.Poll
    else if bytes_eq word (codes "list") then Some K.List
    else None

-- an answer of a Low Power node that is its word
unfoldable pub low_power_answer : List ℕ → Option LowPowerAnswer
low_power_answer word =
    if bytes_eq word (codes "segmented") then Some P.Segmented
    else if bytes_eq word (codes "unasked") then Some P.Unasked
    else if bytes_eq word (codes "repeat") then Some P.Repeat
    else if bytes_eq word (codes "sought") then Some P.Sought
    else if bytes_eq word (codes "polled") then Some P.Polled
    else if bytes_eq word (codes "nofriend") then Some P.NoFriend
    else if bytes_eq word (codes "listed") then Some P.Listed
    else None

-- an answer that is its word
unfoldable pub plain_answer : List ℕ → Option Answer
plain_answer word =
    if bytes_eq word (codes "unread") then Some A.Unread
    else if bytes_eq word (codes "badaddress") then Some A.BadAddress
    else if bytes_eq word (codes "own") then Some A.Own
    else if bytes_eq word (codes "cached") then Some A.Cached
    else if bytes_eq word (codes "notmine") then Some A.NotMine
    else if bytes_eq word (codes "malformed") then Some A.Malformed
    else if bytes_eq word (codes "again") then Some A.Again
    else if bytes_eq word (codes "conflict") then Some A.Conflict
    else if bytes_eq word (codes "nokey") then Some A.NoKey
    else if bytes_eq word (codes "planned") then Some A.Planned
    else if bytes_eq word (codes "begun") then Some A.Begun
    else if bytes_eq word (codes "befriended") then Some A.Befriended
    else if bytes_eq word (codes "kept") then Some A.Kept
    else if bytes_eq word (codes "dropped") then Some A.Dropped
    else if bytes_eq word (codes "reset") then Some A.Reset
    else option_map A.LowPower (low_power_answer word)

-- eight names
unfoldable pub no_room : List (List ℕ) → Option Answer
no_room ws =
    name_at ws 6 >>= λ a.
    name_at ws 9 >>= λ b.
    name_at ws 12 >>= λ c.
    name_at ws 15 >>= λ d.
    name_at ws 18 >>= λ e.
    name_at ws 21 >>= λ f.
    name_at ws 24 >>= λ g.
    name_at ws 27 >>= λ h.
    Some (A.NoRoom (a ∷ b ∷ c ∷ d ∷ e ∷ f ∷ g ∷ h ∷ []))

unfoldable pub delivered : List (List ℕ) → Option Answer
delivered ws =
    address_word (word_at ws 6) >>= λ src.
    address_word (word_at ws 7) >>= λ dst.
    pair_at ws 8 >>= λ pair.
    key_name_word (word_at ws 10) >>= λ key.
    octets_word 380 (word_at ws 11) >>= λ payload.
    Some (A.Delivered (record { src = src; pair = pair }) dst key payload)

-- parameters, or a dash for none
unfoldable pub params_word : List ℕ → Option (List ℕ)
params_word word = if bytes_eq word (codes "-") then Some [] else octets_word 256 word

unfoldable pub control : List (List ℕ) → Option Answer
control ws =
    address_word (word_at ws 6) >>= λ src.
    address_word (word_at ws 7) >>= λ dst.
    pair_at ws 8 >>= λ pair.
    number_word 2 (word_at ws 10) >>= λ opcode.
    params_word (word_at ws 11) >>= λ params.
    Some (A.Control (record { src = src; pair = pair }) dst opcode params)

unfoldable pub key_step_word : List ℕ → Option KeyStep
key_step_word word =
    if bytes_eq word (codes "same") then Some S.Same
    else if bytes_eq word (codes "phase2") then Some S.Phase2
    else if bytes_eq word (codes "phase0") then Some S.Phase0
    else None

-- a step of the IV state, and the number of a rule behind `ignore`
unfoldable pub iv_step_at : List (List ℕ) → ℕ → Option IvStep
iv_step_at ws i =
    if bytes_eq (word_at ws i) (codes "ignore") then option_map I.Ignore (below_word (2 ^ 8) (word_at ws (i + 1)))
    else if bytes_eq (word_at ws i) (codes "begin") then Some (I.Begin untold)
    else if bytes_eq (word_at ws i) (codes "finish") then Some (I.Finish untold)
    else if bytes_eq (word_at ws i) (codes "recover") then Some (I.Recover untold)
    else if bytes_eq (word_at ws i) (codes "wait") then Some I.Wait
    else None

unfoldable pub beacon : List (List ℕ) → Option Answer
beacon ws =
    number_word 3 (word_at ws 6) >>= λ index.
    key_step_word (word_at ws 7) >>= λ key.
    iv_step_at ws 8 >>= λ iv.
    Some (A.Beacon index key iv)

-- an answer with fields of its own
unfoldable pub told_answer : List (List ℕ) → Option Answer
told_answer ws =
    if bytes_eq (word_at ws 5) (codes "replay") then option_map A.Replay (pair_at ws 6)
    else if bytes_eq (word_at ws 5) (codes "noroom") then no_room ws
    else if bytes_eq (word_at ws 5) (codes "waiting") then option_map A.Waiting (below_word (2 ^ 8) (word_at ws 6))
    else if bytes_eq (word_at ws 5) (codes "listfull") then option_map A.ListFull (below_word (2 ^ 32) (word_at ws 6))
    else if bytes_eq (word_at ws 5) (codes "delivered") then delivered ws
    else if bytes_eq (word_at ws 5) (codes "control") then control ws
    else if bytes_eq (word_at ws 5) (codes "beacon") then beacon ws
    else if bytes_eq (word_at ws 5) (codes "noappkey") then option_map A.NoAppKey (number_word 3 (word_at ws 6))
    else if bytes_eq (word_at ws 5) (codes "ticked") then option_map A.Ticked (decimal_from 0 (word_at ws 6))
    else if bytes_eq (word_at ws 5) (codes "moved") then option_map A.Moved (number_word 8 (word_at ws 6))
    else if bytes_eq (word_at ws 5) (codes "sendfull") then option_map A.SendFull (below_word (2 ^ 32) (word_at ws 6))
    else if bytes_eq (word_at ws 5) (codes "toomany")
    then option_map (λ held. A.LowPower (P.TooMany held)) (below_word (2 ^ 32) (word_at ws 6))
    else None

abbrev pub plain_or : List (List ℕ) → Option Answer → Option Answer
plain_or ws None = told_answer ws
plain_or ws (Some a) = Some a

unfoldable pub answer_of : List (List ℕ) → Option Answer
answer_of ws = plain_or ws (plain_answer (word_at ws 5))

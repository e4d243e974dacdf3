-- What the fields of a job's line say became of it. The word of the result is field 4, behind `s`, the bearer, the entry and the job.
use Rattle.std.specs.Prelude.{ℕ, ◌^◌, if◌then◌else◌, List, codes, Option, Some, None}
use Rattle.std.specs.Option.{option_map}
use Rattle.std.specs.Result.{result_ok}
use Rattle.std.specs.Str.{bytes_eq}
use Rattle.hex.specs.Hex.{decode_sized}
use Rattle.mesh_types.specs.declared.lines.Outcome.{Outcome}
use Rattle.mesh_types.specs.declared.lines.Outcome.TheVariants as O
use Rattle.script_definitions.specs.Digits.{◌>>=◌, number_word}
use Rattle.script_definitions.specs.Forms.{bit_word}
use Rattle.script_definitions.specs.Words.{word_at}
use Rattle.report_reader.specs.Forms.{below_word, pair_at, name_at, route_at, key_name_word, octets_word}

unfoldable pub ctl : List (List ℕ) → Option Outcome
ctl ws =
    pair_at ws 5 >>= λ pair.
    route_at ws 7 >>= λ route.
    octets_word 16 (word_at ws 10) >>= λ tpdu.
    octets_word 29 (word_at ws 11) >>= λ pdu.
    Some (O.Ctl pair route.0 route.1 route.2 tpdu pdu)

unfoldable pub msg : List (List ℕ) → Option Outcome
msg ws =
    pair_at ws 5 >>= λ pair.
    route_at ws 7 >>= λ route.
    key_name_word (word_at ws 10) >>= λ key.
    octets_word 11 (word_at ws 11) >>= λ payload.
    octets_word 29 (word_at ws 12) >>= λ pdu.
    Some (O.Msg pair route.0 route.1 route.2 key payload pdu)

unfoldable pub long : List (List ℕ) → Option Outcome
long ws =
    pair_at ws 5 >>= λ pair.
    route_at ws 7 >>= λ route.
    key_name_word (word_at ws 10) >>= λ key.
    octets_word 380 (word_at ws 11) >>= λ payload.
    Some (O.Long pair route.0 route.1 route.2 key payload)

unfoldable pub seg : List (List ℕ) → Option Outcome
seg ws =
    pair_at ws 5 >>= λ pair.
    route_at ws 7 >>= λ route.
    below_word (2 ^ 8) (word_at ws 10) >>= λ seg_o.
    below_word (2 ^ 8) (word_at ws 11) >>= λ seg_n.
    number_word 6 (word_at ws 12) >>= λ auth.
    octets_word 29 (word_at ws 13) >>= λ pdu.
    Some (O.Seg pair route.0 route.1 route.2 seg_o seg_n auth pdu)

unfoldable pub relay : List (List ℕ) → Option Outcome
relay ws =
    pair_at ws 5 >>= λ pair.
    bit_word (word_at ws 7) >>= λ ctl.
    route_at ws 8 >>= λ route.
    octets_word 16 (word_at ws 11) >>= λ tpdu.
    octets_word 29 (word_at ws 12) >>= λ pdu.
    Some (O.Relay pair ctl route.0 route.1 route.2 tpdu pdu)

unfoldable pub rep : List (List ℕ) → Option Outcome
rep ws =
    name_at ws 5 >>= λ name.
    octets_word 29 (word_at ws 8) >>= λ pdu.
    Some (O.Rep name pdu)

-- a beacon of 22 octets
unfoldable pub beacon_word : List ℕ → Option (List ℕ)
beacon_word word = result_ok (decode_sized word 22)

unfoldable pub outcome_of : List (List ℕ) → Option Outcome
outcome_of ws =
    if bytes_eq (word_at ws 4) (codes "ctl") then ctl ws
    else if bytes_eq (word_at ws 4) (codes "msg") then msg ws
    else if bytes_eq (word_at ws 4) (codes "long") then long ws
    else if bytes_eq (word_at ws 4) (codes "seg") then seg ws
    else if bytes_eq (word_at ws 4) (codes "relay") then relay ws
    else if bytes_eq (word_at ws 4) (codes "rep") then rep ws
    else if bytes_eq (word_at ws 4) (codes "bcn") then option_map O.Bcn (beacon_word (word_at ws 5))
    else if bytes_eq (word_at ws 4) (codes "spent") then option_map O.Spent (number_word 8 (word_at ws 5))
    else if bytes_eq (word_at ws 4) (codes "late") then option_map O.Late (pair_at ws 5)
    else None

-- The fields of a result's words, and the outcome that they give back.
use Rattle.std.proofs.Common.{◌≡◌, ℕ, ◌^◌, Bool, true, false, List, [], ◌∷◌, ◌++◌, Some, refl, arith, codes}
use Rattle.std.specs.Fmt.{decimal}
use Rattle.hex.specs.Hex.{encode_lower}
use Rattle.mesh_base.specs.declared.address.Address.{Address}
use Rattle.mesh_types.specs.declared.lines.Outcome.{Outcome}
use Rattle.mesh_types.specs.declared.lines.Outcome.TheVariants as O
use Rattle.report_definitions.specs.Report.{outcome_text, control_bit_text}
use Rattle.report_definitions.specs.Text.{hex_digits, route_text}
use Rattle.script_definitions.specs.Forms.{bit_word}
use Rattle.report_reader.specs.Forms.{pair_at, name_at, route_at}
use Rattle.report_reader.specs.Outcomes.{ctl, msg, long, seg, relay, rep, outcome_of}
use Rattle.report_reader.specs.ReportLine.{IsToldOutcome}
use Rattle.report_reader.proofs.AnswersBack.{pair_fields, name_fields, adds_digits, adds_decimal, adds_octets, adds_pair, adds_key}
use Rattle.report_reader.proofs.Back.{number_back, address_back, octets_back, beacon_back, key_field, key_back}
use Rattle.report_reader.proofs.Decimals.{below_back}
use Rattle.report_reader.proofs.Parts.{Adds, ◌⊕◌, adds_field}

abbrev pub route_fields : ℕ → Address → Address → List (List ℕ)
route_fields ttl src dst = hex_digits 2 ttl ∷ hex_digits 4 src.0 ∷ hex_digits 4 dst.0 ∷ []

pub adds_route : (ttl : ℕ) (src dst : Address) → Adds (route_text ttl src dst) (route_fields ttl src dst)
adds_route ttl src dst = adds_digits 2 ttl ⊕ adds_digits 4 src.0 ⊕ adds_digits 4 dst.0

abbrev pub bit_field : Bool → List ℕ
bit_field true = codes "1"
bit_field false = codes "0"

pub adds_bit : (b : Bool) → Adds (control_bit_text b) (bit_field b ∷ [])
adds_bit true = adds_field 32 (codes "1") refl refl
adds_bit false = adds_field 32 (codes "0") refl refl

bit_back : (b : Bool) → bit_word (bit_field b) ≡ Some b
unfolding bit_word
bit_back true = refl
bit_back false = refl

abbrev pub outcome_fields : Outcome → List (List ℕ)
outcome_fields (O.Ctl pair ttl src dst tpdu pdu) = codes "ctl" ∷ pair_fields pair ++ route_fields ttl src dst ++ encode_lower tpdu ∷ encode_lower pdu ∷ []
outcome_fields (O.Msg pair ttl src dst key payload pdu) =
    codes "msg" ∷ pair_fields pair ++ route_fields ttl src dst ++ key_field key ∷ encode_lower payload ∷ encode_lower pdu ∷ []
outcome_fields (O.Long pair ttl src dst key payload) = codes "long" ∷ pair_fields pair ++ route_fields ttl src dst ++ key_field key ∷ encode_lower payload ∷ []
outcome_fields (O.Seg pair ttl src dst seg_o seg_n auth pdu) =
    codes "seg" ∷ pair_fields pair ++ route_fields ttl src dst ++ decimal seg_o ∷ decimal seg_n ∷ hex_digits 6 auth ∷ encode_lower pdu ∷ []
outcome_fields (O.Relay pair ctl ttl src dst tpdu pdu) =
    codes "relay" ∷ pair_fields pair ++ bit_field ctl ∷ route_fields ttl src dst ++ encode_lower tpdu ∷ encode_lower pdu ∷ []
outcome_fields (O.Rep name pdu) = codes "rep" ∷ name_fields name ++ encode_lower pdu ∷ []
outcome_fields (O.Bcn octets) = codes "bcn" ∷ encode_lower octets ∷ []
outcome_fields (O.Spent iv) = codes "spent" ∷ hex_digits 8 iv ∷ []
outcome_fields (O.Late pair) = codes "late" ∷ pair_fields pair

pub adds_outcome : (o : Outcome) → Adds (outcome_text true o) (outcome_fields o)
unfolding outcome_text
adds_outcome (O.Ctl pair ttl src dst tpdu pdu) = adds_field 32 (codes "ctl") refl refl ⊕ adds_pair pair ⊕ adds_route ttl src dst ⊕ adds_octets tpdu ⊕ adds_octets pdu
adds_outcome (O.Msg pair ttl src dst key payload pdu) =
    adds_field 32 (codes "msg") refl refl ⊕ adds_pair pair ⊕ adds_route ttl src dst ⊕ adds_key key ⊕ adds_octets payload ⊕ adds_octets pdu
adds_outcome (O.Long pair ttl src dst key payload) = adds_field 32 (codes "long") refl refl ⊕ adds_pair pair ⊕ adds_route ttl src dst ⊕ adds_key key ⊕ adds_octets payload
adds_outcome (O.Seg pair ttl src dst seg_o seg_n auth pdu) =
    adds_field 32 (codes "seg") refl refl ⊕ adds_pair pair ⊕ adds_route ttl src dst ⊕ adds_decimal seg_o ⊕ adds_decimal seg_n ⊕ adds_digits 6 auth ⊕ adds_octets pdu
adds_outcome (O.Relay pair ctl ttl src dst tpdu pdu) =
    adds_field 32 (codes "relay") refl refl ⊕ adds_pair pair ⊕ adds_bit ctl ⊕ adds_route ttl src dst ⊕ adds_octets tpdu ⊕ adds_octets pdu
adds_outcome (O.Rep name pdu) = adds_field 32 (codes "rep") refl refl ⊕ adds_digits 4 name.src.0 ⊕ adds_pair name.pair ⊕ adds_octets pdu
adds_outcome (O.Bcn octets) = adds_field 32 (codes "bcn") refl refl ⊕ adds_octets octets
adds_outcome (O.Spent iv) = adds_field 32 (codes "spent") refl refl ⊕ adds_digits 8 iv
adds_outcome (O.Late pair) = adds_field 32 (codes "late") refl refl ⊕ adds_pair pair

pub outcome_back : (a b c d : List ℕ) (o : Outcome) (rest : List (List ℕ)) → IsToldOutcome o
    → outcome_of (a ∷ b ∷ c ∷ d ∷ outcome_fields o ++ rest) ≡ Some o
unfolding outcome_of ctl msg long seg relay rep pair_at name_at route_at
outcome_back a b c d (O.Ctl pair ttl src dst tpdu pdu) rest h =
    rw (
      number_back 8 pair.iv h.0.0,
      number_back 6 pair.seq h.0.1,
      number_back 2 ttl h.1.0,
      address_back src h.1.1,
      address_back dst h.1.2,
      octets_back 16 tpdu h.2,
      octets_back 29 pdu h.3,
    )
    refl
outcome_back a b c d (O.Msg pair ttl src dst key payload pdu) rest h =
    rw (
      number_back 8 pair.iv h.0.0,
      number_back 6 pair.seq h.0.1,
      number_back 2 ttl h.1.0,
      address_back src h.1.1,
      address_back dst h.1.2,
      key_back key h.2,
      octets_back 11 payload h.3,
      octets_back 29 pdu h.4,
    )
    refl
outcome_back a b c d (O.Long pair ttl src dst key payload) rest h =
    rw (
      number_back 8 pair.iv h.0.0,
      number_back 6 pair.seq h.0.1,
      number_back 2 ttl h.1.0,
      address_back src h.1.1,
      address_back dst h.1.2,
      key_back key h.2,
      octets_back 380 payload h.3,
    )
    refl
outcome_back a b c d (O.Seg pair ttl src dst seg_o seg_n auth pdu) rest h =
    rw (
      number_back 8 pair.iv h.0.0,
      number_back 6 pair.seq h.0.1,
      number_back 2 ttl h.1.0,
      address_back src h.1.1,
      address_back dst h.1.2,
      below_back (2 ^ 8) seg_o h.2 (let k = h.2 in omega arith),
      below_back (2 ^ 8) seg_n h.3 (let k = h.3 in omega arith),
      number_back 6 auth h.4,
      octets_back 29 pdu h.5,
    )
    refl
outcome_back a b c d (O.Relay pair ctl ttl src dst tpdu pdu) rest h =
    rw (
      number_back 8 pair.iv h.0.0,
      number_back 6 pair.seq h.0.1,
      bit_back ctl,
      number_back 2 ttl h.1.0,
      address_back src h.1.1,
      address_back dst h.1.2,
      octets_back 16 tpdu h.2,
      octets_back 29 pdu h.3,
    )
    refl
outcome_back a b c d (O.Rep name pdu) rest h =
    rw (address_back name.src h.0.0, number_back 8 name.pair.iv h.0.1.0, number_back 6 name.pair.seq h.0.1.1, octets_back 29 pdu h.1) refl
outcome_back a b c d (O.Bcn octets) rest h = rw (beacon_back octets h.0 h.1) refl
outcome_back a b c d (O.Spent iv) rest h = rw (number_back 8 iv h) refl
outcome_back a b c d (O.Late pair) rest h = rw (number_back 8 pair.iv h.0, number_back 6 pair.seq h.1) refl

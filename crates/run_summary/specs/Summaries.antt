-- The summary of a run: what is counted of its lives, and the text of the numbers.
use Rattle.std.specs.Prelude.{ℕ, ◌%◌, ◌^◌, Bool, true, false, List, ◌++◌, length, codes, count_by, sum_by}
use Rattle.std.specs.Fmt.{decimal}
use Rattle.mesh_types.specs.declared.answers.Answer.{Answer}
use Rattle.mesh_types.specs.declared.answers.Answer.TheVariants as A
use Rattle.mesh_types.specs.declared.lines.Outcome.{Outcome}
use Rattle.mesh_types.specs.declared.lines.Outcome.TheVariants as O
use Rattle.report_definitions.specs.Record.{Life, LifeOver}
use Rattle.run_summary.specs.declared.summary.Summary.{Summary}

-- The answers and lines that are counted.

unfoldable pub is_planned : Answer → Bool
is_planned A.Planned = true
is_planned _ = false

unfoldable pub is_control : Answer → Bool
is_control (A.Control name dst opcode params) = true
is_control _ = false

unfoldable pub is_not_mine : Answer → Bool
is_not_mine A.NotMine = true
is_not_mine _ = false

unfoldable pub is_ctl : Outcome → Bool
is_ctl (O.Ctl pair ttl src dst tpdu pdu) = true
is_ctl _ = false

unfoldable pub is_relay : Outcome → Bool
is_relay (O.Relay pair ctl ttl src dst tpdu pdu) = true
is_relay _ = false

-- the octets of the network PDU of a `relay` line
unfoldable pub relayed : Outcome → ℕ
relayed (O.Relay pair ctl ttl src dst tpdu pdu) = length pdu
relayed _ = 0

-- The numbers of a life.

-- its entries with such an answer
abbrev pub entries_with : (Answer → Bool) → Life → ℕ
entries_with is life = count_by (λ e. is e.answer) life.entries

-- its jobs with such a line
abbrev pub jobs_with : (Outcome → Bool) → Life → ℕ
jobs_with is life = sum_by (λ sends. count_by (λ s. is s.outcome) sends) life.sends

abbrev pub octets_of : Life → ℕ
octets_of life = sum_by (λ sends. sum_by (λ s. relayed s.outcome) sends) life.sends

-- Those of a run: all lives, all entries, the entries and jobs of some kinds, and the octets modulo 2^32.
abbrev pub summary_of : List LifeOver → Summary
summary_of lives = record {
  lives = length lives;
  events = sum_by (λ x. length x.life.entries) lives;
  planned = sum_by (λ x. entries_with is_planned x.life) lives;
  control = sum_by (λ x. entries_with is_control x.life) lives;
  not_mine = sum_by (λ x. entries_with is_not_mine x.life) lives;
  ctl = sum_by (λ x. jobs_with is_ctl x.life) lives;
  relay = sum_by (λ x. jobs_with is_relay x.life) lives;
  octets = sum_by (λ x. octets_of x.life) lives % 2 ^ 32;
}

-- The text: a line for each number, with a word before it.

abbrev pub number_line : List ℕ → ℕ → List ℕ
number_line word n = word ++ decimal n ++ codes "\n"

abbrev pub summary_text : Summary → List ℕ
summary_text s =
    number_line (codes "lives ") s.lives ++ number_line (codes "events ") s.events
    ++ number_line (codes "planned ") s.planned ++ number_line (codes "control ") s.control
    ++ number_line (codes "notmine ") s.not_mine ++ number_line (codes "ctl ") s.ctl
    ++ number_line (codes "relay ") s.relay ++ number_line (codes "octets ") s.octets

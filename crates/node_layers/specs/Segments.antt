-- The answer to a segment is what the state of reassembly says of it.
use Rattle.std.specs.Prelude.{◌≡◌, ℕ, List, Option, Some, None}
use Rattle.layer_states.specs.Reassembly.{taken}
use Rattle.layer_states.specs.declared.reassembly.Taken.{Taken}
use Rattle.layer_states.specs.declared.reassembly.Taken.TheVariants as T
use Rattle.mesh_base.specs.declared.lower.Lower.{Lower}
use Rattle.mesh_base.specs.declared.pair.Name.{Name}
use Rattle.mesh_types.specs.declared.answers.Answer.{Answer}
use Rattle.mesh_types.specs.declared.answers.Answer.TheVariants as A
use Rattle.node_layers.specs.Reassembly.{held, part_heard}
use Rattle.event_definitions.specs.Answers.{config_before, segment_answer}
use Rattle.event_definitions.specs.History.{Past, Reading, now_of}
use Rattle.event_definitions.specs.Layers.{Layers}

-- what becomes of a segment of this name
abbrev pub segment_taken : Past → Reading → Name → Lower → Taken
segment_taken past r n low = taken (held past) (now_of past.told) (part_heard (config_before past) r n low)

-- the answer to it, and none where its message is whole
abbrev pub taken_answer : Taken → Option Answer
taken_answer (T.Waiting missing) = Some (A.Waiting missing)
taken_answer (T.Whole octets) = None
taken_answer T.Conflict = Some A.Conflict
taken_answer (T.NoRoom names) = Some (A.NoRoom names)

abbrev pub AnswersSegments : Layers → Type 0
AnswersSegments layers =
    (past : Past) (r : Reading) (n : Name) (low : Lower)
    → segment_answer layers past r low n ≡ taken_answer (segment_taken past r n low)

-- a whole message has the octets of its pieces
abbrev pub HasWhole : Layers → Type 0
HasWhole layers =
    (past : Past) (r : Reading) (n : Name) (low : Lower) (octets : List ℕ) → segment_taken past r n low ≡ T.Whole octets
    → layers.whole past n low ≡ octets

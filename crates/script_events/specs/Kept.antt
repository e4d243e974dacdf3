-- What an outside node keeps: network credentials, a key of messages and a label, each the last that it derived something from.
use Rattle.std.specs.Prelude.{ℕ, List, Option, Some, None}
use Rattle.script_definitions.specs.declared.line.ScriptNet.{ScriptNet}
use Rattle.script_definitions.specs.declared.line.TalkDst.{TalkDst}
use Rattle.script_definitions.specs.declared.line.TalkDst.TheVariants as D
use Rattle.script_definitions.specs.declared.line.TalkKey.{TalkKey}
use Rattle.script_definitions.specs.declared.line.ScriptLine.{ScriptLine}
use Rattle.script_definitions.specs.declared.line.ScriptLine.TheVariants as L
use Rattle.script_definitions.specs.declared.line.TalkLine.{TalkLine}

pub record Kept : Type 0 where
  pub credentials : Option ScriptNet
  pub key : Option TalkKey
  pub label : Option (List ℕ)

abbrev pub nothing : Kept
nothing = record { credentials = None; key = None; label = None }

-- behind a destination
abbrev pub label_behind : Option (List ℕ) → TalkDst → Option (List ℕ)
label_behind kept (D.Address address) = kept
label_behind kept (D.Label label) = Some label

-- behind a line `talk`
abbrev pub behind_talk : Kept → TalkLine → Kept
behind_talk kept talk =
    record { credentials = Some talk.net; key = Some talk.key; label = label_behind kept.label talk.pdu.dst }

-- behind any line: only `peer` and `talk` are sealed by what is kept
abbrev pub behind : Kept → ScriptLine → Kept
behind kept (L.Peer bearer peer) = record kept { credentials = Some peer.net }
behind kept (L.Talk bearer talk) = behind_talk kept talk
behind kept _ = kept

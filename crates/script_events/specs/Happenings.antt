-- What is asked of a line, and how a happening reads as the definition's.
use Rattle.std.specs.Prelude.{ℕ}
use Rattle.script_definitions.specs.Events.{Happening}
use Rattle.script_definitions.specs.Ranges.{IsLine}
use Rattle.script_definitions.specs.declared.kind.Grammar.{Grammar}
use Rattle.script_definitions.specs.declared.line.ScriptLine.{ScriptLine}
use Rattle.script_events.specs.declared.events.Happening as Answered

-- A line as readers give it: one of a grammar, in the script of a node with some number of elements.
abbrev pub IsRead : ScriptLine → Type 0
IsRead line = (g : Grammar) × (elements : ℕ) × IsLine g elements line

-- the bearer and the event of an answer
abbrev pub said : Answered.Happening → Happening
said h = record { bearer = h.bearer; event = h.event }

-- Why a text was not read.
use Rattle.std.specs.Prelude.{◌≡◌}
use Rattle.script_definitions.specs.Reading.{Reading}
use Rattle.script_definitions.specs.Reading.Reading.{Fails}
use Rattle.script_reader.specs.declared.reading.ScriptStop.{ScriptStop}
use Rattle.script_reader.specs.declared.reading.ScriptStop.TheVariants as S

-- a fault is the text's first failing line with the rule that fails there first; memory may run out at any time
abbrev pub IsFault : Reading → ScriptStop → Type 0
IsFault r (S.Fault line rule) = r ≡ Fails line rule
IsFault r S.Memory = Unit {0}

-- The lines of a life, held or made.
use Rattle.std.specs.Prelude.{List}
use Rattle.script_definitions.specs.declared.line.ScriptLine.{ScriptLine}
use Rattle.life_sources.specs.declared.sources.LifeLines.{LifeLines}
use Rattle.life_sources.specs.declared.sources.LifeLines.TheVariants as L

abbrev pub lines_of : LifeLines → List ScriptLine
lines_of (L.Held life) = life.now
lines_of (L.Made life) = life

-- How a source of lines gives a phase, ends, and fails, each behind moves.
use Rattle.std.specs.Prelude.{◌≡◌, ℕ, ◌^◌, ◌-◌, Bool, true, List, [], ◌∷◌, ◌++◌, length, Option, Some, None, ◌⊎◌}
use Rattle.std.specs.Io.KnownBytes.{Consumes, IsAtEnd}
use Rattle.mesh_base.specs.Outside.{Rose, one_more}
use Rattle.mesh_types.specs.declared.events.Event.{Event}
use Rattle.report_writer.specs.Handing.{HandedFront, IsHanded}
use Rattle.report_writer.specs.Writing.{SinkView}
use Rattle.script_definitions.specs.Words.{without_cr}
use Rattle.script_definitions.specs.declared.line.ScriptLine.{ScriptLine}
use Rattle.live_lines.specs.Clock.{IsTimeLine, told_more}
use Rattle.live_lines.specs.Moves.{DoesAll, HasNoLf, LinesAt, Move, TakesLine}
use Rattle.live_lines.specs.Saying.{IsSaid, line_says, phase_of}
use Rattle.live_lines.specs.Texts.{unended_text, wrong_text}
use Rattle.live_lines.specs.declared.clock.Awaited.{Awaited}
use Rattle.live_lines.specs.declared.clock.Awaited.TheVariants as A
use Rattle.live_lines.specs.declared.lines.LineStop.{LineStop}
use Rattle.live_lines.specs.declared.lines.LineStop.TheVariants as L
use Rattle.live_lines.specs.declared.saying.Saying.TheVariants as S

-- what is told of the octets behind the last LF, where there are any: they are a line that isn't ended
abbrev pub IsRestTold : ℕ → List ℕ → SinkView → SinkView → Type 0
IsRestTold number [] old new = new ≡ old
IsRestTold number (b ∷ rest) old new = IsHanded (unended_text (one_more number)) old new

abbrev pub with_rest : ℕ → List ℕ → ℕ
with_rest number [] = number
with_rest number (b ∷ rest) = one_more number

-- the source is at its end, and no whole line is held
pub record EndsAt (old new : LinesAt) : Type 0 where
  pub rest : HasNoLf old.held
  pub read : Consumes old.left new.left []
  pub at_end : IsAtEnd new.left
  pub told : IsRestTold old.number old.held old.told new.told
  pub same : new ≡ record old { left = new.left; held = []; number = with_rest old.number old.held; told = new.told }

-- For want of memory time that the source told is lost, of which nothing is told.
pub record LosesTime (old new : LinesAt) : Type 0 where
  pub line : ScriptLine
  pub passed : IsTimeLine line old.time new.time
  pub same : new ≡ record old { held = new.held; time = new.time }

-- the source told time, and this line says how much
pub record TellsTime (line : ScriptLine) (old new : LinesAt) : Type 0 where
  pub passed : IsTimeLine line old.time new.time
  pub same : new ≡ record old { time = new.time }

-- the source was waited for: nothing was read, and what it told is counted
abbrev pub HasWaited : Awaited → LinesAt → LinesAt → Type 0
HasWaited A.Input old new = new ≡ old
HasWaited (A.Passed ticks) old new = new ≡ record old { time = told_more old.time ticks }

-- the source failed when it was waited for
pub record FailsToWait (old new : LinesAt) : Type 0 where
  pub cause : Rose old.source_faults new.source_faults
  pub same : new ≡ record old { held = new.held; source_faults = new.source_faults }

module _ (bearers elements : ℕ) where
  -- the first line that is held says an event, of which nothing is told
  pub record SaysEvent (line : ScriptLine) (old new : LinesAt) : Type 0 where
    pub raw : List ℕ
    pub takes : TakesLine raw old new
    pub says : line_says bearers elements (without_cr raw) ≡ S.Happens line
    pub untold : new.told ≡ old.told

  -- the text that is due of the first line that is held, if it's wrong, or of the rest
  pub record IsWrongFirst (old : LinesAt) (text : List ℕ) : Type 0 where
    pub raw : List ℕ
    pub rest : List ℕ
    pub rule : ℕ
    pub whole : HasNoLf raw
    pub cut : old.held ≡ raw ++ 10 ∷ rest
    pub says : line_says bearers elements (without_cr raw) ≡ S.Wrong rule
    pub is : text ≡ wrong_text (one_more old.number) rule (without_cr raw)

  abbrev pub IsRestAtEnd : LinesAt → LinesAt → List ℕ → Type 0
  IsRestAtEnd old new text = HasNoLf old.held × IsAtEnd new.left × (text ≡ unended_text (one_more old.number))

  -- the sink failed when it was told of a line
  pub record FailsToTell (old new : LinesAt) : Type 0 where
    pub text : List ℕ
    pub due : IsWrongFirst old text ⊎ IsRestAtEnd old new text
    pub front : HandedFront text old.told new.told
    pub cause : Rose old.sink_faults new.sink_faults
    pub read : Consumes old.left new.left []
    pub same : new
        ≡ record old { left = new.left; held = new.held; number = one_more old.number; told = new.told; sink_faults = new.sink_faults }

  -- the source failed when it was asked for more
  pub record FailsToRead (old new : LinesAt) : Type 0 where
    pub wanted : HasNoLf old.held
    pub cause : Rose old.source_faults new.source_faults
    pub same : new ≡ record old { held = new.held; source_faults = new.source_faults }

  -- For want of memory a line is lost, of which nothing is told.
  pub record LacksMemory (old new : LinesAt) : Type 0 where
    pub read : Consumes old.left new.left []
    pub same : new ≡ record old { left = new.left; held = new.held; number = one_more old.number }

  -- Why it failed, behind so many moves. What is held then isn't told. That it was asked for another node is no failure of a call that is
  -- told no node.
  abbrev pub FailsBy : LineStop → ℕ → LinesAt → LinesAt → Type 0
  FailsBy L.Source n old new = FailsToRead old new
  FailsBy L.Errors n old new = FailsToTell old new
  FailsBy L.Memory n old new = LacksMemory old new
  FailsBy L.Endless n old new = (n ≡ 2 ^ 64 - 1) × (new ≡ record old { held = new.held })
  FailsBy L.OtherNode n old new = ⊥

  -- by moves to a line that says this event
  pub record GivesLine (line : ScriptLine) (old new : LinesAt) : Type 0 where
    pub moves : List Move
    pub mid : LinesAt
    pub before : DoesAll bearers elements moves old mid
    pub says : SaysEvent line mid new

  -- by moves, behind which the source told time: this line says how much
  pub record GivesTime (line : ScriptLine) (old new : LinesAt) : Type 0 where
    pub moves : List Move
    pub mid : LinesAt
    pub before : DoesAll bearers elements moves old mid
    pub tells : TellsTime line mid new

  pub record Ends (old new : LinesAt) : Type 0 where
    pub moves : List Move
    pub mid : LinesAt
    pub before : DoesAll bearers elements moves old mid
    pub ends : EndsAt mid new

  module _ (clocked : Bool) where
    -- a line that was read, or time that passed, which is told by a source alone that tells time
    abbrev pub Comes : ScriptLine → LinesAt → LinesAt → Type 0
    Comes line old new = GivesLine line old new ⊎ ((clocked ≡ true) × GivesTime line old new)

    -- by what came, of a range that a node may have
    pub record GivesPhase (lists : List (List Event)) (old new : LinesAt) : Type 0 where
      pub line : ScriptLine
      pub gives : Comes line old new
      pub said : IsSaid elements (S.Happens line)
      pub phase : lists ≡ phase_of bearers line

    -- why it failed, behind so many moves, where it was waited for too
    abbrev pub FailsAt : LineStop → ℕ → LinesAt → LinesAt → Type 0
    FailsAt L.Source n old new = FailsToRead old new ⊎ ((clocked ≡ true) × FailsToWait old new)
    FailsAt L.Memory n old new = LacksMemory old new ⊎ ((clocked ≡ true) × LosesTime old new)
    FailsAt why n old new = FailsBy why n old new

    pub record Fails (why : LineStop) (old new : LinesAt) : Type 0 where
      pub moves : List Move
      pub mid : LinesAt
      pub before : DoesAll bearers elements moves old mid
      pub fails : FailsAt why (length moves) mid new

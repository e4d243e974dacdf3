-- What a source of lines goes through within one call. It has two moves: to read on, which it does only where no whole line is held, and to
-- pass over the first line that is held, which it does where that line says no event.
use Rattle.std.specs.Prelude.{◌≡◌, ℕ, ◌<◌, List, [], ◌∷◌, ◌++◌, length, All, Option}
use Rattle.std.specs.Io.KnownBytes.{Consumes}
use Rattle.mesh_base.specs.Outside.{one_more}
use Rattle.report_writer.specs.Handing.{IsHanded}
use Rattle.report_writer.specs.Writing.{SinkView}
use Rattle.script_definitions.specs.Words.{without_cr}
use Rattle.live_lines.specs.Saying.{line_says}
use Rattle.live_lines.specs.Texts.{wrong_text}
use Rattle.live_lines.specs.declared.saying.Saying.{Saying}
use Rattle.live_lines.specs.declared.saying.Saying.TheVariants as S

-- Where it is: the octets that its source still gives, where they are told; those that were read and aren't used yet; how many lines there
-- were; what the sink of wrong lines tells; how many calls of the source and of that sink failed; and how many ticks the source told.
pub record LinesAt : Type 0 where
  pub left : Option (List ℕ)
  pub held : List ℕ
  pub number : ℕ
  pub told : SinkView
  pub source_faults : ℕ
  pub sink_faults : ℕ
  pub time : ℕ

-- octets in which no line ends
abbrev pub HasNoLf : List ℕ → Type 0
HasNoLf octets = All (λ b. b ≡ 10 → ⊥) octets

pub data Move : Type 0 where
  -- so many octets were read, at least one
  reads : List ℕ → Move
  -- the line of these octets, without its LF, was passed over
  passes : List ℕ → Move

-- octets come behind those that are held, in which no line ends
pub record ReadsOn (octets : List ℕ) (old new : LinesAt) : Type 0 where
  pub some : 0 < length octets
  pub wanted : HasNoLf old.held
  pub read : Consumes old.left new.left octets
  pub same : new ≡ record old { left = new.left; held = old.held ++ octets }

-- the first line that is held is taken, with its LF
pub record TakesLine (raw : List ℕ) (old new : LinesAt) : Type 0 where
  pub whole : HasNoLf raw
  pub cut : old.held ≡ raw ++ 10 ∷ new.held
  pub same : new ≡ record old { held = new.held; number = one_more old.number; told = new.told }

-- what is told of a line with this number that says no event: nothing, or that it's wrong
abbrev pub IsTold : ℕ → List ℕ → Saying → SinkView → SinkView → Type 0
IsTold number line S.Nothing old new = new ≡ old
IsTold number line (S.Wrong rule) old new = IsHanded (wrong_text number rule line) old new
IsTold number line (S.Happens event) old new = ⊥

module _ (bearers elements : ℕ) where
  pub record PassesOver (raw : List ℕ) (old new : LinesAt) : Type 0 where
    pub takes : TakesLine raw old new
    pub told : IsTold new.number (without_cr raw) (line_says bearers elements (without_cr raw)) old.told new.told

  abbrev pub Does : Move → LinesAt → LinesAt → Type 0
  Does (reads octets) old new = ReadsOn octets old new
  Does (passes raw) old new = PassesOver raw old new

  -- by these moves, in their order
  abbrev pub DoesAll : List Move → LinesAt → LinesAt → Type 0
  DoesAll [] old new = new ≡ old
  DoesAll (move ∷ moves) old new = (mid : LinesAt) × Does move old mid × DoesAll moves mid new

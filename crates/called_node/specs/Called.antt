-- A node as calls: what a contract sees of it, and what a line does.
use Rattle.std.specs.Prelude.{◌≡◌, ℕ, ◌+◌, ◌<◌, ◌≤◌, Bool, true, false, List, [], ◌∷◌, ◌++◌, length, All, IfSome, IsSomeAnd, Option, Some}
use Rattle.std.specs.List.{flat_map}
use Rattle.event_definitions.specs.Role.{Role}
use Rattle.file_flash.specs.Handed.{IsHandedOut}
use Rattle.file_flash.specs.Noted.{AreFronts, AreOnChip, Put, octets_given, written}
use Rattle.file_flash.specs.declared.noted.Write.{Write}
use Rattle.file_flash.specs.declared.noted.Write.TheVariants as W
use Rattle.flash_model.specs.Chip.{Chip}
use Rattle.live_lines.specs.Saying.{line_says, phase_of}
use Rattle.live_lines.specs.declared.saying.Saying.{Saying}
use Rattle.live_lines.specs.declared.saying.Saying.TheVariants as S
use Rattle.mesh_node.specs.Held.{HasLived, HeldView}
use Rattle.mesh_node.specs.Told.{IsPartDone, PhaseDid}
use Rattle.mesh_types.specs.declared.events.Event.{Event}
use Rattle.node_bearer.specs.Did.{AreEvents}
use Rattle.report_definitions.specs.Report.{line_text}
use Rattle.report_writer.specs.Phases.{phase_lines}
use Rattle.script_definitions.specs.declared.line.ScriptLine.{ScriptLine}
use Rattle.called_node.specs.declared.called.Called.{Called}
use Rattle.called_node.specs.declared.called.Called.TheVariants as C

-- The life, as long as there was memory for it; the writes that weren't taken, and of each whether it is an erase; and the text that wasn't.
pub record CalledView (F : Type 0) : Type 0 where
  pub life : Option (HeldView F)
  pub writes : List Put
  pub erases : List Bool
  pub report : List ℕ

abbrev pub is_erase : Write → Bool
is_erase (W.Program at octets) = false
is_erase (W.Erase sector) = true

-- the text of what a phase did, with the octets of network PDUs
abbrev pub text_of : PhaseDid → List ℕ
text_of did = flat_map line_text (phase_lines true did.first did.entries did.sends)

module _ {F : Type 0} where
  -- all of the phases before was taken
  pub record IsTaken (now : CalledView F) : Type 0 where
    pub writes : now.writes ≡ []
    pub report : now.report ≡ []

  -- a life is there, and its flash didn't fail
  abbrev pub IsUsable : CalledView F → Type 0
  IsUsable now = IsSomeAnd now.life (λ life. life.node.machine.closed ≡ false)

  -- no life is there, or its flash failed
  abbrev pub IsOver : CalledView F → Type 0
  IsOver now = IfSome now.life (λ life. life.node.machine.closed ≡ true)

  -- what a line says to the life that is there, and that takes it
  pub record IsSaid (text : List ℕ) (now : CalledView F) (says : Saying) : Type 0 where
    pub life : HeldView F
    pub is : now.life ≡ Some life
    pub usable : life.node.machine.closed ≡ false
    pub value : line_says 1 life.node.machine.elements text ≡ says
    pub taken : IsTaken now

  -- Why a line came to this. The causes shut each other out, but for want of memory.
  abbrev pub IsCause : List ℕ → CalledView F → Called → Type 0
  IsCause text now C.Happened = (line : ScriptLine) × IsSaid text now (S.Happens line)
  IsCause text now C.Nothing = IsSaid text now S.Nothing
  IsCause text now (C.Wrong rule) = IsSaid text now (S.Wrong rule)
  IsCause text now C.Waiting = IsTaken now → ⊥
  IsCause text now C.Over = IsTaken now × IsOver now
  IsCause text now C.Memory = IsTaken now × IsUsable now
  IsCause text now C.Lost = (line : ScriptLine) × IsSaid text now (S.Happens line)

  -- What a line gives to the life that is there: its phase.
  pub record IsGiven (text : List ℕ) (now : CalledView F) (lists : List (List Event)) : Type 0 where
    pub line : ScriptLine
    pub said : IsSaid text now (S.Happens line)
    pub lists_are : lists ≡ phase_of 1 line
    pub fits : All (AreEvents said.life.node.machine.elements) lists

module _ {F : Type 0} (chip : F → Chip) where
  -- no program or erase call was counted since the writes of its flash were handed out last, nor octets of one
  abbrev pub NoneCounted : HeldView F → Type 0
  NoneCounted life =
      ((chip life.node.flash).setting.called ≡ (chip life.node.flash).changes)
      × ((chip life.node.flash).setting.programmed ≡ (chip life.node.flash).octets)

module _ {F : Type 0} (role : Role) (image : List ℕ → Type 0) (chip : F → Chip) where
  -- what was given to a life and told of it, as `HeldLife` has it
  abbrev pub Lived : HeldView F → List (List (List Event)) → List PhaseDid → Type 0
  Lived = HasLived role image chip

  pub record Story (life : HeldView F) : Type 0 where
    pub phases : List (List (List Event))
    pub did : List PhaseDid
    pub lived : Lived life phases did

  -- there is one, whichever
  abbrev pub HasStory : HeldView F → Type 0
  HasStory life = ∥ Story life ∥₁

-- `waiting` is what waits of the writes that a flash noted.
module _ {F : Type 0} (role : Role) (image : List ℕ → Type 0) (chip : F → Chip) (waiting : F → Option (List Put)) where
  -- A life did one phase more, of these events. The text is that of what it did. The writes, made in their order on what is there once all writes
  -- of before were made, give what is read now, each on a chip too, where a program call clears bits alone (`on_chip`). Each front of them, with its
  -- last write torn or whole, is content that a power cut might have left of this flash since the writes of before were handed out (`fronts`).
  -- They are at most so many as program and erase calls were counted in the phase (`few`), as long as the count isn't ffffffff, and those that are no
  -- erase have at most so many octets as program calls were given in it (`lean`), with the same proviso. Some flash that
  -- reads the same could have noted them, in that order. None waits any more.
  pub record IsPhaseDone (events : List (List Event)) (old new : HeldView F) (writes : List Put) (text : List ℕ) : Type 0 where
    pub did : PhaseDid
    pub part : IsPartDone new.node.machine.closed events did
    pub lived : (phases : List (List (List Event))) (told : List PhaseDid) → Lived role image chip old phases told
        → Lived role image chip new (phases ++ events ∷ []) (told ++ did ∷ [])
    pub text_is : text ≡ text_of did
    pub writes_are : written writes (chip old.node.flash).setting.saved ≡ (chip new.node.flash).now
    pub saved : (chip new.node.flash).setting.saved ≡ (chip new.node.flash).now
    pub on_chip : AreOnChip writes (chip old.node.flash).setting.saved
    pub fronts : AreFronts writes (chip old.node.flash).setting.saved ((chip new.node.flash).since (chip old.node.flash).setting.moment)
    -- the next writes begin at this moment
    pub moment : (chip new.node.flash).setting.moment ≡ (chip new.node.flash).moment
    pub few : (chip new.node.flash).changes < 4294967295
        → (chip old.node.flash).changes + length writes ≤ (chip new.node.flash).changes
    -- so it is of their octets
    pub lean : (chip new.node.flash).octets < 4294967295
        → (chip old.node.flash).octets + octets_given writes ≤ (chip new.node.flash).octets
    pub counted : NoneCounted chip new
    pub taken_from : HeldView F
    pub frame : new ≡ record taken_from { node = record taken_from.node { flash = new.node.flash } }
    pub handed : IsHandedOut (chip taken_from.node.flash) (chip new.node.flash)
    pub noted : Some writes ≡ waiting taken_from.node.flash
    pub none : waiting new.node.flash ≡ Some []

  -- A line of what happens was taken: it was one phase. Nothing had been left of the phases before it.
  pub record IsLineDone (text : List ℕ) (old new : CalledView F) : Type 0 where
    pub before : HeldView F
    pub behind : HeldView F
    pub line : ScriptLine
    pub was : old.life ≡ Some before
    pub is : new.life ≡ Some behind
    pub says : line_says 1 before.node.machine.elements text ≡ S.Happens line
    pub done : IsPhaseDone (phase_of 1 line) before behind new.writes new.report
    pub no_writes : old.writes ≡ []
    pub no_report : old.report ≡ []

  -- A node as calls was made of this life, which is at its beginning. The writes, made on what is there, give what is read now, each on a chip too
  -- (`on_chip`). Each front of them, with its last write torn or whole, is content that a power cut might have left since the writes of its flash
  -- were handed out last, or since it was made (`fronts`). They are those that the flash of this life had noted, in that order, and at most so
  -- many as program and erase calls were counted since then, as long as the count isn't ffffffff (`few`); those that are no erase have at most so
  -- many octets as program calls were given since then, with the same proviso (`lean`). None waits any more.
  pub record IsBegun (life : HeldView F) (now : CalledView F) : Type 0 where
    pub begun : HeldView F
    pub is : now.life ≡ Some begun
    pub lived : Lived role image chip begun [] []
    pub usable : begun.node.machine.closed ≡ false
    pub start : begun.node.start ≡ life.node.start
    pub noted : Some now.writes ≡ waiting life.node.flash
    pub none : waiting begun.node.flash ≡ Some []
    pub writes_are : written now.writes (chip life.node.flash).setting.saved ≡ (chip begun.node.flash).now
    pub saved : (chip begun.node.flash).setting.saved ≡ (chip begun.node.flash).now
    pub on_chip : AreOnChip now.writes (chip life.node.flash).setting.saved
    pub fronts : AreFronts now.writes (chip life.node.flash).setting.saved ((chip begun.node.flash).since (chip life.node.flash).setting.moment)
    -- the next writes begin at this moment
    pub moment : (chip begun.node.flash).setting.moment ≡ (chip begun.node.flash).moment
    pub few : (chip begun.node.flash).changes < 4294967295
        → (chip life.node.flash).setting.called + length now.writes ≤ (chip begun.node.flash).changes
    -- so it is of their octets
    pub lean : (chip begun.node.flash).octets < 4294967295
        → (chip life.node.flash).setting.programmed + octets_given now.writes ≤ (chip begun.node.flash).octets
    pub counted : NoneCounted chip begun
    pub no_report : now.report ≡ []

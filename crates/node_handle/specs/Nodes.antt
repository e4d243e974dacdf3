-- What a call does to the node that is held.
use Rattle.std.specs.Prelude.{◌≡◌, ℕ, ◌*◌, List, [], ◌∷◌, Bool, Option, false, true, replicate, take, IsSomeAnd}
use Rattle.event_definitions.specs.Role.{node_role}
use Rattle.file_flash.specs.Noted.{Put}
use Rattle.flash_model.specs.Chip.{Chip}
use Rattle.mesh_node.specs.Held.{HeldView}
use Rattle.mesh_types.specs.declared.report.Opened.TheVariants as W
use Rattle.mesh_types.specs.declared.report.ReportLine.TheVariants as L
use Rattle.node_layers.specs.NodeLayers.{node_layers}
use Rattle.node_store.specs.Tie.{IsNode}
use Rattle.record_types.specs.declared.records.StoreRecord.{StoreRecord}
use Rattle.report_definitions.specs.Report.{line_text, opened_line}
use Rattle.store_definitions.specs.Config.{config_of}
use Rattle.store_definitions.specs.Recovered.{IsRecovered}
use Rattle.called_node.specs.Called.{CalledView, IsBegun, IsCause, IsLineDone, IsTaken, IsUsable}
use Rattle.called_node.specs.declared.called.Called.{Called}
use Rattle.called_node.specs.declared.called.Called.TheVariants as C
use Rattle.linked_node.specs.Migration.{AreOfMigration}
use Rattle.linked_node.specs.declared.faults.OpenFault.{OpenFault}
use Rattle.linked_node.specs.declared.faults.OpenFault.TheVariants as O
use Rattle.node_store.specs.declared.images.ImageFault.TheVariants as I
use Rattle.node_store.specs.declared.mounting.StoreFault.TheVariants as S
use Rattle.node_handle.specs.declared.held.HeldNode.{HeldNode}

-- what a call of a line answers
abbrev pub status_of : Called → ℕ
status_of C.Happened = 0
status_of C.Nothing = 10
status_of (C.Wrong rule) = 11
status_of C.Waiting = 12
status_of C.Over = 13
status_of C.Memory = 5
status_of C.Lost = 14

-- the rule that it tells, where the line is wrong
abbrev pub rule_of : Called → ℕ → ℕ
rule_of (C.Wrong rule) old = rule
rule_of _ old = old

-- what a refused opening answers
abbrev pub open_status : OpenFault → ℕ
open_status (O.Size octets) = 1
open_status (O.Image (I.Store S.Flash)) = 5
open_status (O.Image fault) = 8
open_status O.WasReset = 9
open_status O.Flash = 5
open_status O.Memory = 5

-- The line is the first of a life over the records that the image recovers, which aren't those of a node that was reset.
pub record IsFirstLine (image line : List ℕ) : Type 0 where
  pub over : List StoreRecord
  pub read : IsRecovered image over
  pub runs : (config_of over).reset ≡ false
  pub is : line ≡ line_text (opened_line 1 (W.On (config_of over).iv (config_of over).mark))

-- `waiting` is what waits of the writes that a flash noted.
module _ {F : Type 0} (chip : F → Chip) (waiting : F → Option (List Put)) where
  -- A line was one phase of the node.
  abbrev pub IsPhase : List ℕ → CalledView F → CalledView F → Type 0
  IsPhase = IsLineDone (node_role node_layers) IsNode chip waiting

  -- A node was opened over an image: a life begins over the records that the image recovers, which the line tells. The writes of opening are those
  -- on the image: none, but over an image of format 01.
  pub record IsOpened (image line : List ℕ) (now : CalledView F) : Type 0 where
    pub first : IsFirstLine image line
    pub life : HeldView F
    pub start : (chip life.node.start).now ≡ image
    -- its program and erase calls are counted from there, and the octets that the program calls are given
    pub uncalled : (chip life.node.start).changes ≡ 0
    pub unprogrammed : (chip life.node.start).octets ≡ 0
    pub saved : (chip life.node.flash).setting.saved ≡ image
    pub begun : IsBegun (node_role node_layers) IsNode chip waiting life now
    pub writes : AreOfMigration image now.writes

-- Why a line came to this, as a status and a rule.
pub record IsAnswered {F : Type 0} (text : List ℕ) (now : CalledView F) (rule_before status rule : ℕ) : Type 0 where
  pub called : Called
  pub cause : IsCause text now called
  pub status_is : status ≡ status_of called
  pub rule_is : rule ≡ rule_of called rule_before

-- The next write is this one, an erase or none, and these are behind it.
pub record HasNext {F : Type 0} (now : CalledView F) (put : Put) (erased : Bool) : Type 0 where
  pub rest : List Put
  pub is : now.writes ≡ put ∷ rest
  pub kinds : List Bool
  pub kind : now.erases ≡ erased ∷ kinds

-- The write that was told: an erase has 4,096 octets ff, any other one so many octets of the front of a slice.
abbrev pub told_put : ℕ → Bool → ℕ → List ℕ → Put
told_put at true size octets = record { at = at; octets = replicate 4096 255; erase = true }
told_put at false size octets = record { at = at; octets = take size octets; erase = false }

-- What is told of an erase of a sector, beside where it begins. The slice is as it was.
pub record IsErase (at size : ℕ) (before after : List ℕ) : Type 0 where
  pub sector : ℕ
  pub at_is : at ≡ 4096 * sector
  pub size_is : size ≡ 4096
  pub same : after ≡ before

-- It was taken, an erase or none, and nothing else changed.
pub record IsPassed {F : Type 0} (old new : CalledView F) (put : Put) (erased : Bool) : Type 0 where
  pub rest : List Put
  pub was : old.writes ≡ put ∷ rest
  pub kinds : List Bool
  pub kind : old.erases ≡ erased ∷ kinds
  pub is : new ≡ record old { writes = rest; erases = kinds }

-- The text was taken, and nothing else changed. No write was left before.
pub record IsReported {F : Type 0} (old new : CalledView F) (text : List ℕ) : Type 0 where
  pub writes : old.writes ≡ []
  pub text_is : text ≡ old.report
  pub is : new ≡ record old { report = [] }

-- a node that ends in order: its flash didn't fail, and all of its last phase was taken
abbrev pub EndsInOrder : {F : Type 0} → CalledView F → Type 0
EndsInOrder now = IsTaken now × IsUsable now

-- what an end tells: the line of one in order, or nothing
pub record IsClosedAs {F : Type 0} (now : CalledView F) (text : List ℕ) : Type 0 where
  pub ended : EndsInOrder now → text ≡ line_text L.End
  pub given_up : (EndsInOrder now → ⊥) → text ≡ []

-- It held a node, and it holds one, with this between them.
abbrev pub Became : (HeldNode → HeldNode → Type 0) → Option HeldNode → Option HeldNode → Type 0
Became P old new = IsSomeAnd old (λ a. IsSomeAnd new (P a))

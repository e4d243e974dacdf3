-- Calls of a node behind a pointer, one after another.
use Rattle.std.specs.Prelude.{◌≡◌, ℕ, ◌+◌, ◌<◌, ◌≤◌, Bool, List, [], ◌∷◌, ◌++◌, length, Option, Some}
use Rattle.called_node.specs.Called.{CalledView}
use Rattle.file_flash.specs.Noted.{AreFronts, AreOnChip, Put, octets_given, written}
use Rattle.flash_model.specs.Chip.{Chip}
use Rattle.mesh_node.specs.Held.{HeldView}
use Rattle.node_handle.specs.Nodes.{IsOpened, IsPassed, IsPhase, IsReported}

-- a call that changed the node: a write was taken, or the report, or a line happened
pub data Call : Type 0 where
  Wrote : Put → Call
  Reported : List ℕ → Call
  Happened : List ℕ → Call

-- the writes that calls handed out
abbrev pub handed_out : List Call → List Put
handed_out [] = []
handed_out (Wrote put ∷ calls) = put ∷ handed_out calls
handed_out (Reported text ∷ calls) = handed_out calls
handed_out (Happened line ∷ calls) = handed_out calls

-- `waiting` is what waits of the writes that a flash noted.
module _ {F : Type 0} (chip : F → Chip) (waiting : F → Option (List Put)) where
  -- what a call did to the node
  abbrev pub DidCall : Call → CalledView F → CalledView F → Type 0
  DidCall (Wrote put) old new = (erased : Bool) × IsPassed old new put erased
  DidCall (Reported text) old new = IsReported old new text
  DidCall (Happened line) old new = IsPhase chip waiting line old new

  -- what calls did, one after another
  abbrev pub DidCalls : List Call → CalledView F → CalledView F → Type 0
  DidCalls [] old new = new ≡ old
  DidCalls (call ∷ calls) old new = (mid : CalledView F) × DidCall call old mid × DidCalls calls mid new

  -- The writes that were handed out, made in their order on the image that was opened, and then those that are left, give what the flash of the
  -- life reads.
  abbrev pub WritesMakeImage : Type 0
  WritesMakeImage =
      (image line : List ℕ) (calls : List Call) (opened now : CalledView F) (life : HeldView F) → IsOpened chip waiting image line opened
      → DidCalls calls opened now → now.life ≡ Some life → written now.writes (written (handed_out calls) image) ≡ (chip life.node.flash).now

  -- They are at most so many as program and erase calls were counted of that flash, from the image on, as long as that count isn't ffffffff.
  abbrev pub WritesAreFew : Type 0
  WritesAreFew =
      (image line : List ℕ) (calls : List Call) (opened now : CalledView F) (life : HeldView F) → IsOpened chip waiting image line opened
      → DidCalls calls opened now → now.life ≡ Some life → (chip life.node.flash).changes < 4294967295
      → length (handed_out calls) + length now.writes ≤ (chip life.node.flash).changes

  -- Those that are no erase have at most so many octets as program calls of that flash were given, from the image on, as long as that count isn't
  -- ffffffff.
  abbrev pub WritesAreLean : Type 0
  WritesAreLean =
      (image line : List ℕ) (calls : List Call) (opened now : CalledView F) (life : HeldView F) → IsOpened chip waiting image line opened
      → DidCalls calls opened now → now.life ≡ Some life → (chip life.node.flash).octets < 4294967295
      → octets_given (handed_out calls) + octets_given now.writes ≤ (chip life.node.flash).octets

  -- Each of them gives its octets on a chip too, where a program call clears bits alone.
  abbrev pub WritesAreOnChip : Type 0
  WritesAreOnChip =
      (image line : List ℕ) (calls : List Call) (opened now : CalledView F) (life : HeldView F) → IsOpened chip waiting image line opened
      → DidCalls calls opened now → now.life ≡ Some life → AreOnChip (handed_out calls ++ now.writes) image

  -- What a power cut might have left of the flash of the life, at whatever moment till the first so many of these calls were made.
  pub record MightBeLeft (opened : CalledView F) (calls : List Call) (c : List ℕ) : Type 0 where
    pub front : List Call
    pub back : List Call
    pub is : calls ≡ front ++ back
    pub at : CalledView F
    pub did : DidCalls front opened at
    pub life : HeldView F
    pub there : at.life ≡ Some life
    pub moment : ℕ
    pub left : (chip life.node.flash).since moment c

  -- Each front of them on the image that was opened, with the last write torn or whole, is such content.
  abbrev pub WritesMayBeCut : Type 0
  WritesMayBeCut =
      (image line : List ℕ) (calls : List Call) (opened now : CalledView F) (life : HeldView F) → IsOpened chip waiting image line opened
      → DidCalls calls opened now → now.life ≡ Some life → AreFronts (handed_out calls ++ now.writes) image (MightBeLeft opened calls)

-- What holds of a machine between two calls, of its flash, and of the records that its life opened over.
use Rattle.std.specs.Prelude.{◌≡◌, ◌⊎◌, ℕ, ◌+◌, ◌<◌, ◌≤◌, ◌^◌, true, false, List, [], ◌∷◌, length, map, take}
use Rattle.flash_model.specs.Chip.{Chip, count_of}
use Rattle.mesh_types.specs.declared.events.Event.{Event}
use Rattle.record_types.specs.declared.records.StoreRecord.{StoreRecord}
use Rattle.event_definitions.specs.Handling.{AreHandled, records_left}
use Rattle.event_definitions.specs.History.{Insight, Past, Told}
use Rattle.run_definitions.specs.Order.{is_outside}
use Rattle.event_definitions.specs.Role.{Role}
use Rattle.store_definitions.specs.Config.{config_of}
use Rattle.store_definitions.specs.Numbers.{fill_of, filled}
use Rattle.store_definitions.specs.Wear.{CostsAtMost, IsTakenUp, MOUNT_READS}
use Rattle.machine_contract.specs.declared.answers.Hand.{Hand}
use Rattle.machine_contract.specs.declared.answers.Hand.TheVariants as H
use Rattle.machine_contract.specs.Moves.{moves_from}
use Rattle.machine_contract.specs.Opening.{EachRecovered, FlashFound, IsLeft, IsNodeFlash}
use Rattle.machine_contract.specs.View.{MachineView}

-- what stands after these entries and so many refills, in a life that opened over some records
abbrev pub past_now : Role → List StoreRecord → List Told → ℕ → Past
past_now role over told fills = record { told = told; records = filled fills (records_left role over [] told) }

-- What a cut may leave in an event from outside: a front of the event's records, behind those of before.
pub record IsFrontLeft (role : Role) (past : Past) (event : Event) (next : List StoreRecord) : Type 0 where
  pub outside : is_outside event ≡ true
  pub insight : Insight
  pub sees : role.sees past event insight
  pub count : ℕ
  pub left : IsLeft past.records
      (take count (role.stores past event insight (role.answer past event insight))) next

-- What an image recovers, by what a failed call had in hand: all records so far, or these and what may be left of the ones in hand.
abbrev pub IsLeftBy : Role → Past → Hand → List StoreRecord → Type 0
IsLeftBy role past H.Nothing next = IsLeft past.records [] next
IsLeftBy role past (H.OfEvent event) next = IsLeft past.records [] next ⊎ IsFrontLeft role past event next
IsLeftBy role past H.OfRefill next =
    IsLeft past.records [] next ⊎ IsLeft past.records (fill_of (config_of past.records) ∷ []) next

-- how many records a call has in hand that fails
abbrev pub AreInHand : Role → Past → Hand → ℕ → Type 0
AreInHand role past H.Nothing n = n ≡ 0
AreInHand role past (H.OfEvent event) n =
    (insight : Insight) × role.sees past event insight
    × (n ≡ length (role.stores past event insight (role.answer past event insight)))
AreInHand role past H.OfRefill n = n ≡ 1

-- The records behind those that the life opened over, so many that a failed call had in hand, and a migration pay for all program and erase calls
-- since the life found the flash.
pub record ArePaidFor (first : FlashFound) (chip : Chip) (over now : List StoreRecord) (in_hand : ℕ) : Type 0 where
  pub stored : ℕ
  pub behind : length now ≡ length over + stored
  pub used : ℕ
  pub taken_up : IsTakenUp first.now used
  pub costs : CostsAtMost used (stored + in_hand) first.count (count_of chip)

-- The entries so far were handled in order, from the records that the life opened over; an image recovers what they left, with the mark
-- that is published at most; the machine is closed only where the flash failed, and where it isn't the flash didn't since the life found it; and since then
-- it made at most the program and erase calls that the records cost which were stored or in hand, and a migration, and at most the read calls of a mount.
pub record IsLifeSoFar (role : Role) (IsNodeImage : List ℕ → Type 0) (first : FlashFound) (chip : Chip)
    (over : List StoreRecord) (m : MachineView) : Type 0 where
  pub told : List Told
  pub entries : map (λ t. t.entry) told ≡ m.entries
  pub handled : AreHandled role over [] told
  -- where the counter was moved to by the records that each left
  pub moves : m.moves ≡ moves_from role over [] told
  pub few : length m.entries < 2 ^ 32
  pub elements : m.elements ≡ (config_of over).elements
  pub node : IsNodeFlash IsNodeImage chip
  pub left : EachRecovered chip
      (λ next. IsLeftBy role (past_now role over told m.fills) m.hand next × (m.mark ≤ (config_of next).mark))
  pub idle : m.closed ≡ false → m.hand ≡ H.Nothing
  pub failed : m.closed ≡ true → chip.setting.faults < chip.faults
  pub no_fault : m.closed ≡ false → chip.faults ≡ first.faults
  -- once a call of the flash has failed, none is made
  pub once : chip.faults ≤ first.faults + 1
  pub in_hand : ℕ
  pub hand : AreInHand role (past_now role over told m.fills) m.hand in_hand
  pub paid : ArePaidFor first chip over (past_now role over told m.fills).records in_hand
  pub reads : chip.reads ≤ first.reads + MOUNT_READS

-- the flash is as it was, but that it may have been given an arm
pub record IsSameFlash (old new : Chip) : Type 0 where
  pub honest : new.honest ≡ old.honest
  pub stays : (image : List ℕ) → new.images image → old.images image
  pub now : new.now ≡ old.now
  pub faults : new.faults ≡ old.faults
  pub began : new.setting.faults ≡ old.setting.faults
  pub count : count_of new ≡ count_of old
  pub reads : new.reads ≡ old.reads

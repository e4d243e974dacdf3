-- What holds of a machine holds of it once entries of its history were taken, too.
use Rattle.std.proofs.Common.{ℕ, List}
use Rattle.event_definitions.specs.History.{Past}
use Rattle.event_definitions.specs.Role.{Role}
use Rattle.flash_model.specs.Chip.{Chip}
use Rattle.machine_contract.specs.Opening.{FlashFound}
use Rattle.machine_contract.specs.Standing.{past_now}
use Rattle.machine_standing.specs.Ties.{StandsBy}
use Rattle.machine_standing.specs.Views.{LifeMachine}
use Rattle.record_types.specs.declared.records.StoreRecord.{StoreRecord}

pub stands_taken : {Memory : Type 0} (role : Role) (Before : Past → LifeMachine Memory → Type 0)
    → ((past : Past) (m : LifeMachine Memory) (n : ℕ) → Before past m → Before past (record m { taken = n }))
    → (first : FlashFound) (chip : Chip) (over : List StoreRecord) (m : LifeMachine Memory) (n : ℕ) → StandsBy role Before first chip over m
    → StandsBy role Before first chip over (record m { taken = n })
stands_taken role Before law first chip over m n h = record {
  life = record {
    told = h.life.told;
    entries = h.life.entries;
    handled = h.life.handled;
    moves = h.life.moves;
    few = h.life.few;
    elements = h.life.elements;
    node = h.life.node;
    left = h.life.left;
    idle = h.life.idle;
    failed = h.life.failed;
    no_fault = h.life.no_fault;
    once = h.life.once;
    in_hand = h.life.in_hand;
    hand = h.life.hand;
    paid = h.life.paid;
    reads = h.life.reads;
  };
  usable = λ runs. let o = h.usable runs in record { store = o.store; before = law (past_now role over h.life.told m.fills) m n o.before };
  moved = h.moved;
  last = h.last;
  began = h.began;
  wear = h.wear;
}

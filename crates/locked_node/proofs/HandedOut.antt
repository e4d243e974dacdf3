-- The writes of a flash were handed out: what holds of the node stays.
use Rattle.std.proofs.Common.{◌≡◌, ◌∙◌, ◌≤◌, ℕ, List, ap, subst, sym, arith}
use Rattle.file_flash.specs.Handed.{IsHandedOut}
use Rattle.flash_model.proofs.Runs.{past_more}
use Rattle.flash_model.specs.Chip.{Chip, Setting}
use Rattle.machine_contract.specs.Opening.{FlashFound, found_of}
use Rattle.machine_contract.specs.Standing.{IsSameFlash}
use Rattle.machine_contract.specs.View.{MachineView}
use Rattle.record_types.specs.declared.records.StoreRecord.{StoreRecord}
use Rattle.seq_word.specs.Seen.{WatcherView}
use Rattle.locked_node.specs.Stands.{Holds}

module _ {M F : Type 0} (stands : FlashFound → Chip → List StoreRecord → M → Type 0) (view : M → MachineView) (chip : F → Chip) (machine : M) (watcher : WatcherView) (start old new : F) (stops : ℕ) (handed : IsHandedOut (chip old) (chip new)) where
  began : (chip new).setting.faults ≡ (chip old).setting.faults
  began = ap (λ (s : Setting). s.faults) handed.setting

  same : IsSameFlash (chip old) (chip new)
  same = record { honest = handed.honest; stays = handed.images; now = handed.now; faults = handed.faults; began = began; count = λ i. record { calls = handed.changes i; erases = handed.erases i; octets = handed.octets i }; reads = handed.reads }

  pub holds_handed : ((first : FlashFound) (over : List StoreRecord) → IsSameFlash (chip old) (chip new) → stands first (chip old) over machine → stands first (chip new) over machine)
      → Holds stands view chip machine watcher start old stops → Holds stands view chip machine watcher start new stops
  holds_handed stays h = record {
    over = h.over;
    read = h.read;
    tie = stays (found_of (chip start)) h.over same h.tie;
    few = h.few;
    live = h.live;
    stopped = h.stopped;
    no_fault = λ off. handed.faults ∙ h.no_fault off;
    later = record {
      faults = subst (λ n. (chip start).faults ≤ n) (sym handed.faults) h.later.faults;
      steady = handed.steady ∙ h.later.steady;
      began = began ∙ h.later.began;
      cycles = ap (λ (s : Setting). s.cycles) handed.setting ∙ h.later.cycles;
      past = past_more (chip start) (chip old) (chip new) h.later.past (record { later = omega (arith, handed.moment); keeps = λ t c le since. handed.keeps t c since });
    };
    asked = h.asked;
    taken = h.taken;
    watches = h.watches;
    counted = h.counted;
  }

-- it holds of what was borrowed
pub holds_at : {H M F : Type 0} {stands : FlashFound → Chip → List StoreRecord → M → Type 0} {view : M → MachineView} {chip : F → Chip} {a b : H} → a ≡ b → (machine : H → M) (watcher : H → WatcherView) (start flash : H → F) (stops : H → ℕ)
    → Holds stands view chip (machine b) (watcher b) (start b) (flash b) (stops b) → Holds stands view chip (machine a) (watcher a) (start a) (flash a) (stops a)
holds_at {stands = stands} {view = view} {chip = chip} same machine watcher start flash stops h =
    subst (λ x. Holds stands view chip (machine x) (watcher x) (start x) (flash x) (stops x)) (sym same) h

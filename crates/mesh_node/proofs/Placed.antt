-- An order was given at its place in the plan.
use Rattle.std.proofs.Common.{◌≡◌, ◌∙◌, inl, inr, ℕ, ◌+◌, ◌<◌, List, [], ◌∷◌, ◌++◌, length, take, drop, get_or, Option, Some, None, refl, sym, ap, subst}
use Rattle.std.specs.Prelude.{IfSome}
use Rattle.flash_model.specs.Chip.{Arm, Chip}
use Rattle.life_laws.specs.Hands.{AreHandledAll}
use Rattle.life_laws.specs.Phases.{AreDone}
use Rattle.life_laws.specs.Plan.{behind_arm, step_of, steps_of}
use Rattle.life_laws.specs.declared.plan.PlanStep.{PlanStep}
use Rattle.life_laws.specs.declared.plan.PlanStep.TheVariants as P
use Rattle.machine_contract.specs.Opening.{FlashFound, found_of}
use Rattle.machine_contract.specs.View.{MachineView}
use Rattle.mesh_types.specs.declared.history.Sent.{Sent}
use Rattle.record_types.specs.declared.records.StoreRecord.{StoreRecord}
use Rattle.run_definitions.specs.Order.{Step, arm, phases_of}
use Rattle.locked_node.specs.Node.{NodeView}
use Rattle.locked_node.specs.Stands.{HasMachine}
use Rattle.seq_word.specs.Seen.{DrawerView}
use Rattle.store_definitions.specs.Recovered.{IsRecovered}
use Rattle.mesh_node.specs.Given.{BeginWith, IsSameOrPlaced, IsUnfilled, WasBetween, WasFirst, WasGiven}
use Rattle.mesh_node.specs.Going.{IsGoing}
use Rattle.mesh_node.specs.Steps.{IsArmedBy, first_order}
use Rattle.mesh_node.proofs.Following.{around}
use Rattle.mesh_node.proofs.Giving.{is_phase}
use Rattle.mesh_node.proofs.Growing.{begin_on}
use Rattle.mesh_node.proofs.Unfilled.{unfilled_on}

no_step : (before : List Step) (x : Step) (behind : List Step) → [] ≡ before ++ x ∷ behind → ⊥
no_step [] x behind is = cc
no_step (y ∷ before) x behind is = cc

first_phase : (y : Step) (ys : List Step) (a : Arm) (before behind : List Step) → (y ≡ arm a.calls a.mask → ⊥) → y ∷ ys ≡ before ++ arm a.calls a.mask ∷ behind → before ≡ [] → ⊥
first_phase y ys a [] behind other is none = other cc
first_phase y ys a (z ∷ before) behind other is none = cc

-- the one that stands first
pub first_given : (items : List PlanStep) → IfSome (first_order items 0) (WasFirst (steps_of items))
first_given [] = tt
first_given (P.Arm calls mask ∷ items) = record { behind = steps_of items; is = refl; changes = refl }
first_given (P.Phase lists ∷ items) = tt

module _ {M F : Type 0} (view : M → MachineView) (stands : Chip → List StoreRecord → M → Type 0) (chip : F → Chip) (over : List StoreRecord) where
  -- a machine that is later than the one before, and lines that begin with those of before
  module _ (before now : MachineView) (later : IsUnfilled before now) (lines sends : List (List Sent)) (longer : BeginWith lines sends) (plan : List Step) where
    between_on : (a : Arm) → WasBetween view stands chip over before lines plan a → WasBetween view stands chip over now sends plan a
    between_on a h = record {
      before = h.before;
      behind = h.behind;
      is = h.is;
      flash = h.flash;
      machine = h.machine;
      stood = h.stood;
      handled = h.handled;
      lines = h.lines;
      front = begin_on h.lines lines sends h.front longer;
      counts = h.counts;
      ends = h.ends;
      done = h.done;
      changes = h.changes;
      unfilled = unfilled_on (view h.machine) before now h.unfilled later;
    }

    some_on : (o : Option Arm) → IfSome o (WasBetween view stands chip over before lines plan) → IfSome o (WasBetween view stands chip over now sends plan)
    some_on None h = tt
    some_on (Some a) h = between_on a h

    placed_on : (old new : Option Arm) → IsSameOrPlaced view stands chip over before lines plan old new → IsSameOrPlaced view stands chip over now sends plan old new
    placed_on old new (inl same) = inl same
    placed_on old new (inr placed) = inr (some_on new placed)

  -- one step more, behind phases that are through, with these lines so far
  module _ (steps : List PlanStep) (i : ℕ) (node : NodeView F) (lines : List (List Sent)) (counts ends : List ℕ)
      (handled : AreHandledAll (phases_of (steps_of (take i steps))) node.machine.entries) (done : AreDone (phases_of (steps_of (take i steps))) node.machine.entries lines counts ends)
      (now : MachineView) (later : IsUnfilled node.machine now) (sends : List (List Sent)) (longer : BeginWith lines sends) where
    pub placed_more : (x : PlanStep) → i < length steps → x ≡ get_or steps i x → (machine : M) → view machine ≡ node.machine → stands (chip node.flash) over machine
        → (first : Option Arm) (new : Chip) → IsSameOrPlaced view stands chip over node.machine lines (steps_of steps) first (chip node.flash).setting.arm → IsArmedBy x (chip node.flash) new
        → IsSameOrPlaced view stands chip over now sends (steps_of steps) first new.setting.arm
    placed_more (P.Arm calls mask) lt is machine shows tie first new was armed =
        inr (subst (λ o. IfSome o (WasBetween view stands chip over now sends (steps_of steps))) (sym armed) (record {
          before = steps_of (take i steps);
          behind = steps_of (drop (i + 1) steps);
          is = around steps i (P.Arm calls mask) lt is;
          flash = node.flash;
          machine = machine;
          stood = tie;
          handled = subst (λ (m : MachineView). AreHandledAll (phases_of (steps_of (take i steps))) m.entries) (sym shows) handled;
          lines = lines;
          front = longer;
          counts = counts;
          ends = ends;
          done = subst (λ (m : MachineView). AreDone (phases_of (steps_of (take i steps))) m.entries lines counts ends) (sym shows) done;
          changes = refl;
          unfilled = subst (λ m. IsUnfilled m now) (sym shows) later;
        }))
    placed_more (P.Phase lists) lt is machine shows tie first new was same =
        subst (IsSameOrPlaced view stands chip over now sends (steps_of steps) first) (sym same) (placed_on node.machine now later lines sends longer (steps_of steps) first (chip node.flash).setting.arm was)

  behind : (now : MachineView) (sends : List (List Sent)) (items : List PlanStep) (a : Arm) → WasBetween view stands chip over now sends (steps_of (behind_arm items)) a → WasGiven view stands chip over now sends (steps_of items) a
  behind now sends [] a h = inr (h, λ none. absurd (no_step h.before (arm a.calls a.mask) h.behind h.is))
  behind now sends (P.Arm calls mask ∷ items) a h = inr (
    record {
      before = arm calls mask ∷ h.before;
      behind = h.behind;
      is = ap (λ l. arm calls mask ∷ l) h.is;
      flash = h.flash;
      machine = h.machine;
      stood = h.stood;
      handled = h.handled;
      lines = h.lines;
      front = h.front;
      counts = h.counts;
      ends = h.ends;
      done = h.done;
      changes = h.changes;
      unfilled = h.unfilled;
    },
    λ none. cc,
  )
  behind now sends (P.Phase lists ∷ items) a h = inr (h, λ none. first_phase (step_of (P.Phase lists)) (steps_of items) a h.before h.behind (λ e. is_phase _ a.calls a.mask e) h.is none)

  given_behind : (now : MachineView) (sends : List (List Sent)) (items : List PlanStep) (o : Option Arm) → IfSome o (WasBetween view stands chip over now sends (steps_of (behind_arm items))) → IfSome o (WasGiven view stands chip over now sends (steps_of items))
  given_behind now sends items None h = tt
  given_behind now sends items (Some a) h = behind now sends items a h

  given_first : (now : MachineView) (sends : List (List Sent)) (items : List PlanStep) (o : Option Arm) → IfSome o (WasFirst (steps_of items)) → IfSome o (WasGiven view stands chip over now sends (steps_of items))
  given_first now sends items None h = tt
  given_first now sends items (Some a) h = inl h

  -- the one that stands first, or one of those behind it
  pub given_right : (now : MachineView) (sends : List (List Sent)) (items : List PlanStep) (old new : Option Arm) → old ≡ first_order items 0
      → IsSameOrPlaced view stands chip over now sends (steps_of (behind_arm items)) old new → IfSome new (WasGiven view stands chip over now sends (steps_of items))
  given_right now sends items old new first (inl same) = given_first now sends items new (subst (λ o. IfSome o (WasFirst (steps_of items))) (sym (same ∙ first)) (first_given items))
  given_right now sends items old new first (inr placed) = given_behind now sends items new placed

-- one step more of the node in hand
module _ {M F : Type 0} (view : M → MachineView) (stands : FlashFound → Chip → List StoreRecord → M → Type 0) (chip : F → Chip) (over : List StoreRecord)
    (steps : List PlanStep) (i : ℕ) (node : NodeView F) (d : DrawerView) (lines : List (List Sent)) (counts : List ℕ)
    (going : IsGoing (phases_of (steps_of (take i steps))) node d lines counts) where
  pub placed_held : (x : PlanStep) → i < length steps → x ≡ get_or steps i x → (held : HasMachine stands view chip node)
      → ((content : List ℕ) (rs ss : List StoreRecord) → IsRecovered content rs → IsRecovered content ss → rs ≡ ss)
      → (start : F) → node.start ≡ start → IsRecovered (chip start).now over → (first : Option Arm) (new : Chip) → IsSameOrPlaced view (stands (found_of (chip start))) chip over node.machine lines (steps_of steps) first (chip node.flash).setting.arm → IsArmedBy x (chip node.flash) new
      → (now : MachineView) → IsUnfilled node.machine now → (sends : List (List Sent)) → BeginWith lines sends → IsSameOrPlaced view (stands (found_of (chip start))) chip over now sends (steps_of steps) first new.setting.arm
  placed_held x lt is held one start same read first new was armed now later sends longer =
      let over_is = one (chip start).now held.over over (subst (λ s. IsRecovered (chip s).now held.over) same held.read) read in
      let tie = subst (λ s. stands (found_of (chip s)) (chip node.flash) held.over held.machine) same held.tie in
      placed_more view (stands (found_of (chip start))) chip over steps i node lines counts going.ends going.handled going.done now later sends longer
      x lt is held.machine held.shows (subst (λ o. stands (found_of (chip start)) (chip node.flash) o held.machine) over_is tie) first new was armed

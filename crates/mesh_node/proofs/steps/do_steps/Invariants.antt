-- The steps so far.
use Rattle.std.proofs.Common.{◌≡◌, ◌≢◌, List, None, length, map, take, drop}
use Rattle.machine_contract.specs.Opening.{found_of}
use Rattle.record_types.specs.declared.records.StoreRecord.{StoreRecord}
use Rattle.run_definitions.specs.Order.{phases_of}
use Rattle.store_definitions.specs.Recovered.{IsRecovered}
use Rattle.mesh_node.specs.Given.{IsSameOrPlaced}
use Rattle.mesh_node.specs.Going.{AreTold, IsBetween, IsGoing}
use Rattle.life_laws.specs.Plan.{steps_of}
use Rattle.mesh_node.specs.Steps.{HasGiven, IsSameNode, IsSameOrOf, MayFollow}
use Rattle.mesh_node.proofs.steps.do_steps.Given as goal

abbrev pub invariant-loop-step : goal.invariant-loop-step
invariant-loop-step g l = record {
  between : IsBetween l.seats l.node;
  which : l.seats.drawer.which ≡ l.initial.seats.drawer.which;
  numbers : l.seats.numbers ≡ l.initial.seats.numbers;
  same : IsSameNode l.fn.node l.node;
  counts : length l.seats.counts.items ≡ l.bearers;
  sends : length l.log.sends.items ≡ l.bearers;
  going : IsGoing (phases_of (steps_of (take l.step-index l.steps))) l.node l.seats.drawer (map (λ v. v.items) l.log.sends.items) l.seats.counts.items;
  told : AreTold l.log.entries.items l.node;
  order : IsSameOrOf (steps_of l.steps) (g.F.Flash.chip l.fn.node.flash).setting.arm (g.F.Flash.chip l.node.flash).setting.arm;
  saved : (g.F.Flash.chip l.node.flash).setting.saved ≡ (g.F.Flash.chip l.fn.node.flash).setting.saved;
  held : (g.F.Flash.chip l.fn.node.flash).setting.arm ≢ None → (g.F.Flash.chip l.node.flash).setting.arm ≢ None;
  given : HasGiven (steps_of (take l.step-index l.steps)) (g.F.Flash.chip l.node.flash).setting.arm;
  placed : (over : List StoreRecord) → IsRecovered (g.F.Flash.chip l.fn.node.start).now over → IsSameOrPlaced g.M.Machine.view (g.M.Machine.stands (found_of (g.F.Flash.chip l.fn.node.start))) g.F.Flash.chip over l.node.machine (map (λ v. v.items) l.log.sends.items) (steps_of l.steps) (g.F.Flash.chip l.fn.node.flash).setting.arm (g.F.Flash.chip l.node.flash).setting.arm;
  may : MayFollow (drop l.step-index l.steps) (g.F.Flash.chip l.node.flash).setting.arm;
}

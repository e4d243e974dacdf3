-- the bearers so far
use Rattle.std.proofs.Common.{◌≡◌, true, false, take}
use Rattle.node_phase.specs.Part.{AreThrough, HadMemory}
use Rattle.life_laws.specs.Stopped.{HasStopped}
use Rattle.mesh_node.proofs.log.has_stopped.Given as goal

abbrev pub invariant-loop-done : goal.invariant-loop-done
invariant-loop-done l = record {
  memory : HadMemory (take l.done-index l.dones);
  none : l.stopped ≡ false → AreThrough (take l.done-index l.dones);
  some : l.stopped ≡ true → HasStopped l.dones;
}

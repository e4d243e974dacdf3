use Rattle.mesh_run.proofs.machine.ScriptMachineMachine.stays.Goals as goal

pub returns : goal.returns
returns g c = record { kept = λ first f h over m same s. c.stays.ensures.kept first f h over m.machine same s }

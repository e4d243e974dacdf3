use Rattle.mesh_run.proofs.laws.low_power_kind_law.Goals as goal

pub returns : goal.returns
returns c = record { safe = record { safe = c.low_power_runs_law.ensures.safe; image = λ content. ((λ is. is), λ is. is) } }

use Rattle.mesh_base.proofs.table.Table.retain.Goals as goal

pub returns : goal.returns
returns g c = record { filtered = rw (← c.self.view_is) c.retain.ensures.filtered }

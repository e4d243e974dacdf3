-- Segments of an own message that are sent again.
use Rattle.std.specs.Prelude.{ℕ, false, List, map}
use Rattle.mesh_types.specs.declared.events.Outgoing.{Outgoing}
use Rattle.mesh_base.specs.declared.fields.NetMaterial.{NetMaterial}
use Rattle.mesh_types.specs.declared.jobs.Job.{Job}
use Rattle.event_definitions.specs.Jobs.{segment_job}

-- the jobs of these pieces under one material
abbrev pub segments_under : NetMaterial → Outgoing → List ℕ → List Job
segments_under material m round = map (λ seg_o. segment_job false m seg_o material) round

-- The phases of Key Refresh, which are kept over an event that may change them.
use Rattle.std.specs.Prelude.{◌==◌, not, Bool, false, List, map}
use Rattle.std.specs.List.{find}
use Rattle.std.specs.Option.{option_map_or}
use Rattle.mesh_base.specs.declared.keys.NetKeyRow.{NetKeyRow}
use Rattle.mesh_jobs.specs.declared.refresh.KeyPhase.{KeyPhase}

-- the phase of a network key
abbrev pub phase_of : NetKeyRow → KeyPhase
phase_of r = record { index = r.index; phase = r.phase }

-- the phases of all network keys
abbrev pub phases_of : List NetKeyRow → List KeyPhase
phases_of rows = map phase_of rows

-- whether the phase of a network key that is held isn't what it was
abbrev pub is_changed : List KeyPhase → NetKeyRow → Bool
is_changed before r =
    option_map_or (λ (b : KeyPhase). not (b.phase == r.phase))
    (find (λ (b : KeyPhase). b.index == r.index) before) false

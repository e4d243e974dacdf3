-- The steps of the IV Index (Mesh Profile 1.0.1, section 3.10.5 and 3.10.6), by the table of this node's profile of them.
use Rattle.std.specs.Prelude.{ℕ, ◌+◌, ◌==◌, ◌&&◌, not, nat_lt, nat_le, min, Bool, true, false, if◌then◌else◌}
use Rattle.mesh_base.specs.declared.iv_state.IvState.{IvState}
use Rattle.mesh_base.specs.declared.iv_state.IvStep.{IvStep}
use Rattle.mesh_base.specs.declared.iv_state.IvStep.TheVariants.{Ignore, Begin, Finish, Recover, Wait}

-- IV Update in Progress under a new IV Index; the hours count anew
abbrev pub begun : IvState → ℕ → IvState
begun s iv = record { current = iv; progress = true; hours = 0; since = s.since }

-- Normal Operation under the same IV Index; the hours count anew
abbrev pub finished : IvState → IvState
finished s = record { current = s.current; progress = false; hours = 0; since = s.since }

-- the state that a beacon tells, taken over by IV Index Recovery; both hours count anew
abbrev pub recovered : ℕ → Bool → IvState
recovered iv flag = record { current = iv; progress = flag; hours = 0; since = 0 }

-- What a beacon does. `primary` says that the node holds the primary network key, index 000; the beacon is of the network key with
-- index `from`, and has the IV Index `iv` and the IV Update flag `flag`; `busy` says that an own segmented message is unacknowledged.
-- The first row whose condition holds counts.
unfoldable pub iv_next : IvState → Bool → ℕ → ℕ → Bool → Bool → IvStep
iv_next s primary from iv flag busy =
    if nat_lt iv s.current then Ignore 1
    else if nat_lt (s.current + 42) iv then Ignore 2
    else if not (from == 0) && primary && nat_lt s.current iv then Ignore 3
    else if iv == s.current && s.progress && not flag && nat_lt s.hours 96 then Ignore 4
    else if iv == s.current && s.progress && not flag && busy then Wait
    else if iv == s.current && s.progress && not flag then Finish (finished s)
    else if iv == s.current then Ignore 5
    else if iv == s.current + 1 && flag && not s.progress && nat_lt s.hours 96 then Ignore 4
    else if iv == s.current + 1 && flag && not s.progress then Begin (begun s iv)
    else if nat_lt s.since 192 then Ignore 6
    else Recover (recovered iv flag)

-- the state when so many hours more have passed; both counts stop at 65,535
abbrev pub aged : IvState → ℕ → IvState
aged s passed = record s { hours = min 65535 (s.hours + passed); since = min 65535 (s.since + passed) }

-- What a state does of its own at the end of an hour, where `mark_seq` is the SEQ of the mark: an update begins when three quarters of
-- the numbers are used, as long as there is a next IV Index, and ends after 144 hours.
unfoldable pub iv_due : IvState → ℕ → Bool → IvStep
iv_due s mark_seq busy =
    if not s.progress && nat_le 96 s.hours && nat_lt s.current 0xffffffff && nat_le 0xc00000 mark_seq
    then Begin (begun s (s.current + 1))
    else if s.progress && nat_le 144 s.hours && not busy then Finish (finished s)
    else Ignore 0

-- what the passing of hours does: the state with these hours, and its step
abbrev pub iv_hours : IvState → ℕ → ℕ → Bool → IvState × IvStep
iv_hours s passed mark_seq busy =
    (aged s passed, if passed == 0 then Ignore 0 else iv_due (aged s passed) mark_seq busy)

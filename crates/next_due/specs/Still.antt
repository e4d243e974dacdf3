-- What there is to wait for, by its moment: a later one of a life than now, at which nothing is due.
use Rattle.std.specs.Prelude.{◌≡◌, ℕ, ◌/◌, ◌≤◌, ◌⊎◌, []}
use Rattle.next_due.specs.Quiet.{EndsNothing}
use Rattle.event_definitions.specs.Answers.{config_before}
use Rattle.event_definitions.specs.History.{Past, now_of}
use Rattle.event_definitions.specs.Jobs.{beacon_jobs}
use Rattle.store_definitions.specs.Config.{Config}

-- no hour of the life ended since then: 360,000 ticks of 10 ms
abbrev pub IsNoHour : ℕ → ℕ → Type 0
IsNoHour now later = later / 360000 ≤ now / 360000

-- and no multiple of 1000 ticks was passed, where beacons are sent
abbrev pub AreNoBeacons : Config → ℕ → ℕ → Type 0
AreNoBeacons c now later = (beacon_jobs c ≡ []) ⊎ (later / 1000 ≤ now / 1000)

pub record IsStill (past : Past) (later : ℕ) : Type 0 where
  pub hour : IsNoHour (now_of past.told) later
  pub beacons : AreNoBeacons (config_before past) (now_of past.told) later
  pub ends : EndsNothing past later

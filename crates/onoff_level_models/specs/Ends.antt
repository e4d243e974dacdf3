-- How far a change is.
use Rattle.std.specs.Prelude.{◌≡◌, ℕ}
use Rattle.model_states.specs.Timing.{is_delayed, is_over}
use Rattle.model_states.specs.declared.models.Timing.{Timing}

-- So many ticks after it was taken it is as far as after others: its delay is over at both or at neither, and so is its transition.
pub record IsAsFar (t : Timing) (elapsed later : ℕ) : Type 0 where
  pub delay : is_delayed t later ≡ is_delayed t elapsed
  pub transition : is_over t later ≡ is_over t elapsed

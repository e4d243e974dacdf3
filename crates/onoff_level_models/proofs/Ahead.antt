-- How far a change is, by whether its delay and its transition are over.
use Rattle.std.proofs.Common.{◌↔◌, ℕ, ◌+◌, ◌<◌, ◌≤◌, arith}
use Rattle.std.proofs.lemmas.Bool.Decides.{nat_tests}
use Rattle.model_states.specs.declared.models.Timing.{Timing}
use Rattle.onoff_level_models.specs.Ends.{IsAsFar}

module _ (t : Timing) (elapsed later : ℕ) (goes_on : elapsed ≤ later) where
  -- while it is delayed
  pub as_delayed : elapsed < t.delay → IsAsFar t elapsed later ↔ later < t.delay
  as_delayed d = (
    λ h. grind (arith, nat_tests, h.delay),
    λ l. record { delay = grind (arith, nat_tests); transition = grind (arith, nat_tests) },
  )

  -- while the transition goes on
  pub as_going : t.delay ≤ elapsed → elapsed < t.delay + t.duration → IsAsFar t elapsed later ↔ later < t.delay + t.duration
  as_going d o = (
    λ h. grind (arith, nat_tests, h.transition),
    λ l. record { delay = grind (arith, nat_tests); transition = grind (arith, nat_tests) },
  )

  -- when both are over
  pub as_over : t.delay + t.duration ≤ elapsed → IsAsFar t elapsed later
  as_over o = record { delay = grind (arith, nat_tests); transition = grind (arith, nat_tests) }

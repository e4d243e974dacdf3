-- What a status says of what is left.
use Rattle.std.proofs.Common.{◌≡◌, ℕ, Bool, List, Option, Some, None, refl, subst}
use Rattle.std.specs.Prelude.{IfSome, IsSomeAnd}
use Rattle.event_definitions.specs.Role.{Role}
use Rattle.flash_model.specs.Chip.{Chip}
use Rattle.report_writer.specs.Writing.{SinkView}
use Rattle.live_node.specs.Ends.{EndsAs, EndsLost, EndsOver}
use Rattle.live_node.specs.Lived.{LivedShort, Standing, StreamsAt}
use Rattle.live_node.specs.declared.status.Status.{Status}
use Rattle.live_node.specs.declared.status.Status.TheVariants as S

module _ (role : Role) (image : List ℕ → Type 0) (hex : Bool) (bearers : ℕ) (clocked : Bool) (start : Chip) (from to : StreamsAt) (before after : SinkView) {F : Type 0} (chip : F → Chip) (Stood : F → Standing) (status : Status) (closed : Bool) where
  abbrev As : Option F → Type 0
  As flash = EndsAs role image hex bearers clocked start from to before after chip Stood status closed flash

  abbrev Over : Status → F → Type 0
  Over s flash = EndsOver role image hex bearers clocked start from to before after (Stood flash) s closed (chip flash)

  abbrev Lost : Status → Type 0
  Lost s = EndsLost role image hex bearers clocked start from to before after s

  -- a status with which no flash is lost
  pub some_of : (s : Status) → (Lost s → ⊥) → (flash : Option F) → As flash → status ≡ s → IsSomeAnd flash (Over s)
  some_of s none (Some f) h e = subst (λ t. Over t f) e h
  some_of s none None h e = absurd (none (subst Lost e h))

  pub memory_of : (flash : Option F) → As flash → status ≡ S.Memory → IfSome flash (Over S.Memory)
  memory_of None h e = tt
  memory_of (Some f) h e = subst (λ t. Over t f) e h

  lost_is : (s : Status) → Lost s → (s ≡ S.Memory) × LivedShort role hex bearers clocked start from to before after
  lost_is S.Memory h = (refl, h)
  lost_is S.Done h = absurd h
  lost_is S.Cut h = absurd h
  lost_is S.ReadFault h = absurd h
  lost_is S.ErrorsFault h = absurd h
  lost_is S.WriteFault h = absurd h
  lost_is S.FlashFault h = absurd h
  lost_is S.WasReset h = absurd h

  pub lost_of : (flash : Option F) → As flash → flash ≡ None → (status ≡ S.Memory) × LivedShort role hex bearers clocked start from to before after
  lost_of None h e = lost_is status h
  lost_of (Some f) h e = absurd cc

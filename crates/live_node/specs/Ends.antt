-- What each status of a life says.
use Rattle.std.specs.Prelude.{◌≡◌, ◌⊎◌, ℕ, Bool, true, false, List, Option, Some, None, IfSome, IsSomeAnd, ⊤}
use Rattle.flash_model.specs.Chip.{Chip}
use Rattle.event_definitions.specs.Role.{Role}
use Rattle.mesh_base.specs.Outside.{Rose}
use Rattle.report_writer.specs.Writing.{SinkView}
use Rattle.live_node.specs.Lived.{FailsAtOpening, LivedBroken, LivedLacking, LivedOut, LivedShort, LivedUnfed, LivedUnread, LivedUntold, Standing, StreamsAt, ToldReset, Unopened, WasCut}
use Rattle.live_node.specs.declared.status.Status.{Status}
use Rattle.live_node.specs.declared.status.Status.TheVariants as S

module _ (role : Role) (image : List ℕ → Type 0) (hex : Bool) (bearers : ℕ) (clocked : Bool) (start : Chip) (from to : StreamsAt) (before after : SinkView) where
  -- what a life left that ended so, with a flash that failed in it or didn't
  abbrev pub EndsOver : Standing → Status → Bool → Chip → Type 0
  EndsOver Stood S.Done closed new = LivedOut Stood role image hex bearers clocked start new from to before after
  EndsOver Stood S.Cut closed new = WasCut Stood role image hex bearers clocked start new from to before after
  EndsOver Stood S.ReadFault closed new = LivedUnread Stood role image hex bearers clocked start new from to before after
  EndsOver Stood S.ErrorsFault closed new = LivedUntold Stood role image hex bearers clocked start new from to before after
  EndsOver Stood S.WriteFault closed new =
      ((closed ≡ false) × Unopened image start new from to before after)
      ⊎ LivedBroken Stood role image hex bearers clocked start new from to before after closed
  EndsOver Stood S.Memory closed new =
      ((closed ≡ false) × Unopened image start new from to before after × (after ≡ before))
      ⊎ (LivedLacking Stood role image hex bearers clocked start new from to before after closed
      ⊎ ((closed ≡ false) × LivedUnfed Stood role image hex bearers clocked start new from to before after))
  EndsOver Stood S.FlashFault closed new = FailsAtOpening image start new from to before after
  EndsOver Stood S.WasReset closed new = ToldReset image start new from to before after

  -- and where the flash was lost: memory ran out in the life
  abbrev pub EndsLost : Status → Type 0
  EndsLost S.Memory = LivedShort role hex bearers clocked start from to before after
  EndsLost _ = ⊥

  abbrev pub EndsAs : {F : Type 0} → (F → Chip) → (F → Standing) → Status → Bool → Option F → Type 0
  EndsAs chip Stood status closed (Some flash) = EndsOver (Stood flash) status closed (chip flash)
  EndsAs chip Stood status closed None = EndsLost status

  -- What each status says of the life, of its lines and of what was written: all of it, and then status by status.
  pub record EndsByStatus {F : Type 0} (chip : F → Chip) (Stood : F → Standing) (status : Status) (closed : Bool) (flash : Option F) : Type 0 where
    pub ends : EndsAs chip Stood status closed flash
    pub done : status ≡ S.Done
        → IsSomeAnd flash (λ f. LivedOut (Stood f) role image hex bearers clocked start (chip f) from to before after)
    pub cut : status ≡ S.Cut
        → IsSomeAnd flash (λ f. WasCut (Stood f) role image hex bearers clocked start (chip f) from to before after)
    pub read_fault : status ≡ S.ReadFault
        → IsSomeAnd flash (λ f. LivedUnread (Stood f) role image hex bearers clocked start (chip f) from to before after)
    pub errors_fault : status ≡ S.ErrorsFault
        → IsSomeAnd flash (λ f. LivedUntold (Stood f) role image hex bearers clocked start (chip f) from to before after)
    pub front : status ≡ S.WriteFault
        → IsSomeAnd flash
        (λ f. ((closed ≡ false) × Unopened image start (chip f) from to before after)
        ⊎ LivedBroken (Stood f) role image hex bearers clocked start (chip f) from to before after closed)
    pub memory : status ≡ S.Memory
        → IfSome flash
        (λ f. ((closed ≡ false) × Unopened image start (chip f) from to before after × (after ≡ before))
        ⊎ (LivedLacking (Stood f) role image hex bearers clocked start (chip f) from to before after closed
        ⊎ ((closed ≡ false) × LivedUnfed (Stood f) role image hex bearers clocked start (chip f) from to before after)))
    -- the flash is lost for want of memory alone
    pub lost : flash ≡ None → (status ≡ S.Memory) × LivedShort role hex bearers clocked start from to before after
    pub flash_fault : status ≡ S.FlashFault
        → IsSomeAnd flash (λ f. FailsAtOpening image start (chip f) from to before after)
    pub was_reset : status ≡ S.WasReset → IsSomeAnd flash (λ f. ToldReset image start (chip f) from to before after)

-- the count of faults of the sink of the report rose exactly where that is why the life ended
abbrev pub IsSinkCause : Status → ℕ → ℕ → Type 0
IsSinkCause S.WriteFault old new = Rose old new
IsSinkCause _ old new = new ≡ old

-- so of the source, and of the sink of wrong lines
abbrev pub IsSourceCause : Status → ℕ → ℕ → Type 0
IsSourceCause S.ReadFault old new = Rose old new
IsSourceCause _ old new = new ≡ old

abbrev pub IsErrorsCause : Status → ℕ → ℕ → Type 0
IsErrorsCause S.ErrorsFault old new = Rose old new
IsErrorsCause _ old new = new ≡ old

-- whether the flash failed in a life that ended so; where a sink failed or there was no memory, it may have
abbrev pub IsClosedBy : Status → Bool → Type 0
IsClosedBy S.Cut closed = closed ≡ true
IsClosedBy S.WriteFault closed = ⊤
IsClosedBy S.Memory closed = ⊤
IsClosedBy _ closed = closed ≡ false

-- A node that was run over streams: those of the program, or those of a thread that reads, where there is a clock.
use Rattle.std.proofs.Common.{◌≡◌, ◌⊎◌, inr, Bool, true, false, None, not, Result, Ok, Err, IfErr, refl}
use Rattle.live_node.specs.Lived.{StreamsAt}
use Rattle.meshnoded.specs.Doing.{RanOver}
use Rattle.meshnoded.specs.Streams.{back_of, back_with}

pub over_these : (Ran : Bool → StreamsAt → StreamsAt → Type 0) (clocked : Bool) (old to : StreamsAt) (clock : Bool) → not clock ≡ true
    → Ran clocked old to → RanOver Ran clocked clock old (back_of to)
over_these Ran clocked old to false h ran =
    record { from = old; to = to; source = λ off. refl; before = refl; before_faults = refl; after = refl; ran = ran }
over_these Ran clocked old to true h ran = let clash : false ≡ true = h in absurd (cc)

pub over_a_thread : (Ran : Bool → StreamsAt → StreamsAt → Type 0) (clocked : Bool) (old from to : StreamsAt) (clock : Bool) → not clock ≡ false
    → from.told ≡ old.told → from.sink_faults ≡ old.sink_faults → Ran true from to → RanOver Ran clocked clock old (back_with None to)
over_a_thread Ran clocked old from to true h told faults ran =
    record { from = from; to = to; source = λ off. let clash : true ≡ false = off in absurd (cc); before = told; before_faults = faults; after = refl; ran = ran }
over_a_thread Ran clocked old from to false h told faults ran = let clash : true ≡ false = h in absurd (cc)

-- Why a node wasn't run, where there was a clock or none.
pub not_over_these : {T E : Type 0} (Else : E → Type 0) (Ran : E → Bool → StreamsAt → StreamsAt → Type 0) (clocked : Bool) (old to : StreamsAt) (clock : Bool)
    → not clock ≡ true → (r : Result T E) → IfErr r (λ e. Ran e clocked old to) → IfErr r (λ e. Else e ⊎ RanOver (Ran e) clocked clock old (back_of to))
not_over_these Else Ran clocked old to clock h (Ok x) ran = tt
not_over_these Else Ran clocked old to clock h (Err e) ran = inr (over_these (Ran e) clocked old to clock h ran)

pub not_over_a_thread : {T E : Type 0} (Else : E → Type 0) (Ran : E → Bool → StreamsAt → StreamsAt → Type 0) (clocked : Bool) (old from to : StreamsAt) (clock : Bool)
    → not clock ≡ false → from.told ≡ old.told → from.sink_faults ≡ old.sink_faults → (r : Result T E) → IfErr r (λ e. Ran e true from to)
    → IfErr r (λ e. Else e ⊎ RanOver (Ran e) clocked clock old (back_with None to))
not_over_a_thread Else Ran clocked old from to clock h told faults (Ok x) ran = tt
not_over_a_thread Else Ran clocked old from to clock h told faults (Err e) ran = inr (over_a_thread (Ran e) clocked old from to clock h told faults ran)

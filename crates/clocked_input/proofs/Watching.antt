-- What is known of a watch through looks and waits.
use Rattle.std.proofs.Common.{◌≡◌, ℕ, ◌+◌, ◌∷◌, ◌++◌, [], Bool, List, Option, Some, None, refl, ap, sym, subst, ◌∙◌}
use Rattle.std.specs.Prelude.{All, ◌||◌}
use Rattle.std.proofs.lemmas.List.Elements.{All-cons, All-nil}
use Rattle.live_lines.specs.declared.clock.Awaited.{Awaited}
use Rattle.clocked_input.specs.Telling.{IsToldBy, WasLookedAt, WasWaitedFor, WatchView, end_of, passed_at, told_now}

-- each wait since was to end when what is due comes
abbrev pub IsWatched : ℕ → ℕ → Option WatchView → Option WatchView → Type 0
IsWatched told due None new = new ≡ None
IsWatched told due (Some old) None = ⊥
IsWatched told due (Some old) (Some new) =
    (waits : List ℕ) × (new.ends ≡ waits ++ old.ends) × All (λ end. end ≡ end_of told due) waits

pub unwatched_yet : (told due : ℕ) (view : Option WatchView) → IsWatched told due view view
unwatched_yet told due None = refl
unwatched_yet told due (Some view) = ([], refl, All-nil (λ end. end ≡ end_of told due))

pub waited : (told due : ℕ) (a b c d : Option WatchView) (ready : Bool) (nanos left : ℕ) → IsWatched told due a b → WasLookedAt ready nanos b c → WasWaitedFor left c d
    → nanos + left ≡ end_of told due → IsWatched told due a d
waited told due None None None d ready nanos left w l h e = h
waited told due None None (Some c) d ready nanos left w l h e = absurd cc
waited told due None (Some b) c d ready nanos left w l h e = absurd cc
waited told due (Some a) None c d ready nanos left w l h e = absurd w
waited told due (Some a) (Some b) c d ready nanos left (waits, is, all) l h e =
    subst (IsWatched told due (Some a)) (sym (subst (λ o. WasWaitedFor left o d) l h))
    ((nanos + left) ∷ waits, ap (λ xs. (nanos + left) ∷ xs) is, All-cons (λ end. end ≡ end_of told due) (nanos + left) waits e all)

pub told_by : (at_hand told_time : Bool) (told due : ℕ) (awaited : Awaited) (a b c : Option WatchView) (ready : Bool) (nanos : ℕ) → IsWatched told due a b → WasLookedAt ready nanos b c
    → told_now (at_hand || ready) told_time (passed_at told nanos) due ≡ Some awaited → IsToldBy at_hand told_time told due awaited a c
told_by at_hand told_time told due awaited None None c ready nanos w l is = l
told_by at_hand told_time told due awaited None (Some b) c ready nanos w l is = absurd cc
told_by at_hand told_time told due awaited (Some a) None c ready nanos w l is = absurd w
told_by at_hand told_time told due awaited (Some a) (Some b) c ready nanos (waits, ends, all) l is =
    subst (IsToldBy at_hand told_time told due awaited (Some a)) (sym l)
    (record { is = is; waits = waits; ends = ends; until = all })

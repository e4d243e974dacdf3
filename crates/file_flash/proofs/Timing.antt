-- The moments of a flash over a mirror, which are its calls.
use Rattle.std.proofs.Common.{◌≡◌, ◌⊎◌, ◌∙◌, ℕ, zero, suc, ◌+◌, ◌≤◌, List, [], ◌∷◌, ◌++◌, length, refl, sym, ap, subst, inl, inr, ⊎_elim, arith}
use Rattle.flash_model.specs.Octets.{IsContent, IsTorn}
use Rattle.flash_model.proofs.Mixed.{torn_content}
use Rattle.file_flash.specs.declared.saved.Call.{Call}
use Rattle.file_flash.specs.declared.saved.Saved.{Saved}
use Rattle.file_flash.specs.Backed.{IsTimed, TornSince, time_at}
use Rattle.file_flash.specs.Saved.{call_noted}

pub more_calls : (calls : List Call) (call : Call) → length (calls ++ call ∷ []) ≡ length calls + 1
more_calls [] call = refl
more_calls (x ∷ calls) call = omega (arith, more_calls calls call)

pub time_front : (calls : List Call) (call : Call) (now next t : ℕ) → t ≤ length calls → call.began ≡ now → time_at (calls ++ call ∷ []) next t ≡ time_at calls now t
time_front [] call now next zero le is = is
time_front [] call now next (suc t) le is = absurd (omega (arith, le))
time_front (x ∷ calls) call now next zero le is = refl
time_front (x ∷ calls) call now next (suc t) le is = time_front calls call now next t (omega (arith, le)) is

time_le : (calls : List Call) (call : Call) (now next : ℕ) → ((t : ℕ) → time_at calls now t ≤ now) → call.began ≡ now → now ≤ next
    → (t : ℕ) → time_at (calls ++ call ∷ []) next t ≤ next
time_le [] call now next h is le zero = omega (arith, is, le)
time_le [] call now next h is le (suc t) = omega arith
time_le (x ∷ calls) call now next h is le zero = let first = h zero in omega (arith, first, le)
time_le (x ∷ calls) call now next h is le (suc t) = time_le calls call now next (λ k. h (suc k)) is le t

pub torn_front : (calls : List Call) (call : Call) (t : ℕ) (c : List ℕ) → TornSince calls t c → TornSince (calls ++ call ∷ []) t c
torn_front [] call t c none = absurd none
torn_front (x ∷ calls) call zero c torn = ⊎_elim (λ h. inl h) (λ h. inr (torn_front calls call zero c h)) torn
torn_front (x ∷ calls) call (suc t) c torn = torn_front calls call t c torn

pub torn_last : (calls : List Call) (call : Call) (t : ℕ) (c : List ℕ) → t ≤ length calls → IsTorn call.old call.new c → TornSince (calls ++ call ∷ []) t c
torn_last [] call zero c le torn = inl torn
torn_last [] call (suc t) c le torn = absurd (omega (arith, le))
torn_last (x ∷ calls) call zero c le torn = inr (torn_last calls call zero c (omega arith) torn)
torn_last (x ∷ calls) call (suc t) c le torn = torn_last calls call t c (omega (arith, le)) torn

pub torn_push : (calls : List Call) (call : Call) (t : ℕ) (c : List ℕ) → TornSince (calls ++ call ∷ []) t c → TornSince calls t c ⊎ IsTorn call.old call.new c
torn_push [] call zero c torn = ⊎_elim (λ h. inr h) (λ none. absurd none) torn
torn_push [] call (suc t) c none = absurd none
torn_push (x ∷ calls) call zero c torn =
    ⊎_elim (λ h. inl (inl h)) (λ later. ⊎_elim (λ h. inl (inr h)) (λ h. inr h) (torn_push calls call zero c later)) torn
torn_push (x ∷ calls) call (suc t) c torn = torn_push calls call t c torn

-- one call more
module _ (saved after : Saved) (now next : ℕ) (old new : List ℕ) (is : after ≡ call_noted now old new saved) (timed : IsTimed saved now) where
  abbrev call : Call
  call = record { began = now; old = old; new = new }

  calls_are : after.calls ≡ saved.calls ++ call ∷ []
  calls_are = ap (λ (s : Saved). s.calls) is

  pub timed_noted : now ≤ next → IsContent old → IsContent new → IsTimed after next
  timed_noted le before behind = subst (λ (s : Saved). IsTimed s next) (sym is) (record {
    earlier = time_le saved.calls call now next timed.earlier refl le;
    contents = λ t c torn. ⊎_elim (λ h. timed.contents t c h) (λ h. torn_content old new c before behind h) (torn_push saved.calls call t c torn);
    began = (let le : saved.moment ≤ length (saved.calls ++ call ∷ []) = omega (arith, more_calls saved.calls call, timed.began) in le);
  })

  pub time_noted : (t : ℕ) → t ≤ length saved.calls → time_at after.calls next t ≡ time_at saved.calls now t
  time_noted t le = ap (λ (l : List Call). time_at l next t) calls_are ∙ time_front saved.calls call now next t le refl

  pub later_noted : length saved.calls ≤ length after.calls
  later_noted = omega (arith, ap (λ (l : List Call). length l) calls_are, more_calls saved.calls call)

  pub torn_noted : (t : ℕ) (c : List ℕ) → TornSince after.calls t c → TornSince saved.calls t c ⊎ IsTorn old new c
  torn_noted t c torn = torn_push saved.calls call t c (subst (λ (l : List Call). TornSince l t c) calls_are torn)

  pub torn_kept : (t : ℕ) (c : List ℕ) → TornSince saved.calls t c → TornSince after.calls t c
  torn_kept t c torn = subst (λ (l : List Call). TornSince l t c) (sym calls_are) (torn_front saved.calls call t c torn)

  pub front_kept : (c : List ℕ) → TornSince saved.calls saved.moment c → TornSince after.calls saved.moment c
  front_kept = torn_kept saved.moment

  pub front_noted : (c : List ℕ) → IsTorn old new c → TornSince after.calls saved.moment c
  front_noted c torn = subst (λ (l : List Call). TornSince l saved.moment c) (sym calls_are) (torn_last saved.calls call saved.moment c timed.began torn)

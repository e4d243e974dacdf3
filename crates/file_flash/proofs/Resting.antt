-- What a call leaves, where the place took it and where it refused.
use Rattle.std.proofs.Common.{◌≡◌, ◌∙◌, ℕ, ◌<◌, ◌≤◌, Bool, true, false, List, Some, None, refl, sym, ap, subst, inl, inr, ⊎_elim, arith, true≢false}
use Rattle.std.specs.Prelude.{◌==◌, Option, IsTrue, Result}
use Rattle.std.proofs.lemmas.Bool.{lt-ltb}
use Rattle.std.proofs.lemmas.List.{ext_get_or}
use Rattle.std.proofs.lemmas.Nat.Bits.{bit_at_above, same_from_bits}
use Rattle.flash_model.specs.Arming.{Follows, ObeysArm, is_cut, mask_of, tearing}
use Rattle.flash_model.specs.Chip.{Chip, Cut, Elapses, IsCut, Keeps, Remembers, Setting, Stays}
use Rattle.flash_model.specs.Octets.{IsMixed, IsTorn}
use Rattle.flash_model.proofs.Bits.{between_same}
use Rattle.flash_model.proofs.Mixed.{torn_none}
use Rattle.file_flash.specs.declared.saved.Saved.{Saved}
use Rattle.file_flash.specs.Backed.{IsRest, IsTimed, backed_chip, time_at}
use Rattle.file_flash.specs.Saved.{call_noted}
use Rattle.file_flash.proofs.Timing.{later_noted, time_noted, torn_kept, torn_noted}

-- what stays can't be torn
torn_stays : (old c : List ℕ) → IsTorn old old c → c ≡ old
torn_stays old c torn = ext_get_or 0 c old torn.size (λ i _. between_same _ _ (torn.each i))

-- mask 00 takes nothing
mixed_none : (old new x : List ℕ) → IsMixed 0 old new x → x ≡ old
mixed_none old new x so = ext_get_or 0 x old so.size (λ i _. same_from_bits _ _ (λ j. (so.each i).kept j (bit_at_above 0 0 j (omega arith) (omega arith))))

module _ {T E : Type 0} where
  follows_none : (cut : Bool) (mask : Option ℕ) (change : List ℕ → List ℕ) (old new : List ℕ) (result : Result T E) → mask ≡ Some 0 → Follows cut mask change old new result → new ≡ old
  follows_none true mask change old new result e h = h.1
  follows_none false (Some m) change old new result e h = mixed_none old (change old) new (subst (λ (o : Option ℕ). Follows false o change old new result) e h).1
  follows_none false None change old new result e h = absurd (cc)

  -- the torn call under mask 00 leaves what is read
  pub now_stays : (change : List ℕ → List ℕ) (m0 m1 m2 : Chip) (result : Result T E) (k : ℕ) → m1.left ≡ 0
      → m1.setting ≡ record m0.setting { arm = Some (record { calls = 0; mask = 0; changes = k }) }
      → ObeysArm change m1 m2 result → m2.now ≡ m1.now
  now_stays change m0 m1 m2 result k left setting obeys =
      let torn : tearing m1 ≡ Some 0 = ap (λ (s : Setting). mask_of (m1.left == 0) s.arm) setting ∙ ap (λ (n : ℕ). mask_of (n == 0) (Some (record { calls = 0; mask = 0; changes = k }))) left in
      follows_none (is_cut m1) (tearing m1) change m1.now m2.now result torn obeys.course

  -- a call of a flash that was cut leaves it too
  pub now_dead : (change : List ℕ → List ℕ) (m0 m2 : Chip) (result : Result T E) → m0.setting.faults < m0.faults → ObeysArm change m0 m2 result → m2.now ≡ m0.now
  now_dead change m0 m2 result cut obeys =
      let is : is_cut m0 ≡ true = lt-ltb m0.setting.faults m0.faults cut in
      (subst (λ (b : Bool). Follows b (tearing m0) change m0.now m2.now result) is obeys.course).1

-- A call that was noted: the mirror was m0 and becomes m2, with the goal g1 when the call was noted.
module _ (m0 m2 g0 g1 g2 : Chip) (failed fails : Bool) (saved after : Saved) (is : after ≡ call_noted m0.moment m0.now g1.now saved)
    (timed : IsTimed saved m0.moment) (rests : (c : List ℕ) → IsRest failed m0 g0 c → IsRest fails m2 g2 c) where
  pub remembers : Remembers m0 m2 → Remembers (backed_chip m0 g0 failed saved) (backed_chip m2 g2 fails after)
  remembers past = record {
    later = later_noted saved after m0.moment m2.moment m0.now g1.now is timed;
    keeps = λ t c le since. ⊎_elim
        (λ s. inl (⊎_elim
        (λ h. inl (subst (λ (u : ℕ). m2.since u c) (sym (time_noted saved after m0.moment m2.moment m0.now g1.now is timed t le)) (past.keeps _ c (timed.earlier t) h)))
        (λ rest. inr (rests c rest))
        s))
        (λ torn. inr (torn_kept saved after m0.moment m2.moment m0.now g1.now is timed t c torn))
        since;
  }

  pub framed : m2.honest ≡ m0.honest → m2.setting.faults ≡ m0.setting.faults → m0.faults ≤ m2.faults → Remembers m0 m2
      → Keeps (backed_chip m0 g0 failed saved) (backed_chip m2 g2 fails after)
  framed honest faults later past = record {
    honest = honest;
    steady = refl;
    setting = ap (λ (n : ℕ). record { faults = n; arm = None; saved = after.octets; moment = after.moment; called = after.called; programmed = after.programmed; cycles = 0 }) faults
        ∙ ap (λ (s : Saved). record { faults = m0.setting.faults; arm = None; saved = s.octets; moment = s.moment; called = s.called; programmed = s.programmed; cycles = 0 }) is;
    later = later;
    sure = λ no. absurd (true≢false (sym no));
    past = remembers past;
  }

  pub elapses : (within allowed : List ℕ → Type 0) → Elapses m0 m2 within → ((c : List ℕ) → within c → allowed c)
      → ((c : List ℕ) → IsRest fails m2 g2 c → allowed c) → ((c : List ℕ) → IsTorn m0.now g1.now c → allowed c)
      → Elapses (backed_chip m0 g0 failed saved) (backed_chip m2 g2 fails after) allowed
  elapses within allowed time cut rest torn =
      let past = remembers (record { later = time.later; keeps = time.keeps }) in
      record {
        later = past.later;
        nothing_else = λ t c le since. ⊎_elim
            (λ s. ⊎_elim
            (λ h. ⊎_elim (λ old. inl (inl (inl old))) (λ w. inr (cut c w)) (time.nothing_else (time_at saved.calls m0.moment t) c (timed.earlier t)
            (subst (λ (u : ℕ). m2.since u c) (time_noted saved after m0.moment m2.moment m0.now g1.now is timed t le) h)))
            (λ r. inr (rest c r))
            s)
            (λ h. ⊎_elim (λ old. inl (inr old)) (λ new. inr (torn c new)) (torn_noted saved after m0.moment m2.moment m0.now g1.now is timed t c h))
            since;
        keeps = past.keeps;
      }

-- two calls of the mirror are one
pub elapses_both : (m0 m1 m2 : Chip) (change : List ℕ → List ℕ) → Stays m0 m1 → IsCut change m1 m2 → Elapses m0 m2 (Cut change m0.images)
elapses_both m0 m1 m2 change stays any = record {
  later = omega (arith, stays.time.later, any.time.later);
  nothing_else = λ t c le since. ⊎_elim
      (λ s. ⊎_elim (λ s0. inl s0) (λ i0. inr (c, i0, torn_none c (change c))) (stays.time.nothing_else t c le s))
      (λ cut. inr (cut.0, stays.images cut.0 cut.1, cut.2))
      (any.time.nothing_else t c (omega (arith, le, stays.time.later)) since);
  keeps = λ t c le since. any.time.keeps t c (omega (arith, le, stays.time.later)) (stays.time.keeps t c le since);
}

pub remembers_both : (m0 m1 m2 : Chip) → Remembers m0 m1 → Remembers m1 m2 → Remembers m0 m2
remembers_both m0 m1 m2 a b = record {
  later = omega (arith, a.later, b.later);
  keeps = λ t c le since. b.keeps t c (omega (arith, le, a.later)) (a.keeps t c le since);
}

-- what a flash that didn't fail rests on is nothing
pub no_rest : (m0 m2 g0 g2 : Chip) (failed fails : Bool) → failed ≡ false → (c : List ℕ) → IsRest failed m0 g0 c → IsRest fails m2 g2 c
no_rest m0 m2 g0 g2 failed fails off c rest = absurd (true≢false (sym rest.0 ∙ off))

pub same_rest : (m0 m2 g : Chip) (failed : Bool) → m2.now ≡ m0.now → (c : List ℕ) → IsRest failed m0 g c → IsRest failed m2 g c
same_rest m0 m2 g failed same c rest = (rest.0, subst (λ (l : List ℕ). IsTorn l g.now c) (sym same) rest.1)

-- a read, or a call of a flash that failed: what was noted of it is there
pub still : (m g : Chip) (failed : Bool) (saved : Saved) → (failed ≡ false → g.now ≡ m.now) → m.images m.now → (c : List ℕ) → IsTorn m.now g.now c
    → (backed_chip m g failed saved).images c
still m g true saved same image c torn = inr (refl, torn)
still m g false saved same image c torn = inl (subst m.images (sym (torn_stays m.now c (subst (λ (l : List ℕ). IsTorn m.now l c) (same refl) torn))) image)

pub refused : (m0 m1 m2 g0 g1 g : Chip) (change : List ℕ → List ℕ) (saved after : Saved) (failed : Bool) → failed ≡ false
    → after ≡ call_noted m0.moment m0.now g1.now saved → IsTimed saved m0.moment → Stays m0 m1 → IsCut change m1 m2 → m2.now ≡ m1.now → m0.images m0.now
    → g1.now ≡ change m0.now → g.now ≡ change m0.now
    → IsCut change (backed_chip m0 g0 failed saved) (backed_chip m2 g true after)
refused m0 m1 m2 g0 g1 g change saved after failed off is timed stays any same image first goal = record {
  images = λ c h. ⊎_elim (λ i. old_image c i) (λ rest. left c rest) h;
  time = elapses m0 m2 g0 g1 g failed true saved after is timed (no_rest m0 m2 g0 g failed true off) (Cut change m0.images) _ (elapses_both m0 m1 m2 change stays any)
      (λ c cut. (cut.0, inl cut.1, cut.2)) left (λ c torn. (m0.now, inl image, subst (λ (l : List ℕ). IsTorn m0.now l c) first torn));
}
  where
    old_image : (c : List ℕ) → m2.images c → Cut change (backed_chip m0 g0 failed saved).images c
    old_image c i = let cut = any.images c i in (cut.0, inl (stays.images cut.0 cut.1), cut.2)

    left : (c : List ℕ) → IsRest true m2 g c → Cut change (backed_chip m0 g0 failed saved).images c
    left c rest = (m0.now, inl image, subst (λ (l : List ℕ). IsTorn m0.now l c) goal (subst (λ (l : List ℕ). IsTorn l g.now c) (same ∙ stays.now) rest.1))

-- a call that the place took
pub done : (m0 m2 g0 g1 g : Chip) (change : List ℕ → List ℕ) (saved after : Saved) (failed : Bool) → failed ≡ false
    → after ≡ call_noted m0.moment m0.now g1.now saved → IsTimed saved m0.moment → IsCut change m0 m2 → m0.images m0.now → g1.now ≡ change m0.now
    → IsCut change (backed_chip m0 g0 failed saved) (backed_chip m2 g failed after)
done m0 m2 g0 g1 g change saved after failed off is timed any image first = record {
  images = λ c h. ⊎_elim (λ i. let cut = any.images c i in (cut.0, inl cut.1, cut.2)) (λ rest. absurd (true≢false (sym rest.0 ∙ off))) h;
  time = elapses m0 m2 g0 g1 g failed failed saved after is timed (no_rest m0 m2 g0 g failed failed off) (Cut change m0.images) _ any.time
      (λ c cut. (cut.0, inl cut.1, cut.2)) (λ c rest. absurd (true≢false (sym rest.0 ∙ off)))
      (λ c torn. (m0.now, inl image, subst (λ (l : List ℕ). IsTorn m0.now l c) first torn));
}

-- a call of a flash that failed
pub dead : (m0 m2 g : Chip) (change : List ℕ → List ℕ) (saved after : Saved) (failed : Bool) → (failed ≡ false → g.now ≡ m0.now)
    → after ≡ call_noted m0.moment m0.now g.now saved → IsTimed saved m0.moment → IsCut change m0 m2 → m0.images m0.now → m2.now ≡ m0.now
    → IsCut change (backed_chip m0 g failed saved) (backed_chip m2 g failed after)
dead m0 m2 g change saved after failed alive is timed any image same = record {
  images = λ c h. ⊎_elim (λ i. let cut = any.images c i in (cut.0, inl cut.1, cut.2)) (λ rest. left c rest) h;
  time = elapses m0 m2 g g g failed failed saved after is timed (same_rest m0 m2 g failed same) (Cut change m0.images) _ any.time
      (λ c cut. (cut.0, inl cut.1, cut.2)) left
      (λ c torn. (c, still m0 g failed saved alive image c torn, torn_none c (change c)));
}
  where
    left : (c : List ℕ) → IsRest failed m2 g c → Cut change (backed_chip m0 g failed saved).images c
    left c rest = (c, inr (rest.0, subst (λ (l : List ℕ). IsTorn l g.now c) same rest.1), torn_none c (change c))

-- a read
pub stayed : (m0 m2 g : Chip) (saved after : Saved) (failed : Bool) → (failed ≡ false → g.now ≡ m0.now)
    → after ≡ call_noted m0.moment m0.now g.now saved → IsTimed saved m0.moment → Stays m0 m2 → m0.images m0.now
    → Stays (backed_chip m0 g failed saved) (backed_chip m2 g failed after)
stayed m0 m2 g saved after failed alive is timed stays image = record {
  now = stays.now;
  images = λ c h. ⊎_elim (λ i. inl (stays.images c i)) (λ rest. left c rest) h;
  time = elapses m0 m2 g g g failed failed saved after is timed (same_rest m0 m2 g failed stays.now) m0.images _ stays.time
      (λ c i. inl i) left (still m0 g failed saved alive image);
}
  where
    left : (c : List ℕ) → IsRest failed m2 g c → (backed_chip m0 g failed saved).images c
    left c rest = inr (rest.0, subst (λ (l : List ℕ). IsTorn l g.now c) stays.now rest.1)

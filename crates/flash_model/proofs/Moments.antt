-- One call of a flash in memory: what it adds to the past, and what its images are.
use Rattle.std.proofs.Common.{◌≡◌, ◌⊎◌, ℕ, ◌-◌, ◌≤◌, List, [], ◌∷◌, ◌++◌, length, drop, take, Bool, true, false, cond, Option, Some, None, Err, refl, sym, ap, ◌∙◌, subst, inl, inr, ⊎_elim, arith, length-append}
use Rattle.std.specs.Prelude.{nat_lt, ◌==◌, option_map}
use Rattle.std.proofs.lemmas.Bool.{le-ltb}
use Rattle.std.proofs.lemmas.Grind.{common_steps}
use Rattle.std.proofs.lemmas.List.{drop-append-le}
use Rattle.flash_model.specs.declared.armed.Armed.{Armed}
use Rattle.flash_model.specs.declared.armed.Course.TheVariants.{Whole, Torn}
use Rattle.flash_model.specs.declared.past.Past.{Past}
use Rattle.flash_model.specs.Octets.{IsContent, IsMixed, IsTorn}
use Rattle.flash_model.specs.Chip.{Cut, Elapses, IsCut, IsDone, Remembers, Stays}
use Rattle.flash_model.specs.Arming.{Follows, mask_of}
use Rattle.flash_model.specs.Course.{course_of, nearer_arm}
use Rattle.flash_model.specs.Past.{HadBeen}
use Rattle.flash_model.specs.Memory.{arm_of, left_of, mem_chip}

had_last : (past : List (List ℕ)) (x c : List ℕ) → c ≡ x → HadBeen (past ++ x ∷ []) c
had_last [] x c e = inl e
had_last (y ∷ past) x c e = inr (had_last past x c e)

had_front : (past : List (List ℕ)) (x c : List ℕ) → HadBeen past c → HadBeen (past ++ x ∷ []) c
had_front [] x c had = absurd had
had_front (y ∷ past) x c (inl e) = inl e
had_front (y ∷ past) x c (inr had) = inr (had_front past x c had)

had_push : (past : List (List ℕ)) (x c : List ℕ) → HadBeen (past ++ x ∷ []) c → HadBeen past c ⊎ (c ≡ x)
had_push [] x c (inl e) = inr e
had_push [] x c (inr none) = absurd none
had_push (y ∷ past) x c (inl e) = inl (inl e)
had_push (y ∷ past) x c (inr had) = ⊎_elim (λ h. inl (inr h)) (λ e. inr e) (had_push past x c had)

pub contents_more : (past more : List (List ℕ)) (x : List ℕ) → more ≡ past ++ x ∷ [] → IsContent x → ((c : List ℕ) → HadBeen past c → IsContent c) → (c : List ℕ) → HadBeen more c → IsContent c
contents_more past more x is now before c had =
    ⊎_elim (λ h. before c h) (λ (e : c ≡ x). subst IsContent (sym e) now) (had_push past x c (subst (λ l. HadBeen l c) is had))

-- a call that found `old` and leaves `new`
module _ (past past' : Past) (old new : List ℕ) (changes changes' erases erases' programmed programmed' reads reads' : ℕ) (arm arm' : Option Armed) (is : past'.contents ≡ past.contents ++ old ∷ []) where
  pub time_note : (allowed : List ℕ → Type 0) → allowed new → Elapses (mem_chip past old changes erases programmed reads arm) (mem_chip past' new changes' erases' programmed' reads' arm') allowed
  time_note allowed ok = record {
    later = omega (arith, ap (λ (l : List (List ℕ)). length l) is, length-append past.contents (old ∷ []));
    nothing_else = λ t c le since. ⊎_elim
        (λ (e : c ≡ new). inr (subst allowed (sym e) ok))
        (λ had. inl (⊎_elim (λ h. inr h) (λ e. inl e) (had_push (drop t past.contents) old c (subst (λ l. HadBeen l c) (pushed t le) had))))
        since;
    keeps = λ t c le since. inr (subst (λ l. HadBeen l c) (sym (pushed t le))
        (⊎_elim (λ (e : c ≡ old). had_last (drop t past.contents) old c e) (λ had. had_front (drop t past.contents) old c had) since));
  }
    where
      pushed : (t : ℕ) → t ≤ length past.contents → drop t past'.contents ≡ drop t past.contents ++ old ∷ []
      pushed t le = ap (drop t) is ∙ drop-append-le t past.contents (old ∷ []) le

  pub past_note : Remembers (mem_chip past old changes erases programmed reads arm) (mem_chip past' new changes' erases' programmed' reads' arm')
  past_note = let time = time_note (λ c. c ≡ new) refl in record { later = time.later; keeps = time.keeps }

  pub cut_note : (change : List ℕ → List ℕ) → IsTorn old (change old) new → IsCut change (mem_chip past old changes erases programmed reads arm) (mem_chip past' new changes' erases' programmed' reads' arm')
  cut_note change torn = record {
    images = λ c e. (old, refl, subst (λ x. IsTorn old (change old) x) (sym e) torn);
    time = time_note (Cut change (λ c. c ≡ old)) (old, refl, torn);
  }

  pub done_note : (change : List ℕ → List ℕ) → new ≡ change old → IsDone change (mem_chip past old changes erases programmed reads arm) (mem_chip past' new changes' erases' programmed' reads' arm')
  done_note change e = record { reads = e; durable = λ c at. (old, refl, at ∙ e) }

  pub stays_note : new ≡ old → Stays (mem_chip past old changes erases programmed reads arm) (mem_chip past' new changes' erases' programmed' reads' arm')
  stays_note e = record { now = e; images = λ c at. at ∙ e; time = time_note (λ c. c ≡ old) e }

pub not_cut : (cycled faults : ℕ) → faults ≡ cycled → nat_lt cycled faults ≡ false
not_cut cycled faults e = le-ltb cycled faults (omega arith)

-- the torn call
pub torn_follows : (T E : Type 0) (failed : Bool) (arm : Option Armed) (past : Past) (mask : ℕ) (change : List ℕ → List ℕ) (old new : List ℕ) (error : E)
    → course_of failed arm ≡ Torn mask → (failed ≡ false → past.faults ≡ past.cycled) → IsMixed mask old (change old) new
    → Follows {T = T} {E = E} (nat_lt past.cycled past.faults) (mask_of (left_of arm == 0) (option_map arm_of arm)) change old new (Err error)
torn_follows T E true arm past mask change old new error course whole so = absurd cc
torn_follows T E false None past mask change old new error course whole so = absurd cc
torn_follows T E false (Some a) past mask change old new error course whole so =
    let P : Bool → Type 0 = λ b. Follows {T = T} {E = E} b (mask_of (a.left == 0) (Some (arm_of a))) change old new (Err error) in
    subst P (sym (not_cut past.cycled past.faults (whole refl))) (by_left (a.left == 0) course)
  where
    by_left : (b : Bool) → cond b (Torn a.mask) Whole ≡ Torn mask → Follows {T = T} {E = E} false (mask_of b (Some (arm_of a))) change old new (Err error)
    by_left true e = let same : a.mask ≡ mask = cc in (refl, subst (λ m. IsMixed m old (change old) new) (sym same) so)
    by_left false e = absurd cc

-- a vector whose items were written through a slice
written_back : (n : ℕ) (new held : List ℕ) → n ≡ length held → length new ≡ length held → take n (new ++ drop (length new) held) ≡ new
written_back n new held e same = grind (arith, common_steps)

module _ (mask n : ℕ) (change : List ℕ → List ℕ) (old held lent new : List ℕ) (value : lent ≡ held) (same : held ≡ old) (len : length lent ≡ n) (so : IsMixed mask lent (change lent) new) where
  pub wrote : IsMixed mask old (change old) (take n (new ++ drop (length new) held))
  wrote =
      let back = written_back n new held (sym len ∙ ap (λ (l : List ℕ). length l) value) (so.size ∙ ap (λ (l : List ℕ). length l) value) in
      subst (λ (l : List ℕ). IsMixed mask old (change old) l) (sym back) (subst (λ (l : List ℕ). IsMixed mask l (change l) new) (value ∙ same) so)

pub left_nearer : (arm : Option Armed) → left_of (nearer_arm arm) ≡ left_of arm - 1
left_nearer None = refl
left_nearer (Some a) = refl

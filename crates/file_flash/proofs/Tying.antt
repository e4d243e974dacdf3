-- What the place holds behind a call.
use Rattle.std.proofs.Common.{◌≡◌, ◌∙◌, ℕ, zero, suc, ◌+◌, ◌-◌, ◌≤◌, Bool, true, false, List, [], ◌∷◌, ◌++◌, length, take, drop, Some, None, refl, sym, ap, subst, ⊎_elim, arith, true≢false, append_assoc}
use Rattle.std.proofs.lemmas.Nat.Bits.{bit_at_and, same_from_bits}
use Rattle.std.proofs.lemmas.Slice.{drop-put_mid, take-put_mid}
use borrow.Rule.Slice.PartMut.{put_mid}
use Rattle.std.specs.Int.{bit_at}
use Rattle.std.specs.Prelude.{Option, Result, Ok, Err, IsOk, OnOk, min, replicate, bit_and, slice_range}
use Rattle.flash_model.specs.Chip.{Chip}
use Rattle.flash_model.specs.Octets.{IsTorn, programmed, blanked}
use Rattle.file_flash.specs.Backed.{IsKept, IsTied}
use Rattle.file_flash.specs.Backing.{WasPut, WasTorn, put_at}
use Rattle.file_flash.specs.Noted.{AreNoted, Put, and_put, written}

-- what is put is what is to be
pub put_programmed : (at : ℕ) (bytes old : List ℕ) → put_at at (take (length bytes) (drop at (programmed at bytes old))) old ≡ programmed at bytes old
put_programmed at bytes [] = refl
put_programmed (suc at) bytes (x ∷ old) = ap (λ l. x ∷ l) (put_programmed at bytes old)
put_programmed zero [] (x ∷ old) = refl
put_programmed zero (b ∷ bytes) (x ∷ old) = ap (λ l. bit_and x b ∷ l) (put_programmed zero bytes old)

pub put_blanked : (at n : ℕ) (old : List ℕ) → put_at at (replicate n 255) old ≡ blanked at n old
put_blanked at n [] = refl
put_blanked (suc at) n (x ∷ old) = ap (λ l. x ∷ l) (put_blanked at n old)
put_blanked zero zero (x ∷ old) = refl
put_blanked zero (suc n) (x ∷ old) = ap (λ l. 255 ∷ l) (put_blanked zero n old)

kept_of : (old new octets : List ℕ) → IsTorn old new octets → IsKept old new octets
kept_of old new octets torn = record { size = torn.size; each = λ o j same. ⊎_elim (λ e. e) (λ e. e ∙ sym same) (torn.each o j) }

kept_all : (old new : List ℕ) → IsKept old new old
kept_all old new = record { size = refl; each = λ o j same. refl }

-- a call that left both
pub tied_same : (failed : Bool) (m g m' : Chip) (held : Option (List ℕ)) → m'.now ≡ m.now → IsTied failed m g held → IsTied failed m' g held
tied_same failed m g m' held same t = record {
  told = λ c is off. t.told c is off ∙ sym same;
  torn = λ c is. subst (λ (l : List ℕ). IsKept l g.now c) (sym same) (t.torn c is);
}

was_put : (at : ℕ) (bytes : List ℕ) (old new : Option (List ℕ)) (c : List ℕ) → WasPut at bytes old new → new ≡ Some c → (d : List ℕ) × (old ≡ Some d) × (c ≡ put_at at bytes d)
was_put at bytes None None c h is = absurd (cc)
was_put at bytes None (Some e) c h is = absurd (cc)
was_put at bytes (Some d) None c h is = absurd (cc)
was_put at bytes (Some d) (Some e) c h is = (d, refl, (let same : e ≡ c = cc in sym same ∙ h))

was_torn : (at : ℕ) (bytes : List ℕ) (old new : Option (List ℕ)) (c : List ℕ) → WasTorn at bytes old new → new ≡ Some c → (d : List ℕ) × (old ≡ Some d) × IsTorn d (put_at at bytes d) c
was_torn at bytes None None c h is = absurd (cc)
was_torn at bytes None (Some e) c h is = absurd (cc)
was_torn at bytes (Some d) None c h is = absurd (cc)
was_torn at bytes (Some d) (Some e) c h is = (d, refl, (let same : e ≡ c = cc in subst (λ (l : List ℕ). IsTorn d (put_at at bytes d) l) same h))

-- a call that the place took
pub tied_put : (at : ℕ) (bytes : List ℕ) (change : List ℕ → List ℕ) (failed : Bool) (m g m' g' : Chip) (old new : Option (List ℕ)) → failed ≡ false → IsTied failed m g old
    → WasPut at bytes old new → put_at at bytes m.now ≡ change m.now → m'.now ≡ change m.now → IsTied failed m' g' new
tied_put at bytes change failed m g m' g' old new off t put is now = record {
  told = λ c some _. whole c some;
  torn = λ c some. subst (λ (l : List ℕ). IsKept m'.now g'.now l) (sym (whole c some)) (kept_all m'.now g'.now);
}
  where
    whole : (c : List ℕ) → new ≡ Some c → c ≡ m'.now
    whole c some =
        let was = was_put at bytes old new c put some in
        was.2 ∙ ap (put_at at bytes) (t.told was.0 was.1 off) ∙ is ∙ sym now

-- a call that it refused
pub tied_torn : (at : ℕ) (bytes : List ℕ) (change : List ℕ → List ℕ) (failed : Bool) (m g m' g' : Chip) (old new : Option (List ℕ)) → failed ≡ false → IsTied failed m g old
    → WasTorn at bytes old new → put_at at bytes m.now ≡ change m.now → m'.now ≡ m.now → g'.now ≡ change m.now → IsTied true m' g' new
tied_torn at bytes change failed m g m' g' old new off t torn is now goal = record {
  told = λ c some no. absurd (true≢false no);
  torn = λ c some.
      let was = was_torn at bytes old new c torn some in
      let base = subst (λ (d : List ℕ). IsTorn d (put_at at bytes d) c) (t.told was.0 was.1 off) was.2 in
      subst (λ (l : List ℕ). IsKept l g'.now c) (sym now) (subst (λ (l : List ℕ). IsKept m.now l c) (sym goal) (kept_of m.now (change m.now) c (subst (λ (l : List ℕ). IsTorn m.now l c) is base)));
}

pub on_ok : {T E : Type 0} (P : Type 0) (r : Result T E) → IsOk r → OnOk r P → P
on_ok P (Ok x) is h = h
on_ok P (Err e) is h = absurd (true≢false (sym is))

and_again : (x b : ℕ) → bit_and x (bit_and x b) ≡ bit_and x b
and_again x b = same_from_bits _ _ (λ j.
    bit_at_and x (bit_and x b) j ∙ ap (min (bit_at x j)) (bit_at_and x b j) ∙ (omega arith) ∙ sym (bit_at_and x b j))

-- what was programmed, programmed again
programmed_again : (at : ℕ) (bytes old : List ℕ) → programmed at (take (length bytes) (drop at (programmed at bytes old))) old ≡ programmed at bytes old
programmed_again at bytes [] = refl
programmed_again (suc at) bytes (x ∷ old) = ap (λ l. x ∷ l) (programmed_again at bytes old)
programmed_again zero [] (x ∷ old) = refl
programmed_again zero (b ∷ bytes) (x ∷ old) = ap (λ (y : ℕ). y ∷ programmed zero (take (length bytes) (programmed zero bytes old)) old) (and_again x b) ∙ ap (λ l. bit_and x b ∷ l) (programmed_again zero bytes old)

pub range_again : (at : ℕ) (bytes old : List ℕ) → programmed at (slice_range (programmed at bytes old) at (at + length bytes)) old ≡ programmed at bytes old
range_again at bytes old =
    let n : at + length bytes - at ≡ length bytes = omega arith in
    subst (λ (k : ℕ). programmed at (take k (drop at (programmed at bytes old))) old ≡ programmed at bytes old) (sym n) (programmed_again at bytes old)

-- what the range holds that was programmed
pub put_range : (at : ℕ) (bytes old : List ℕ) → put_at at (slice_range (programmed at bytes old) at (at + length bytes)) old ≡ programmed at bytes old
put_range at bytes old =
    let n : at + length bytes - at ≡ length bytes = omega arith in
    subst (λ (k : ℕ). put_at at (take k (drop at (programmed at bytes old))) old ≡ programmed at bytes old) (sym n) (put_programmed at bytes old)

pub put_whole : (at e : ℕ) (bytes old : List ℕ) → e ≡ at + length bytes → e ≤ length old → take at old ++ (bytes ++ drop e old) ≡ put_at at bytes old
put_whole zero zero [] [] is h = refl
put_whole zero zero [] (x ∷ old) is h = refl
put_whole zero zero (b ∷ bytes) old is h = absurd (omega (arith, is))
put_whole zero (suc e) [] old is h = absurd (omega (arith, is))
put_whole zero (suc e) (b ∷ bytes) [] is h = absurd (omega (arith, h))
put_whole zero (suc e) (b ∷ bytes) (x ∷ old) is h = ap (λ l. b ∷ l) (put_whole zero e bytes old (omega (arith, is)) (omega (arith, h)))
put_whole (suc at) zero bytes old is h = absurd (omega (arith, is))
put_whole (suc at) (suc e) bytes [] is h = absurd (omega (arith, h))
put_whole (suc at) (suc e) bytes (x ∷ old) is h = ap (λ l. x ∷ l) (put_whole at e bytes old (omega (arith, is)) (omega (arith, h)))

take_drop : (i : ℕ) (xs : List ℕ) → take i xs ++ drop i xs ≡ xs
take_drop zero xs = refl
take_drop (suc i) [] = refl
take_drop (suc i) (x ∷ xs) = ap (λ l. x ∷ l) (take_drop i xs)

pub put_part : (at k : ℕ) (bytes old : List ℕ) → k ≡ length bytes → at + length bytes ≤ length old → put_mid at k old bytes ≡ put_at at bytes old
put_part at k bytes old is h =
    let e : ℕ = at + length bytes in
    let low : at ≤ length old = omega (arith, h) in
    let front = take-put_mid at k old bytes e refl low in
    let back = drop-put_mid at k old bytes e (omega (arith, is)) low (sym is) in
    sym (take_drop e (put_mid at k old bytes)) ∙ ap (λ l. l ++ drop e (put_mid at k old bytes)) front ∙ ap (λ l. (take at old ++ bytes) ++ l) back
    ∙ append_assoc (take at old) bytes (drop e old) ∙ put_whole at e bytes old refl h

-- ---- the writes that are noted
written_more : (puts : List Put) (put : Put) (old : List ℕ) → written (puts ++ put ∷ []) old ≡ put_at put.at put.octets (written puts old)
written_more [] put old = refl
written_more (p ∷ puts) put old = written_more puts put (put_at p.at p.octets old)

pub some_is : {A : Type 0} (a b : A) → ◌≡◌ {A = Option A} (Some a) (Some b) → a ≡ b
some_is a b is = cc

pub none_some : {A : Type 0} (a : A) → ◌≡◌ {A = Option A} None (Some a) → ⊥
none_some a is = cc

-- one write more
pub noted_put : (put : Put) (saved now next : List ℕ) (old new : Option (List Put)) → new ≡ and_put put old → AreNoted old saved now → put_at put.at put.octets now ≡ next → AreNoted new saved next
noted_put put saved now next None new is h same puts some = absurd (none_some puts (sym is ∙ some))
noted_put put saved now next (Some before) new is h same puts some =
    let all = some_is (before ++ put ∷ []) puts (sym is ∙ some) in
    subst (λ (l : List Put). written l saved ≡ next) all (written_more before put saved ∙ ap (put_at put.at put.octets) (h before refl) ∙ same)

-- none more
pub noted_same : (saved now next : List ℕ) (old new : Option (List Put)) → new ≡ old → AreNoted old saved now → next ≡ now → AreNoted new saved next
noted_same saved now next old new is h same puts some = h puts (sym is ∙ some) ∙ sym same

-- none at all, where what is read was saved
pub noted_none : (saved now : List ℕ) (waiting : Option (List Put)) → ((puts : List Put) → waiting ≡ Some puts → puts ≡ []) → saved ≡ now → AreNoted waiting saved now
noted_none saved now waiting none same puts some = ap (λ (l : List Put). written l saved) (none puts some) ∙ same

pub some_none : (puts : List Put) → ◌≡◌ {A = Option (List Put)} (Some []) (Some puts) → puts ≡ []
some_none puts is = sym (some_is [] puts is)

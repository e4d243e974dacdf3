-- Octets written one after another under a mask, and what that is for a cut and for a whole call.
use Rattle.std.proofs.Common.{◌≡◌, ◌≢◌, ℕ, zero, suc, ◌+◌, ◌<◌, ◌≤◌, List, [], ◌∷◌, ◌++◌, length, get_or, take, set, replicate, length-take, refl, sym, ap, ◌∙◌, subst, inl, inr, ⊎_elim, arith}
use Rattle.std.specs.Prelude.{bit_and}
use Rattle.std.specs.Int.{bit_at}
use Rattle.std.proofs.lemmas.Bool.{cases_eq}
use Rattle.std.proofs.lemmas.List.{get_or-set_same, get_or-set_other, length-set, ext_get_or, take_more, length-replicate}
use Rattle.std.proofs.lemmas.Nat.{and_le_l}
use Rattle.flash_model.specs.Octets.{IsContent, IsMasked, IsMixed, IsTorn, IsBetween, programmed, blanked}
use Rattle.flash_model.proofs.Bits.{masked_same, masked_whole, masked_between, between_small, between_same}
use Rattle.flash_model.proofs.Changed.{length-programmed, length-blanked}

-- ---- one octet more
programmed_none : (at : ℕ) (old : List ℕ) → programmed at [] old ≡ old
programmed_none at [] = refl
programmed_none (suc at) (x ∷ old) = ap (λ l. x ∷ l) (programmed_none at old)
programmed_none zero (x ∷ old) = refl

blanked_none : (at : ℕ) (old : List ℕ) → blanked at 0 old ≡ old
blanked_none at [] = refl
blanked_none (suc at) (x ∷ old) = ap (λ l. x ∷ l) (blanked_none at old)
blanked_none zero (x ∷ old) = refl

programmed_last : (at : ℕ) (xs : List ℕ) (b : ℕ) (old : List ℕ) (o : ℕ) → o ≡ at + length xs → o < length old → get_or (programmed at (xs ++ b ∷ []) old) o 0 ≡ bit_and (get_or old o 0) b
programmed_last at xs b [] o e h = absurd (omega arith)
programmed_last (suc at) xs b (x ∷ old) zero e h = absurd (omega arith)
programmed_last (suc at) xs b (x ∷ old) (suc o) e h = programmed_last at xs b old o (omega arith) (omega arith)
programmed_last zero [] b (x ∷ old) zero e h = refl
programmed_last zero [] b (x ∷ old) (suc o) e h = absurd (omega arith)
programmed_last zero (y ∷ xs) b (x ∷ old) zero e h = absurd (omega arith)
programmed_last zero (y ∷ xs) b (x ∷ old) (suc o) e h = programmed_last zero xs b old o (omega arith) (omega arith)

programmed_other : (at : ℕ) (xs : List ℕ) (b : ℕ) (old : List ℕ) (o : ℕ) → o ≢ at + length xs → get_or (programmed at (xs ++ b ∷ []) old) o 0 ≡ get_or (programmed at xs old) o 0
programmed_other at xs b [] o n = refl
programmed_other (suc at) xs b (x ∷ old) zero n = refl
programmed_other (suc at) xs b (x ∷ old) (suc o) n = programmed_other at xs b old o (λ e. n (omega arith))
programmed_other zero [] b (x ∷ old) zero n = absurd (n (omega arith))
programmed_other zero [] b (x ∷ old) (suc o) n = ap (λ l. get_or l o 0) (programmed_none zero old)
programmed_other zero (y ∷ xs) b (x ∷ old) zero n = refl
programmed_other zero (y ∷ xs) b (x ∷ old) (suc o) n = programmed_other zero xs b old o (λ e. n (omega arith))

programmed_next : (at : ℕ) (xs old : List ℕ) (o : ℕ) → o ≡ at + length xs → get_or (programmed at xs old) o 0 ≡ get_or old o 0
programmed_next at xs [] o e = refl
programmed_next (suc at) xs (x ∷ old) zero e = refl
programmed_next (suc at) xs (x ∷ old) (suc o) e = programmed_next at xs old o (omega arith)
programmed_next zero [] (x ∷ old) o e = refl
programmed_next zero (y ∷ xs) (x ∷ old) zero e = absurd (omega arith)
programmed_next zero (y ∷ xs) (x ∷ old) (suc o) e = programmed_next zero xs old o (omega arith)

blanked_last : (at n : ℕ) (old : List ℕ) (o : ℕ) → o ≡ at + n → o < length old → get_or (blanked at (suc n) old) o 0 ≡ 255
blanked_last at n [] o e h = absurd (omega arith)
blanked_last (suc at) n (x ∷ old) zero e h = absurd (omega arith)
blanked_last (suc at) n (x ∷ old) (suc o) e h = blanked_last at n old o (omega arith) (omega arith)
blanked_last zero zero (x ∷ old) zero e h = refl
blanked_last zero zero (x ∷ old) (suc o) e h = absurd (omega arith)
blanked_last zero (suc n) (x ∷ old) zero e h = refl
blanked_last zero (suc n) (x ∷ old) (suc o) e h = blanked_last zero n old o (omega arith) (omega arith)

blanked_other : (at n : ℕ) (old : List ℕ) (o : ℕ) → o ≢ at + n → get_or (blanked at (suc n) old) o 0 ≡ get_or (blanked at n old) o 0
blanked_other at n [] o apart = refl
blanked_other (suc at) n (x ∷ old) zero apart = refl
blanked_other (suc at) n (x ∷ old) (suc o) apart = blanked_other at n old o (λ e. apart (omega arith))
blanked_other zero zero (x ∷ old) zero apart = absurd (apart (omega arith))
blanked_other zero zero (x ∷ old) (suc o) apart = ap (λ l. get_or l o 0) (blanked_none zero old)
blanked_other zero (suc n) (x ∷ old) zero apart = refl
blanked_other zero (suc n) (x ∷ old) (suc o) apart = blanked_other zero n old o (λ e. apart (omega arith))

blanked_next : (at n : ℕ) (old : List ℕ) (o : ℕ) → o ≡ at + n → get_or (blanked at n old) o 0 ≡ get_or old o 0
blanked_next at n [] o e = refl
blanked_next (suc at) n (x ∷ old) zero e = refl
blanked_next (suc at) n (x ∷ old) (suc o) e = blanked_next at n old o (omega arith)
blanked_next zero zero (x ∷ old) o e = refl
blanked_next zero (suc n) (x ∷ old) zero e = absurd (omega arith)
blanked_next zero (suc n) (x ∷ old) (suc o) e = blanked_next zero n old o (omega arith)

-- ---- a loop that writes
same_mixed : (mask : ℕ) (old new : List ℕ) → new ≡ old → IsMixed mask old new old
same_mixed mask old new e = record { size = refl; each = λ o. record { taken = λ j is. ap (λ l. bit_at (get_or l o 0) j) (sym e); kept = λ j is. refl } }

-- the octet at p isn't written yet, and is written now
one_more : (mask : ℕ) (old mid new octets : List ℕ) (p x b : ℕ) → IsMixed mask old mid octets → p < length old
    → get_or new p 0 ≡ b → ((o : ℕ) → o ≢ p → get_or new o 0 ≡ get_or mid o 0) → IsMasked mask (get_or old p 0) b x → IsMixed mask old new (set octets p x)
one_more mask old mid new octets p x b so within here others is = record {
  size = length-set octets p x ∙ so.size;
  each = λ o. ⊎_elim
      (λ (e : o ≡ p). let lt : p < length octets = omega (arith, so.size) in
      subst (λ (q : ℕ). IsMasked mask (get_or old q 0) (get_or new q 0) (get_or (set octets p x) q 0)) (sym e)
      (subst (λ (y : ℕ). IsMasked mask (get_or old p 0) (get_or new p 0) y) (sym (get_or-set_same octets p x 0 lt))
      (subst (λ (y : ℕ). IsMasked mask (get_or old p 0) y x) (sym here) is)))
      (λ (n : o ≢ p). subst (λ (y : ℕ). IsMasked mask (get_or old o 0) (get_or new o 0) y) (sym (get_or-set_other octets p o x 0 n))
      (subst (λ (y : ℕ). IsMasked mask (get_or old o 0) y (get_or octets o 0)) (sym (others o n)) (so.each o)))
      (cases_eq o p);
}

-- an octet that is to stay so far
waits : (mask : ℕ) (old mid octets : List ℕ) (p : ℕ) → IsMixed mask old mid octets → get_or mid p 0 ≡ get_or old p 0 → get_or octets p 0 ≡ get_or old p 0
waits mask old mid octets p so e = masked_same mask (get_or old p 0) (get_or octets p 0) (subst (λ (y : ℕ). IsMasked mask (get_or old p 0) y (get_or octets p 0)) e (so.each p))

pub program_none : (mask at : ℕ) (bytes old : List ℕ) → IsMixed mask old (programmed at (take 0 bytes) old) old
program_none mask at bytes old = same_mixed mask old _ (programmed_none at old)

pub program_more : (mask at i : ℕ) (bytes old octets : List ℕ) (x : ℕ) → IsMixed mask old (programmed at (take i bytes) old) octets → i < length bytes → at + length bytes ≤ length old
    → IsMasked mask (get_or octets (at + i) 0) (bit_and (get_or octets (at + i) 0) (get_or bytes i 0)) x → IsMixed mask old (programmed at (take (i + 1) bytes) old) (set octets (at + i) x)
program_more mask at i bytes old octets x so lt fits is =
    let b = get_or bytes i 0 in
    let place : at + i ≡ at + length (take i bytes) = omega (arith, length-take i bytes) in
    let within : at + i < length old = omega arith in
    let same = waits mask old (programmed at (take i bytes) old) octets (at + i) so (programmed_next at (take i bytes) old (at + i) place) in
    subst (λ (l : List ℕ). IsMixed mask old (programmed at l old) (set octets (at + i) x)) (sym (take_more bytes i 0 lt))
    (one_more mask old (programmed at (take i bytes) old) (programmed at (take i bytes ++ b ∷ []) old) octets (at + i) x (bit_and (get_or old (at + i) 0) b) so within
    (programmed_last at (take i bytes) b old (at + i) place within)
    (λ o n. programmed_other at (take i bytes) b old o (λ e. n (e ∙ sym place)))
    (subst (λ (y : ℕ). IsMasked mask y (bit_and y b) x) same is))

pub blank_none : (mask at : ℕ) (old : List ℕ) → IsMixed mask old (blanked at 0 old) old
blank_none mask at old = same_mixed mask old _ (blanked_none at old)

pub blank_more : (mask at i : ℕ) (old octets : List ℕ) (x : ℕ) → IsMixed mask old (blanked at i old) octets → at + i < length old
    → IsMasked mask (get_or octets (at + i) 0) 255 x → IsMixed mask old (blanked at (i + 1) old) (set octets (at + i) x)
blank_more mask at i old octets x so within is =
    let same = waits mask old (blanked at i old) octets (at + i) so (blanked_next at i old (at + i) refl) in
    let step : i + 1 ≡ suc i = omega arith in
    subst (λ (n : ℕ). IsMixed mask old (blanked at n old) (set octets (at + i) x)) (sym step)
    (one_more mask old (blanked at i old) (blanked at (suc i) old) octets (at + i) x 255 so within
    (blanked_last at i old (at + i) refl within)
    (λ o n. blanked_other at i old o n)
    (subst (λ (y : ℕ). IsMasked mask y 255 x) same is))

-- ---- what it comes to
pub mixed_torn : (mask : ℕ) (old new octets : List ℕ) → IsMixed mask old new octets → IsTorn old new octets
mixed_torn mask old new octets so = record { size = so.size; each = λ o. masked_between mask _ _ _ (so.each o) }

-- under mask ff all is written
pub mixed_whole : (old new octets : List ℕ) → IsContent old → IsContent new → IsMixed 255 old new octets → octets ≡ new
mixed_whole old new octets o n so =
    ext_get_or 0 octets new (so.size ∙ o.size ∙ sym n.size) (λ i _. masked_whole _ _ _ (o.octets i) (n.octets i) (so.each i))

pub torn_whole : (old new : List ℕ) → length new ≡ length old → IsTorn old new new
torn_whole old new size = record { size = size; each = λ o j. inr refl }

pub torn_content : (old new octets : List ℕ) → IsContent old → IsContent new → IsTorn old new octets → IsContent octets
torn_content old new octets o n torn = record { size = torn.size ∙ o.size; octets = λ k. between_small _ _ _ (o.octets k) (n.octets k) (torn.each k) }

-- an octet that was to stay stays
pub torn_same : (old new octets : List ℕ) (o : ℕ) → IsTorn old new octets → get_or new o 0 ≡ get_or old o 0 → get_or octets o 0 ≡ get_or old o 0
torn_same old new octets o torn e = between_same _ _ (subst (λ (y : ℕ). IsBetween (get_or old o 0) y (get_or octets o 0)) e (torn.each o))

programmed_le : (at : ℕ) (bytes old : List ℕ) (o : ℕ) → get_or (programmed at bytes old) o 0 ≤ get_or old o 0
programmed_le at bytes [] o = omega arith
programmed_le (suc at) bytes (x ∷ old) zero = omega arith
programmed_le (suc at) bytes (x ∷ old) (suc o) = programmed_le at bytes old o
programmed_le zero [] (x ∷ old) o = omega arith
programmed_le zero (b ∷ bytes) (x ∷ old) zero = and_le_l x b
programmed_le zero (b ∷ bytes) (x ∷ old) (suc o) = programmed_le zero bytes old o

pub programmed_content : (at : ℕ) (bytes old : List ℕ) → IsContent old → IsContent (programmed at bytes old)
programmed_content at bytes old is = record { size = length-programmed at bytes old ∙ is.size; octets = λ o. let le = programmed_le at bytes old o in let lt = is.octets o in omega (arith, le, lt) }

blanked_small : (at n : ℕ) (old : List ℕ) → ((o : ℕ) → get_or old o 0 < 256) → (o : ℕ) → get_or (blanked at n old) o 0 < 256
blanked_small at n [] h o = h o
blanked_small (suc at) n (x ∷ old) h zero = h zero
blanked_small (suc at) n (x ∷ old) h (suc o) = blanked_small at n old (λ k. h (suc k)) o
blanked_small zero zero (x ∷ old) h o = h o
blanked_small zero (suc n) (x ∷ old) h zero = omega arith
blanked_small zero (suc n) (x ∷ old) h (suc o) = blanked_small zero n old (λ k. h (suc k)) o

pub blanked_content : (at n : ℕ) (old : List ℕ) → IsContent old → IsContent (blanked at n old)
blanked_content at n old is = record { size = length-blanked at n old ∙ is.size; octets = blanked_small at n old is.octets }

pub torn_none : (old new : List ℕ) → IsTorn old new old
torn_none old new = record { size = refl; each = λ o j. inl refl }

small_replicate : (n o : ℕ) → get_or (replicate n 255) o 0 < 256
small_replicate zero o = omega arith
small_replicate (suc n) zero = omega arith
small_replicate (suc n) (suc o) = small_replicate n o

pub blank_content : (n : ℕ) (octets : List ℕ) → n ≡ 65536 → octets ≡ replicate n 255 → IsContent octets
blank_content n octets size is = record {
  size = ap (λ (l : List ℕ). length l) is ∙ length-replicate n 255 ∙ size;
  octets = λ o. subst (λ (l : List ℕ). get_or l o 0 < 256) (sym is) (small_replicate n o);
}

-- A flash in memory as a chip, and why it keeps the laws of one.
use Rattle.std.specs.Prelude.{◌≡◌, ◌⊎◌, ℕ, zero, suc, ◌-◌, ◌<◌, List, [], ◌∷◌, length, drop, Bool, true, false, ◌||◌, ◌==◌, nat_lt, Option, Some, None, is_none, option_map, refl}
use Rattle.std.proofs.Common.{inl, inr, sym, subst, arith, true≢false}
use Rattle.std.proofs.lemmas.Bool.{eqb-true, leb-true, ltb-true}
use Rattle.flash_model.specs.declared.armed.Armed.{Armed}
use Rattle.flash_model.specs.declared.past.Past.{Past}
use Rattle.flash_model.specs.Octets.{IsContent}
use Rattle.flash_model.specs.Chip.{Arm, Chip}
use Rattle.flash_model.specs.Arming.{IsCarriedOut, IsReached, IsExplained}
use Rattle.flash_model.specs.Course.{is_nearer, is_reached_by}
use Rattle.flash_model.specs.Past.{HadBeen}

abbrev pub arm_of : Armed → Arm
arm_of arm = record { calls = arm.calls; mask = arm.mask; changes = arm.changes }

abbrev pub left_of : Option Armed → ℕ
left_of None = 0
left_of (Some arm) = arm.left

-- its one image is what it holds
abbrev pub mem_chip : Past → List ℕ → ℕ → ℕ → ℕ → ℕ → Option Armed → Chip
mem_chip past octets changes erases programmed reads arm = record {
  now = octets;
  images = λ c. c ≡ octets;
  moment = length past.contents;
  since = λ t c. (c ≡ octets) ⊎ HadBeen (drop t past.contents) c;
  honest = true;
  sure = is_none arm;
  faults = past.faults;
  steady = true;
  setting = record { faults = past.cycled; arm = option_map arm_of arm; saved = past.saved; moment = past.moment; called = 0; programmed = 0; cycles = past.cycles };
  changes = changes;
  erases = erases;
  octets = programmed;
  left = left_of arm;
  reads = reads;
}

had_drop : (t : ℕ) (past : List (List ℕ)) (c : List ℕ) → HadBeen (drop t past) c → HadBeen past c
had_drop zero past c had = had
had_drop (suc t) [] c had = had
had_drop (suc t) (x ∷ past) c had = inr (had_drop t past c had)

none_left : (past : List (List ℕ)) (c : List ℕ) → HadBeen (drop (length past) past) c → ⊥
none_left [] c had = had
none_left (x ∷ past) c had = none_left past c had

-- what it holds and has held is content
pub each_content : (octets : List ℕ) (past : List (List ℕ)) (t : ℕ) (c : List ℕ) → IsContent octets
    → ((d : List ℕ) → HadBeen past d → IsContent d) → (c ≡ octets) ⊎ HadBeen (drop t past) c → IsContent c
each_content octets past t c now before (inl e) = subst IsContent (sym e) now
each_content octets past t c now before (inr had) = before c (had_drop t past c had)

-- since the last call there is what it holds
pub only_octets : (octets : List ℕ) (past : List (List ℕ)) (c : List ℕ)
    → (c ≡ octets) ⊎ HadBeen (drop (length past) past) c → c ≡ octets
only_octets octets past c (inl e) = e
only_octets octets past c (inr had) = absurd (none_left past c had)

reached : (arm : Option Armed) (changes : ℕ) → is_reached_by arm changes ≡ true
    → IsReached (option_map arm_of arm) changes
reached None changes is = absurd (true≢false (sym is))
reached (Some arm) changes is = either _ _ is
  where
    either : (a b : ℕ) → (nat_lt a b || b == 4294967295) ≡ true → (a < b) ⊎ (b ≡ 4294967295)
    either a b h = by_test (nat_lt a b) refl h
      where
        by_test : (x : Bool) → nat_lt a b ≡ x → (x || b == 4294967295) ≡ true → (a < b) ⊎ (b ≡ 4294967295)
        by_test true e h = inl (ltb-true a b e)
        by_test false e h = inr (eqb-true b 4294967295 h)

-- it has failed since the last power cycle only by an arm
pub explained_by : (past : Past) (changes erases programmed reads : ℕ) (arm : Option Armed) (octets : List ℕ) (failed : Bool)
    → (failed ≡ false → past.faults ≡ past.cycled)
    → (failed ≡ true → (past.cycled < past.faults) × (is_reached_by arm changes ≡ true))
    → IsExplained (mem_chip past octets changes erases programmed reads arm)
explained_by past changes erases programmed reads arm octets false whole cut steady more = absurd (omega (arith, whole refl))
explained_by past changes erases programmed reads arm octets true whole cut steady more = reached arm changes (cut refl).1

-- no calls were begun behind the torn one but such that failed
pub carried_by : (past : Past) (changes erases programmed reads : ℕ) (arm : Option Armed) (octets : List ℕ)
    → is_nearer arm (past.faults - past.cycled) changes ≡ true
    → IsCarriedOut (mem_chip past octets changes erases programmed reads arm)
carried_by past changes erases programmed reads None octets within steady = tt
carried_by past changes erases programmed reads (Some arm) octets within steady = omega (arith, leb-true _ _ within)

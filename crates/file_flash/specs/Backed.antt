-- A flash over a mirror in memory and a place: what it shows as a chip.
use Rattle.std.specs.Prelude.{◌≡◌, ◌⊎◌, ℕ, zero, suc, ◌<◌, ◌≤◌, Bool, true, false, IsTrue, List, [], ◌∷◌, Option, Some, None, length, slice_index}
use Rattle.std.specs.Int.{bit_at}
use Rattle.flash_model.specs.Chip.{Chip}
use Rattle.flash_model.specs.Octets.{IsContent, IsTorn}
use Rattle.file_flash.specs.declared.saved.Call.{Call}
use Rattle.file_flash.specs.declared.saved.Saved.{Saved}

-- Where a write to the place was refused, any mixture of what was there (the mirror's content) and what was to be (the goal's); no more calls
-- change the place then.
abbrev pub IsRest : Bool → Chip → Chip → List ℕ → Type 0
IsRest failed mirror goal c = IsTrue failed × IsTorn mirror.now goal.now c

-- The mirror's moment at a moment of this flash, which is how many calls came before it: that at which the call behind it began, or that of now.
abbrev pub time_at : List Call → ℕ → ℕ → ℕ
time_at [] now t = now
time_at (call ∷ calls) now zero = call.began
time_at (call ∷ calls) now (suc t) = time_at calls now t

-- what a cut within one of the calls from that moment on leaves
abbrev pub TornSince : List Call → ℕ → List ℕ → Type 0
TornSince [] t c = ⊥
TornSince (call ∷ calls) zero c = IsTorn call.old call.new c ⊎ TornSince calls zero c
TornSince (call ∷ calls) (suc t) c = TornSince calls t c

abbrev pub backed_chip : Chip → Chip → Bool → Saved → Chip
backed_chip mirror goal failed saved = record {
  now = mirror.now;
  images = λ c. mirror.images c ⊎ IsRest failed mirror goal c;
  moment = length saved.calls;
  since = λ t c. (mirror.since (time_at saved.calls mirror.moment t) c ⊎ IsRest failed mirror goal c) ⊎ TornSince saved.calls t c;
  honest = mirror.honest;
  sure = false;
  faults = mirror.faults;
  steady = false;
  setting = record { faults = mirror.setting.faults; arm = None; saved = saved.octets; moment = saved.moment; called = saved.called; programmed = saved.programmed; cycles = 0 };
  changes = mirror.changes;
  erases = mirror.erases;
  octets = mirror.octets;
  left = 0;
  reads = mirror.reads;
}

-- Each call began by now, and was to make one content another; the setting was made by now.
pub record IsTimed (saved : Saved) (now : ℕ) : Type 0 where
  pub earlier : (t : ℕ) → time_at saved.calls now t ≤ now
  pub contents : (t : ℕ) (c : List ℕ) → TornSince saved.calls t c → IsContent c
  pub began : saved.moment ≤ length saved.calls

-- What holds between two calls. The mirror fails only once it was cut, which is where the place refused.
pub record IsMirrored (mirror goal : Chip) (failed : Bool) : Type 0 where
  pub steady : IsTrue mirror.steady
  pub honest : IsTrue mirror.honest
  pub sound : IsTrue goal.honest
  pub sure : IsTrue goal.sure
  pub began : mirror.setting.faults ≤ mirror.faults
  pub alive : failed ≡ false → IsTrue mirror.sure × (mirror.setting.arm ≡ None)
  pub same : failed ≡ false → goal.now ≡ mirror.now
  pub dead : failed ≡ true → mirror.setting.faults < mirror.faults

-- each bit that is to stay stays: as `IsTorn` says it, but a fact in one way only
pub record IsKept (old new octets : List ℕ) : Type 0 where
  pub size : length octets ≡ length old
  pub each : (o j : ℕ) → bit_at (slice_index old o) j ≡ bit_at (slice_index new o) j
      → bit_at (slice_index octets o) j ≡ bit_at (slice_index old o) j

-- What the place holds, where it is told: what is read; or after a refused write, any mixture of that and of what was to be.
pub record IsTied (failed : Bool) (mirror goal : Chip) (held : Option (List ℕ)) : Type 0 where
  pub told : (c : List ℕ) → held ≡ Some c → failed ≡ false → c ≡ mirror.now
  pub torn : (c : List ℕ) → held ≡ Some c → IsKept mirror.now goal.now c

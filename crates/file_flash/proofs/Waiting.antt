-- What holds of the writes that wait, behind a call.
use Rattle.std.proofs.Common.{◌≡◌, ℕ, ◌≤◌, List, refl, sym, subst}
use Rattle.std.specs.Prelude.{Option}
use Rattle.flash_model.specs.Chip.{Chip}
use Rattle.flash_model.specs.Octets.{IsContent, IsTorn}
use Rattle.file_flash.specs.declared.saved.Saved.{Saved}
use Rattle.file_flash.specs.Backed.{IsTimed, TornSince}
use Rattle.file_flash.specs.Backing.{put_at}
use Rattle.file_flash.specs.Noted.{AreFew, AreKinds, AreLean, AreNoted, MayBeCut, Put, and_put, on_chip}
use Rattle.file_flash.specs.Saved.{call_noted}
use Rattle.file_flash.proofs.Fronts.{fronts_put, fronts_same, kinds_put, kinds_same}
use Rattle.file_flash.proofs.Timing.{front_kept, front_noted, timed_noted}
use Rattle.file_flash.proofs.Tying.{noted_put, noted_same}

-- what waits, of a flash over this mirror
pub record Waits (waiting : Option (List Put)) (saved : Saved) (mirror : Chip) : Type 0 where
  pub noted : AreNoted waiting saved.octets mirror.now
  pub few : AreFew waiting saved.called mirror.changes
  pub lean : AreLean waiting saved.programmed mirror.octets
  pub timed : IsTimed saved mirror.moment
  pub kinds : AreKinds waiting saved.octets
  pub fronts : MayBeCut waiting saved.octets (TornSince saved.calls saved.moment)

-- A call was noted, and the mirror became m2.
module _ (m0 m2 : Chip) (goal : List ℕ) (old new : Option (List Put)) (saved after : Saved) (is : after ≡ call_noted m0.moment m0.now goal saved)
    (later : m0.moment ≤ m2.moment) (before : IsContent m0.now) (behind : IsContent goal) (few : AreFew new saved.called m2.changes)
    (lean : AreLean new saved.programmed m2.octets) (w : Waits old saved m0) where
  -- no write more waits
  pub waits_same : new ≡ old → m2.now ≡ m0.now → Waits new after m2
  waits_same same now = subst (λ (s : Saved). Waits new s m2) (sym is) (record {
    noted = noted_same saved.octets m0.now m2.now old new same w.noted now;
    few = few;
    lean = lean;
    timed = timed_noted saved (call_noted m0.moment m0.now goal saved) m0.moment m2.moment m0.now goal refl w.timed later before behind;
    kinds = kinds_same saved.octets old new same w.kinds;
    fronts = fronts_same saved.octets (TornSince saved.calls saved.moment) (TornSince (call_noted m0.moment m0.now goal saved).calls saved.moment) old new same
        (front_kept saved (call_noted m0.moment m0.now goal saved) m0.moment m2.moment m0.now goal refl w.timed) w.fronts;
  })

  -- this one waits too
  pub waits_put : (put : Put) → new ≡ and_put put old → on_chip put.erase put.at put.octets m0.now ≡ m2.now → put_at put.at put.octets m0.now ≡ m2.now
      → goal ≡ m2.now → Waits new after m2
  waits_put put more chip same is_goal = subst (λ (s : Saved). Waits new s m2) (sym is) (record {
    noted = noted_put put saved.octets m0.now m2.now old new more w.noted same;
    few = few;
    lean = lean;
    timed = timed_noted saved (call_noted m0.moment m0.now goal saved) m0.moment m2.moment m0.now goal refl w.timed later before behind;
    kinds = kinds_put put saved.octets m0.now m2.now old new more w.noted chip same w.kinds;
    fronts = fronts_put put saved.octets m0.now m2.now (TornSince saved.calls saved.moment) (TornSince (call_noted m0.moment m0.now goal saved).calls saved.moment) old new more w.noted same
        (front_kept saved (call_noted m0.moment m0.now goal saved) m0.moment m2.moment m0.now goal refl w.timed)
        (λ c torn. front_noted saved (call_noted m0.moment m0.now goal saved) m0.moment m2.moment m0.now goal refl w.timed c (subst (λ (l : List ℕ). IsTorn m0.now l c) (sym is_goal) torn))
        w.fronts;
  })

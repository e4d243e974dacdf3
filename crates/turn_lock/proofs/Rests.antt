-- What a pass has after a call that changes its own entries.
use Rattle.std.proofs.Common.{◌≡◌, ℕ, ◌<◌, false, List, [], Option, refl, arith}
use Rattle.turn_lock.specs.declared.view.View.{View}
use Rattle.turn_lock.specs.Entries.{IsPrefix, IsLongerOf, StandFrom, merge}
use Rattle.turn_lock.specs.Views.{IsAtRest, adding, leaving, both, informed}
use Rattle.turn_lock.proofs.Places.{stand_added, stand_both}

module _ {T E : Type 0} where
  pub left_rests : (v : View T E) (slots : List (ℕ × Option T)) (found : ℕ) (log : List E) → IsAtRest (v, slots) found → IsPrefix v.seen log → IsAtRest (leaving (adding v log), []) found
  left_rests v slots found log r grows = record {
    parts = r.parts;
    own = stand_added v.seen log v.own grows r.own;
    ticket = refl;
    outside = λ _. refl;
    slot = λ i. cc;
    found = λ i. cc;
  }

  pub joined_rests : (v w : View T E) (slots others : List (ℕ × Option T)) (found count : ℕ) (seen log : List E) → IsAtRest (v, slots) found → IsAtRest (w, others) count → v.inside ≡ false
      → IsLongerOf v.seen w.seen seen → IsPrefix seen log → StandFrom 0 log (merge v.own w.own) → IsAtRest (informed (both v w) seen, slots) found
  joined_rests v w slots others found count seen log r q out longest front h = record {
    parts = let some_part : 0 < v.parts = r.parts in omega arith;
    own = stand_both v.seen w.seen seen log v.own w.own longest front r.own q.own h;
    ticket = r.ticket;
    outside = r.outside;
    slot = r.slot;
    found = λ i. cc;
  }

-- Each step leads to a later state.
use Rattle.std.proofs.Common.{◌≡◌, ℕ, ◌+◌, ◌<◌, ◌≤◌, ◌==◌, ◌&&◌, not, nat_lt, nat_le, Bool, true, false, cond, refl, arith}
use Rattle.std.proofs.lemmas.Bool.{false≢true}
use Rattle.std.proofs.lemmas.Bool.Decides.{nat_tests}
use Rattle.mesh_base.proofs.IvStates.{transmit_known}
use Rattle.mesh_base.specs.IvState.{HasTransmit, transmit_of}
use Rattle.mesh_base.specs.declared.iv_state.IvState.{IvState}
use Rattle.mesh_base.specs.declared.iv_state.IvStep.{IvStep}
use Rattle.layer_definitions.specs.IvIndex.{aged, iv_due, iv_hours, iv_next}
use Rattle.iv_update.specs.Steps.{IsLater, state_after}

stays : (s : IvState) → HasTransmit s → IsLater s s
stays s h = record { has_transmit = h; transmit = omega arith; current = omega arith; within = omega arith }

older : (s : IvState) (hours since : ℕ) → HasTransmit s → IsLater s (record { current = s.current; progress = s.progress; hours = hours; since = since })
unfolding transmit_of
older s hours since h = record { has_transmit = h; transmit = omega arith; current = omega arith; within = omega arith }

ends : (s : IvState) (hours since : ℕ) → IsLater s (record { current = s.current; progress = false; hours = hours; since = since })
unfolding transmit_of
ends s hours since = record { has_transmit = λ e. absurd (false≢true e); transmit = omega (arith, transmit_known s); current = omega arith; within = omega arith }

-- a state with a greater IV Index, which is in progress or not
raised : (s : IvState) (iv : ℕ) (progress : Bool) (hours since : ℕ) → s.current < iv → iv ≤ s.current + 42
    → IsLater s (record { current = iv; progress = progress; hours = hours; since = since })
unfolding transmit_of
raised s iv true hours since h k = record { has_transmit = λ e. omega arith; transmit = omega (arith, transmit_known s); current = omega arith; within = omega arith }
raised s iv false hours since h k = record { has_transmit = λ e. omega arith; transmit = omega (arith, transmit_known s); current = omega arith; within = omega arith }

next_one : (iv current : ℕ) (b c : Bool) → ((iv == current + 1) && b && c) ≡ true → iv ≡ current + 1
next_one iv current b c e = grind (arith, nat_tests)

above_known : (iv current : ℕ) → nat_lt iv current ≡ false → (iv == current) ≡ false → current < iv
above_known iv current e f = grind (arith, nat_tests)

within_42 : (iv current : ℕ) → nat_lt (current + 42) iv ≡ false → iv ≤ current + 42
within_42 iv current e = grind (arith, nat_tests)

-- A row: where its test holds its step leads to a later state, and else the rest does.
by_test : (s base : IvState) (b : Bool) (x y : IvStep) → (b ≡ true → IsLater s (state_after base x)) → (b ≡ false → IsLater s (state_after base y))
    → IsLater s (state_after base (cond b x y))
by_test s base true x y f g = f refl
by_test s base false x y f g = g refl

pub by_beacon : (s : IvState) (primary : Bool) (from iv : ℕ) (flag busy : Bool) → HasTransmit s → IsLater s (state_after s (iv_next s primary from iv flag busy))
unfolding iv_next
by_beacon s primary from iv flag busy h =
    let stay = stays s h in
    by_test s s (nat_lt iv s.current) _ _ (λ e. stay) (λ at_least.
    by_test s s (nat_lt (s.current + 42) iv) _ _ (λ e. stay) (λ within.
    by_test s s (not (from == 0) && primary && nat_lt s.current iv) _ _ (λ e. stay) (λ e.
    by_test s s ((iv == s.current) && s.progress && not flag && nat_lt s.hours 96) _ _ (λ e. stay) (λ e.
    by_test s s ((iv == s.current) && s.progress && not flag && busy) _ _ (λ e. stay) (λ e.
    by_test s s ((iv == s.current) && s.progress && not flag) _ _ (λ e. ends s 0 s.since) (λ e.
    by_test s s (iv == s.current) _ _ (λ e. stay) (λ above.
    by_test s s ((iv == s.current + 1) && flag && not s.progress && nat_lt s.hours 96) _ _ (λ e. stay) (λ e.
    by_test s s ((iv == s.current + 1) && flag && not s.progress) _ _ (λ e. let one = next_one iv s.current flag (not s.progress) e in raised s iv true 0 s.since (omega arith) (omega arith)) (λ e.
    by_test s s (nat_lt s.since 192) _ _ (λ e. stay) (λ e.
    raised s iv flag 0 0 (above_known iv s.current at_least above) (within_42 iv s.current within)))))))))))

pub by_hours : (s : IvState) (passed mark_seq : ℕ) (busy : Bool) → HasTransmit s → IsLater s (state_after (aged s passed) (iv_hours s passed mark_seq busy).1)
unfolding iv_due
by_hours s passed mark_seq busy h =
    let old = aged s passed in
    let stay = older s old.hours old.since h in
    by_test s old (passed == 0) _ _ (λ e. stay) (λ e.
    by_test s old (not s.progress && nat_le 96 old.hours && nat_lt s.current 0xffffffff && nat_le 0xc00000 mark_seq) _ _
    (λ e. raised s (s.current + 1) true 0 old.since (omega arith) (omega arith)) (λ e.
    by_test s old (s.progress && nat_le 144 old.hours && not busy) _ _ (λ e. ends s 0 old.since) (λ e. stay)))

-- What a control message says of own messages: only an acknowledgment that reads has to do with them.
use Rattle.std.proofs.Common.{◌≡◌, ℕ, ◌+◌, ◌*◌, zero, suc, Bool, true, false, cond, eqb, IsTrue, ◌≢◌, List, [], ◌∷◌, length, get_or, refl, ap, sym, arith, ◌↔◌, ◌∙◌}
use Rattle.std.proofs.lemmas.Bool.{false≢true}
use Rattle.std.proofs.lemmas.Bool.Decides.{nat_tests}
use Rattle.layer_definitions.proofs.ControlLaws.{control_of_reading}
use Rattle.layer_definitions.specs.Control.{IsNoControl, ReadsControl, is_other, params_as_read}
use Rattle.layer_definitions.specs.ControlReading.{control_of, has_row, read_back}
use Rattle.layer_states.specs.declared.sending.Sending.{Sending}
use Rattle.mesh_base.specs.declared.address.Address.{Address}
use Rattle.mesh_base.specs.declared.control.Acknowledgment.{Acknowledgment}
use Rattle.mesh_base.specs.declared.control.ControlMsg.{ControlMsg}
use Rattle.mesh_base.specs.declared.control.ControlMsg.TheVariants as C
use Rattle.mesh_hearing.specs.Below.{is_any}
use Rattle.node_layers.specs.Sending.{acknowledged}
use Rattle.upper_transport.proofs.ControlRows.{AreOctets, reads_acknowledgment}

-- a message that is no acknowledgment
record IsSilent (from : Address) (m : ControlMsg) : Type 0 where
  is : acknowledged from m ≡ []

pick : (from : Address) (b : Bool) (m n : ControlMsg) → IsSilent from m → IsSilent from n → IsSilent from (cond b m n)
pick from true m n h k = h
pick from false m n h k = k

past : (from : Address) (b : Bool) (m n : ControlMsg) → b ≡ false → IsSilent from n → IsSilent from (cond b m n)
past from true m n e k = absurd cc
past from false m n e k = k

not_zero : (n : ℕ) → eqb (suc n) 0 ≡ false
not_zero n = grind (arith, nat_tests)

is_six : (n : ℕ) → eqb n 6 ≡ true → n ≡ 6
is_six n e = grind (arith, nat_tests)

-- another opcode than that of an acknowledgment
other_opcode : (from : Address) (opcode : ℕ) (rest : List ℕ) → IsSilent from (read_back (suc opcode ∷ rest))
other_opcode from opcode rest =
    past from (eqb (suc opcode) 0) _ _ (not_zero opcode)
    (pick from (eqb (suc opcode) 1) _ _ (record { is = refl })
    (pick from (eqb (suc opcode) 2) _ _ (record { is = refl })
    (pick from (eqb (suc opcode) 3) _ _ (record { is = refl })
    (pick from (eqb (suc opcode) 4) _ _ (record { is = refl })
    (pick from (eqb (suc opcode) 5) _ _ (record { is = refl })
    (pick from (eqb (suc opcode) 6) _ _ (record { is = refl })
    (pick from (eqb (suc opcode) 7) _ _ (record { is = refl })
    (pick from (eqb (suc opcode) 8) _ _ (record { is = refl }) (record { is = refl })))))))))

silent_row : (from : Address) (opcode : ℕ) (params : List ℕ) → AreOctets params → IsNoControl opcode params → IsSilent from (control_of opcode params)
silent_row from (suc opcode) params octets none =
    pick from (has_row (suc opcode) (length params)) (read_back (suc opcode ∷ params_as_read (suc opcode) params)) C.Other
    (other_opcode from opcode (params_as_read (suc opcode) params)) (record { is = refl })
silent_row from zero params octets none = of_count (eqb (length params) 6) refl
  where
    of_count : (b : Bool) → eqb (length params) 6 ≡ b → IsSilent from (control_of 0 params)
    of_count true e =
        absurd (none _ (reads_acknowledgment params (get_or params 0 0 * 256 + get_or params 1 0)
        (get_or params 2 0 * 16777216 + (get_or params 3 0 * 65536 + (get_or params 4 0 * 256 + get_or params 5 0))) (is_six (length params) e) octets refl refl))
    of_count false e = past_row (eqb (length params) 6) e
      where
        past_row : (b : Bool) → b ≡ false → IsSilent from (cond b (read_back (0 ∷ params_as_read 0 params)) C.Other)
        past_row true e = absurd cc
        past_row false e = record { is = refl }

-- What octets read as has the calls of what stands in them.
pub acknowledged_is : (from : Address) (opcode : ℕ) (params : List ℕ) (m : ControlMsg) → AreOctets params → (is_other m ≡ false → ReadsControl opcode params m)
    → (IsTrue (is_other m) ↔ IsNoControl opcode params) → acknowledged from m ≡ acknowledged from (control_of opcode params)
acknowledged_is from opcode params m octets reads none = of_kind (is_other m) refl
  where
    silent_other : (x : ControlMsg) → is_other x ≡ true → acknowledged from x ≡ []
    silent_other C.Other e = refl
    silent_other (C.Acknowledgment a) e = absurd cc
    silent_other _ e = refl

    of_kind : (b : Bool) → is_other m ≡ b → acknowledged from m ≡ acknowledged from (control_of opcode params)
    of_kind false e = ap (λ x. acknowledged from x) (sym (control_of_reading opcode params m (reads e)))
    of_kind true e = silent_other m e ∙ sym (silent_row from opcode params octets (none.0 e)).is

-- There are messages where the list isn't empty.
pub any_is : (b : Bool) (rows : List Sending) → (IsTrue b ↔ (rows ≢ [])) → b ≡ is_any rows
any_is true [] h = absurd (h.0 refl refl)
any_is false [] h = refl
any_is true (s ∷ rows) h = grind (arith, nat_tests)
any_is false (s ∷ rows) h = absurd (false≢true (h.1 (λ e. cc)))

pub no_acknowledgment : (from : Address) (m : ControlMsg) → ((a : Acknowledgment) → m ≡ C.Acknowledgment a → ⊥) → acknowledged from m ≡ []
no_acknowledgment from (C.Acknowledgment a) h = absurd (h a refl)
no_acknowledgment from _ h = refl

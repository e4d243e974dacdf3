-- What a trial says of the octets of an access PDU.
use Rattle.std.proofs.Common.{◌≡◌, ℕ, ◌-◌, ◌<◌, ◌≤◌, List, length, take, drop, ap, sym, subst, ◌∙◌, arith, length-drop}
use Rattle.std.proofs.lemmas.List.{take-append-drop, length-take-le}
use Rattle.cipher_definitions.specs.Ccm.{Seals}
use Rattle.aes_ccm.specs.declared.trial.Trial.{Trial}
use Rattle.aes_ccm.specs.Trials.{IsTrialOf}
use Rattle.mesh_base.specs.declared.keys.UpperKey.{UpperKey}
use Rattle.mesh_base.specs.declared.upper.UpperFields.{UpperFields}
use Rattle.layer_definitions.specs.Labels.{with_label}
use Rattle.layer_definitions.specs.Upper.{OpensUnder, key_octets, trans_mic_length, upper_nonce}
use Rattle.layer_definitions.proofs.UpperLaws.{length-opening, opens-from_seals, seals-from_opens}

module _ (key : UpperKey) (f : UpperFields) (label upper : List ℕ) (long : trans_mic_length f.long_mic < length upper) where
  abbrev front : ℕ
  front = length upper - trans_mic_length f.long_mic

  mic_long : length (drop front upper) ≡ trans_mic_length f.long_mic
  mic_long = omega (arith, length-drop front upper, long)

  -- where the label gives TransMIC, the octets open
  pub trial_opens : (text : List ℕ) → Seals (key_octets key) (upper_nonce key f) label text (take front upper) (drop front upper) → OpensUnder key (with_label label f) upper text
  trial_opens text h =
      subst (λ u. OpensUnder key (with_label label f) u text) (take-append-drop front upper)
      (opens-from_seals key (with_label label f) text (take front upper) (drop front upper) (omega (arith, length-take-le front upper, long)) mic_long h)

  -- and where no text seals to them with it, they don't
  pub trial_refuses : ((other : List ℕ) → Seals (key_octets key) (upper_nonce key f) label other (take front upper) (drop front upper) → ⊥)
      → (other : List ℕ) → OpensUnder key (with_label label f) upper other → ⊥
  trial_refuses none other o =
      none other (seals-from_opens key (with_label label f) other (take front upper) (drop front upper) mic_long
      (subst (λ u. OpensUnder key (with_label label f) u other) (sym (take-append-drop front upper)) o))

  module _ (schedule text items mic : List ℕ) (t : Trial) (e : schedule ≡ key_octets key) (g : text ≡ items) (h : mic ≡ drop front upper)
      (trial : IsTrialOf (key_octets key) (upper_nonce key f) (take front upper) items (trans_mic_length f.long_mic) t) where
    as_long : length mic ≡ trans_mic_length f.long_mic
    as_long = ap (λ (xs : List ℕ). length xs) h ∙ mic_long

    given : IsTrialOf schedule (upper_nonce key f) (take front upper) text (length mic) t
    given = rw (e, g, as_long) trial

    -- what a trial says of the schedule and the buffers that it was lent, said of the octets
    pub tried : ((nonce sealed : List ℕ) → IsTrialOf schedule nonce sealed text (length mic) t → Seals schedule nonce label text sealed mic)
        → OpensUnder key (with_label label f) upper items
    tried opens = trial_opens items (rw (e, g, h) at (opens (upper_nonce key f) (take front upper) given))

    pub tried_none : ((nonce sealed : List ℕ) → IsTrialOf schedule nonce sealed text (length mic) t → (other : List ℕ) → Seals schedule nonce label other sealed mic → ⊥)
        → (other : List ℕ) → OpensUnder key (with_label label f) upper other → ⊥
    tried_none refuses = trial_refuses (rw (e, h) at (refuses (upper_nonce key f) (take front upper) given))

-- too few octets open to nothing
pub too_few : (key : UpperKey) (f : UpperFields) (label upper other : List ℕ) → length upper ≤ trans_mic_length f.long_mic → OpensUnder key (with_label label f) upper other → ⊥
too_few key f label upper other few o = let more = length-opening key (with_label label f) upper other o in omega (arith, more, few)

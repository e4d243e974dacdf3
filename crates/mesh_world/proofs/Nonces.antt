-- A nonce shows its layer and its pair, so a good world's seals have different nonces.
use Rattle.std.proofs.Common.{◌≡◌, ℕ, ◌+◌, ◌*◌, ◌/◌, ◌%◌, ◌^◌, ◌<◌, refl, sym, ◌∙◌, ap, subst, arith, List, length, get_or}
use Rattle.std.specs.List.{Contains}
use Rattle.std.proofs.lemmas.List.{get_or-map, length-map}
use Rattle.std.proofs.lemmas.List.Elements.{All-contains, Contains-get_or}
use Rattle.layer_definitions.specs.Upper.{nonce_type}
use Rattle.mesh_base.specs.declared.keys.UpperKey.{UpperKey}
use Rattle.mesh_base.specs.declared.keys.UpperKey.TheVariants.{App, Device}
use Rattle.mesh_base.specs.declared.pair.Pair.{Pair}
use Rattle.mesh_base.specs.Pairs.{IsPair}
use Rattle.mesh_base.specs.Safety.{NoReuse, Use}
use Rattle.mesh_world.specs.World.{World, Layer, Sealing, HasNonce, IsOf, uses}
use Rattle.mesh_world.specs.World.Layer.{Network, Upper}
use Rattle.mesh_world.specs.Good.{IsGood}

-- the octets of a nonce at these places, as one number
abbrev pub seq_in : List ℕ → ℕ
seq_in n = (get_or n 2 0 * 256 + get_or n 3 0) * 256 + get_or n 4 0

abbrev pub iv_in : List ℕ → ℕ
iv_in n = ((get_or n 9 0 * 256 + get_or n 10 0) * 256 + get_or n 11 0) * 256 + get_or n 12 0

abbrev seq_in_three : ℕ → ℕ
seq_in_three n = (n / 65536 % 256 * 256 + n / 256 % 256) * 256 + n % 256

abbrev iv_in_four : ℕ → ℕ
iv_in_four n = ((n / 16777216 % 256 * 256 + n / 65536 % 256) * 256 + n / 256 % 256) * 256 + n % 256

three_octets_told : (n : ℕ) → n < 2 ^ 24 → seq_in_three n ≡ n
three_octets_told n h = omega arith

four_octets_told : (n : ℕ) → n < 2 ^ 32 → iv_in_four n ≡ n
four_octets_told n h = omega arith

pub seq_told : (layer : Layer) (p : Pair) (n : List ℕ) → IsPair p → HasNonce layer p n → seq_in n ≡ p.seq
seq_told Network p n h (f, iv, seq, e) = ap seq_in e ∙ ap seq_in_three seq ∙ three_octets_told p.seq h.1
seq_told Upper p n h (key, f, pair, e) = ap seq_in e ∙ ap (λ (q : Pair). seq_in_three q.seq) pair ∙ three_octets_told p.seq h.1

pub iv_told : (layer : Layer) (p : Pair) (n : List ℕ) → IsPair p → HasNonce layer p n → iv_in n ≡ p.iv
iv_told Network p n h (f, iv, seq, e) = ap iv_in e ∙ ap iv_in_four iv ∙ four_octets_told p.iv h.0
iv_told Upper p n h (key, f, pair, e) = ap iv_in e ∙ ap (λ (q : Pair). iv_in_four q.iv) pair ∙ four_octets_told p.iv h.0

-- the first octet of an upper nonce is its type, which is never that of a network nonce
typed : (key : UpperKey) → 0 ≡ nonce_type key → ⊥
typed (App index aid octets) e = omega arith
typed (Device octets) e = omega arith

pub same_layer : (a b : Layer) (p q : Pair) (n : List ℕ) → HasNonce a p n → HasNonce b q n → b ≡ a
same_layer Network Network p q n x y = refl
same_layer Upper Upper p q n x y = refl
same_layer Network Upper p q n (f, iv, seq, e) (key, g, pair, e') = absurd (typed key (ap (λ (l : List ℕ). get_or l 0 0) (sym e ∙ e')))
same_layer Upper Network p q n (key, g, pair, e') (f, iv, seq, e) = absurd (typed key (ap (λ (l : List ℕ). get_or l 0 0) (sym e ∙ e')))

pub same_pair : (p q : Pair) → p.iv ≡ q.iv → p.seq ≡ q.seq → q ≡ p
same_pair p q e f =
    let with_iv = λ (n : ℕ). let r : Pair = record { iv = n; seq = q.seq } in r in
    let with_seq = λ (n : ℕ). let r : Pair = record { iv = p.iv; seq = n } in r in
    ap with_iv (sym e) ∙ ap with_seq (sym f)

module _ (w : World) (g : IsGood w) where
  -- two seals with one nonce would be of one layer and one pair
  apart : (s t : Sealing) → Contains w.seals s → Contains w.seals t → (IsOf s.layer s.pair t → ⊥) → s.made.nonce ≡ t.made.nonce → ⊥
  apart s t at_s at_t other e =
      let fits_s = All-contains IsPair w.drawn s.pair g.drawn_pairs (All-contains (λ x. Contains w.drawn x.pair) w.seals s g.seals_drawn at_s) in
      let fits_t = All-contains IsPair w.drawn t.pair g.drawn_pairs (All-contains (λ x. Contains w.drawn x.pair) w.seals t g.seals_drawn at_t) in
      let has_s = All-contains (λ x. HasNonce x.layer x.pair x.made.nonce) w.seals s g.seals_nonce at_s in
      let has_t = subst (HasNonce t.layer t.pair) (sym e) (All-contains (λ x. HasNonce x.layer x.pair x.made.nonce) w.seals t g.seals_nonce at_t) in
      other (
        same_layer s.layer t.layer s.pair t.pair s.made.nonce has_s has_t,
        same_pair s.pair t.pair
            (sym (iv_told s.layer s.pair s.made.nonce fits_s has_s) ∙ iv_told t.layer t.pair s.made.nonce fits_t has_t)
            (sym (seq_told s.layer s.pair s.made.nonce fits_s has_s) ∙ seq_told t.layer t.pair s.made.nonce fits_t has_t),
      )

  pub no_reuse : NoReuse (uses w)
  no_reuse i j d before within keys nonces =
      let none : Sealing = record { layer = Network; pair = record { iv = 0; seq = 0 }; made = d } in
      let j_within : j < length w.seals = omega (arith, length-map w.seals (λ s. s.made)) in
      let i_within : i < length w.seals = omega arith in
      let at_i = get_or-map (λ s. s.made) w.seals i none d i_within in
      let at_j = get_or-map (λ s. s.made) w.seals j none d j_within in
      absurd (apart (get_or w.seals i none) (get_or w.seals j none) (Contains-get_or w.seals i none i_within) (Contains-get_or w.seals j none j_within)
      (g.seals_once i j none before j_within) (sym (ap (λ (u : Use). u.nonce) at_i) ∙ nonces ∙ ap (λ (u : Use). u.nonce) at_j))

-- What the octets of each control message read as, octet by octet.
use Rattle.std.proofs.Common.{◌≡◌, ℕ, ◌+◌, ◌*◌, ◌/◌, ◌%◌, ◌^◌, ◌<◌, ◌≤◌, nat_le, if◌then◌else◌, Bool, true, false, IsTrue, List, [], ◌∷◌, ◌++◌, length, get_or, take, drop, map, refl, sym, ap, ◌∙◌, arith, ◌↔◌, ◌⊎◌, inl, inr, append_assoc}
use Rattle.std.specs.Prelude.{◌==◌, ◌&&◌, Result, Ok, Err, IsOk, OnOk}
use Rattle.std.proofs.lemmas.Bool.Decides.{nat_tests}
use Rattle.std.proofs.lemmas.Grind.{flat_map-append}
use Rattle.std.proofs.lemmas.List.{length-take}
use Rattle.std.proofs.lemmas.List.FromFn.{fill_by_all}
use Rattle.cipher_definitions.specs.Octets.{two_octets, four_octets}
use Rattle.mesh_base.specs.declared.address.Address.{Address}
use Rattle.mesh_base.specs.declared.control.ControlMsg.{ControlMsg}
use Rattle.mesh_base.specs.declared.control.ControlMsg.TheVariants as C
use Rattle.layer_definitions.specs.ControlReading.{has_row}
use Rattle.layer_definitions.proofs.OctetLaws.{six_octets}
use Rattle.layer_definitions.proofs.ControlLaws.{fits-not-other, length-address_octets, reading-row}
use Rattle.cipher_definitions.proofs.Octets.{two_octets-of, three_octets-of, four_octets-of}
use Rattle.layer_definitions.specs.Control.{AreAddresses, IsNoControl, ReadsControl, address_octets, control_text, is_other, without_reserved}

-- each is an octet
abbrev pub AreOctets : List ℕ → Type 0
AreOctets p = (i : ℕ) → get_or p i 0 < 256

-- parameters of a known length are the list of their octets
pub one_octet : (p : List ℕ) → length p ≡ 1 → p ≡ get_or p 0 0 ∷ []
one_octet p e = fill_by_all (λ i. get_or p i 0) p 1 0 e (λ k below. refl)

pub four_listed : (p : List ℕ) → length p ≡ 4 → p ≡ get_or p 0 0 ∷ get_or p 1 0 ∷ get_or p 2 0 ∷ get_or p 3 0 ∷ []
four_listed p e = fill_by_all (λ i. get_or p i 0) p 4 0 e (λ k below. refl)

pub ten_listed : (p : List ℕ) → length p ≡ 10
    → p ≡ get_or p 0 0 ∷ get_or p 1 0 ∷ get_or p 2 0 ∷ get_or p 3 0 ∷ get_or p 4 0 ∷ get_or p 5 0 ∷ get_or p 6 0 ∷ get_or p 7 0 ∷ get_or p 8 0 ∷ get_or p 9 0 ∷ []
ten_listed p e = fill_by_all (λ i. get_or p i 0) p 10 0 e (λ k below. refl)

-- OBO and SeqZero, taken apart and put together, without the two bits below them
first_octets : (n a b : ℕ) → a < 256 → b < 256 → n ≡ a * 256 + b
    → two_octets ((if nat_le (2 ^ 15) n then 2 ^ 15 else 0) + n % 2 ^ 15 / 4 * 2 ^ 2) ≡ a ∷ b / 2 ^ 2 * 2 ^ 2 ∷ []
first_octets n a b ha hb e =
    let small : n < 2 ^ 16 = omega arith in
    let joined : (if nat_le (2 ^ 15) n then 2 ^ 15 else 0) + n % 2 ^ 15 / 4 * 2 ^ 2 ≡ n / 4 * 4 = with_bit n small in
    two_octets-of _ a (b / 2 ^ 2 * 2 ^ 2) ha (omega arith) (joined ∙ omega arith)
  where
    with_bit : (m : ℕ) → m < 2 ^ 16 → (if nat_le (2 ^ 15) m then 2 ^ 15 else 0) + m % 2 ^ 15 / 4 * 2 ^ 2 ≡ m / 4 * 4
    with_bit m h = grind (arith, nat_tests)

pub reads_acknowledgment : (p : List ℕ) (n block_ack : ℕ) → length p ≡ 6 → AreOctets p
    → n ≡ get_or p 0 0 * 256 + get_or p 1 0
    → block_ack ≡ get_or p 2 0 * 16777216 + (get_or p 3 0 * 65536 + (get_or p 4 0 * 256 + get_or p 5 0))
    → ReadsControl 0 p (C.Acknowledgment (record { obo = nat_le (2 ^ 15) n; seq_zero = n % 2 ^ 15 / 4; block_ack = block_ack }))
unfolding control_text
reads_acknowledgment p n block_ack e octets first last =
    let a = octets 0 in
    let b = octets 1 in
    let c = octets 2 in
    let d = octets 3 in
    let f = octets 4 in
    let g = octets 5 in
    record {
      fits = omega arith;
      in_widths = omega arith;
      text =
          ap (λ l. 0 ∷ l ++ four_octets block_ack) (first_octets n (get_or p 0 0) (get_or p 1 0) (octets 0) (octets 1) first)
          ∙ ap (λ l. 0 ∷ get_or p 0 0 ∷ get_or p 1 0 / 2 ^ 2 * 2 ^ 2 ∷ l)
          (four_octets-of block_ack (get_or p 2 0) (get_or p 3 0) (get_or p 4 0) (get_or p 5 0) (octets 2) (octets 3) (octets 4) (octets 5) last)
          ∙ ap (λ l. 0 ∷ without_reserved l) (sym (six_octets p e));
    }

pub reads_poll : (p : List ℕ) → length p ≡ 1 → ReadsControl 1 p (C.Poll (get_or p 0 0 % 2 == 1))
unfolding control_text
reads_poll p e = record {
  fits = refl;
  in_widths = tt;
  text = ap (λ x. 1 ∷ x ∷ []) (bit (get_or p 0 0)) ∙ ap (λ l. 1 ∷ map (λ octet. octet % 2) l) (sym (one_octet p e));
}
  where
    bit : (n : ℕ) → (if n % 2 == 1 then 1 else 0) ≡ n % 2
    bit n = grind (arith, nat_tests)

pub reads_update : (p : List ℕ) (iv : ℕ) → length p ≡ 6 → AreOctets p
    → iv ≡ get_or p 1 0 * 16777216 + (get_or p 2 0 * 65536 + (get_or p 3 0 * 256 + get_or p 4 0))
    → ReadsControl 2 p (C.Update (record { flags = get_or p 0 0; iv = iv; more_data = get_or p 5 0 }))
unfolding control_text
reads_update p iv e octets value =
    let b = octets 1 in
    let c = octets 2 in
    let d = octets 3 in
    let f = octets 4 in
    record {
      fits = refl;
      in_widths = (octets 0, omega arith, octets 5);
      text =
          ap (λ l. 2 ∷ get_or p 0 0 ∷ l ++ get_or p 5 0 ∷ [])
          (four_octets-of iv (get_or p 1 0) (get_or p 2 0) (get_or p 3 0) (get_or p 4 0) (octets 1) (octets 2) (octets 3) (octets 4) value)
          ∙ ap (λ l. 2 ∷ l) (sym (six_octets p e));
    }

pub reads_request : (p : List ℕ) (timeout previous counter : ℕ) → length p ≡ 10 → AreOctets p
    → timeout ≡ get_or p 2 0 * 65536 + (get_or p 3 0 * 256 + get_or p 4 0)
    → previous ≡ get_or p 5 0 * 256 + get_or p 6 0
    → counter ≡ get_or p 8 0 * 256 + get_or p 9 0
    → ReadsControl 3 p (C.Request (record {
      criteria = get_or p 0 0;
      receive_delay = get_or p 1 0;
      poll_timeout = timeout;
      previous = record { 0 = previous };
      elements = get_or p 7 0;
      lpn_counter = counter;
    }))
unfolding control_text
reads_request p timeout previous counter e octets t a n =
    let b2 = octets 2 in
    let b3 = octets 3 in
    let b4 = octets 4 in
    let b5 = octets 5 in
    let b6 = octets 6 in
    let b8 = octets 8 in
    let b9 = octets 9 in
    record {
      fits = omega arith;
      in_widths = (octets 0, octets 1, omega arith, octets 7, omega arith);
      text =
          ap (λ l. 3 ∷ get_or p 0 0 ∷ get_or p 1 0 ∷ l ++ two_octets previous ++ get_or p 7 0 ∷ two_octets counter)
          (three_octets-of timeout (get_or p 2 0) (get_or p 3 0) (get_or p 4 0) (octets 2) (octets 3) (octets 4) t)
          ∙ ap (λ l. 3 ∷ get_or p 0 0 ∷ get_or p 1 0 ∷ get_or p 2 0 ∷ get_or p 3 0 ∷ get_or p 4 0 ∷ l ++ get_or p 7 0 ∷ two_octets counter)
          (two_octets-of previous (get_or p 5 0) (get_or p 6 0) (octets 5) (octets 6) a)
          ∙ ap (λ l. 3 ∷ get_or p 0 0 ∷ get_or p 1 0 ∷ get_or p 2 0 ∷ get_or p 3 0 ∷ get_or p 4 0 ∷ get_or p 5 0 ∷ get_or p 6 0 ∷ get_or p 7 0 ∷ l)
          (two_octets-of counter (get_or p 8 0) (get_or p 9 0) (octets 8) (octets 9) n)
          ∙ ap (λ l. 3 ∷ l) (sym (ten_listed p e));
    }

pub reads_offer : (p : List ℕ) (counter : ℕ) → length p ≡ 6 → AreOctets p → counter ≡ get_or p 4 0 * 256 + get_or p 5 0
    → ReadsControl 4 p (C.Offer (record {
      receive_window = get_or p 0 0;
      queue_size = get_or p 1 0;
      subscription_list_size = get_or p 2 0;
      rssi = get_or p 3 0;
      friend_counter = counter;
    }))
unfolding control_text
reads_offer p counter e octets n =
    let b4 = octets 4 in
    let b5 = octets 5 in
    record {
      fits = refl;
      in_widths = (octets 0, octets 1, octets 2, octets 3, omega arith);
      text =
          ap (λ l. 4 ∷ get_or p 0 0 ∷ get_or p 1 0 ∷ get_or p 2 0 ∷ get_or p 3 0 ∷ l)
          (two_octets-of counter (get_or p 4 0) (get_or p 5 0) (octets 4) (octets 5) n)
          ∙ ap (λ l. 4 ∷ l) (sym (six_octets p e));
    }

-- the parameters of a Friend Clear and of a Friend Clear Confirm
clear_params : (p : List ℕ) (lpn counter : ℕ) → length p ≡ 4 → AreOctets p
    → lpn ≡ get_or p 0 0 * 256 + get_or p 1 0 → counter ≡ get_or p 2 0 * 256 + get_or p 3 0 → two_octets lpn ++ two_octets counter ≡ p
clear_params p lpn counter e octets a n =
    ap (λ l. l ++ two_octets counter) (two_octets-of lpn (get_or p 0 0) (get_or p 1 0) (octets 0) (octets 1) a)
    ∙ ap (λ l. get_or p 0 0 ∷ get_or p 1 0 ∷ l) (two_octets-of counter (get_or p 2 0) (get_or p 3 0) (octets 2) (octets 3) n)
    ∙ sym (four_listed p e)

number_small : (n a b : ℕ) → a < 256 → b < 256 → n ≡ a * 256 + b → n < 2 ^ 16
number_small n a b ha hb e = omega arith

pub reads_clear : (p : List ℕ) (lpn counter : ℕ) → length p ≡ 4 → AreOctets p
    → lpn ≡ get_or p 0 0 * 256 + get_or p 1 0 → counter ≡ get_or p 2 0 * 256 + get_or p 3 0
    → ReadsControl 5 p (C.Clear (record { lpn = record { 0 = lpn }; lpn_counter = counter }))
unfolding control_text
reads_clear p lpn counter e octets a n = record {
  fits = refl;
  in_widths = (number_small lpn _ _ (octets 0) (octets 1) a, number_small counter _ _ (octets 2) (octets 3) n);
  text = ap (λ l. 5 ∷ l) (clear_params p lpn counter e octets a n);
}

pub reads_clear_confirm : (p : List ℕ) (lpn counter : ℕ) → length p ≡ 4 → AreOctets p
    → lpn ≡ get_or p 0 0 * 256 + get_or p 1 0 → counter ≡ get_or p 2 0 * 256 + get_or p 3 0
    → ReadsControl 6 p (C.ClearConfirm (record { lpn = record { 0 = lpn }; lpn_counter = counter }))
unfolding control_text
reads_clear_confirm p lpn counter e octets a n = record {
  fits = refl;
  in_widths = (number_small lpn _ _ (octets 0) (octets 1) a, number_small counter _ _ (octets 2) (octets 3) n);
  text = ap (λ l. 6 ∷ l) (clear_params p lpn counter e octets a n);
}

-- a list has as many addresses as octets say
count_of : (p : List ℕ) (addresses : List Address) → 3 ≤ length p → length p ≤ 11 → address_octets addresses ≡ drop 1 p
    → (1 ≤ length addresses) × (length addresses ≤ 5)
count_of [] addresses least most e = absurd (omega arith)
count_of (x ∷ rest) addresses least most e =
    let count : length (address_octets addresses) ≡ length rest = ap length e in
    (omega (arith, length-address_octets addresses), omega (arith, length-address_octets addresses))

first_and_rest : (p : List ℕ) → 3 ≤ length p → get_or p 0 0 ∷ drop 1 p ≡ p
first_and_rest [] h = absurd (omega arith)
first_and_rest (x ∷ rest) h = refl

pub reads_list_add : (p : List ℕ) (addresses : List Address) → 3 ≤ length p → length p ≤ 11 → AreOctets p → address_octets addresses ≡ drop 1 p
    → AreAddresses addresses → ReadsControl 7 p (C.ListAdd (record { transaction = get_or p 0 0; addresses = addresses }))
unfolding control_text
reads_list_add p addresses least most octets e widths = record {
  fits = count_of p addresses least most e;
  in_widths = (octets 0, widths);
  text = ap (λ l. 7 ∷ get_or p 0 0 ∷ l) e ∙ ap (λ l. 7 ∷ l) (first_and_rest p least);
}

pub reads_list_remove : (p : List ℕ) (addresses : List Address) → 3 ≤ length p → length p ≤ 11 → AreOctets p → address_octets addresses ≡ drop 1 p
    → AreAddresses addresses → ReadsControl 8 p (C.ListRemove (record { transaction = get_or p 0 0; addresses = addresses }))
unfolding control_text
reads_list_remove p addresses least most octets e widths = record {
  fits = count_of p addresses least most e;
  in_widths = (octets 0, widths);
  text = ap (λ l. 8 ∷ get_or p 0 0 ∷ l) e ∙ ap (λ l. 8 ∷ l) (first_and_rest p least);
}

pub reads_list_confirm : (p : List ℕ) → length p ≡ 1 → AreOctets p → ReadsControl 9 p (C.ListConfirm (get_or p 0 0))
unfolding control_text
reads_list_confirm p e octets = record {
  fits = refl;
  in_widths = octets 0;
  text = ap (λ l. 9 ∷ l) (sym (one_octet p e));
}

-- octets that read as a message read as no Other
pub other_of_message : (opcode : ℕ) (params : List ℕ) (m : ControlMsg) → ReadsControl opcode params m → (IsTrue (is_other m) ↔ IsNoControl opcode params)
other_of_message opcode params m r =
    let not_other = fits-not-other m r.fits in
    (λ other. absurd (clash (is_other m) not_other other), λ none. absurd (none m r))
  where
    clash : (b : Bool) → b ≡ false → IsTrue b → ⊥
    clash b e h = cc

-- and octets that have no row read as Other alone
pub other_of_none : (opcode : ℕ) (params : List ℕ) → has_row opcode (length params) ≡ false → (IsTrue true ↔ IsNoControl opcode params)
other_of_none opcode params none = (λ _ m r. clash (has_row opcode (length params)) (reading-row opcode params m r) none, λ _. refl)
  where
    clash : (b : Bool) → b ≡ true → b ≡ false → ⊥
    clash b e h = cc

pub no_count : (count k : ℕ) → (count ≡ k → ⊥) → count == k ≡ false
no_count count k h = grind (arith, nat_tests)

pub no_list : (count : ℕ) → ((count ≡ 3) ⊎ ((count ≡ 5) ⊎ ((count ≡ 7) ⊎ ((count ≡ 9) ⊎ (count ≡ 11)))) → ⊥)
    → (nat_le 3 count && nat_le count 11 && count % 2 == 1) ≡ false
no_list count h =
    let three : count ≡ 3 → ⊥ = λ e. h (inl e) in
    let five : count ≡ 5 → ⊥ = λ e. h (inr (inl e)) in
    let seven : count ≡ 7 → ⊥ = λ e. h (inr (inr (inl e))) in
    let nine : count ≡ 9 → ⊥ = λ e. h (inr (inr (inr (inl e)))) in
    let eleven : count ≡ 11 → ⊥ = λ e. h (inr (inr (inr (inr e)))) in
    not_in count three five seven nine eleven
  where
    not_in : (n : ℕ) → (n ≡ 3 → ⊥) → (n ≡ 5 → ⊥) → (n ≡ 7 → ⊥) → (n ≡ 9 → ⊥) → (n ≡ 11 → ⊥) → (nat_le 3 n && nat_le n 11 && n % 2 == 1) ≡ false
    not_in n h3 h5 h7 h9 h11 = grind (arith, nat_tests)

-- Addresses, one after the other.

pub address_octets-append : (xs ys : List Address) → address_octets (xs ++ ys) ≡ address_octets xs ++ address_octets ys
address_octets-append xs ys = flat_map-append (λ (a : Address). two_octets a.0) xs ys

-- the two octets in front
pub two_front : (rest : List ℕ) → 2 ≤ length rest → take 2 rest ≡ get_or rest 0 0 ∷ get_or rest 1 0 ∷ []
two_front [] h = absurd (omega arith)
two_front (x ∷ []) h = absurd (omega arith)
two_front (x ∷ y ∷ rest) h = refl

-- one more address is what the two octets in front are
pub addresses_turn : (addresses : List Address) (a : ℕ) (rest : List ℕ) → 2 ≤ length rest → AreOctets rest → a ≡ get_or rest 0 0 * 256 + get_or rest 1 0
    → address_octets (addresses ++ record { 0 = a } ∷ []) ++ drop 2 rest ≡ address_octets addresses ++ rest
addresses_turn addresses a rest h octets e =
    ap (λ l. l ++ drop 2 rest) (address_octets-append addresses (record { 0 = a } ∷ []))
    ∙ append_assoc (address_octets addresses) (two_octets a) (drop 2 rest)
    ∙ ap (λ l. address_octets addresses ++ l)
    (ap (λ l. l ++ drop 2 rest) (two_octets-of a (get_or rest 0 0) (get_or rest 1 0) (octets 0) (octets 1) e) ∙ both rest h)
  where
    both : (l : List ℕ) → 2 ≤ length l → get_or l 0 0 ∷ get_or l 1 0 ∷ drop 2 l ≡ l
    both [] k = absurd (omega arith)
    both (x ∷ []) k = absurd (omega arith)
    both (x ∷ y ∷ l) k = refl

-- what a result says where it is Ok
pub ok_then : {T E : Type 0} (r : Result T E) (P : Type 0) → IsOk r → OnOk r P → P
ok_then (Ok x) P h p = p
ok_then (Err e) P h p = absurd (cc)

-- addresses so many are written in twice as many octets
pub length-addresses-taken : (addresses : List Address) (n : ℕ) → length (address_octets (take n addresses)) ≤ 2 * n
length-addresses-taken addresses n = omega (arith, length-address_octets (take n addresses), length-take n addresses)

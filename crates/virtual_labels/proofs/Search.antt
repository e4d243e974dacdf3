-- One key more: only labels before the one found so far are tried under it.
use Rattle.std.proofs.Common.{◌≡◌, ℕ, zero, suc, ◌<◌, List, [], ◌∷◌, ◌++◌, length, take, map, Some, None, slice_get, refl, sym, ap, ◌∙◌, arith}
use Rattle.std.specs.Prelude.{Option}
use Rattle.cipher_definitions.specs.Kdf.{virtual_address}
use Rattle.mesh_base.specs.declared.keys.UpperKey.{UpperKey}
use Rattle.mesh_base.specs.declared.upper.UpperFields.{UpperFields}
use Rattle.layer_definitions.specs.Labels.{IsLabelUnopened, OpensLabel, with_label}
use Rattle.layer_definitions.specs.Upper.{IsUnopened, Opens}
use Rattle.mesh_base.specs.declared.address.Address.{Address}
use Rattle.upper_transport.specs.Labelled.{OpensByLabel, OpensByNone}
use Rattle.upper_transport.proofs.Fitting.{opened_not_unopened, opens_here, unopened_more}
use Rattle.virtual_labels.specs.Addresses.{addresses_of}
use Rattle.virtual_labels.specs.declared.opening.LabelOpened.{LabelOpened}
use Rattle.virtual_labels.specs.Search.{IsFound}

pub in_front : (labels : List (List ℕ)) (n i : ℕ) (e : List ℕ) → slice_get (take n labels) i ≡ Some e → (i < n) × (slice_get labels i ≡ Some e)
in_front [] zero i e s = absurd (cc)
in_front [] (suc n) i e s = absurd (cc)
in_front (x ∷ xs) zero i e s = absurd (cc)
in_front (x ∷ xs) (suc n) zero e s = (omega arith, s)
in_front (x ∷ xs) (suc n) (suc i) e s = let rest = in_front xs n i e s in (omega (arith, rest.0), rest.1)

to_front : (labels : List (List ℕ)) (n i : ℕ) (e : List ℕ) → i < n → slice_get labels i ≡ Some e → slice_get (take n labels) i ≡ Some e
to_front [] n i e l s = absurd (cc)
to_front (x ∷ xs) zero i e l s = absurd (omega arith)
to_front (x ∷ xs) (suc n) zero e l s = s
to_front (x ∷ xs) (suc n) (suc i) e l s = to_front xs n i e (omega arith) s

is_within : (labels : List (List ℕ)) (i : ℕ) (e : List ℕ) → slice_get labels i ≡ Some e → i < length labels
is_within [] i e s = absurd (cc)
is_within (x ∷ xs) zero e s = omega arith
is_within (x ∷ xs) (suc i) e s = omega (arith, is_within xs i e s)

module _ (keys : List UpperKey) (key : UpperKey) (labels : List (List ℕ)) (f : UpperFields) (upper : List ℕ) where
  -- under these keys no label before that place opens anything
  abbrev IsLimit : ℕ → Type 0
  IsLimit limit =
      (i : ℕ) (label : List ℕ) → i < limit → slice_get labels i ≡ Some label → virtual_address label ≡ f.dst.0 → IsUnopened keys (with_label label f) upper

  limit_of : (limit : ℕ) (found : Option LabelOpened) → IsFound keys labels f upper limit found → IsLimit limit
  limit_of limit None h i label l s address = h.1 i label s address
  limit_of limit (Some o) h i label l s address = h.1.first i label (omega (arith, l, h.0)) s address

  -- the key opens by an earlier label
  pub found_earlier : (limit at : ℕ) (found : Option LabelOpened) (o : LabelOpened) → length keys ≡ at → IsFound keys labels f upper limit found
      → OpensByLabel key (take limit labels) f upper o.label o.opened.payload → o.opened.at ≡ at → IsFound (keys ++ key ∷ []) labels f upper o.label (Some o)
  found_earlier limit at found o few h new place =
      let below = limit_of limit found h in
      let here = in_front labels limit o.label new.label new.label_is in (
        refl,
        record {
          label = new.label;
          label_is = here.1;
          address = new.address;
          opens =
              opens_here keys [] key (with_label new.label f) upper o.opened.payload o.opened.at (place ∙ sym few) (below o.label new.label here.0 here.1 new.address)
              new.opens;
          first = λ i earlier l s address.
              unopened_more keys key (with_label earlier f) upper (below i earlier (omega (arith, l, here.0)) s address)
              (λ other opens. new.first i earlier other l (to_front labels limit i earlier (omega (arith, l, here.0)) s) address opens);
        },
      )

  more_opens : (g : UpperFields) (payload : List ℕ) (place : ℕ) → Opens keys g upper place payload → Opens (keys ++ key ∷ []) g upper place payload
  more_opens g payload place o = record {
    key = o.key;
    key_is = first_in keys (key ∷ []) place o.key o.key_is;
    opens = o.opens;
    first = λ k earlier other l s h. o.first k earlier other l (back_in keys (key ∷ []) k earlier (omega (arith, l, place_in keys place o.key o.key_is)) s) h;
  }
    where
      first_in : (xs ys : List UpperKey) (k : ℕ) (e : UpperKey) → slice_get xs k ≡ Some e → slice_get (xs ++ ys) k ≡ Some e
      first_in [] ys k e s = absurd (cc)
      first_in (x ∷ xs) ys zero e s = s
      first_in (x ∷ xs) ys (suc k) e s = first_in xs ys k e s

      back_in : (xs ys : List UpperKey) (k : ℕ) (e : UpperKey) → k < length xs → slice_get (xs ++ ys) k ≡ Some e → slice_get xs k ≡ Some e
      back_in [] ys k e l s = absurd (omega arith)
      back_in (x ∷ xs) ys zero e l s = s
      back_in (x ∷ xs) ys (suc k) e l s = back_in xs ys k e (omega arith) s

      place_in : (xs : List UpperKey) (k : ℕ) (e : UpperKey) → slice_get xs k ≡ Some e → k < length xs
      place_in [] k e s = absurd (cc)
      place_in (x ∷ xs) zero e s = omega arith
      place_in (x ∷ xs) (suc k) e s = omega (arith, place_in xs k e s)

  -- by none of those
  pub found_before : (limit : ℕ) (found : Option LabelOpened) → IsFound keys labels f upper limit found
      → OpensByNone key (take limit labels) f upper → IsFound (keys ++ key ∷ []) labels f upper limit found
  found_before limit None h none = (
    h.0,
    λ i label s address.
        unopened_more keys key (with_label label f) upper (h.1 i label s address)
        (λ other opens. none i label other (to_front labels limit i label (omega (arith, h.0, is_within labels i label s)) s) address opens),
  )
  found_before limit (Some o) h none = (
    h.0,
    record {
      label = h.1.label;
      label_is = h.1.label_is;
      address = h.1.address;
      opens = more_opens (with_label h.1.label f) o.opened.payload o.opened.at h.1.opens;
      first = λ i earlier l s address.
          unopened_more keys key (with_label earlier f) upper (h.1.first i earlier l s address)
          (λ other opens. none i earlier other (to_front labels limit i earlier (omega (arith, l, h.0)) s) address opens);
    },
  )

-- no key is tried yet
pub none_searched : (labels : List (List ℕ)) (f : UpperFields) (upper : List ℕ) → IsFound [] labels f upper (length labels) None
none_searched labels f upper = (refl, λ i label s address k key payload t o. absurd (cc))

-- what opens is opened
pub found_not_unopened : (keys : List UpperKey) (labels : List (List ℕ)) (f : UpperFields) (upper : List ℕ) (at place : ℕ) (payload : List ℕ) → OpensLabel keys labels f upper at place payload
    → IsLabelUnopened keys labels f upper → ⊥
found_not_unopened keys labels f upper at place payload o u =
    opened_not_unopened keys (with_label o.label f) upper payload place o.opens (u at o.label o.label_is o.address)

take_map : {A B : Type 0} (g : A → B) (xs : List A) (n : ℕ) → take n (map g xs) ≡ map g (take n xs)
take_map g [] zero = refl
take_map g [] (suc n) = refl
take_map g (x ∷ xs) zero = refl
take_map g (x ∷ xs) (suc n) = ap (λ ys. g x ∷ ys) (take_map g xs n)

-- the addresses of the first labels
pub front_addresses : (labels : List (List ℕ)) (addresses : List Address) (n : ℕ) → addresses ≡ addresses_of labels → take n addresses ≡ addresses_of (take n labels)
front_addresses labels addresses n e = ap (λ (xs : List Address). take n xs) e ∙ take_map (λ label. record { 0 = virtual_address label }) labels n

-- Lists by places.
use Rattle.std.proofs.Common.{◌≡◌, ℕ, zero, suc, ◌+◌, ◌<◌, List, [], ◌∷◌, ◌++◌, length, take, drop, map, get_or, set, refl, sym, ap, ◌∙◌, arith, append_assoc, append-nil}
use Rattle.std.specs.List.{flat_map, range_with_len}
use Rattle.std.proofs.lemmas.List.{drop_more, get_or_at, length-take-le, set_at, take_more}
use Rattle.element_models.specs.Places.{flat_from, map_from}

-- One item more.

pub length-map_from : {X Y : Type 0} (f : ℕ → X → Y) (place : ℕ) (xs : List X) → length (map_from f place xs) ≡ length xs
length-map_from f place [] = refl
length-map_from f place (x ∷ xs) = ap (λ n. suc n) (length-map_from f (place + 1) xs)

map_from-append : {X Y : Type 0} (f : ℕ → X → Y) (place : ℕ) (xs ys : List X) → map_from f place (xs ++ ys) ≡ map_from f place xs ++ map_from f (place + length xs) ys
map_from-append f place [] ys = let e : place ≡ place + 0 = omega arith in ap (λ n. map_from f n ys) e
map_from-append f place (x ∷ xs) ys =
    let e : place + 1 + length xs ≡ place + suc (length xs) = omega arith in
    ap (λ zs. f place x ∷ zs) (map_from-append f (place + 1) xs ys ∙ ap (λ n. map_from f (place + 1) xs ++ map_from f n ys) e)

flat_from-append : {X Y : Type 0} (f : ℕ → X → List Y) (place : ℕ) (xs ys : List X) → flat_from f place (xs ++ ys) ≡ flat_from f place xs ++ flat_from f (place + length xs) ys
flat_from-append f place [] ys = let e : place ≡ place + 0 = omega arith in ap (λ n. flat_from f n ys) e
flat_from-append f place (x ∷ xs) ys =
    let e : place + 1 + length xs ≡ place + suc (length xs) = omega arith in
    ap (λ zs. f place x ++ zs) (flat_from-append f (place + 1) xs ys ∙ ap (λ n. flat_from f (place + 1) xs ++ flat_from f n ys) e)
    ∙ sym (append_assoc (f place x) (flat_from f (place + 1) xs) (flat_from f (place + suc (length xs)) ys))

front_is : {X : Type 0} (xs : List X) (i : ℕ) → i < length xs → 0 + length (take i xs) ≡ i
front_is xs i l = omega (arith, length-take-le i xs (omega arith))

map_from_more : {X Y : Type 0} (f : ℕ → X → Y) (xs : List X) (i : ℕ) (d : X) → i < length xs
    → map_from f 0 (take (i + 1) xs) ≡ map_from f 0 (take i xs) ++ f i (get_or xs i d) ∷ []
map_from_more f xs i d l =
    ap (λ ys. map_from f 0 ys) (take_more xs i d l)
    ∙ map_from-append f 0 (take i xs) (get_or xs i d ∷ [])
    ∙ ap (λ n. map_from f 0 (take i xs) ++ f n (get_or xs i d) ∷ []) (front_is xs i l)

pub flat_from_more : {X Y : Type 0} (f : ℕ → X → List Y) (xs : List X) (i : ℕ) (d : X) → i < length xs
    → flat_from f 0 (take (i + 1) xs) ≡ flat_from f 0 (take i xs) ++ f i (get_or xs i d)
flat_from_more f xs i d l =
    ap (λ ys. flat_from f 0 ys) (take_more xs i d l)
    ∙ flat_from-append f 0 (take i xs) (get_or xs i d ∷ [])
    ∙ ap (λ n. flat_from f 0 (take i xs) ++ (f n (get_or xs i d) ++ [])) (front_is xs i l)
    ∙ ap (λ ys. flat_from f 0 (take i xs) ++ ys) (append-nil (f i (get_or xs i d)))

-- Items changed place by place: those so far are, the rest are as they were.
module _ {X : Type 0} (f : ℕ → X → X) (xs now : List X) (i : ℕ) (d : X) (l : i < length xs) (so_far : now ≡ map_from f 0 (take i xs) ++ drop i xs) where
  front_length : length (map_from f 0 (take i xs)) ≡ i
  front_length = length-map_from f 0 (take i xs) ∙ length-take-le i xs (omega arith)

  now_is : now ≡ map_from f 0 (take i xs) ++ get_or xs i d ∷ drop (i + 1) xs
  now_is = so_far ∙ ap (λ ys. map_from f 0 (take i xs) ++ ys) (drop_more xs i d l)

  -- the item at the place is as it was
  pub item_is : get_or now i d ≡ get_or xs i d
  item_is =
      ap (λ ys. get_or ys i d) now_is
      ∙ get_or_at (map_from f 0 (take i xs)) (get_or xs i d) (drop (i + 1) xs) d i front_length

  pub changed_more : (y : X) → y ≡ f i (get_or now i d) → set now i y ≡ map_from f 0 (take (i + 1) xs) ++ drop (i + 1) xs
  changed_more y e =
      ap (λ ys. set ys i y) now_is
      ∙ set_at (map_from f 0 (take i xs)) (get_or xs i d) (drop (i + 1) xs) y i front_length
      ∙ ap (λ z. map_from f 0 (take i xs) ++ z ∷ drop (i + 1) xs) (e ∙ ap (λ z. f i z) item_is)
      ∙ sym (append_assoc (map_from f 0 (take i xs)) (f i (get_or xs i d) ∷ []) (drop (i + 1) xs))
      ∙ ap (λ ys. ys ++ drop (i + 1) xs) (sym (map_from_more f xs i d l))

-- A list made from its places.

pub map_from_range : {X Y : Type 0} (f : ℕ → X → Y) (g : ℕ → X) (a n : ℕ) → map_from f a (map g (range_with_len a n)) ≡ map (λ e. f e (g e)) (range_with_len a n)
map_from_range f g a zero = refl
map_from_range f g a (suc n) = ap (λ zs. f a (g a) ∷ zs) (map_from_range f g (a + 1) n)

pub flat_from_range : {X Y : Type 0} (f : ℕ → X → List Y) (g : ℕ → X) (a n : ℕ) → flat_from f a (map g (range_with_len a n)) ≡ flat_map (λ e. f e (g e)) (range_with_len a n)
flat_from_range f g a zero = refl
flat_from_range f g a (suc n) = ap (λ zs. f a (g a) ++ zs) (flat_from_range f g (a + 1) n)

pub map_same : {Y : Type 0} (f g : ℕ → Y) (xs : List ℕ) → ((e : ℕ) → f e ≡ g e) → map f xs ≡ map g xs
map_same f g xs same = let eq : f ≡ g = λ i e. same e i in ap (λ h. map h xs) eq

pub flat_map_same : {Y : Type 0} (f g : ℕ → List Y) (xs : List ℕ) → ((e : ℕ) → f e ≡ g e) → flat_map f xs ≡ flat_map g xs
flat_map_same f g xs same = let eq : f ≡ g = λ i e. same e i in ap (λ h. flat_map h xs) eq

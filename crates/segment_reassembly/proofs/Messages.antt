-- Lists of messages.
use Rattle.std.proofs.Common.{◌≡◌, ℕ, ◌+◌, ◌≤◌, ◌<◌, Bool, true, false, cond, List, [], ◌∷◌, ◌++◌, length, take, get_or, refl, sym, ap, ◌∙◌, arith, Option, Some, None}
use Rattle.std.specs.Prelude.{slice_set, slice_index_or, nat_lt, nat_le}
use Rattle.std.specs.List.{cons_option, filter_map, position}
use Rattle.std.specs.Option.{option_to_list}
use Rattle.std.proofs.lemmas.List.{take_more, get_or_past}
use Rattle.std.proofs.lemmas.List.Elements.{filter_map-append}
use Rattle.layer_states.specs.Names.{is_name}
use Rattle.layer_states.specs.Reassembly.{begun, judged, judged_after, names_of, noted, place_of, taken}
use Rattle.layer_states.specs.declared.reassembly.Assembly.{Assembly}
use Rattle.layer_states.specs.declared.reassembly.PartHeard.{PartHeard}
use Rattle.layer_states.specs.declared.reassembly.Taken.TheVariants.{NoRoom}
use Rattle.std.proofs.lemmas.Bool.Decides.{nat_tests}
use Rattle.node_limits.specs.declared.TheConstants.{MESSAGES_IN_PROGRESS}

-- what one item more gives
one_given : {X Y : Type 0} (h : X → Option Y) (x : X) → filter_map h (x ∷ []) ≡ option_to_list (h x)
one_given {Y = Y} h x = given (h x)
  where
    given : (o : Option Y) → cons_option o [] ≡ option_to_list o
    given None = refl
    given (Some y) = refl

pub filter_map_more : {X Y : Type 0} (h : X → Option Y) (xs : List X) (i : ℕ) (d : X) → i < length xs
    → filter_map h (take i xs) ++ option_to_list (h (get_or xs i d)) ≡ filter_map h (take (i + 1) xs)
filter_map_more h xs i d l =
    ap (λ ys. filter_map h (take i xs) ++ ys) (sym (one_given h (get_or xs i d)))
    ∙ sym (filter_map-append h (take i xs) (get_or xs i d ∷ []))
    ∙ ap (λ ys. filter_map h ys) (sym (take_more xs i d l))

-- A segment of a message that is held, which stands at this place.
module _ (rows : List Assembly) (now : ℕ) (h : PartHeard) where
  abbrev held : Bool
  held = nat_lt (place_of h.name rows) (length rows)

  abbrev at : ℕ → Assembly
  at p = slice_index_or rows p (begun now h)

  abbrev placed : Bool → Option ℕ
  placed b = cond b (Some (place_of h.name rows)) None

  pub taken_held : (p : ℕ) → position (λ a. is_name h.name a.name) rows ≡ Some p → taken rows now h ≡ judged (at p) now h
  taken_held p e = (elim held as (λ b. held ≡ b → placed b ≡ Some p → taken rows now h ≡ judged (at p) now h) [
    | true ↦ λ t u. let same : place_of h.name rows ≡ p = cc in rw t (ap (λ q. judged (at q) now h) same)
    | false ↦ λ t u. cc
  ]) refl e

  pub noted_held : (p : ℕ) → position (λ a. is_name h.name a.name) rows ≡ Some p → noted rows now h ≡ slice_set rows p (judged_after (at p) now h)
  noted_held p e = (elim held as (λ b. held ≡ b → placed b ≡ Some p → noted rows now h ≡ slice_set rows p (judged_after (at p) now h)) [
    | true ↦ λ t u. let same : place_of h.name rows ≡ p = cc in rw t (ap (λ q. slice_set rows q (judged_after (at q) now h)) same)
    | false ↦ λ t u. cc
  ]) refl e

  not_held : position (λ a. is_name h.name a.name) rows ≡ None → held ≡ false
  not_held e = (elim held as (λ b. held ≡ b → placed b ≡ None → held ≡ false) [
    | true ↦ λ t u. cc
    | false ↦ λ t u. t
  ]) refl e

  -- A segment of a message that isn't held, where there is no room.
  pub taken_full : position (λ a. is_name h.name a.name) rows ≡ None → nat_le MESSAGES_IN_PROGRESS (length rows) ≡ true
      → (taken rows now h ≡ NoRoom (take MESSAGES_IN_PROGRESS (names_of rows))) × (noted rows now h ≡ rows)
  taken_full e full = (rw (not_held e, full) refl, rw (not_held e, full) refl)

  -- and where there is room
  pub taken_new : position (λ a. is_name h.name a.name) rows ≡ None → nat_le MESSAGES_IN_PROGRESS (length rows) ≡ false
      → (taken rows now h ≡ judged (begun now h) now h) × (noted rows now h ≡ rows ++ judged_after (begun now h) now h ∷ [])
  taken_new e room =
      let past : length rows ≤ place_of h.name rows = grind (arith, nat_tests, not_held e) in
      let first : at (place_of h.name rows) ≡ begun now h = get_or_past rows (place_of h.name rows) (begun now h) past in
      (rw (not_held e, room) (ap (λ a. judged a now h) first), rw (not_held e, room) (ap (λ a. rows ++ judged_after a now h ∷ []) first))

pub length-option_to_list : {X : Type 0} (o : Option X) → length (option_to_list o) ≤ 1
length-option_to_list None = omega arith
length-option_to_list (Some x) = omega arith

-- Control messages of pieces of at most 8 octets.
use Rattle.std.proofs.Common.{◌≡◌, ℕ, ◌+◌, ◌*◌, ◌≤◌, ◌<◌, Bool, true, false, cond, List, [], ◌∷◌, ◌++◌, length, get_or, set, map, filter, refl, sym, ap, ◌∙◌, arith, Option, Some, None, zero, suc, length-append, length-set, ◌-◌, take}
use Rattle.std.proofs.lemmas.Bool.{and_from, and_parts, not-false, or_parts}
use Rattle.std.specs.Prelude.{◌==◌, nat_lt, IsTrue, replicate, slice_set, is_some, unwrap_or}
use Rattle.std.specs.List.{list_all}
use Rattle.std.proofs.lemmas.Bool.Decides.{nat_tests}
use Rattle.node_limits.specs.declared.TheConstants.{MESSAGES_IN_PROGRESS}
use Rattle.layer_definitions.specs.Lower.{Fits}
use Rattle.layer_states.specs.Reassembly.{begun, form_of, has_no_room, heard_by, is_at_odds, is_due, is_form, is_other, judged, judged_after, live, names_of, message_for, missing_of, noted, outcome, piece_at, piece_of, place_of, put_message, rung, seg_n_of, seg_o_of, taken, timer_after, whole_of, with_piece}
use Rattle.layer_states.specs.Names.{is_same}
use Rattle.layer_states.specs.declared.reassembly.Assembly.{Assembly}
use Rattle.layer_states.specs.declared.reassembly.PartHeard.{PartHeard}
use Rattle.layer_states.specs.declared.reassembly.Taken.TheVariants.{Conflict, NoRoom, Waiting, Whole}
use Rattle.mesh_base.specs.declared.lower.Lower.{Lower}
use Rattle.mesh_base.specs.declared.lower.Lower.TheVariants.{Access, Control, AccessPart, ControlPart}
use Rattle.segment_reassembly.specs.Short.{IsWithin, is_short, is_short_piece}

-- A test of all items of a list, through changes of the list.
all_filter : {X : Type 0} (p q : X → Bool) (xs : List X) → list_all p xs ≡ true → list_all p (filter q xs) ≡ true
all_filter p q [] h = refl
all_filter p q (x ∷ xs) h =
    (elim (q x) as (λ b. list_all p (cond b (x ∷ filter q xs) (filter q xs)) ≡ true) [
      | true ↦ and_from (p x) (list_all p (filter q xs)) (and_parts (p x) (list_all p xs) h).0 (all_filter p q xs (and_parts (p x) (list_all p xs) h).1)
      | false ↦ all_filter p q xs (and_parts (p x) (list_all p xs) h).1
    ])

all_map : {X : Type 0} (p : X → Bool) (f : X → X) → ((x : X) → p x ≡ true → p (f x) ≡ true) → (xs : List X) → list_all p xs ≡ true → list_all p (map f xs) ≡ true
all_map p f keeps [] h = refl
all_map p f keeps (x ∷ xs) h =
    and_from (p (f x)) (list_all p (map f xs)) (keeps x (and_parts (p x) (list_all p xs) h).0) (all_map p f keeps xs (and_parts (p x) (list_all p xs) h).1)

all_set : {X : Type 0} (p : X → Bool) (xs : List X) (i : ℕ) (y : X) → list_all p xs ≡ true → p y ≡ true → list_all p (set xs i y) ≡ true
all_set p [] i y h k = refl
all_set p (x ∷ xs) zero y h k = and_from (p y) (list_all p xs) k (and_parts (p x) (list_all p xs) h).1
all_set p (x ∷ xs) (suc i) y h k =
    and_from (p x) (list_all p (set xs i y)) (and_parts (p x) (list_all p xs) h).0 (all_set p xs i y (and_parts (p x) (list_all p xs) h).1 k)

all_push : {X : Type 0} (p : X → Bool) (xs : List X) (y : X) → list_all p xs ≡ true → p y ≡ true → list_all p (xs ++ y ∷ []) ≡ true
all_push p [] y h k = and_from (p y) true k refl
all_push p (x ∷ xs) y h k =
    and_from (p x) (list_all p (xs ++ y ∷ [])) (and_parts (p x) (list_all p xs) h).0 (all_push p xs y (and_parts (p x) (list_all p xs) h).1 k)

all_get : {X : Type 0} (p : X → Bool) (xs : List X) (i : ℕ) (d : X) → list_all p xs ≡ true → p d ≡ true → p (get_or xs i d) ≡ true
all_get p [] i d h k = k
all_get p (x ∷ xs) zero d h k = (and_parts (p x) (list_all p xs) h).0
all_get p (x ∷ xs) (suc i) d h k = all_get p xs i d (and_parts (p x) (list_all p xs) h).1 k

none_short : (n : ℕ) → list_all is_short_piece (replicate n None) ≡ true
none_short zero = refl
none_short (suc n) = none_short n

-- the octets of short pieces
whole_short : (ps : List (Option (List ℕ))) → list_all is_short_piece ps ≡ true → length (whole_of ps) ≤ 8 * length ps
whole_short [] h = omega arith
whole_short (p ∷ ps) h =
    let first : length (unwrap_or p []) ≤ 8 = grind (arith, nat_tests, (and_parts (is_short_piece p) (list_all is_short_piece ps) h).0) in
    let rest = whole_short ps (and_parts (is_short_piece p) (list_all is_short_piece ps) h).1 in
    omega (arith, first, rest, length-append (unwrap_or p []) (whole_of ps))

-- a segment of a control message is short
part_short : (part : Lower) → Fits part → (form_of part).ctl ≡ true → is_short_piece (Some (piece_of part)) ≡ true
part_short (Access akf aid upper) fits h = cc
part_short (Control opcode params) fits h = refl
part_short (AccessPart akf aid szmic seq_zero seg_o seg_n piece) fits h = cc
part_short (ControlPart opcode seq_zero seg_o seg_n piece) fits h = grind (arith, nat_tests, fits.3.most)

-- what a message and a segment that isn't at odds with it have in common
one_form : (a : Assembly) (h : PartHeard) → is_at_odds a h ≡ false → is_form a.form (form_of h.part) ≡ true
one_form a h e =
    let pieces = (or_parts _ (is_other (piece_at a.pieces (seg_o_of h.part)) (piece_of h.part)) e).0 in
    let length = (or_parts _ _ pieces).0 in
    not-false (is_form a.form (form_of h.part)) (or_parts _ _ length).1

same_bool : (a b : Bool) → is_same a b ≡ true → a ≡ b
same_bool true b h = sym h
same_bool false true h = cc
same_bool false false h = refl

one_ctl : (a : Assembly) (h : PartHeard) → is_at_odds a h ≡ false → a.form.ctl ≡ (form_of h.part).ctl
one_ctl a h e = same_bool a.form.ctl (form_of h.part).ctl (and_parts _ _ (and_parts _ _ (and_parts _ _ (one_form a h e)).0).0).0

-- how many pieces they have
as_many : (a : Assembly) (h : PartHeard) → is_at_odds a h ≡ false → length a.pieces ≡ seg_n_of h.part + 1
as_many a h e =
    let pieces = (or_parts _ (is_other (piece_at a.pieces (seg_o_of h.part)) (piece_of h.part)) e).0 in
    let many = not-false (length a.pieces == seg_n_of h.part + 1) (or_parts _ _ pieces).1 in
    grind (arith, nat_tests, many)

few_pieces : (part : Lower) → Fits part → seg_n_of part < 32
few_pieces (Access akf aid upper) fits = omega arith
few_pieces (Control opcode params) fits = omega arith
few_pieces (AccessPart akf aid szmic seq_zero seg_o seg_n piece) fits = omega (arith, fits.3)
few_pieces (ControlPart opcode seq_zero seg_o seg_n piece) fits = omega (arith, fits.2)

-- One message.

short_set : (c : Bool) (ps : List (Option (List ℕ))) (i : ℕ) (x : Option (List ℕ)) → cond c (list_all is_short_piece ps) true ≡ true
    → (c ≡ true → is_short_piece x ≡ true) → cond c (list_all is_short_piece (set ps i x)) true ≡ true
short_set true ps i x h k = all_set is_short_piece ps i x h (k refl)
short_set false ps i x h k = refl

short_if : (c b : Bool) → b ≡ true → cond c b true ≡ true
short_if true b h = h
short_if false b h = refl

begun_short : (now : ℕ) (h : PartHeard) → is_short (begun now h) ≡ true
begun_short now h = short_if (form_of h.part).ctl _ (none_short (seg_n_of h.part + 1))

pieces_short : (a : Assembly) (h : PartHeard) → Fits h.part → is_at_odds a h ≡ false → is_short a ≡ true
    → cond a.form.ctl (list_all is_short_piece (slice_set a.pieces (seg_o_of h.part) (Some (piece_of h.part)))) true ≡ true
pieces_short a h fits odds short =
    short_set a.form.ctl a.pieces (seg_o_of h.part) (Some (piece_of h.part)) short (λ c. part_short h.part fits (sym (one_ctl a h odds) ∙ c))

heard_short : (a : Assembly) (now : ℕ) (h : PartHeard) → Fits h.part → is_at_odds a h ≡ false → is_short a ≡ true → is_short (heard_by a now h) ≡ true
heard_short a now h fits odds short =
    let set : Assembly = record a { pieces = slice_set a.pieces (seg_o_of h.part) (Some (piece_of h.part)); renewed = now; timer = timer_after now a.timer h } in
    elim (is_some (piece_at a.pieces (seg_o_of h.part))) as (λ b. is_short (cond b a set) ≡ true) [
      | true ↦ short
      | false ↦ pieces_short a h fits odds short
    ]

judged_short : (a : Assembly) (now : ℕ) (h : PartHeard) → Fits h.part → is_short a ≡ true → is_short (judged_after a now h) ≡ true
judged_short a now h fits short =
    (elim (is_at_odds a h) as (λ b. is_at_odds a h ≡ b → is_short (cond b a (heard_by a now h)) ≡ true) [
      | true ↦ λ t. short
      | false ↦ λ t. heard_short a now h fits t short
    ]) refl

rung_short : (now : ℕ) (a : Assembly) → is_short a ≡ true → is_short (rung now a) ≡ true
rung_short now a short = elim (is_due now a) as (λ b. is_short (cond b (record a { timer = None }) a) ≡ true) [ true ↦ short | false ↦ short ]

-- All messages.

abbrev are_short : List Assembly → Bool
are_short rows = list_all is_short rows

pub live_short : (now : ℕ) (rows : List Assembly) → IsTrue (are_short rows) → IsTrue (are_short (live now rows))
live_short now rows h = all_filter is_short (λ a. nat_lt (now - a.renewed) 1000) rows h

pub rest_short : (p : Assembly → Bool) (rows : List Assembly) → IsTrue (are_short rows) → IsTrue (are_short (filter p rows))
rest_short p rows h = all_filter is_short p rows h

pub all_rung_short : (now : ℕ) (rows : List Assembly) → IsTrue (are_short rows) → IsTrue (are_short (map (rung now) rows))
all_rung_short now rows h = all_map is_short (rung now) (rung_short now) rows h

for_short : (rows : List Assembly) (now : ℕ) (h : PartHeard) → are_short rows ≡ true → is_short (message_for rows now h) ≡ true
for_short rows now h short = all_get is_short rows (place_of h.name rows) (begun now h) short (begun_short now h)

pub noted_short : (rows : List Assembly) (now : ℕ) (h : PartHeard) → Fits h.part → IsTrue (are_short rows) → IsTrue (are_short (noted rows now h))
noted_short rows now h fits short =
    let a : Assembly = judged_after (message_for rows now h) now h in
    let kept : is_short a ≡ true = judged_short (message_for rows now h) now h fits (for_short rows now h short) in
    let place : ℕ = place_of h.name rows in
    elim (has_no_room h.name rows) as (λ b. are_short (cond b rows (put_message place a rows)) ≡ true) [
      | true ↦ short
      | false ↦ elim (nat_lt place (length rows)) as (λ b. are_short (cond b (slice_set rows place a) (rows ++ a ∷ [])) ≡ true) [
        | true ↦ all_set is_short rows place a short kept
        | false ↦ all_push is_short rows a short kept
      ]
    ]

with_short : (a : Assembly) (h : PartHeard) → Fits h.part → is_at_odds a h ≡ false → (form_of h.part).ctl ≡ true → is_short a ≡ true
    → length (whole_of (with_piece a.pieces h.part)) ≤ 256
with_short a h fits odds ctl short =
    let c : a.form.ctl ≡ true = one_ctl a h odds ∙ ctl in
    let pieces : list_all is_short_piece a.pieces ≡ true = ap (λ b. cond b (list_all is_short_piece a.pieces) true) (sym c) ∙ short in
    let set : List (Option (List ℕ)) = slice_set a.pieces (seg_o_of h.part) (Some (piece_of h.part)) in
    let all : list_all is_short_piece set ≡ true =
    all_set is_short_piece a.pieces (seg_o_of h.part) (Some (piece_of h.part)) pieces (part_short h.part fits ctl) in
    let many = as_many a h odds in
    let few = few_pieces h.part fits in
    elim (is_some (piece_at a.pieces (seg_o_of h.part))) as (λ b. length (whole_of (cond b a.pieces set)) ≤ 256) [
      | true ↦ omega (arith, whole_short a.pieces pieces, many, few)
      | false ↦ omega (arith, whole_short set all, many, few, length-set a.pieces (seg_o_of h.part) (Some (piece_of h.part)))
    ]

pub taken_within : (rows : List Assembly) (now : ℕ) (h : PartHeard) → Fits h.part → IsTrue (are_short rows) → IsTrue (form_of h.part).ctl → IsWithin 256 (taken rows now h)
taken_within rows now h fits short ctl =
    let a : Assembly = message_for rows now h in
    let held : is_short a ≡ true = for_short rows now h short in
    elim (has_no_room h.name rows) as (λ b. IsWithin 256 (cond b (NoRoom (take MESSAGES_IN_PROGRESS (names_of rows))) (judged a now h))) [
      | true ↦ tt
      | false ↦ (elim (is_at_odds a h) as (λ b. is_at_odds a h ≡ b → IsWithin 256 (cond b Conflict (outcome (with_piece a.pieces h.part)))) [
        | true ↦ λ t. tt
        | false ↦ λ t. elim (nat_lt 0 (missing_of (with_piece a.pieces h.part))) as (λ b. IsWithin 256 (cond b (Waiting (missing_of (with_piece a.pieces h.part))) (Whole (whole_of (with_piece a.pieces h.part))))) [
          | true ↦ tt
          | false ↦ with_short a h fits t ctl held
        ]
      ]) refl
    ]

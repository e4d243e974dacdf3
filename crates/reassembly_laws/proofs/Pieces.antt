-- The pieces of a message that is held, and what was heard of it.
use Rattle.std.proofs.Common.{◌≡◌, ℕ, zero, suc, ◌+◌, ◌<◌, ◌≤◌, Bool, true, false, cond, not, ◌&&◌, ◌||◌, eqb, List, [], ◌∷◌, map, length, replicate, refl, ap, sym, subst, ◌∙◌, arith, Option, Some, None, is_some}
use Rattle.std.specs.Prelude.{slice_set}
use Rattle.std.specs.List.{AllByRecursion as Every, list_any, range_with_len}
use Rattle.std.proofs.lemmas.Bool.Decides.{nat_tests}
use Rattle.std.proofs.lemmas.List.{length-replicate}
use Rattle.std.proofs.lemmas.List.FromFn.{get_or-map-range_with_len, length-map-range_with_len}
use Rattle.layer_states.specs.Names.{is_same}
use Rattle.layer_states.specs.Reassembly.{begun, form_of, heard_by, is_at_odds as is_at_odds_in, is_form, is_other, piece_at, piece_of, seg_n_of, seg_o_of, timer_after, with_piece}
use Rattle.layer_states.specs.declared.reassembly.Assembly.{Assembly}
use Rattle.layer_states.specs.declared.reassembly.Form.{Form}
use Rattle.layer_states.specs.declared.reassembly.PartHeard.{PartHeard}
use Rattle.reassembly_laws.specs.Progress.{Piece, all_octets, is_at_odds, is_heard, is_of_other_kind, is_open, octets_at, with_segment}

-- Tests.

pub and_front : (a b : Bool) → (a && b) ≡ true → a ≡ true
and_front true b h = refl
and_front false b h = h

pub and_back : (a b : Bool) → (a && b) ≡ true → b ≡ true
and_back true b h = h
and_back false b h = absurd cc

or_front : (a b : Bool) → (a || b) ≡ false → a ≡ false
or_front true b h = h
or_front false b h = refl

or_back : (a b : Bool) → (a || b) ≡ false → b ≡ false
or_back true b h = absurd cc
or_back false b h = h

not_not : (a : Bool) → not a ≡ false → a ≡ true
not_not true h = refl
not_not false h = absurd cc

same_bool : (a b : Bool) → is_same a b ≡ true → a ≡ b
same_bool true true h = refl
same_bool false false h = refl
same_bool true false h = sym h
same_bool false true h = absurd cc

same_itself : (a : Bool) → is_same a a ≡ true
same_itself true = refl
same_itself false = refl

is_equal : (a b : ℕ) → eqb a b ≡ true → a ≡ b
is_equal a b h = grind (arith, nat_tests, h)

equal_itself : (a : ℕ) → eqb a a ≡ true
equal_itself a = grind (arith, nat_tests)

not_equal : (a b : ℕ) → (a ≡ b → ⊥) → eqb a b ≡ false
not_equal a b h = test (eqb a b) refl
  where
    test : (c : Bool) → eqb a b ≡ c → c ≡ false
    test true e = absurd (h (is_equal a b e))
    test false e = refl

-- Forms.

forms_equal : (f g : Form) → f.ctl ≡ g.ctl → f.akf ≡ g.akf → f.code ≡ g.code → f.szmic ≡ g.szmic → f ≡ g
forms_equal f g a b c d = λ i. record { ctl = a i; akf = b i; code = c i; szmic = d i }

form_is : (f g : Form) → is_form f g ≡ true → f ≡ g
form_is f g h =
    let codes : (is_same f.ctl g.ctl && is_same f.akf g.akf && eqb f.code g.code) ≡ true = and_front _ _ h in
    let bools : (is_same f.ctl g.ctl && is_same f.akf g.akf) ≡ true = and_front _ _ codes in
    forms_equal f g (same_bool f.ctl g.ctl (and_front _ _ bools)) (same_bool f.akf g.akf (and_back _ _ bools))
    (is_equal f.code g.code (and_back _ _ codes)) (same_bool f.szmic g.szmic (and_back _ _ h))

form_itself : (f : Form) → is_form f f ≡ true
form_itself f = rw (same_itself f.ctl, same_itself f.akf, equal_itself f.code, same_itself f.szmic) refl

-- The octets under each SegO.

map_same : (f g : ℕ → Option (List ℕ)) (from n : ℕ) → ((j : ℕ) → from ≤ j → f j ≡ g j) → map f (range_with_len from n) ≡ map g (range_with_len from n)
map_same f g from zero h = refl
map_same f g from (suc n) h =
    ap (λ x. x ∷ map f (range_with_len (from + 1) n)) (h from (omega arith))
    ∙ ap (λ l. g from ∷ l) (map_same f g (from + 1) n (λ j k. h j (omega arith)))

set_one : (f g : ℕ → Option (List ℕ)) (x : Option (List ℕ)) (from n i : ℕ) → i < n → g (from + i) ≡ x
    → ((j : ℕ) → (j ≡ from + i → ⊥) → f j ≡ g j) → slice_set (map f (range_with_len from n)) i x ≡ map g (range_with_len from n)
set_one f g x from zero i h here other = absurd (omega arith)
set_one f g x from (suc n) zero h here other =
    ap (λ y. y ∷ map f (range_with_len (from + 1) n)) (sym here ∙ ap g (omega arith))
    ∙ ap (λ l. g from ∷ l) (map_same f g (from + 1) n (λ j k. other j (λ e. omega (arith, k, e))))
set_one f g x from (suc n) (suc i) h here other =
    ap (λ y. y ∷ slice_set (map f (range_with_len (from + 1) n)) i x) (other from (λ e. omega (arith, e)))
    ∙ ap (λ l. g from ∷ l)
    (set_one f g x (from + 1) n i (omega arith) (ap g (omega arith) ∙ here) (λ j k. other j (λ e. k (omega (arith, e)))))

from_zero : (n : ℕ) → 0 + n ≡ n
from_zero n = omega arith

none_yet : (from n : ℕ) → replicate n None ≡ map (octets_at []) (range_with_len from n)
none_yet from zero = refl
none_yet from (suc n) = ap (λ l. None ∷ l) (none_yet (from + 1) n)

pub heard_is : (ps : List Piece) (seg_o : ℕ) → is_heard ps seg_o ≡ is_some (octets_at ps seg_o)
heard_is [] seg_o = refl
heard_is (p ∷ ps) seg_o = step (eqb (seg_o_of p.part.part) seg_o) (heard_is ps seg_o)
  where
    step : (b : Bool) → is_heard ps seg_o ≡ is_some (octets_at ps seg_o)
        → (b || is_heard ps seg_o) ≡ is_some (cond b (Some (piece_of p.part.part)) (octets_at ps seg_o))
    step true e = refl
    step false e = e

-- A message that is held, by what was heard of it.

pub record IsKind (a : Assembly) (p : Piece) : Type 0 where
  pub dst : p.part.dst.0 ≡ a.dst.0
  pub net : p.part.net ≡ a.net
  pub form : form_of p.part.part ≡ a.form
  pub size : seg_n_of p.part.part + 1 ≡ length a.pieces

abbrev pub IsLast : Assembly → List Piece → Type 0
IsLast a [] = ⊥
IsLast a (p ∷ ps) = a.renewed ≡ p.at

pub record Matches (a : Assembly) (ps : List Piece) : Type 0 where
  pub kinds : Every (IsKind a) ps
  pub pieces : a.pieces ≡ map (octets_at ps) (range_with_len 0 (length a.pieces))
  pub last : IsLast a ps

-- A segment, and its message as it stands before it: one that is held, or one that begins.

abbrev pub odd_kind : Assembly → PartHeard → Bool
odd_kind a h =
    not (eqb a.dst.0 h.dst.0) || not (eqb a.net h.net) || not (is_form a.form (form_of h.part)) || not (eqb (length a.pieces) (seg_n_of h.part + 1))

pub record Stands (now : ℕ) (a : Assembly) (ps : List Piece) (h : PartHeard) : Type 0 where
  pub kinds : Every (IsKind a) ps
  pub pieces : a.pieces ≡ map (octets_at ps) (range_with_len 0 (length a.pieces))
  pub odd : odd_kind a h ≡ list_any (is_of_other_kind h) ps
  pub joins : with_segment now ps h ≡ cond (is_heard ps (seg_o_of h.part)) ps (record { at = now; part = h } ∷ ps)
  pub last : is_heard ps (seg_o_of h.part) ≡ true → IsLast a ps

kind_same : (a : Assembly) (p : Piece) (h : PartHeard) → IsKind a p → is_of_other_kind h p ≡ odd_kind a h
kind_same a p h k =
    ap (λ d. not (eqb d h.dst.0) || not (eqb p.part.net h.net) || not (is_form (form_of p.part.part) (form_of h.part)) || not (eqb (seg_n_of p.part.part) (seg_n_of h.part))) k.dst
    ∙ ap (λ n. not (eqb a.dst.0 h.dst.0) || not (eqb n h.net) || not (is_form (form_of p.part.part) (form_of h.part)) || not (eqb (seg_n_of p.part.part) (seg_n_of h.part))) k.net
    ∙ ap (λ f. not (eqb a.dst.0 h.dst.0) || not (eqb a.net h.net) || not (is_form f (form_of h.part)) || not (eqb (seg_n_of p.part.part) (seg_n_of h.part))) k.form
    ∙ ap (λ b. not (eqb a.dst.0 h.dst.0) || not (eqb a.net h.net) || not (is_form a.form (form_of h.part)) || not b)
    (one_more (seg_n_of p.part.part) (seg_n_of h.part) ∙ ap (λ n. eqb n (seg_n_of h.part + 1)) k.size)
  where
    one_more : (m n : ℕ) → eqb m n ≡ eqb (m + 1) (n + 1)
    one_more m n = grind (arith, nat_tests)

any_same : (f : Piece → Bool) (b : Bool) (p : Piece) (ps : List Piece) → Every (λ q. f q ≡ b) (p ∷ ps) → list_any f (p ∷ ps) ≡ b
any_same f true p ps h = ap (λ c. c || list_any f ps) h.0
any_same f false p ps h = ap (λ c. c || list_any f ps) h.0 ∙ none ps h.1
  where
    none : (ps : List Piece) → Every (λ q. f q ≡ false) ps → list_any f ps ≡ false
    none [] k = refl
    none (q ∷ qs) k = ap (λ c. c || list_any f qs) k.0 ∙ none qs k.1

each_kind : (a : Assembly) (h : PartHeard) (ps : List Piece) → Every (IsKind a) ps → Every (λ q. is_of_other_kind h q ≡ odd_kind a h) ps
each_kind a h [] k = tt
each_kind a h (p ∷ ps) k = (kind_same a p h k.0, each_kind a h ps k.1)

-- one that is held
pub held_stands : (now : ℕ) (a : Assembly) (ps : List Piece) (h : PartHeard) → Matches a ps → is_open now ps ≡ true → Stands now a ps h
held_stands now a [] h m is = absurd m.last
held_stands now a (p ∷ ps) h m is = record {
  kinds = m.kinds;
  pieces = m.pieces;
  odd = sym (any_same (is_of_other_kind h) (odd_kind a h) p ps (each_kind a h (p ∷ ps) m.kinds));
  joins = ap (λ b. cond (not b) (record { at = now; part = h } ∷ []) (cond (is_heard (p ∷ ps) (seg_o_of h.part)) (p ∷ ps) (record { at = now; part = h } ∷ p ∷ ps))) is;
  last = λ e. m.last;
}

-- one that begins
pub begun_stands : (now : ℕ) (h : PartHeard) → Stands now (begun now h) [] h
begun_stands now h =
    let size : ℕ = seg_n_of h.part + 1 in
    let many : length (begun now h).pieces ≡ size = length-replicate size None in
    record {
      kinds = tt;
      pieces = none_yet 0 size ∙ ap (λ n. map (octets_at []) (range_with_len 0 n)) (sym many);
      odd = rw (equal_itself h.dst.0, equal_itself h.net, form_itself (form_of h.part), many, equal_itself size) refl;
      joins = refl;
      last = λ e. absurd cc;
    }

module _ (now : ℕ) (a : Assembly) (ps : List Piece) (h : PartHeard) (s : Stands now a ps h) (fits : seg_o_of h.part ≤ seg_n_of h.part) where
  abbrev place : ℕ
  place = seg_o_of h.part

  abbrev piece : Piece
  piece = record { at = now; part = h }

  -- its octets under this SegO
  octets_are : place < length a.pieces → piece_at a.pieces place ≡ octets_at ps place
  octets_are within =
      ap (λ l. piece_at l place) s.pieces
      ∙ get_or-map-range_with_len (octets_at ps) 0 (length a.pieces) place place None within (omega arith)

  -- of the same kind
  same_size : odd_kind a h ≡ false → length a.pieces ≡ seg_n_of h.part + 1
  same_size e = is_equal _ _ (not_not _ (or_back _ _ e))

  within : odd_kind a h ≡ false → place < length a.pieces
  within e = omega (arith, same_size e, fits)

  pub odds_are : is_at_odds_in a h ≡ is_at_odds ps h
  odds_are = test (odd_kind a h) refl
    where
      test : (b : Bool) → odd_kind a h ≡ b → (odd_kind a h || is_other (piece_at a.pieces place) (piece_of h.part)) ≡ is_at_odds ps h
      test true e = rw (e, sym s.odd ∙ e) refl
      test false e =
          ap (λ b. b || is_other (piece_at a.pieces place) (piece_of h.part)) s.odd
          ∙ ap (λ o. list_any (is_of_other_kind h) ps || is_other o (piece_of h.part)) (octets_are (within e))

  module _ (agrees : is_at_odds_in a h ≡ false) where
    same_kind : odd_kind a h ≡ false
    same_kind = or_front _ _ agrees

    kind : IsKind a piece
    kind =
        let three = or_front _ _ same_kind in
        let two = or_front _ _ three in
        record {
          dst = sym (is_equal _ _ (not_not _ (or_front _ _ two)));
          net = sym (is_equal _ _ (not_not _ (or_back _ _ two)));
          form = sym (form_is _ _ (not_not _ (or_back _ _ three)));
          size = sym (same_size same_kind);
        }

    heard_before : is_some (piece_at a.pieces place) ≡ is_heard ps place
    heard_before = ap (λ o. is_some o) (octets_are (within same_kind)) ∙ sym (heard_is ps place)

    -- a piece more
    abbrev with_octets : Assembly
    with_octets = record a { pieces = slice_set a.pieces place (Some (piece_of h.part)); renewed = now; timer = timer_after now a.timer h }

    set_pieces : slice_set a.pieces place (Some (piece_of h.part)) ≡ map (octets_at (piece ∷ ps)) (range_with_len 0 (length a.pieces))
    set_pieces =
        ap (λ l. slice_set l place (Some (piece_of h.part))) s.pieces
        ∙ set_one (octets_at ps) (octets_at (piece ∷ ps)) (Some (piece_of h.part)) 0 (length a.pieces) place (within same_kind)
        (ap (octets_at (piece ∷ ps)) (from_zero place) ∙ ap (λ b. cond b (Some (piece_of h.part)) (octets_at ps place)) (equal_itself place))
        (λ j k. sym (ap (λ b. cond b (Some (piece_of h.part)) (octets_at ps j)) (not_equal place j (λ e. k (sym e ∙ sym (from_zero place))))))

    set_length : length (slice_set a.pieces place (Some (piece_of h.part))) ≡ length a.pieces
    set_length = ap length set_pieces ∙ length-map-range_with_len (octets_at (piece ∷ ps)) 0 (length a.pieces)

    kinds_with : (qs : List Piece) → Every (IsKind a) qs → Every (IsKind with_octets) qs
    kinds_with [] k = tt
    kinds_with (q ∷ qs) k = (record { dst = k.0.dst; net = k.0.net; form = k.0.form; size = k.0.size ∙ sym set_length }, kinds_with qs k.1)

    matches_with : Matches with_octets (piece ∷ ps)
    matches_with = record {
      kinds = kinds_with (piece ∷ ps) (kind, s.kinds);
      pieces = set_pieces ∙ ap (λ n. map (octets_at (piece ∷ ps)) (range_with_len 0 n)) (sym set_length);
      last = refl;
    }

    pub heard_matches : Matches (heard_by a now h) (with_segment now ps h)
    heard_matches = subst (Matches (heard_by a now h)) (sym s.joins) (test (is_heard ps place) refl)
      where
        test : (b : Bool) → is_heard ps place ≡ b
            → Matches (cond (is_some (piece_at a.pieces place)) a with_octets) (cond b ps (piece ∷ ps))
        test true e = rw (heard_before ∙ e) (record { kinds = s.kinds; pieces = s.pieces; last = s.last e })
        test false e = rw (heard_before ∙ e) matches_with

    -- so its pieces are those heard
    pieces_same : with_piece a.pieces h.part ≡ (heard_by a now h).pieces
    pieces_same = test (is_some (piece_at a.pieces place))
      where
        test : (b : Bool) → cond b a.pieces (slice_set a.pieces place (Some (piece_of h.part))) ≡ (cond b a with_octets).pieces
        test true = refl
        test false = refl

    length_same : length (heard_by a now h).pieces ≡ length a.pieces
    length_same = test (is_some (piece_at a.pieces place))
      where
        test : (b : Bool) → length (cond b a with_octets).pieces ≡ length a.pieces
        test true = refl
        test false = set_length

    pub pieces_are : with_piece a.pieces h.part ≡ all_octets (with_segment now ps h) (seg_n_of h.part)
    pieces_are =
        pieces_same ∙ heard_matches.pieces
        ∙ ap (λ n. map (octets_at (with_segment now ps h)) (range_with_len 0 n)) (length_same ∙ same_size same_kind)

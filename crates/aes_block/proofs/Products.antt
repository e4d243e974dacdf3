-- The tables, each computed once from the definitions.
use Rattle.std.proofs.Common.{◌≡◌, ℕ, ◌<◌, List, [], length, get_or, map, refl, ap, sym, ◌∙◌, arith}
use Rattle.std.specs.Int.{to_be_bytes, w32}
use Rattle.std.specs.List.{range_with_len}
use Rattle.std.proofs.lemmas.List.{get_or-map}
use Rattle.std.proofs.lemmas.List.FromFn.{get_or-map-range_with_len}
use Rattle.cipher_definitions.specs.Aes.{times_x, times_low_bits, inverse_from, inverse, affine, sub_octet}
use Rattle.aes_block.specs.Columns.{added_from_row_0, added_from_row_1, added_from_row_2, added_from_row_3}
use Rattle.aes_block.specs.declared.tables.TheConstants.{SUBSTITUTES, PRODUCTS_0, PRODUCTS_1, PRODUCTS_2, PRODUCTS_3}

-- the S-box holds, in order, what the definition gives for each octet
table : SUBSTITUTES ≡ map sub_octet (range_with_len 0 256)
unfolding times_x times_low_bits inverse_from inverse affine sub_octet
table = refl

-- so a read of it is the definition at that octet
pub substitutes : (a : ℕ) → a < 256 → get_or SUBSTITUTES a 0 ≡ sub_octet a
substitutes a h =
    ap (λ (t : List ℕ). get_or t a 0) table ∙ get_or-map-range_with_len sub_octet 0 256 a a 0 h (omega arith)

-- the products, over the S-box
products_0 : map (λ w. to_be_bytes w32 w) PRODUCTS_0 ≡ map added_from_row_0 SUBSTITUTES
unfolding times_x times_low_bits
products_0 = refl

products_1 : map (λ w. to_be_bytes w32 w) PRODUCTS_1 ≡ map added_from_row_1 SUBSTITUTES
unfolding times_x times_low_bits
products_1 = refl

products_2 : map (λ w. to_be_bytes w32 w) PRODUCTS_2 ≡ map added_from_row_2 SUBSTITUTES
unfolding times_x times_low_bits
products_2 = refl

products_3 : map (λ w. to_be_bytes w32 w) PRODUCTS_3 ≡ map added_from_row_3 SUBSTITUTES
unfolding times_x times_low_bits
products_3 = refl

-- so a read of one is what the definition adds
read : (added : ℕ → List ℕ) (products : List ℕ) → map (λ w. to_be_bytes w32 w) products ≡ map added SUBSTITUTES → length products ≡ 256
    → (a : ℕ) → a < 256 → to_be_bytes w32 (get_or products a 0) ≡ added (sub_octet a)
read added products same count a h =
    sym (get_or-map (λ w. to_be_bytes w32 w) products a 0 [] (omega arith))
    ∙ ap (λ (t : List (List ℕ)). get_or t a []) same
    ∙ get_or-map added SUBSTITUTES a 0 [] h
    ∙ ap added (substitutes a h)

pub adds_0 : (a : ℕ) → a < 256 → to_be_bytes w32 (get_or PRODUCTS_0 a 0) ≡ added_from_row_0 (sub_octet a)
adds_0 = read added_from_row_0 PRODUCTS_0 products_0 refl

pub adds_1 : (a : ℕ) → a < 256 → to_be_bytes w32 (get_or PRODUCTS_1 a 0) ≡ added_from_row_1 (sub_octet a)
adds_1 = read added_from_row_1 PRODUCTS_1 products_1 refl

pub adds_2 : (a : ℕ) → a < 256 → to_be_bytes w32 (get_or PRODUCTS_2 a 0) ≡ added_from_row_2 (sub_octet a)
adds_2 = read added_from_row_2 PRODUCTS_2 products_2 refl

pub adds_3 : (a : ℕ) → a < 256 → to_be_bytes w32 (get_or PRODUCTS_3 a 0) ≡ added_from_row_3 (sub_octet a)
adds_3 = read added_from_row_3 PRODUCTS_3 products_3 refl

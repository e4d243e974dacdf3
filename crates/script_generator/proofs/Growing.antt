-- A line more in a life of a generated script.
use Rattle.std.proofs.Common.{◌≡◌, ℕ, ◌+◌, ◌/◌, length, ◌∷◌, ◌++◌, [], map, refl, ap, sym, ◌∙◌, arith, add-one, ◌<◌, ◌*◌}
use Rattle.std.specs.Prelude.{slice_index_or}
use Rattle.std.specs.List.{range_with_len}
use Rattle.std.proofs.lemmas.List.FromFn.{get_or-map-range_with_len, length-map-range_with_len, map-range_with_len_more}
use Rattle.script_generator.specs.Generated.{life_at, line_at, line_of, lives_of, next_number, number_at}

pub number_more : (start i : ℕ) → number_at start (i + 1) ≡ next_number (number_at start i)
number_more start i = rw add-one refl

pub lines_more : (start first n x : ℕ) → x ≡ number_at start (first + n + 1)
    → map (line_at start) (range_with_len (first + 1) (n + 1)) ≡ map (line_at start) (range_with_len (first + 1) n) ++ line_of (first + n + 1) x ∷ []
lines_more start first n x is =
    map-range_with_len_more (line_at start) (first + 1) n (first + n + 1) (omega arith)
    ∙ ap (λ y. map (line_at start) (range_with_len (first + 1) n) ++ line_of (first + n + 1) y ∷ []) (sym is)

pub lives_are : (count start n : ℕ) → n ≡ (count + 4095) / 4096 → n ≡ length (lives_of count start)
lives_are count start n is = is ∙ sym (length-map-range_with_len (life_at count start) 0 ((count + 4095) / 4096))

-- a life that the script has begins before the last line
pub is_left : (count start i : ℕ) → i < length (lives_of count start) → 4096 * i < count
is_left count start i within = omega (arith, within, length-map-range_with_len (life_at count start) 0 ((count + 4095) / 4096))

pub life_is : (count start i : ℕ) → i < length (lives_of count start) → life_at count start i ≡ slice_index_or (lives_of count start) i []
life_is count start i within =
    sym (get_or-map-range_with_len (life_at count start) 0 ((count + 4095) / 4096) i i [] (omega (arith, within, length-map-range_with_len (life_at count start) 0 ((count + 4095) / 4096))) (omega arith))

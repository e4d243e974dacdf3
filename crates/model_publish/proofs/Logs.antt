-- The least log that stands for enough, step by step; and how many rows there are at most.
use Rattle.std.proofs.Common.{◌≡◌, ℕ, zero, suc, ◌+◌, ◌-◌, ◌*◌, ◌^◌, ◌<◌, ◌≤◌, List, [], ◌∷◌, length, take, fold, refl, arith}
use Rattle.std.proofs.lemmas.Bool.Decides.{nat_tests}
use Rattle.std.proofs.lemmas.List.{length-take}
use Rattle.std.proofs.Math.Nat.{two-pow-succ}
use Rattle.layer_definitions.specs.Order.{put_by}
use Rattle.record_types.specs.declared.records.PublishRow.{PublishRow}
use Rattle.model_states.specs.declared.publication.Publication.{Publication}
use Rattle.model_states.specs.Publication.{least_log, row_index, accepted_at}

pub log_found : (fuel log n : ℕ) → n ≤ 2 ^ (log - 1) → least_log (suc fuel) log n ≡ log
unfolding least_log
log_found fuel log n h = grind (arith, nat_tests)

pub log_passed : (fuel log n : ℕ) → 2 ^ (log - 1) < n → least_log (suc fuel) log n ≡ least_log fuel (log + 1) n
unfolding least_log
log_passed fuel log n h = grind (arith, nat_tests)

pub log_last : (log n : ℕ) → least_log 0 log n ≡ log
unfolding least_log
log_last log n = refl

pub twice : (log : ℕ) → 1 ≤ log → 2 ^ (log - 1) * 2 ≡ 2 ^ (log + 1 - 1)
twice zero h = absurd (omega arith)
twice (suc log) h =
    let before : suc log - 1 ≡ log = omega arith in
    let after : suc log + 1 - 1 ≡ suc log = omega arith in
    rw (before, after) (omega (arith, two-pow-succ log))

pub length-put : {A : Type 0} (index : A → ℕ) (r : A) (rows : List A) → length (put_by index r rows) ≤ length rows + 1
length-put index r [] = omega arith
length-put index r (x ∷ xs) = let rest = length-put index r xs in grind (arith, nat_tests)

-- rows put one by one are at most so many more
put-all : (held : List Publication) (rows : List PublishRow)
    → length (fold (λ held row. put_by row_index (accepted_at 0 row) held) held rows) ≤ length held + length rows
put-all held [] = omega arith
put-all held (r ∷ rows) =
    omega (arith, put-all (put_by row_index (accepted_at 0 r) held) rows, length-put row_index (accepted_at 0 r) held)

pub length-rows_put : (rows : List PublishRow) (i : ℕ)
    → length (fold (λ held row. put_by row_index (accepted_at 0 row) held) [] (take i rows)) ≤ i
length-rows_put rows i = omega (arith, put-all [] (take i rows), length-take i rows)

-- Rows of a node's own models: how many there are, and that they stay such rows with one more.
use Rattle.std.proofs.Common.{◌≡◌, ℕ, suc, ◌+◌, ◌*◌, ◌<◌, ◌≤◌, ◌⊎◌, inl, inr, Bool, true, false, cond, nat_lt, eqb, List, [], ◌∷◌, length, fold, refl, subst, sym, arith}
use Rattle.std.specs.Prelude.{All}
use Rattle.std.specs.List.{AllByRecursion as Every}
use Rattle.std.proofs.lemmas.Bool.Decides.{nat_tests}
use Rattle.std.proofs.lemmas.List.Elements.{All-from_recursion, recursion_from_All}
use Rattle.layer_definitions.specs.Order.{put_by}
use Rattle.record_types.specs.declared.records.PublishRow.{PublishRow}
use Rattle.model_states.specs.declared.publication.Publication.{Publication}
use Rattle.model_states.specs.Publication.{accepted_at, row_index}
use Rattle.model_publish.specs.Own.{AreRowsOf, IsOwnRow, RiseFrom}

abbrev pub IsModel : ℕ → Type 0
IsModel model = (model ≡ 0x1000) ⊎ (model ≡ 0x1002)

-- a greater index has another place among two of each element
next_place : (e m f n : ℕ) → IsModel m → IsModel n → suc (e * 65536 + m) ≤ f * 65536 + n → 2 + m + 4 * e ≤ n + 4 * f
next_place e m f n (inl a) (inl b) h = omega (arith, a, b, h)
next_place e m f n (inl a) (inr b) h = omega (arith, a, b, h)
next_place e m f n (inr a) (inl b) h = omega (arith, a, b, h)
next_place e m f n (inr a) (inr b) h = omega (arith, a, b, h)

-- there are two places of each element
last_place : (u k e m : ℕ) → IsModel m → e < u + k → 2 + m + 4 * e ≤ 4 * (u + k) + 4096
last_place u k e m (inl a) h = omega (arith, a, h)
last_place u k e m (inr a) h = omega (arith, a, h)

first_place : (u k e m count : ℕ) → IsModel m → u ≤ e → k ≤ 4 → 2 * count + 2 + m + 4 * e ≤ 4 * (u + k) + 4096 → suc count ≤ 8
first_place u k e m count (inl a) h few most = omega (arith, a, h, few, most)
first_place u k e m count (inr a) h few most = omega (arith, a, h, few, most)

abbrev pub IsOwn : ℕ → ℕ → Publication → Type 0
IsOwn unicast elements p = IsOwnRow unicast elements p.row

module _ (unicast elements : ℕ) where
  -- the rows behind one have places behind its place
  behind : (p : Publication) (rest : List Publication) → IsOwn unicast elements p → RiseFrom (suc (row_index p)) rest
      → Every (IsOwn unicast elements) rest → 2 * length rest + 2 + p.row.model + 4 * p.row.element.0 ≤ 4 * (unicast + elements) + 4096
  unfolding row_index
  behind p [] own rise rest = omega (arith, last_place unicast elements p.row.element.0 p.row.model own.model own.most)
  behind p (q ∷ rest) own rise owns =
      let there = behind q rest owns.0 rise.1 owns.1 in
      let next = next_place p.row.element.0 p.row.model q.row.element.0 q.row.model own.model owns.0.model rise.0 in
      omega (arith, there, next)

  pub few_rows : (rows : List Publication) → elements ≤ 4 → AreRowsOf unicast elements rows → length rows ≤ 8
  few_rows [] few h = omega arith
  few_rows (p ∷ rest) few h =
      let owns : Every (IsOwn unicast elements) (p ∷ rest) = recursion_from_All (IsOwn unicast elements) (p ∷ rest) h.own in
      first_place unicast elements p.row.element.0 p.row.model (length rest) owns.0.model owns.0.least few (behind p rest owns.0 h.order.1 owns.1)

  put_own : (p : Publication) (rows : List Publication) → IsOwn unicast elements p → Every (IsOwn unicast elements) rows
      → Every (IsOwn unicast elements) (put_by row_index p rows)
  put_own p [] own owns = (own, tt)
  put_own p (x ∷ xs) own owns = pick (nat_lt (row_index p) (row_index x)) (eqb (row_index p) (row_index x)) (put_own p xs own owns.1)
    where
      pick : (a b : Bool) → Every (IsOwn unicast elements) (put_by row_index p xs)
          → Every (IsOwn unicast elements) (cond a (p ∷ x ∷ xs) (cond b (p ∷ xs) (x ∷ put_by row_index p xs)))
      pick true b rest = (own, owns)
      pick false true rest = (own, owns.1)
      pick false false rest = (owns.0, rest)

put_rises : (n : ℕ) (p : Publication) (rows : List Publication) → n ≤ row_index p → RiseFrom n rows → RiseFrom n (put_by row_index p rows)
put_rises n p [] le rise = (le, tt)
put_rises n p (x ∷ xs) le rise =
    pick (nat_lt (row_index p) (row_index x)) (eqb (row_index p) (row_index x)) refl refl (λ h. put_rises (suc (row_index x)) p xs h rise.1)
  where
    pick : (a b : Bool) → nat_lt (row_index p) (row_index x) ≡ a → eqb (row_index p) (row_index x) ≡ b
        → (suc (row_index x) ≤ row_index p → RiseFrom (suc (row_index x)) (put_by row_index p xs))
        → RiseFrom n (cond a (p ∷ x ∷ xs) (cond b (p ∷ xs) (x ∷ put_by row_index p xs)))
    pick true b e f rest = (le, (grind (arith, nat_tests, e), rise.1))
    pick false true e f rest =
        let here : row_index p ≡ row_index x = grind (arith, nat_tests, f) in
        (le, subst (λ k. RiseFrom (suc k) xs) (sym here) rise.1)
    pick false false e f rest = (rise.0, rest (grind (arith, nat_tests, e, f)))

module _ (unicast elements : ℕ) where
  pub put_rows : (p : Publication) (rows : List Publication) → IsOwnRow unicast elements p.row → AreRowsOf unicast elements rows
      → AreRowsOf unicast elements (put_by row_index p rows)
  put_rows p rows own h = record {
    order = put_rises 0 p rows (omega arith) h.order;
    own = All-from_recursion (IsOwn unicast elements) (put_by row_index p rows)
        (put_own unicast elements p rows own (recursion_from_All (IsOwn unicast elements) rows h.own));
  }

  pub no_rows : AreRowsOf unicast elements []
  no_rows = record { order = tt; own = All-from_recursion (IsOwn unicast elements) [] tt }

  all_put : (held : List Publication) (rows : List PublishRow) → AreRowsOf unicast elements held → Every (IsOwnRow unicast elements) rows
      → AreRowsOf unicast elements (fold (λ held row. put_by row_index (accepted_at 0 row) held) held rows)
  all_put held [] h owns = h
  all_put held (r ∷ rows) h owns =
      all_put (put_by row_index (accepted_at 0 r) held) rows (put_rows (accepted_at 0 r) held owns.0 h) owns.1

  pub opened_rows : (rows : List PublishRow) → All (IsOwnRow unicast elements) rows
      → AreRowsOf unicast elements (fold (λ held row. put_by row_index (accepted_at 0 row) held) [] rows)
  opened_rows rows h = all_put [] rows no_rows (recursion_from_All (IsOwnRow unicast elements) rows h)

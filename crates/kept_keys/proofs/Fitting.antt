-- Which values of application keys are tried.
use Rattle.std.proofs.Common.{◌≡◌, ℕ, Bool, true, false, cond, List, [], ◌∷◌, ◌++◌, map, Option, Some, None, refl, ap, ◌∙◌}
use Rattle.std.specs.Prelude.{◌==◌, ◌&&◌, if◌then◌else◌, filter}
use Rattle.std.specs.List.{flat_map}
use Rattle.std.proofs.lemmas.List.{map-append}
use Rattle.std.proofs.lemmas.List.Elements.{filter-append}
use Rattle.cipher_definitions.specs.Kdf.{aid}
use Rattle.mesh_base.specs.declared.keys.AppKeyRow.{AppKeyRow}
use Rattle.mesh_base.specs.declared.keys.UpperKey.{UpperKey}
use Rattle.layer_definitions.specs.KeyRefresh.{app_key, app_keys, keys_of}
use Rattle.kept_keys.specs.declared.upper.BoundSchedule.{BoundSchedule}
use Rattle.kept_keys.specs.Bound.{bound_key, bound_keys, fits, fitting_keys}

pub fitting-append : (net id : ℕ) (xs ys : List BoundSchedule) → fitting_keys net id (xs ++ ys) ≡ fitting_keys net id xs ++ fitting_keys net id ys
fitting-append net id xs ys =
    ap (λ l. map (λ (b : BoundSchedule). b.key) l) (filter-append (λ (b : BoundSchedule). fits net id b) xs ys)
    ∙ map-append (λ (b : BoundSchedule). b.key) (filter (λ (b : BoundSchedule). fits net id b) xs) (filter (λ (b : BoundSchedule). fits net id b) ys)

-- the values of a row that have an AID
abbrev values_of : ℕ → AppKeyRow → List UpperKey
values_of id r = map (app_key r.index) (filter (λ key. aid key == id) (keys_of (λ fresh key. key) r.key r.next))

-- those of a row, if it is bound to the network key
row_fitting : (net id : ℕ) (r : AppKeyRow)
    → fitting_keys net id (keys_of (bound_key r.net r.index) r.key r.next) ≡ (if r.net == net then values_of id r else [])
row_fitting net id r = row r.next
  where
    one : (t u : Bool) → map (λ (b : BoundSchedule). b.key) (cond (t && u) (bound_key r.net r.index false r.key ∷ []) [])
        ≡ (if t then map (app_key r.index) (cond u (r.key ∷ []) []) else [])
    one true true = refl
    one true false = refl
    one false u = refl

    two : (t u v : Bool) (new : List ℕ)
        → map (λ (b : BoundSchedule). b.key)
        (cond (t && u) (bound_key r.net r.index false r.key ∷ cond (t && v) (bound_key r.net r.index true new ∷ []) [])
        (cond (t && v) (bound_key r.net r.index true new ∷ []) []))
        ≡ (if t then map (app_key r.index) (cond u (r.key ∷ cond v (new ∷ []) []) (cond v (new ∷ []) [])) else [])
    two true true true new = refl
    two true true false new = refl
    two true false true new = refl
    two true false false new = refl
    two false u v new = refl

    row : (next : Option (List ℕ)) → fitting_keys net id (keys_of (bound_key r.net r.index) r.key next)
        ≡ (if r.net == net then map (app_key r.index) (filter (λ key. aid key == id) (keys_of (λ fresh key. key) r.key next)) else [])
    row None = one (r.net == net) (aid r.key == id)
    row (Some new) = two (r.net == net) (aid r.key == id) (aid new == id) new

-- The values that fit of all rows are the keys that are tried.
pub fitting_bound : (net id : ℕ) (rows : List AppKeyRow) → fitting_keys net id (bound_keys rows) ≡ app_keys rows net id
fitting_bound net id [] = refl
fitting_bound net id (r ∷ rows) =
    fitting-append net id (keys_of (bound_key r.net r.index) r.key r.next) (bound_keys rows)
    ∙ ap (λ l. l ++ fitting_keys net id (bound_keys rows)) (row_fitting net id r)
    ∙ either (fitting_bound net id rows) (r.net == net)
  where
    either : fitting_keys net id (bound_keys rows) ≡ app_keys rows net id → (t : Bool)
        → (if t then values_of id r else []) ++ fitting_keys net id (bound_keys rows)
        ≡ flat_map (values_of id) (cond t (r ∷ filter (λ (x : AppKeyRow). x.net == net) rows) (filter (λ (x : AppKeyRow). x.net == net) rows))
    either next true = ap (λ l. values_of id r ++ l) next
    either next false = next

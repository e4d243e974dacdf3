-- What holds of each item, as a fact of all places.
use Rattle.std.proofs.Common.{List, [], ◌∷◌, ◌++◌, append-nil, sym, subst}
use Rattle.std.specs.Prelude.{All}
use Rattle.std.proofs.lemmas.List.Elements.{All-from_recursion, recursion_from_All}
pub use Rattle.mesh_base.proofs.Every.{Inside, every_append, every_at, every_chosen, every_filter, every_flat, every_flat_any, every_get, every_made, every_map, every_mapped, every_pick, every_set, every_take, through_fold}

pub all_append : {X : Type 0} (P : X → Type 0) (xs ys : List X) → All P xs → All P ys → All P (xs ++ ys)
all_append P xs ys h k = All-from_recursion P (xs ++ ys) (every_append P xs ys (recursion_from_All P xs h) (recursion_from_All P ys k))

pub all_one : {X : Type 0} (P : X → Type 0) (x : X) → P x → All P (x ∷ [])
all_one P x h = All-from_recursion P (x ∷ []) (h, tt)

pub all_nothing : {X : Type 0} (P : X → Type 0) (xs : List X) → All P xs → All P (xs ++ [])
all_nothing P xs h = subst (λ l. All P l) (sym (append-nil xs)) h

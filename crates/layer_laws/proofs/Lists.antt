-- What holds of each element of a list, by recursion, through the calls that make lists.
use Rattle.std.proofs.Common.{◌≡◌, Bool, true, false, ◌&&◌, ◌||◌, List, [], ◌∷◌, refl}
use Rattle.std.specs.List.{list_any}
pub use Rattle.mesh_base.proofs.Every.{Inside, every_chosen, every_filter, every_flat, every_flat_any, every_get, every_mapped, every_one, every_option, every_pick, every_set, option_cases, through_fold}
pub use Rattle.config_definitions.proofs.Cases.{by_test, result_cases, when}

-- Tests.

pub or_false : (a b : Bool) → a ≡ false → b ≡ false → (a || b) ≡ false
or_false true b h k = cc
or_false false b h k = k

pub or_left : (a b : Bool) → b ≡ false → (a || b) ≡ true → a ≡ true
or_left true b h k = refl
or_left false b h k = cc

pub left_false : (a b : Bool) → (a || b) ≡ false → a ≡ false
left_false true b h = cc
left_false false b h = refl

pub and_true : (a b : Bool) → (a && b) ≡ true → (a ≡ true) × (b ≡ true)
and_true true b h = (refl, h)
and_true false b h = absurd cc

pub none_any : {A : Type 0} (p : A → Bool) → ((x : A) → p x ≡ false) → (xs : List A) → list_any p xs ≡ false
none_any p k [] = refl
none_any p k (x ∷ xs) = or_false (p x) (list_any p xs) (k x) (none_any p k xs)

-- Steps behind steps.
use Rattle.std.proofs.Common.{◌≡◌, List, [], ◌∷◌, ◌++◌, refl}
use Rattle.mesh_world.specs.World.{AreAllowed, World, WorldStep, after, after_all}

pub allowed_append : (xs ys : List WorldStep) (w : World) → AreAllowed w xs → AreAllowed (after_all w xs) ys → AreAllowed w (xs ++ ys)
allowed_append [] ys w h k = k
allowed_append (x ∷ xs) ys w h k = (h.0, allowed_append xs ys (after w x) h.1 k)

pub after_append : (xs ys : List WorldStep) (w : World) → after_all w (xs ++ ys) ≡ after_all (after_all w xs) ys
after_append [] ys w = refl
after_append (x ∷ xs) ys w = after_append xs ys (after w x)

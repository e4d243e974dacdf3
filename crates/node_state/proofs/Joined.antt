-- Texts that are put behind one another.
use Rattle.std.proofs.Common.{◌≡◌, ◌∙◌, List, [], ◌∷◌, ◌++◌, ℕ, map, refl, ap, append_assoc}
use Rattle.std.specs.List.{flat_map}
use Rattle.node_state.specs.State.{count_line}

-- a line of a word and a number that is this one
pub counted : (t u word : List ℕ) (m n : ℕ) → u ≡ t ++ count_line word m → m ≡ n → u ≡ t ++ count_line word n
counted t u word m n h e = h ∙ ap (λ k. t ++ count_line word k) e

two : (t a b : List ℕ) (u v : List ℕ) → u ≡ t ++ a → v ≡ u ++ b → v ≡ t ++ (a ++ b)
two t a b u v h k = k ∙ ap (λ x. x ++ b) h ∙ append_assoc t a b

pub five : (t0 t1 t2 t3 t4 t5 a b c d e : List ℕ) → t1 ≡ t0 ++ a → t2 ≡ t1 ++ b → t3 ≡ t2 ++ c → t4 ≡ t3 ++ d → t5 ≡ t4 ++ e
    → t5 ≡ t0 ++ (a ++ b ++ c ++ d ++ e)
five t0 t1 t2 t3 t4 t5 a b c d e h1 h2 h3 h4 h5 =
    two t0 (a ++ b ++ c ++ d) e t4 t5 (two t0 (a ++ b ++ c) d t3 t4 (two t0 (a ++ b) c t2 t3 (two t0 a b t1 t2 h1 h2) h3) h4) h5

-- seven, from nothing
pub seven : (t1 t2 t3 t4 t5 t6 t7 a b c d e f g : List ℕ) → t1 ≡ a → t2 ≡ t1 ++ b → t3 ≡ t2 ++ c → t4 ≡ t3 ++ d → t5 ≡ t4 ++ e → t6 ≡ t5 ++ f → t7 ≡ t6 ++ g
    → t7 ≡ a ++ b ++ c ++ d ++ e ++ f ++ g
seven t1 t2 t3 t4 t5 t6 t7 a b c d e f g h1 h2 h3 h4 h5 h6 h7 =
    h7 ∙ ap (λ x. x ++ g) (h6 ∙ ap (λ x. x ++ f) (h5 ∙ ap (λ x. x ++ e) (h4 ∙ ap (λ x. x ++ d) (h3 ∙ ap (λ x. x ++ c) (h2 ∙ ap (λ x. x ++ b) h1)))))

pub mapped : {A B : Type 0} (f : B → List ℕ) (g : A → B) (xs : List A) → flat_map (λ x. f (g x)) xs ≡ flat_map f (map g xs)
mapped f g [] = refl
mapped f g (x ∷ xs) = ap (λ (t : List ℕ). f (g x) ++ t) (mapped f g xs)

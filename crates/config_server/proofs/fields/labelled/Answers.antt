-- Too short for a label: there is no model.
use Rattle.std.proofs.Common.{◌≡◌, ℕ, zero, suc, ◌<◌, ◌≤◌, List, [], ◌∷◌, length, drop, refl, arith, None}
use Rattle.config_definitions.specs.Messages.{holder_in, model_in}
use Rattle.config_server.proofs.fields.labelled.Goals as goal

none_left : (n : ℕ) (xs : List ℕ) → length xs ≤ n → drop n xs ≡ []
none_left zero [] h = refl
none_left zero (x ∷ xs) h = absurd (omega (arith, h))
none_left (suc n) [] h = refl
none_left (suc n) (x ∷ xs) h = none_left n xs (omega (arith, h))

no_model : (low high : ℕ) (rest : List ℕ) → length rest < 16 → holder_in low high (drop 16 rest) ≡ None
unfolding holder_in model_in
no_model low high rest h = rw (none_left 16 rest (omega (arith, h))) refl

pub returns-then-rest-lt-KEY_SIZE : goal.returns-then-rest-lt-KEY_SIZE
returns-then-rest-lt-KEY_SIZE c =
    rw (no_model c.args.low c.args.high c.args.rest.now (omega (arith, c.if-rest-lt-KEY_SIZE.true))) refl

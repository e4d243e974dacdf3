-- Four lines behind the number 1.
use Rattle.std.proofs.Common.{◌≡◌, [], ◌∷◌, refl}
use Rattle.script_generator.specs.Generated.{bearer_of, line_of, lives_of, peer_line, raw_line, source_of}

row_lines : lives_of 4 1 ≡ (raw_line 1015568748 ∷ peer_line 2 1586005467 0 0x1201 ∷ raw_line 2165703038 ∷ raw_line 3027450565 ∷ []) ∷ []
unfolding line_of
row_lines = refl

row_bearers : bearer_of 1015568748 ∷ bearer_of 1586005467 ∷ bearer_of 2165703038 ∷ bearer_of 3027450565 ∷ [] ≡ 1 ∷ 2 ∷ 4 ∷ 5 ∷ []
row_bearers = refl

row_source : source_of 1586005467 ≡ record { 0 = 0x110 }
row_source = refl

use Rattle.std.proofs.Common.{ap, sym, ◌∙◌, arith}
use Rattle.std.specs.Prelude.{replicate, []}
use Rattle.seq_word.specs.Rule.{times}
use Rattle.life_laws.proofs.Pairing.{empty_all, no_ends, no_pairs, pairs_more}
use Rattle.life_laws.proofs.Rising.{no_until}
use Rattle.life_laws.proofs.pairs.pairs_law.Goals as goal

pub returns-clause-none : goal.returns-clause-none
returns-clause-none g c = λ n moves d none. record { drawns = replicate n []; shown = no_pairs n moves d.looks; counted = λ x. ap (times x) (empty_all n ∙ sym none); own = no_ends n d.looks; long = omega arith; until = λ k. no_until n moves k }

pub returns-clause-more : goal.returns-clause-more
returns-clause-more g c = λ old new d e events counts dones sends h w memory none many long. pairs_more old new d e events counts dones sends h w memory none many long

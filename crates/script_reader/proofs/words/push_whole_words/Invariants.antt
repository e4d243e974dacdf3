use Rattle.std.proofs.Common.{◌≡◌, ◌==◌, ◌+◌, ◌++◌, [], not, length, map, filter}
use Rattle.std.specs.Option.{option_map_or}
use Rattle.script_definitions.specs.Words.{pieces, whole_words}
use Rattle.script_reader.proofs.words.push_whole_words.Given as goal

abbrev pub invariant-loop-rest : goal.invariant-loop-rest
invariant-loop-rest l =
    map (λ w. w.now) l.words.items ++ filter (λ w. not (length w == 0)) (option_map_or (λ t. pieces 32 t.now) l.rest [])
    ≡ map (λ w. w.now) l.fn.words.items ++ whole_words l.line

abbrev pub decreases-loop-rest : goal.decreases-loop-rest
decreases-loop-rest l = option_map_or (λ t. length t.now + 1) l.rest 0

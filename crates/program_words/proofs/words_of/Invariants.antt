use Rattle.std.proofs.Common.{◌≡◌, map, take}
use Rattle.std.specs.Prelude.{string_bytes}
use Rattle.program_words.proofs.words_of.Given as goal

abbrev pub invariant-loop-argument : goal.invariant-loop-argument
invariant-loop-argument l = map (λ w. w.now) l.words.items ≡ map (λ a. string_bytes a) (take l.argument-index l.arguments)

-- Looks only grow.
use Rattle.std.proofs.Common.{List, ◌++◌, append_assoc, ap, ◌∙◌}
use Rattle.seq_word.specs.declared.looks.Look.{Look}
use Rattle.seq_word.specs.Seen.{IsPrefix}

pub prefix_trans : {xs ys zs : List Look} → IsPrefix xs ys → IsPrefix ys zs → IsPrefix xs zs
prefix_trans {xs} {ys} {zs} a b = record { rest = a.rest ++ b.rest; is = b.is ∙ ap (λ l. l ++ b.rest) a.is ∙ append_assoc xs a.rest b.rest }

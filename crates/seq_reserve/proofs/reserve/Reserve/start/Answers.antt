use Rattle.std.proofs.Common.{sym, subst}
use Rattle.node_records.specs.declared.persist.Persist.{Persist}
use Rattle.seq_word.specs.Word.{IsWord}
use Rattle.seq_reserve.proofs.Marks.{mark_word}
use Rattle.seq_reserve.proofs.reserve.Reserve.start.Goals as goal

pub start-requires : goal.start-requires
start-requires c = record { word = subst (λ (p : Persist). IsWord p.mark) (sym c.persist.ensures.value) (mark_word c.args.store.persist c.persist.ensures.numbers) }

use Rattle.mesh_base.proofs.Pairs.{above_word, newer_later, not_newer, not_newer_later, up_to, word_above, words_differ}
use Rattle.mesh_base.proofs.pair.order_law.Goals as goal

pub returns-clause-words : goal.returns-clause-words
returns-clause-words c p q hp hq = (word_above p q hp hq, above_word p q hp hq)

pub returns-clause-one_word : goal.returns-clause-one_word
returns-clause-one_word c = words_differ

pub returns-clause-up_to : goal.returns-clause-up_to
returns-clause-up_to c p q = (up_to p q, not_newer p q)

pub returns-clause-newer : goal.returns-clause-newer
returns-clause-newer c = newer_later

pub returns-clause-not_newer : goal.returns-clause-not_newer
returns-clause-not_newer c = not_newer_later

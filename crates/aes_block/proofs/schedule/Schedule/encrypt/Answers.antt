use Rattle.std.proofs.Common.{◌≡◌, ◌+◌, ◌-◌, ◌∙◌, ap, arith, [], slice_index_or}
use Rattle.cipher_definitions.specs.Aes.{round_keys, aes}
use Rattle.aes_block.specs.Columns.{round_key}
use Rattle.aes_block.proofs.Columns.{sum_same}
use Rattle.aes_block.proofs.Keys.{length-round_keys, rounds_turn, rounds_end}
use Rattle.aes_block.proofs.schedule.Schedule.encrypt.Goals as goal

pub loop-i-preserved : goal.loop-i-preserved
loop-i-preserved c =
    let key = c.args.self.now in
    let i = c.loop-i.i in
    let behind : i ≡ i - 1 + 1 = omega arith in
    rounds_turn (round_keys key) i _ _ _ (length-round_keys key) (omega arith) (omega arith) c.after_round-state.ensures
    (c.round_key-in-loop-i.ensures
    ∙ ap (λ n. round_key c.self.inside.columns n) behind
    ∙ c.self.invariant (i - 1) (omega arith)
    ∙ ap (λ k. slice_index_or (round_keys k) (i - 1) []) c.self.view_is)
    ∙ c.loop-i.invariant

pub returns-clause-value : goal.returns-clause-value
unfolding aes
returns-clause-value c =
    let key = c.args.self.now in
    c.octets_of.ensures
    ∙ c.after_last_round.ensures
    ∙ rounds_end (round_keys key) c.loop-i.i _ _ _ _ _ (length-round_keys key) (omega arith) c.loop-i.invariant
    (c.sum-state.ensures ∙ sum_same c.columns_of.ensures (c.round_key.ensures ∙ c.self.view_is))
    (c.round_key-2.ensures ∙ c.self.invariant 9 (omega arith) ∙ ap (λ k. slice_index_or (round_keys k) 9 []) c.self.view_is)

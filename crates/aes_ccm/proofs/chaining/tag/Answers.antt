use Rattle.aes_ccm.proofs.Loops.{tag_is}
use Rattle.aes_ccm.proofs.chaining.tag.Goals as goal

pub returns-clause-value : goal.returns-clause-value
returns-clause-value c =
    rw (c.chain_all.ensures.value, c.chain_additional-middle.ensures.value, c.chained-start.ensures.value, c.nonce_block-first.ensures.value, c.flags.ensures)
    (tag_is c.args.schedule.now c.args.nonce.now c.args.additional.now c.args.text.now c.args.mic_length)

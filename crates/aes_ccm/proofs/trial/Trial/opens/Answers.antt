use Rattle.std.proofs.Common.{◌≡◌, ◌∙◌, refl, sym, true≢false}
use Rattle.cipher_definitions.specs.Octets.{whole_blocks}
use Rattle.cipher_definitions.specs.Aes.{chained}
use Rattle.cipher_definitions.specs.Ccm.{additional_blocks}
use Rattle.aes_ccm.proofs.Trials.{opened, unopened}
use Rattle.aes_ccm.proofs.trial.Trial.opens.Goals as goal

pub returns-clause-yes : goal.returns-clause-yes
returns-clause-yes c = λ yes nonce sealed trial.
    let is : c.chain_all-tag.result ≡ chained c.args.schedule.now (chained c.args.schedule.now c.args.self.now.start (additional_blocks c.args.additional.now)) (whole_blocks c.args.text.now) =
    rw (c.chain_all-tag.ensures.value, c.chain_additional-middle.ensures.value) refl in
    opened c.args.schedule.now nonce sealed c.args.additional.now c.args.text.now c.args.mic.now c.chain_all-tag.result c.args.self.now trial c.requires.additional_least is (c.is_masked.ensures.0 yes)

pub returns-clause-no : goal.returns-clause-no
returns-clause-no c = λ no nonce sealed trial.
    let is : c.chain_all-tag.result ≡ chained c.args.schedule.now (chained c.args.schedule.now c.args.self.now.start (additional_blocks c.args.additional.now)) (whole_blocks c.args.text.now) =
    rw (c.chain_all-tag.ensures.value, c.chain_additional-middle.ensures.value) refl in
    unopened c.args.schedule.now nonce sealed c.args.additional.now c.args.text.now c.args.mic.now c.chain_all-tag.result c.args.self.now trial c.requires.additional_least is
    (λ same. true≢false (sym (c.is_masked.ensures.1 same) ∙ no))

use Rattle.std.proofs.Common.{◌≡◌, List, ℕ, ap, rules}
use Rattle.arrayvec.proofs.ArrayVecLemmas.{filter-from_retain}
use Rattle.layer_states.specs.Sending.{left_after}
use Rattle.layer_states.specs.declared.sending.Sending.{Sending}
use Rattle.segment_sender.proofs.message.leave.Goals as goal

pub returns : goal.returns
returns c =
    let s : Sending = c.args.s.now in
    let left : c.retain.new.self ≡ left_after c.args.block s = filter-from_retain _ _ _ (λ x b f' y k. search rules) _ _ c.retain.ensures.filtered in
    let with : List ℕ → Sending = λ l. record s { left = l } in
    ap with left

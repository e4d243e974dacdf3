use Rattle.std.proofs.Common.{◌≡◌, ◌↔◌, List, false, subst}
use Rattle.std.specs.List.{list_any}
use Rattle.layer_states.specs.Sending.{is_due}
use Rattle.layer_states.specs.declared.sending.Sending.{Sending}
use Rattle.segment_sender.proofs.Still.{still_where}
use Rattle.timer_ends.proofs.Firsts.{through}
use Rattle.timer_ends.specs.Ends.{IsBefore}
use Rattle.segment_sender.proofs.senders.Senders.first_end.Goals as goal

pub returns : goal.returns
returns c = record {
  still = λ now from time.
      let Ends : List Sending → Type 0 = λ rows. (list_any (is_due now) rows ≡ false) ↔ IsBefore now c.first_round.result in
      through (still_where now c.args.self.now) (subst Ends c.messages.ensures.value (c.first_round.ensures now));
}

use Rattle.std.proofs.Common.{List, ap, filter, subst, sym, ◌∙◌}
use Rattle.std.specs.Prelude.{All}
use Rattle.segment_sender.proofs.Held.{due_well, rounds_well}
use Rattle.layer_states.specs.declared.sending.Sending.{Sending}
use Rattle.segment_sender.specs.Held.{IsHeldWell, has_round}
use Rattle.segment_sender.proofs.senders.Senders.rounds.Goals as goal

pub invariant_of-self : goal.invariant_of-self
invariant_of-self c = subst (All IsHeldWell) (sym c.step_all.ensures) (due_well c.self.inside.rows.items c.args.now c.self.invariant)

pub returns-clause-held : goal.returns-clause-held
returns-clause-held c = subst (All IsHeldWell) (sym (c.all_rounds-list.ensures ∙ ap (λ (l : List Sending). filter (has_round c.args.now) l) c.as_slice.ensures.value)) (rounds_well c.self.inside.rows.items c.args.now c.self.invariant)

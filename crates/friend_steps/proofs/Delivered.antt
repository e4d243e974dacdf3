-- The message of an entry is that of its answer.
use Rattle.std.proofs.Common.{◌≡◌, ◌∙◌, refl, ap}
use Rattle.mesh_hearing.specs.Heard.{delivered_from}
use Rattle.mesh_types.specs.declared.answers.Answer.{Answer}
use Rattle.mesh_types.specs.declared.answers.Answer.TheVariants as A
use Rattle.node_layers.specs.Models.{delivered_by}
use Rattle.event_definitions.specs.History.{Insight, Told}

by_answer : (t : Told) (a : Answer) → delivered_by (record t { entry = record t.entry { answer = a } }) ≡ delivered_from t.insight a
by_answer t (A.Delivered name dst key payload) = refl
by_answer t _ = refl

pub delivered_is : (t : Told) (i : Insight) (a : Answer) → t.insight ≡ i → t.entry.answer ≡ a → delivered_by t ≡ delivered_from i a
delivered_is t i a insight answer =
    by_answer t t.entry.answer ∙ ap (λ x. delivered_from x t.entry.answer) insight ∙ ap (λ x. delivered_from i x) answer

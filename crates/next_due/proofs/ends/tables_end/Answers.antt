use Rattle.std.proofs.Common.{◌≡◌, ◌↔◌, ◌∙◌, ℕ, List, subst, sym, arith}
use Rattle.layer_states.specs.Friends as friendship
use Rattle.layer_states.specs.Friends.{FriendsState}
use Rattle.layer_states.specs.Reassembly as reassembly
use Rattle.layer_states.specs.Sending as sending
use Rattle.layer_states.specs.declared.reassembly.Assembly.{Assembly}
use Rattle.layer_states.specs.declared.sending.Sending.{Sending}
use Rattle.mesh_hearing.specs.Tables.{TablesView}
use Rattle.node_layers.specs.Reassembly as parts
use Rattle.node_models.specs.Ends.{AreModelsQuiet}
use Rattle.node_models.specs.Models.{AreNodeModelsOf, ModelsView}
use Rattle.timer_ends.proofs.Firsts.{all_of}
use Rattle.timer_ends.specs.Ends.{IsBefore}
use Rattle.next_due.proofs.ends.tables_end.Goals as goal

pub returns : goal.returns
returns c = λ past are time later from most.
    let tables : TablesView = c.args.tables.now.hearing in
    let Heard : Type 0 = IsBefore later c.first_end.result in
    let Own : List Sending → Type 0 = λ rows. sending.after rows (sending.due later) ≡ rows in
    let Parts : List Assembly → Type 0 = λ rows. reassembly.after rows (reassembly.tick later) ≡ rows in
    let Both : TablesView → Type 0 = λ v. (Parts v.parts × Own v.own) ↔ Heard in
    let of_tables : Both tables = subst Both c.hearing.ensures.value (c.first_end.ensures.still later (omega arith) most) in
    let of_parts : (Parts (parts.messages past) × Own tables.own) ↔ Heard = subst (λ rows. (Parts rows × Own tables.own) ↔ Heard) are.hearing.parts of_tables in
    let hearing = subst (λ rows. (Parts (parts.messages past) × Own rows) ↔ Heard) are.hearing.own of_parts in
    let Stay : FriendsState → Type 0 = λ st. (friendship.after st (friendship.tick later) ≡ st) ↔ IsBefore later c.first_end-friends.result in
    let friends = subst Stay (c.friends.ensures.value ∙ are.friends) (c.first_end-friends.ensures.still later (omega arith) most) in
    let stand = subst (λ (v : ModelsView). AreNodeModelsOf v past) (sym c.models.ensures.value) are.models in
    let models =
    subst (λ (n : ℕ). AreModelsQuiet past n later ↔ IsBefore later c.first_end-models.result) time
    (c.first_end-models.ensures.still past stand later from most) in
    let all = all_of hearing (all_of friends models (c.sooner.ensures.before later)) (c.sooner-2.ensures.before later) in (
      λ h. all.0 ((h.parts, h.own), (h.friends, h.models)),
      λ w. let each = all.1 w in record { parts = each.0.0; own = each.0.1; friends = each.1.0; models = each.1.1 },
    )

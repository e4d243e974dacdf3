use Rattle.std.proofs.Common.{◌≡◌, ℕ, List, ap, length, subst, sym, ◌∙◌}
use Rattle.std.specs.Prelude.{All}
use Rattle.std.specs.List.{refill}
use Rattle.element_models.proofs.Filled.{all_filled}
use Rattle.element_models.proofs.Lists.{length-map_from}
use Rattle.mesh_base.proofs.Every.{refill_same}
use Rattle.element_models.proofs.Lives.{models_more, records_are, replies_are}
use Rattle.element_models.specs.Messages.{HasOctet, message_in}
use Rattle.element_models.specs.Models.{AreModelsOf}
use Rattle.element_models.specs.Stepping.{all_replied, all_step, all_stored, servers_step}
use Rattle.element_models.specs.declared.servers.Servers.{Servers}
use Rattle.node_layers.specs.Steps.{with_entry}
use Rattle.node_records.specs.Tables.{config_in}
use Rattle.element_models.proofs.models.ElementModels.take.Goals as goal

pub returns-clause-records : goal.returns-clause-records
returns-clause-records c = λ past means are time.
    let m = message_in c.args.m.now in
    c.take_all.ensures.records
    ∙ ap (λ (ss : List Servers). all_stored (config_in c.args.p.now) c.args.now m ss) (c.as_mut_slice.ensures.value ∙ c.self.view_is)
    ∙ records_are c.args.p.now past c.args.now m c.args.self.now means are time

pub returns-clause-replies : goal.returns-clause-replies
returns-clause-replies c = λ past means are time.
    let m = message_in c.args.m.now in
    c.take_all.ensures.replies
    ∙ ap (λ (ss : List Servers). all_replied (config_in c.args.p.now) c.args.now m ss) (c.as_mut_slice.ensures.value ∙ c.self.view_is)
    ∙ replies_are c.args.p.now past c.args.now m c.args.self.now means are time

pub returns-clause-models : goal.returns-clause-models
returns-clause-models c = λ past t records means are time same delivers elements.
    let m = message_in c.args.m.now in
    let before = c.self.inside.servers.items in
    let left : refill (length before) before c.take_all.new.servers ≡ all_step (config_in c.args.p.now) c.args.now m c.args.self.now =
    refill_same before c.take_all.new.servers (c.take_all.auto.servers ∙ ap (λ (ss : List Servers). length ss) c.as_mut_slice.ensures.value)
    ∙ c.take_all.ensures.state
    ∙ ap (λ (ss : List Servers). all_step (config_in c.args.p.now) c.args.now m ss) (c.as_mut_slice.ensures.value ∙ c.self.view_is) in
    let Stand : List Servers → Type 0 = λ ss. AreModelsOf ss (with_entry past.told t records) in
    subst Stand (sym left) (models_more c.args.p.now past c.args.now m c.args.self.now means are time t records same delivers elements)

pub returns-clause-count : goal.returns-clause-count
returns-clause-count c =
    let m = message_in c.args.m.now in
    let before = c.self.inside.servers.items in
    let left : refill (length before) before c.take_all.new.servers ≡ all_step (config_in c.args.p.now) c.args.now m c.args.self.now =
    refill_same before c.take_all.new.servers (c.take_all.auto.servers ∙ ap (λ (ss : List Servers). length ss) c.as_mut_slice.ensures.value)
    ∙ c.take_all.ensures.state
    ∙ ap (λ (ss : List Servers). all_step (config_in c.args.p.now) c.args.now m ss) (c.as_mut_slice.ensures.value ∙ c.self.view_is) in
    ap (λ (ss : List Servers). length ss) left
    ∙ length-map_from (servers_step (config_in c.args.p.now) c.args.now m) 0 c.args.self.now

pub returns-clause-octets : goal.returns-clause-octets
returns-clause-octets c =
    subst (λ (replies : List (ℕ × List ℕ)). All HasOctet replies) (sym c.take_all.ensures.replies)
    (all_filled (config_in c.args.p.now) c.args.now (message_in c.args.m.now) c.as_mut_slice.result.now)

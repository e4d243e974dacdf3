use Rattle.std.proofs.Common.{◌≡◌, ◌∙◌, ◌++◌, List, Some, None, ap, subst, sym}
use Rattle.std.specs.Option.{option_copied}
use Rattle.mesh_jobs.proofs.Heard.{jobs_read, none_before, none_read, read_is}
use Rattle.mesh_jobs.specs.Acting.{IsActIn}
use Rattle.mesh_jobs.specs.Hearing.{insight_read, read_jobs}
use Rattle.mesh_jobs.specs.Replying.{AreRepliesTo}
use Rattle.mesh_reading.specs.Held.{pdu_insight, reading_in}
use Rattle.mesh_types.specs.declared.events.Event.TheVariants as E
use Rattle.mesh_types.specs.declared.jobs.Job.{Job}
use Rattle.node_layers.specs.NodeLayers.{node_layers}
use Rattle.node_records.specs.Tables.{config_in}
use Rattle.event_definitions.specs.History.{Insight}
use Rattle.event_definitions.specs.Jobs.{jobs_of}
use Rattle.mesh_jobs.proofs.pdus.pdu_jobs.Goals as goal

pub returns-in_default-clause-value : goal.returns-in_default-clause-value
returns-in_default-clause-value c past octets phases replies act =
    let h = c.args.basis.now.heard in
    c.finish.ensures.value ∙ c.requires.empty
    ∙ none_read past (config_in c.args.p.now) octets h c.args.answer.now (sym c.reading.ensures.value ∙ ap option_copied c.in_default.is)

pub returns-then-is_before_cache-clause-value : goal.returns-then-is_before_cache-clause-value
returns-then-is_before_cache-clause-value c past octets phases replies act =
    let h = c.args.basis.now.heard in
    let r = c.in-Some.r.now in
    let read : reading_in h ≡ Some r = sym c.reading.ensures.value ∙ ap option_copied c.in-Some.is in
    c.finish-then-is_before_cache.ensures.value ∙ c.requires.empty
    ∙ none_before past (config_in c.args.p.now) octets r h c.args.answer.now (sym c.is_before_cache.ensures.value ∙ c.if-is_before_cache.true)
    ∙ ap (λ (i : Insight). jobs_of node_layers past (config_in c.args.p.now) (E.Net octets) i c.args.answer.now) (sym (read_is h r read))

pub returns-clause-value : goal.returns-clause-value
returns-clause-value c past octets phases replies act =
    let h = c.args.basis.now.heard in
    let r = c.in-Some.r.now in
    let n = config_in c.args.p.now in
    let read : reading_in h ≡ Some r = sym c.reading.ensures.value ∙ ap option_copied c.in-Some.is in
    let is : pdu_insight h ≡ insight_read r h = read_is h r read in
    c.finish-2.ensures.value
    ∙ c.push_read_jobs.ensures.value past phases
    (subst (λ (i : Insight). AreRepliesTo past i c.args.answer.now c.args.basis.now.replies) is replies)
    (subst (λ (i : Insight). IsActIn past n i c.args.answer.now c.args.basis.now.act) is act)
    ∙ ap (λ (js : List Job). js ++ read_jobs past n r h c.args.answer.now) c.requires.empty
    ∙ jobs_read past n octets r h c.args.answer.now (sym c.is_before_cache.ensures.value ∙ c.if-is_before_cache.false)
    ∙ ap (λ (i : Insight). jobs_of node_layers past n (E.Net octets) i c.args.answer.now) (sym is)

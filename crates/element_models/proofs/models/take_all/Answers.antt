use Rattle.std.proofs.Common.{◌≡◌, ◌<◌, ◌++◌, ℕ, List, ap, arith, get_or, length, sym, take, ◌∙◌}
use Rattle.element_models.proofs.Lists.{changed_more, flat_from_more, item_is}
use Rattle.element_models.specs.Messages.{message_in}
use Rattle.element_models.specs.Places.{flat_from}
use Rattle.element_models.specs.Stepping.{servers_replied, servers_step, servers_stored}
use Rattle.element_models.specs.declared.servers.Servers.{Servers}
use Rattle.node_records.specs.Tables.{config_in}
use Rattle.record_types.specs.declared.records.StoreRecord.{StoreRecord}
use Rattle.element_models.proofs.models.take_all.Goals as goal

pub loop-place-preserved : goal.loop-place-preserved
loop-place-preserved c =
    let step = servers_step (config_in c.args.p.now) c.args.now (message_in c.args.m.now) in
    let stored = servers_stored (config_in c.args.p.now) c.args.now (message_in c.args.m.now) in
    let replied = servers_replied (config_in c.args.p.now) c.args.now (message_in c.args.m.now) in
    let all = c.args.servers.now in
    let i = c.loop-place.place in
    let one = c.index-servers-place.result in
    let within : i < length all = omega arith in
    let before = get_or c.loop-place.servers i one in
    let stands : before ≡ get_or all i one = item_is step all c.loop-place.servers i one within c.loop-place.invariant.state in
    record {
      state = changed_more step all c.loop-place.servers i one within c.loop-place.invariant.state c.take_at.new.s c.take_at.ensures.state;
      records =
          c.take_at.ensures.records
          ∙ ap (λ (rs : List StoreRecord). rs ++ stored i before) c.loop-place.invariant.records
          ∙ ap (λ (s : Servers). flat_from stored 0 (take i all) ++ stored i s) stands
          ∙ sym (flat_from_more stored all i one within);
      replies =
          c.take_at.ensures.replies
          ∙ ap (λ (rs : List (ℕ × List ℕ)). rs ++ replied i before) c.loop-place.invariant.replies
          ∙ ap (λ (s : Servers). flat_from replied 0 (take i all) ++ replied i s) stands
          ∙ sym (flat_from_more replied all i one within);
      few_records = omega (arith, c.take_at.ensures.records_grow, c.loop-place.invariant.few_records);
      few_replies = omega (arith, c.take_at.ensures.replies_grow, c.loop-place.invariant.few_replies);
      ranges = c.take_at.ensures.ranges c.loop-place.invariant.ranges;
    }

use Rattle.std.proofs.Common.{List, [], ◌∷◌, ◌++◌, ap, sym, subst, ◌∙◌, Some, None, false, arith}
use Rattle.std.specs.Prelude.{All}
use Rattle.element_models.specs.Messages.{HasOctet, message_in}
use Rattle.event_plans.proofs.Delivered.{all_changes, all_storable, config_named, none_asked, none_taken, some_asked, some_taken}
use Rattle.friend_steps.proofs.Delivered.{delivered_is}
use Rattle.event_records.specs.Putting.{AreMoves, ArePuttable}
use Rattle.mesh_hearing.specs.Heard.{insight_of}
use Rattle.layer_laws.specs.Laws.{IsWithinLimits}
use Rattle.mesh_types.specs.declared.answers.Answer.{Answer}
use Rattle.node_layers.specs.ConfiguredLayers.{changes_of}
use Rattle.node_layers.specs.Friendship.{friends}
use Rattle.node_models.specs.Models.{is_ticked}
use Rattle.node_models.specs.Replies.{replies_in}
use Rattle.node_models.specs.declared.taken.MessageReplies.{MessageReplies}
use Rattle.node_records.specs.Tables.{config_in}
use Rattle.record_types.specs.declared.records.StoreRecord.{StoreRecord}
use Rattle.event_definitions.specs.Layers.{AccessMessage}
use Rattle.record_types.specs.declared.records.StoreRecord.TheVariants as R
use Rattle.event_plans.proofs.models.take_heard.Goals as goal

pub returns-in-Some : goal.returns-in-Some
returns-in-Some c =
    let m = message_in c.message_of-message.result in
    let i = insight_of c.args.heard.now in
    let a = c.args.heard.now.answer in
    let is = sym (c.in-Some.ensures.value) ∙ ap (λ (m : AccessMessage). Some m) (sym c.message_of-message.ensures.value) in
    record {
      asked = λ past s. some_asked past i a m c.take.result.changes is (c.take.ensures.changes past s.meaning s.models s.time);
      taken = λ past s polls.
          some_taken past i a m c.take.result.ttl c.take.result.ends c.take.result.replies is
          (record {
            replies = c.take.ensures.replies past (friends past) s.meaning s.models s.time polls;
            ttl = c.take.ensures.ttl past (friends past) s.meaning s.models polls;
            ends = c.take.ensures.ends past s.meaning;
          });
      short = c.take.ensures.short;
      octets = c.take.ensures.octets;
      may = λ past q s whole e.
          subst (λ (l : List StoreRecord). ArePuttable q l) (sym (c.take.ensures.changes past s.meaning s.models s.time))
          (c.changes_law.ensures.may (past.records ++ R.Replay m.name None ∷ []) (changes_of past m) q
          (e ∙ s.meaning.config ∙ sym (config_named past.records m.name)) (all_changes c.node_law.ensures.safe past m)
          (all_storable c.node_law.ensures.storable past m whole (subst IsWithinLimits s.meaning.config c.are_within.ensures.within) c.are_octets.ensures.octets));
      moves = λ past s.
          subst (λ (l : List StoreRecord). AreMoves (config_in c.args.p.now) l) (sym (c.take.ensures.changes past s.meaning s.models s.time))
          (c.changes_law.ensures.moves (config_in c.args.p.now) (changes_of past m) (all_changes c.node_law.ensures.safe past m));
      models = λ past t records s timed insight answer same elements.
          c.take.ensures.models past t records s.meaning s.models s.time same (delivered_is t i a insight answer ∙ is) elements;
      within = c.take.ensures.within;
    }

pub returns-in-None : goal.returns-in-None
returns-in-None c =
    let i = insight_of c.args.heard.now in
    let a = c.args.heard.now.answer in
    let is = sym (c.in-None.ensures.value) in
    record {
      asked = λ past s. none_asked past i a c.new.result is c.new.ensures.value;
      taken = λ past s polls. none_taken past i a 0 false c.none.result is;
      short = λ h. omega arith;
      octets =
          subst (λ (r : MessageReplies). All HasOctet (replies_in r)) (sym c.none.ensures.value) (λ k d h. absurd (omega (arith, h)));
      may = λ past q s whole e. subst (λ (l : List StoreRecord). ArePuttable q l) (sym c.new.ensures.value) tt;
      moves = λ past s. subst (λ (l : List StoreRecord). AreMoves (config_in c.args.p.now) l) (sym c.new.ensures.value) tt;
      models = λ past t records s timed insight answer same elements.
          c.node_models_law.ensures.more c.args.models.now past t records s.models same (delivered_is t i a insight answer ∙ is) (ap (λ (x : Answer). is_ticked x) answer ∙ timed) elements;
      within = c.requires.within;
    }

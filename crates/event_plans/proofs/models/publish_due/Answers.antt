use Rattle.std.proofs.Common.{◌∙◌, refl}
use Rattle.event_plans.proofs.Delivered.{models_stay, ticked_is, untold_apart, untold_leaves}
use Rattle.event_plans.proofs.Friends.{friends_stay}
use Rattle.event_definitions.specs.Answers.{config_before}
use Rattle.event_definitions.specs.History.{OfNothing}
use Rattle.event_plans.proofs.models.publish_due.Goals as goal

pub returns-in-Ticked : goal.returns-in-Ticked
returns-in-Ticked c = record {
  due = λ past d meaning models friends is unicast. c.store_publications.ensures.due past d friends (c.pass-due.ensures.due past d meaning models unicast);
  models = λ past t records models is answer same elements.
      c.pass-due.ensures.models past t records models same (answer ∙ ticked_is (config_before past).reset c.args.now c.args.answer.now c.in-Ticked.now is c.in-Ticked.is) elements;
  friends = λ past t meaning models friends later is insight answer same.
      c.store_publications.ensures.friends past t meaning friends later (c.pass-due.ensures.due past (config_before past) meaning models refl) insight
      (answer ∙ ticked_is (config_before past).reset c.args.now c.args.answer.now c.in-Ticked.now is c.in-Ticked.is) same;
  within = c.pass-due.ensures.within;
}

pub returns-in_default : goal.returns-in_default
returns-in_default c = record {
  due = λ past d meaning models friends is unicast. absurd (c.in_default.not-Ticked c.args.now is);
  models = λ past t records models is answer same elements.
      models_stay c.node_models_law.ensures.more c.args.models.now past t records c.args.answer.now (untold_apart (config_before past).reset c.args.now c.args.answer.now is c.in_default.not-Ticked) models answer same elements;
  friends = λ past t meaning models friends later is insight answer same.
      friends_stay c.friend_steps_law.ensures.others c.args.friends.now past.told t.entry.event c.args.answer.now OfNothing refl
      (untold_leaves (config_before past).reset c.args.now t.entry.event c.args.answer.now is c.in_default.not-Ticked) friends t refl insight answer;
  within = c.requires.within;
}

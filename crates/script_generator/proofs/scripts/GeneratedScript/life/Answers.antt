use Rattle.std.proofs.Common.{◌∙◌}
use Rattle.std.proofs.lemmas.Result.{IfOk-weaker}
use Rattle.script_generator.proofs.Growing.{is_left, life_is}
use Rattle.script_generator.proofs.scripts.GeneratedScript.life.Goals as goal

pub make_life-requires : goal.make_life-requires
make_life-requires c = record { place = is_left c.args.self.now.count c.args.self.now.start c.args.i c.requires.place }

pub returns : goal.returns
returns c = record {
  value = IfOk-weaker c.make_life.result _ _ (λ lines h. h ∙ life_is c.args.self.now.count c.args.self.now.start c.args.i c.requires.place) c.make_life.ensures.value;
}

use Rattle.std.proofs.Common.{refl, subst, sym, ◌++◌, ◌∙◌, ap}
use Rattle.cx_items.specs.declared.item.Item.{Item}
use Rattle.cx_scene.specs.Scene.{scene_of}
use Rattle.cx_history.specs.Legal.{is_shown}
use Rattle.cx_history.specs.Views.{recorded_of}
use Rattle.cx_checker.specs.Looks.{look_on, Tell}
use Rattle.cx_checker.proofs.Telling.{no_look, not_look}
use Rattle.cx_checker.proofs.verdicts.is_good.Goals as goal

pub returns-in_default : goal.returns-in_default
returns-in_default c = record {
  count = refl;
  good = λ rest tell. (not_look (scene_of c.args.plan.now) (recorded_of c.args.record.now) c.args.item.now c.in_default.not-Look).0;
  rest = λ rest tell. no_look (scene_of c.args.plan.now) (recorded_of c.args.record.now) c.args.all.now.items c.args.item.now rest (not_look (scene_of c.args.plan.now) (recorded_of c.args.record.now) c.args.item.now c.in_default.not-Look).1 tell;
}

pub returns-in-Look-clause-good : goal.returns-in-Look-clause-good
returns-in-Look-clause-good c = λ rest tell.
    c.tells.ensures.good rest (subst (λ (x : Item). Tell (scene_of c.args.plan.now) (recorded_of c.args.record.now) c.args.all.now.items (λ q. look_on q x ++ rest q)) c.in-Look.is tell) ∙ ap (is_shown (scene_of c.args.plan.now) (recorded_of c.args.record.now)) (sym c.in-Look.is)

pub returns-in-Look-clause-rest : goal.returns-in-Look-clause-rest
returns-in-Look-clause-rest c = λ rest tell. c.tells.ensures.rest rest (subst (λ (x : Item). Tell (scene_of c.args.plan.now) (recorded_of c.args.record.now) c.args.all.now.items (λ q. look_on q x ++ rest q)) c.in-Look.is tell)

use Rattle.std.proofs.Common.{true, ◌≡◌, List, map, sym, subst}
use Rattle.std.specs.Global.{Vec}
use Rattle.std.specs.List.{list_all}
use Rattle.cx_scene.specs.declared.call.Call.{Call}
use Rattle.cx_scene.specs.Scene.{scene_of}
use Rattle.cx_work.specs.RunNow.{is_call_now}
use Rattle.cx_work.proofs.Copying.{fit_calls}
use Rattle.cx_work.proofs.copies.copy_of.Goals as goal

pub bodies_of-requires : goal.bodies_of-requires
bodies_of-requires c = subst (λ (bs : List (Vec Call)). list_all (λ body. list_all is_call_now body) (map (λ (b : Vec Call). b.items) bs) ≡ true) (sym c.as_slice-3.ensures.value) (fit_calls (scene_of c.args.plan.now) c.requires.asks)

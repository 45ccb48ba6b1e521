use Rattle.std.proofs.Common.{List, sym, subst}
use Rattle.cx_scene.specs.Scene.{scene_of}
use Rattle.cx_kinds.specs.declared.access.Access.{Access}
use Rattle.cx_work.specs.Accesses.{AreAccesses, objects_of}
use Rattle.cx_work.specs.Acting.{IsLeft}
use Rattle.cx_work.proofs.Asking.{leaves_it}
use Rattle.cx_work.proofs.Bodying.{own_accesses, made_stands, fits_still, formed_still}
use Rattle.cx_work.proofs.standing.Standing.make.Goals as goal

pub leaves_completing-completing-requires : goal.leaves_completing-completing-requires
leaves_completing-completing-requires g c =
    let w = c.made-item.new.self in
    (w.thread.0, subst (λ (ks : List Access). AreAccesses (objects_of ks) w.thread.0 ks) (sym c.as_slice.ensures.value) (own_accesses c.args.self.now.accesses.items w.thread.0 w.accesses.items c.made-item.ensures.accesses))

pub put-requires-clause-at : goal.put-requires-clause-at
put-requires-clause-at g c =
    let v = c.args.self.now in
    let w = c.made-item.new.self in
    made_stands (scene_of c.args.plan.now) v.thread w.thread v.accesses.items w.accesses.items v.list w.list v.local w.local c.made-item.result c.requires.made c.requires.accesses c.made-item.ensures.steps c.made-item.ensures.alone c.made-item.ensures.enough c.requires.at c.made-item.ensures.same.0 c.made-item.ensures.same.1 c.made-item.ensures.same.2

pub put-requires-clause-fits : goal.put-requires-clause-fits
put-requires-clause-fits g c = fits_still (scene_of c.args.plan.now) c.args.self.now.thread c.made-item.new.self.thread c.args.self.now.local c.made-item.new.self.local c.made-item.result c.made-item.ensures.same.0 c.made-item.ensures.same.2 c.made-item.ensures.fits

pub put-requires-clause-formed : goal.put-requires-clause-formed
put-requires-clause-formed g c = formed_still (scene_of c.args.plan.now) c.args.self.now.thread c.made-item.new.self.thread c.made-item.result c.made-item.ensures.same.0 c.made-item.ensures.formed

pub put-requires-clause-due : goal.put-requires-clause-due
put-requires-clause-due g c =
    let v = c.args.self.now in
    let w = c.made-item.new.self in
    leaves_it (scene_of c.args.plan.now) v.thread.0 v.accesses.items w.accesses.items c.made-item.result c.leaves_completing-completing.result c.requires.made c.requires.accesses c.made-item.ensures.steps (subst (λ (ks : List Access). IsLeft ks c.made-item.result c.leaves_completing-completing.result) c.as_slice.ensures.value c.leaves_completing-completing.ensures)

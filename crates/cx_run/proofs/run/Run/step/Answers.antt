use Rattle.std.proofs.Common.{Some, refl, ap, ◌∙◌}
use Rattle.cx_scene.specs.declared.plan.Plan.{Plan}
use Rattle.cx_scene.specs.Scene.{scene_of}
use Rattle.cx_items.specs.declared.item.Control.{Control}
use Rattle.cx_run.specs.Runs.{tally}
use Rattle.std.specs.Arc.{arc_value}
use Rattle.cx_run.proofs.Mains.{made_mains}
use Rattle.cx_run.proofs.Stepped.{made_run, made_counts, no_control, next_as, start_is, join_is, launch_is_not}
use Rattle.cx_run.proofs.run.Run.step.Goals as goal

pub returns-in-None-clause-run : goal.returns-in-None-clause-run
returns-in-None-clause-run g c =
    let is_scene = ap (λ (p : Plan). scene_of p) c.deref.ensures in
    made_run c.args.self.now (record { objects = c.args.self.now.objects; main = c.make.new.self; others = c.args.self.now.others }) c.make.result c.deref.result.now c.requires.run is_scene refl c.make.ensures.thread refl c.make.ensures.accesses c.make.ensures.list c.make.ensures.steps c.make.ensures.alone c.make.ensures.at

pub returns-in-None-clause-tally : goal.returns-in-None-clause-tally
returns-in-None-clause-tally g c =
    let now = tally (g.P.Spawner.faults c.args.spawner.now) (g.P.Spawner.started c.args.spawner.now) (g.P.Spawner.carried c.args.spawner.now) in
    made_counts now c.args.self.now.main.list.items c.make.new.self.list.items c.args.self.now.others.items c.make.result c.make.ensures.list c.make.ensures.alone

pub start-requires-clause-next : goal.start-requires-clause-next
start-requires-clause-next g c κs within = start_is c.args.self.now c.requires.run c.args.self.now.main.forms.items c.forms.result.now c.in-Some-Start.u _ c.control_in.result c.requires.next.0 c.forms.ensures c.control_in.ensures (c.in-Some-Start.is ∙ ap (λ (x : Control). Some x) c.in-Some-Start.field-0-is)

pub join-requires-clause-next : goal.join-requires-clause-next
join-requires-clause-next g c κs within = join_is c.args.self.now c.requires.run c.args.self.now.main.forms.items c.forms.result.now c.in-Some-Join.u c.control_in.result c.requires.next.0 c.forms.ensures c.control_in.ensures (c.in-Some-Join.is ∙ ap (λ (x : Control). Some x) c.in-Some-Join.field-0-is)

pub unreachable-requires : goal.unreachable-requires
unreachable-requires g c = launch_is_not c.args.self.now c.requires.run c.args.self.now.main.forms.items c.forms.result.now _ _ c.control_in.result c.requires.next.0 c.forms.ensures c.control_in.ensures (c.in-Some-Launch.is ∙ ap (λ (x : Control). Some x) c.in-Some-Launch.field-0-is)

pub make-requires-clause-next : goal.make-requires-clause-next
make-requires-clause-next g c = next_as c.deref.result.now (arc_value c.args.self.now.objects.plan) c.args.self.now.main.thread c.args.self.now.main.local c.args.self.now.main.forms.items c.deref.ensures c.requires.run.kept.thread c.requires.next

pub make-requires-clause-alone : goal.make-requires-clause-alone
make-requires-clause-alone g c = no_control c.args.self.now.main.forms.items c.forms.result.now c.control_in.result c.forms.ensures c.control_in.ensures c.in-None.is

pub returns-in-None-clause-mains : goal.returns-in-None-clause-mains
returns-in-None-clause-mains g c = made_mains c.args.self.now.main.list.items c.make.new.self.list.items c.args.self.now.others.items c.make.result c.make.ensures.list c.requires.mains

pub returns-in-None-clause-out : goal.returns-in-None-clause-out
returns-in-None-clause-out g c = λ a b h. h

use Rattle.cx_scene.specs.Scene.{scene_of}
use Rattle.cx_history.specs.Views.{recorded_of}
use Rattle.cx_checker.proofs.Stops.{listed_stops, listed_unstarted, started_unlisted, neither}
use Rattle.cx_checker.proofs.texts.flaw_of_thread.Goals as goal

pub returns-then-is_started : goal.returns-then-is_started
returns-then-is_started c = λ l got. listed_stops (scene_of c.args.plan.now) (recorded_of c.args.record.now) c.args.t l c.has_list-listed.result c.args.is_started c.in_ok-found.found got (c.has_list-listed.ensures l got) c.requires.started c.if-listed.true c.if-is_started.true c.in_ok-found.ensures

pub returns-then-listed : goal.returns-then-listed
returns-then-listed c = λ l got. listed_unstarted (scene_of c.args.plan.now) (recorded_of c.args.record.now) c.args.t l c.has_list-listed.result c.args.is_started c.flaw.result (c.has_list-listed.ensures l got) c.requires.started c.if-listed.true c.if-is_started.false c.flaw.ensures

pub returns-then-is_started-2 : goal.returns-then-is_started-2
returns-then-is_started-2 c = λ l got. started_unlisted (scene_of c.args.plan.now) (recorded_of c.args.record.now) c.args.t l c.has_list-listed.result c.args.is_started c.flaw-then-is_started-2.result (c.has_list-listed.ensures l got) c.requires.started c.if-listed.false c.if-is_started-2.true c.flaw-then-is_started-2.ensures

pub returns : goal.returns
returns c = λ l got. neither (scene_of c.args.plan.now) (recorded_of c.args.record.now) c.args.t l c.has_list-listed.result c.args.is_started (c.has_list-listed.ensures l got) c.requires.started c.if-listed.false c.if-is_started-2.false

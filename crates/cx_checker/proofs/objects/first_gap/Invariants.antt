use Rattle.std.proofs.Common.{◌≡◌, drop}
use Rattle.cx_scene.specs.Scene.{scene_of}
use Rattle.cx_history.specs.Flaw.{gap_of, first_of_objects}
use Rattle.cx_history.specs.Views.{recorded_of}
use Rattle.cx_checker.proofs.objects.first_gap.Given as goal

abbrev pub invariant-loop-o : goal.invariant-loop-o
invariant-loop-o l = first_of_objects (gap_of (recorded_of l.record)) 0 (scene_of l.plan).objects ≡ first_of_objects (gap_of (recorded_of l.record)) l.o (drop l.o (scene_of l.plan).objects)

-- What a run asks for, and what is said of it by the bytes read.
use Rattle.std.proofs.Common.{◌≡◌, ℕ, ◌≤◌, List, length, sym, subst, ◌∙◌, Bool, true, false, Option, arith}
use Rattle.std.specs.Prelude.{vec_len}
use Rattle.cx_io.specs.Edge.{IsRead, Rose, WritesTo}
use Rattle.cx_scene.specs.declared.plan.Plan.{Plan}
use Rattle.cx_scene.specs.Scene.{Scene, scene_of}
use Rattle.cx_script.specs.Script.{Script}
use Rattle.cx_script.specs.Numbered.{numbered, IsScript}
use Rattle.cx_script.proofs.Scenes.{script_is_scene}
use Rattle.cx_work.specs.declared.objects.Objects.{Objects}
use Rattle.cx_work.specs.Bodies.{scene_in}
use Rattle.std.specs.Global.{Vec}
use Rattle.cx_kinds.specs.declared.access.Access.{Access}
use Rattle.cx_work.specs.RunNow.{IsRunNow, AreShared}
use Rattle.cx_run.specs.declared.scenario.Fronts.{Fronts}
use Rattle.cx_run.specs.Runs.{Tally}
use Rattle.cx_commands.specs.Top.{limit}
use Rattle.cx_commands.specs.Built.{is_built}
use Rattle.cx_commands.specs.Running.{IsRun, IsUnbuilt, IsNotBuilt, RunsUnwritten}
use Rattle.cx_commands.proofs.Building.{built_runs}

-- ---- what a run asks for

pub runs_plan : (s : Script) (p : Plan) → scene_of p ≡ numbered s → IsScript s → is_built s ≡ true → IsRunNow (scene_of p)
runs_plan s p e h b = subst (λ (x : Scene). IsRunNow x) (sym e) (built_runs s h b)

as_many : (p : Plan) → vec_len p.threads ≡ length (scene_of p).threads
as_many p = let known = p.threads.ok.0 in omega (arith, known)

pub few_threads : (s : Script) (p : Plan) → scene_of p ≡ numbered s → IsScript s → (1 ≤ vec_len p.threads) × (vec_len p.threads ≤ 64)
few_threads s p e h =
    let few = (script_is_scene s h).threads in
    let all : (1 ≤ length (scene_of p).threads) × (length (scene_of p).threads ≤ 64) = subst (λ (x : Scene). (1 ≤ length x.threads) × (length x.threads ≤ 64)) (sym e) (omega arith, few) in
    subst (λ n. (1 ≤ n) × (n ≤ 64)) (sym (as_many p)) all

pub few_in : (s : Script) (p : Plan) (o : Objects) → scene_in o ≡ scene_of p → scene_of p ≡ numbered s → IsScript s → (1 ≤ length (scene_in o).threads) × (length (scene_in o).threads ≤ 64)
few_in s p o same e h =
    let few = (script_is_scene s h).threads in
    subst (λ (x : Scene). (1 ≤ length x.threads) × (length x.threads ≤ 64)) (sym (same ∙ e)) (omega arith, few)

-- main's accesses and the others' share each latch as the scenario's threads take from it
pub shares_in : (p : Plan) (o : Objects) (all : List (Vec Access)) → scene_in o ≡ scene_of p → AreShared (scene_of p) all → AreShared (scene_in o) all
shares_in p o all same h = subst (λ (x : Scene). AreShared x all) (sym same) h

pub runs_objects : (p : Plan) (o : Objects) → scene_in o ≡ scene_of p → IsRunNow (scene_of p) → IsRunNow (scene_in o)
runs_objects p o e h = subst (λ (x : Scene). IsRunNow x) (sym e) h

-- ---- of the bytes read

pub unwritten : (fronts : Fronts) (bytes seen text pushed : List ℕ) (old new : Tally) (whole : Bool) (left before after : Option (List ℕ)) (faults now : ℕ) → whole ≡ false → IsRead limit left bytes → seen ≡ bytes
    → IsRun old new fronts seen text → pushed ≡ text → WritesTo whole before after faults now pushed → Rose faults now × RunsUnwritten left before after old new
unwritten fronts bytes seen text pushed old new true left before after faults now e read same says is wrote = absurd cc
unwritten fronts bytes seen text pushed old new false left before after faults now e read same says is wrote =
    let w = subst (λ (x : List ℕ). WritesTo false before after faults now x) is wrote in
    (w.1, (fronts, record { bytes = seen; text = text; read = subst (λ (x : List ℕ). IsRead limit left x) (sym same) read; says = says; wrote = w.2 }))

pub not_built : (left : Option (List ℕ)) (bytes seen : List ℕ) → IsRead limit left bytes → seen ≡ bytes → IsUnbuilt seen → IsNotBuilt left
not_built left bytes seen read same says = record { bytes = seen; read = subst (λ (x : List ℕ). IsRead limit left x) (sym same) read; says = says }

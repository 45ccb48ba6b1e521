-- Which scenarios may be run, as a test that computes.
use Rattle.std.specs.Prelude.{ℕ, suc, ◌==◌, ◌&&◌, Bool, true, false, List, [], ◌∷◌, length, nat_le}
use Rattle.std.specs.List.{list_all}
use Rattle.cx_scene.specs.declared.declared.Callback.{Callback}
use Rattle.cx_scene.specs.declared.declared.Object.{Object}
use Rattle.cx_scene.specs.declared.call.Call.{Call}
use Rattle.cx_scene.specs.declared.call.Call.TheVariants as calls
use Rattle.cx_scene.specs.Scene.{Scene, body_of}
use Rattle.cx_asks.specs.Scenes.{is_object_now, is_completed_on, is_thread_now, is_fit, startings, taken_below, count_of}

-- the bodies are those of thread t and the next ones: each has at most 4,096 calls, which are fit
abbrev pub are_fit : Scene → ℕ → List (List Call) → Bool
are_fit s t [] = true
are_fit s t (cs ∷ bodies) = nat_le (length cs) 4096 && list_all (is_fit s t) cs && are_fit s (suc t) bodies

-- the thread that this call starts isn't started by these calls
abbrev pub starts_anew : Call → List Call → Bool
starts_anew (calls.Start u) cs = startings u.0 cs == 0
starts_anew _ cs = true

-- no thread is started twice
abbrev pub start_once : List Call → Bool
start_once [] = true
start_once (c ∷ cs) = starts_anew c cs && start_once cs

-- the objects are number o and the next ones: from each latch no more is taken than it counts
abbrev pub are_enough : Scene → ℕ → List Object → Bool
are_enough s o [] = true
are_enough s o (d ∷ ds) = nat_le (taken_below s (length s.threads) o) (count_of d) && are_enough s (suc o) ds

abbrev pub are_none : List Callback → Bool
are_none [] = true
are_none _ = false

-- the scenario may be run
abbrev pub is_runnable : Scene → Bool
is_runnable s = list_all is_object_now s.objects && list_all is_thread_now s.threads && are_fit s 0 s.bodies && start_once (body_of s 0) && are_enough s 0 s.objects && are_none s.callbacks && list_all (is_completed_on s) s.objects

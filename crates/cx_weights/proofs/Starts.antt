-- What a scenario weighs at its start.
use Rattle.std.proofs.Common.{◌≡◌, ℕ, zero, suc, ◌+◌, ◌-◌, ◌*◌, ◌<◌, ◌≤◌, Bool, true, false, List, [], ◌∷◌, map, length, slice_get, Option, Some, None, refl, subst, arith}
use Rattle.std.specs.List.{list_all}
use Rattle.std.proofs.lemmas.Bool.{and_parts}
use Rattle.cx_scene.specs.declared.declared.Object.{Object}
use Rattle.cx_scene.specs.declared.declared.Object.TheVariants as objects
use Rattle.cx_scene.specs.declared.declared.Thread.{Thread}
use Rattle.cx_scene.specs.declared.declared.Thread.TheVariants as threads
use Rattle.cx_scene.specs.declared.call.Call.{Call}
use Rattle.cx_scene.specs.Scene.{Scene, body_of}
use Rattle.cx_items.specs.Memory.{kept_at_start, memory_at_start}
use Rattle.cx_items.specs.Next.{Local, next_tasks, start_of_body, local_at_start}
use Rattle.cx_weights.specs.Weights.{levels, end_weight, weight, is_sized_call, IsSized}
use Rattle.cx_weights.specs.World.{reserve, reserves, asked_in, weights, AllSized, opening_of, opening_states, starts_from, starts}
use Rattle.cx_weights.specs.Laws.{IsSmall, IsLight}
use Rattle.cx_weights.proofs.Opening.{opens_call}
use Rattle.cx_weights.proofs.Tasks.{ends_light, ends_sized}

no_level : (t : ℕ) (d : Object) → (kept_at_start t d).levels ≡ 0
no_level t (objects.Stop holders) = refl
no_level t objects.StopOfThread = refl
no_level t (objects.SharedPromise owner readers) = refl
no_level t d = refl

none_and_none : (a b : ℕ) → a ≡ 0 → b ≡ 0 → a + b ≡ 0
none_and_none a b h k = omega arith

no_levels : (t : ℕ) (ds : List Object) → levels (map (kept_at_start t) ds) ≡ 0
no_levels t [] = refl
no_levels t (d ∷ ds) = none_and_none (kept_at_start t d).levels (levels (map (kept_at_start t) ds)) (no_level t d) (no_levels t ds)

-- one thread

pub record Starts (s : Scene) (asked : ℕ → Bool) (l : Local) : Type 0 where
  pub light : weight s asked l ≤ 400000
  pub sized : IsSized l

ends_at_once : (a v o u : ℕ) → a ≤ v + (3 * o + 4 * u) → v ≡ 0 → o ≤ 128 → u ≤ 64 → a ≤ 400000
ends_at_once a v o u h k m n = omega arith

first_call : (a v o u n : ℕ) → a ≤ 19 + (262144 + (v + ((3 * o + 4 * u) + 19 * n))) → v ≡ 0 → o ≤ 128 → u ≤ 64 → suc n ≤ 4096 → a ≤ 400000
first_call a v o u n h k m p q = omega arith

starts_body : (s : Scene) (asked : ℕ → Bool) (t : ℕ) (cs : List Call) → IsSmall s → length cs ≤ 4096 → list_all is_sized_call cs ≡ true → Starts s asked (record { memory = memory_at_start s t; agenda = next_tasks s t (record { memory = memory_at_start s t; agenda = []; calls = cs; number = 0 }) cs; calls = cs; number = 0 })
starts_body s asked t [] small few h =
    let m = memory_at_start s t in
    record {
      light = ends_at_once (weight s asked (record { memory = m; agenda = next_tasks s t (record { memory = m; agenda = []; calls = []; number = 0 }) []; calls = []; number = 0 })) (levels m.kept) (length s.objects) (length s.threads) (ends_light s asked true ((16384 - 0) * 16 + (levels m.kept + (end_weight s + 19 * 0))) t m) (no_levels t s.objects) small.objects small.threads;
      sized = record { agenda = ends_sized s t m; calls = refl };
    }
starts_body s asked t (c ∷ cs) small few h =
    let m = memory_at_start s t in
    let p = and_parts (is_sized_call c) (list_all is_sized_call cs) h in
    let o = opens_call s t 0 m c p.0 in
    record {
      light = first_call (weight s asked (record { memory = m; agenda = next_tasks s t (record { memory = m; agenda = []; calls = c ∷ cs; number = 0 }) (c ∷ cs); calls = c ∷ cs; number = 0 })) (levels m.kept) (length s.objects) (length s.threads) (length cs) (o.weighs asked true (262144 + (levels m.kept + (end_weight s + 19 * length cs)))) (no_levels t s.objects) small.objects small.threads few;
      sized = record { agenda = o.sizes; calls = h };
    }

pub starts_small : (s : Scene) (asked : ℕ → Bool) (t : ℕ) → IsSmall s → Starts s asked (local_at_start s t)
starts_small s asked t small = go (slice_get s.threads t) refl
  where
    of_body : Starts s asked (start_of_body s t)
    of_body = starts_body s asked t (body_of s t) small (small.few t) (small.sized t)

    go : (o : Option Thread) → slice_get s.threads t ≡ o → Starts s asked (local_at_start s t)
    go None e = rw e of_body
    go (Some threads.Plain) e = rw e of_body
    go (Some (threads.Stoppable o)) e = rw e of_body
    go (Some (threads.Launched o)) e = rw e (record { light = omega arith; sized = record { agenda = refl; calls = small.sized t } })

-- ---- all threads

one_more_thread : (a w n : ℕ) → a ≤ 400000 → w ≤ 400000 * n → a + w ≤ 400000 * suc n
one_more_thread a w n h k = omega arith

threads_light : (s : Scene) (asked : ℕ → Bool) (t : ℕ) (us : List Thread) → IsSmall s → weights s asked (starts_from s t us) ≤ 400000 * length us
threads_light s asked t [] small = omega arith
threads_light s asked t (u ∷ us) small = one_more_thread (weight s asked (local_at_start s t)) (weights s asked (starts_from s (t + 1) us)) (length us) (starts_small s asked t small).light (threads_light s asked (t + 1) us small)

no_stop : ℕ → Bool
no_stop o = false

threads_sized : (s : Scene) (v : ℕ) (us : List Thread) → IsSmall s → AllSized (starts_from s v us)
threads_sized s v [] small t l e = cc
threads_sized s v (u ∷ us) small zero l e = let same : local_at_start s v ≡ l = cc in subst IsSized same (starts_small s no_stop v small).sized
threads_sized s v (u ∷ us) small (suc t) l e = threads_sized s (v + 1) us small t l e

-- ---- all objects

opening_reserve : (d : Object) → reserve (opening_of d) ≤ 4
opening_reserve objects.Once = omega arith
opening_reserve (objects.Stop holders) = omega arith
opening_reserve objects.StopOfThread = omega arith
opening_reserve d = omega arith

one_more_object : (a w n : ℕ) → a ≤ 4 → w ≤ 4 * n → a + w ≤ 4 * suc n
one_more_object a w n h k = omega arith

objects_light : (ds : List Object) → reserves (map opening_of ds) ≤ 4 * length ds
objects_light [] = omega arith
objects_light (d ∷ ds) = one_more_object (reserve (opening_of d)) (reserves (map opening_of ds)) (length ds) (opening_reserve d) (objects_light ds)

all_light : (r w o u : ℕ) → r ≤ 4 * o → w ≤ 400000 * u → o ≤ 128 → u ≤ 64 → r + w < 268435456
all_light r w o u h k m n = omega arith

pub scenario_is_light : (s : Scene) → IsSmall s → IsLight s
scenario_is_light s small = record {
  light = all_light (reserves (opening_states s)) (weights s (asked_in (opening_states s)) (starts s)) (length s.objects) (length s.threads) (objects_light s.objects) (threads_light s (asked_in (opening_states s)) 0 s.threads small) small.objects small.threads;
  sized = threads_sized s 0 s.threads small;
}

-- Replays by their number of turns.
use Rattle.std.proofs.Common.{◌≡◌, ℕ, Option, Some, None, option_and_then, refl}
use Rattle.cx_scene.specs.Scene.{Scene}
use Rattle.cx_replay.specs.Schedule.{Turn, Replayed, Replays, turn, turns, replayed, if_over, replay_in, opening_world}

pub replayed_in : (n : ℕ) (s : Scene) (seed : Option ℕ) (end : Replayed) → replay_in n s seed ≡ Some end → Replays s seed end
replayed_in n s seed end h = go (turns n s (record { world = opening_world s; seed = seed })) refl h
  where
    over : (x : Turn) → turns n s (record { world = opening_world s; seed = seed }) ≡ Some x → (o : Option Turn) → turn s x ≡ o → (let w : Option Replayed = elim o [ None ↦ Some (replayed s x) | Some y ↦ None ] in w ≡ Some end) → Replays s seed end
    over x run None last e = record { count = n; last = x; run = run; over = last; result = cc }
    over x run (Some y) last e = cc

    go : (o : Option Turn) → turns n s (record { world = opening_world s; seed = seed }) ≡ o → option_and_then (if_over s) o ≡ Some end → Replays s seed end
    go None run e = cc
    go (Some x) run e = over x run (turn s x) refl e

-- Which threads start others.
use Rattle.std.specs.Prelude.{◌≡◌, ℕ, ◌<◌, Bool, true, false}
use Rattle.std.specs.List.{list_any}
use Rattle.cx_scene.specs.declared.call.Call.{Call}
use Rattle.cx_scene.specs.declared.call.Call.TheVariants as calls
use Rattle.cx_scene.specs.Scene.{Scene, body_of}

abbrev pub starts_a_thread : Call → Bool
starts_a_thread (calls.Start t) = true
starts_a_thread (calls.Launch a) = true
starts_a_thread _ = false

-- threads are started, and asyncs launched, by main alone
abbrev pub OnlyMainStarts : Scene → Type 0
OnlyMainStarts s = (t : ℕ) → 0 < t → list_any starts_a_thread (body_of s t) ≡ false

-- Records that follow the text of a scenario.
use Rattle.std.specs.Prelude.{◌≡◌, ℕ, ◌+◌, ◌==◌, ◌&&◌, ◌||◌, not, Bool, true, false, IsTrue, List, [], ◌∷◌, length, filter, slice_get, Option, Some, None, is_some, nat_le, option_and_then}
use Rattle.cx_scene.specs.Scene.{Scene, kind_of}
use Rattle.cx_items.specs.declared.item.Control.TheVariants as controls
use Rattle.cx_items.specs.declared.item.Item.{Item}
use Rattle.cx_items.specs.declared.item.Item.TheVariants as items
use Rattle.cx_machine.specs.Machine.{State, Barrier as ABarrier, opening, run}
use Rattle.cx_history.specs.Histories.{Recorded, Placed, list_of, changes_of, in_order, entries, is_at}
use Rattle.cx_items.specs.Next.{Local, after_item, local_at_start, is_ended}

-- ---- completions

abbrev pub no_gap_from : ℕ → List Placed → Bool
no_gap_from k [] = true
no_gap_from k (c ∷ cs) = is_at k c && no_gap_from (k + 1) cs

abbrev pub is_completing : Option State → Bool
is_completing (Some (ABarrier b)) = is_some b.completing
is_completing _ = false

-- the changes up to and with that at p hold each position once, are legal, and leave the barrier completing
abbrev pub completes_by : State → List Placed → ℕ → Bool
completes_by from changes p =
    let cs = filter (λ c. nat_le c.position p) (in_order changes) in
    no_gap_from 0 cs && is_completing (run from (entries cs))

abbrev pub completes : Scene → Recorded → ℕ → ℕ → Bool
completes s r o p = elim (slice_get s.objects o) [ None ↦ false | Some d ↦ completes_by (opening (kind_of d)) (changes_of r o) p ]

-- ---- lists

abbrev pub starts : ℕ → Item → Bool
starts t (items.Control (controls.Start u ok)) = ok && (u.0 == t)
starts t (items.Control (controls.Launch u ok)) = ok && (u.0 == t)
starts t _ = false

abbrev pub any_starts : ℕ → List Item → Bool
any_starts t [] = false
any_starts t (x ∷ xs) = starts t x || any_starts t xs

-- main, and the threads that main's items start or launch
abbrev pub has_started : Recorded → ℕ → Bool
has_started r t = (t == 0) || any_starts t (list_of r 0)

-- where the thread stands after these items, or none where one of them isn't allowed
abbrev pub after_items : Scene → (ℕ → ℕ → Bool) → ℕ → Local → List Item → Option Local
after_items s leaves_completing t l [] = Some l
after_items s leaves_completing t l (x ∷ xs) = option_and_then (λ k. after_items s leaves_completing t k xs) (after_item s leaves_completing t l x)

-- the items are those of the whole body and its end
abbrev pub is_whole : Option Local → Bool
is_whole None = false
is_whole (Some l) = is_ended l

abbrev pub list_follows : Scene → Recorded → ℕ → Option (List Item) → Bool
list_follows s r t None = not (has_started r t)
list_follows s r t (Some xs) = has_started r t && is_whole (after_items s (completes s r) t (local_at_start s t) xs)

pub record Follows (s : Scene) (r : Recorded) : Type 0 where
  pub count : length r.lists ≡ length s.threads
  pub each : (t : ℕ) (l : Option (List Item)) → slice_get r.lists t ≡ Some l → IsTrue (list_follows s r t l)

-- ---- a record so far

-- the items are such that the text allows them so far
abbrev pub list_follows_so_far : Scene → Recorded → ℕ → Option (List Item) → Bool
list_follows_so_far s r t None = not (has_started r t)
list_follows_so_far s r t (Some xs) = has_started r t && is_some (after_items s (completes s r) t (local_at_start s t) xs)

pub record FollowsSoFar (s : Scene) (r : Recorded) : Type 0 where
  pub count : length r.lists ≡ length s.threads
  pub each : (t : ℕ) (l : Option (List Item)) → slice_get r.lists t ≡ Some l → IsTrue (list_follows_so_far s r t l)

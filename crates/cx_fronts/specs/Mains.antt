-- What holds of main and of those that it started, while its list grows, and what they come to at the end.
use Rattle.std.specs.Prelude.{◌≡◌, ◌≢◌, ℕ, ◌==◌, Bool, true, false, List, [], slice_get, Some, if◌then◌else◌}
use Rattle.cx_machine.specs.Machine.{IsLegal}
use Rattle.cx_scene.specs.declared.declared.Object.{Object}
use Rattle.cx_scene.specs.Scene.{Scene, kind_of}
use Rattle.cx_items.specs.declared.item.Item.{Item}
use Rattle.cx_history.specs.Histories.{Recorded, list_of}
use Rattle.cx_history.specs.Follows.{any_starts}
use Rattle.cx_fronts.specs.Positions.{positions}
use Rattle.cx_fronts.specs.Paths.{Fronts, Grows, nothing, none_own, Moved, Path}
use Rattle.cx_fronts.specs.Growing.{any_joins}
use Rattle.cx_fronts.specs.Runs.{FromPasses}

-- the threads' lists, with that of one more
abbrev pub with_list : (ℕ → List Item) → ℕ → List Item → ℕ → List Item
with_list lists u xs v = if v == u then xs else lists v

-- a joined thread made its list from h to k, and f has taken in its last fronts
pub record Joined (s : Scene) (u : ℕ) (h k : Fronts) (xs : List Item) (f : Fronts) : Type 0 where
  pub made : (first last : ℕ → Fronts) → Path s first last u h xs k
  pub taken : Grows k f

-- main has made xs and seen f; lists are those of the threads that it joined
pub record Main (s : Scene) (first last : ℕ → Fronts) (lists : ℕ → List Item) (xs : List Item) (f : Fronts) : Type 0 where
  pub path : Path s first last 0 nothing xs f
  -- a thread that was started began without a change of its own
  pub clean : (u : ℕ) → any_starts u xs ≡ true → (o : ℕ) → positions u 0 (first u o) ≡ []
  pub started : (u : ℕ) → any_joins u xs ≡ true → any_starts u xs ≡ true
  pub joined : (u : ℕ) → any_joins u xs ≡ true → Joined s u (first u) (last u) (lists u) f

-- ---- the end

-- a thread other than main at the end: it began without a change of its own, it made its list whatever others began and ended
-- with, and main's last fronts have taken in its last ones and show no later change of it
pub record Finished (s : Scene) (t : ℕ) (xs : List Item) (h k F : Fronts) : Type 0 where
  pub unused : (o : ℕ) → positions t 0 (h o) ≡ []
  pub made : (first last : ℕ → Fronts) → Path s first last t h xs k
  pub taken : Moved t k F none_own

-- where a thread that main didn't join by an item began and ended; one that it started began with `first`
pub record Ending (s : Scene) (t : ℕ) (started joined : Bool) (xs : List Item) (first F : Fronts) : Type 0 where
  pub begun : Fronts
  pub ended : Fronts
  pub finished : t ≢ 0 → joined ≡ false → Finished s t xs (if started then first else begun) ended F

-- ---- laws

abbrev pub RunsEnd : Type 0
RunsEnd = (s : Scene) (r : Recorded) (first last : ℕ → Fronts) (F : Fronts) → Path s first last 0 nothing (list_of r 0) F → any_starts 0 (list_of r 0) ≡ false → any_joins 0 (list_of r 0) ≡ false → ((o : ℕ) (d : Object) → slice_get s.objects o ≡ Some d → IsLegal (kind_of d) (F o)) → ((t : ℕ) → t ≢ 0 → Finished s t (list_of r t) (first t) (last t) F) → FromPasses s r

-- what main kept comes to the same, once all that it didn't join by an item has ended too
abbrev pub MainsEnd : Type 0
MainsEnd = (s : Scene) (r : Recorded) (first last : ℕ → Fronts) (F : Fronts) → Main s first last (list_of r) (list_of r 0) F → any_starts 0 (list_of r 0) ≡ false → any_joins 0 (list_of r 0) ≡ false → ((o : ℕ) (d : Object) → slice_get s.objects o ≡ Some d → IsLegal (kind_of d) (F o)) → ((t : ℕ) → any_joins t (list_of r 0) ≡ true → (o : ℕ) → positions t 0 (F o) ≡ positions t 0 (last t o)) → ((t : ℕ) → Ending s t (any_starts t (list_of r 0)) (any_joins t (list_of r 0)) (list_of r t) (first t) F) → FromPasses s r

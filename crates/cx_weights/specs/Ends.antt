-- Where the list of a thread so far can go on to the end of its text.
use Rattle.std.specs.Prelude.{◌≡◌, ℕ, Bool, true, List, ◌++◌, is_some}
use Rattle.cx_scene.specs.Scene.{Scene}
use Rattle.cx_script.specs.Script.{Script}
use Rattle.cx_script.specs.Numbered.{IsScript, numbered}
use Rattle.cx_items.specs.declared.item.Item.{Item}
use Rattle.cx_items.specs.Next.{local_at_start}
use Rattle.cx_history.specs.Follows.{after_items, is_whole}

-- some more items make these a list of the whole body and its end
pub record CanEnd (s : Scene) (completes : ℕ → ℕ → Bool) (t : ℕ) (xs : List Item) : Type 0 where
  pub more : List Item
  pub whole : is_whole (after_items s completes t (local_at_start s t) (xs ++ more)) ≡ true

-- EACH LIST THAT THE TEXT ALLOWS SO FAR IS A PREFIX OF ONE THAT IT ALLOWS WHOLE, whichever completions are due
abbrev pub SoFarCanEnd : Type 0
SoFarCanEnd = (x : Script) (completes : ℕ → ℕ → Bool) (t : ℕ) (xs : List Item) → IsScript x → is_some (after_items (numbered x) completes t (local_at_start (numbered x) t) xs) ≡ true → CanEnd (numbered x) completes t xs

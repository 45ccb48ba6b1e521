-- How many changes a list makes.
use Rattle.std.specs.Prelude.{◌≡◌, ℕ, zero, suc, ◌+◌, List, [], ◌∷◌, length}
use Rattle.cx_scene.specs.Scene.{Scene}
use Rattle.cx_items.specs.declared.item.Item.{Item}
use Rattle.cx_items.specs.declared.item.Item.TheVariants as items
use Rattle.cx_fronts.specs.Paths.{own_in, AreItems}

-- how many of the items are changes
abbrev pub change_count : List Item → ℕ
change_count [] = 0
change_count (items.Change q p e ∷ xs) = 1 + change_count xs
change_count (x ∷ xs) = change_count xs

-- how many are changes on the objects below n
abbrev pub count_below : ℕ → List Item → ℕ
count_below zero xs = 0
count_below (suc n) xs = count_below n xs + length (own_in n xs)

-- ---- laws

-- the changes on each object are the changes of the list
abbrev pub ChangesAreCounted : Type 0
ChangesAreCounted = (s : Scene) (t : ℕ) (xs : List Item) → AreItems s t xs → count_below (length s.objects) xs ≡ change_count xs

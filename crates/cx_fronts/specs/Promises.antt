-- What a piece of a thread's body promises of its passes and of the items that it makes.
use Rattle.std.specs.Prelude.{◌≡◌, ℕ, List, ◌++◌, length}
use mathlib.Core.List.{IsPrefix}
use Rattle.cx_names.specs.declared.ObjectNo.{ObjectNo}
use Rattle.cx_machine.specs.declared.kind.Entry.{Entry}
use Rattle.cx_scene.specs.Scene.{Scene}
use Rattle.cx_items.specs.declared.item.Item.{Item}
use Rattle.cx_fronts.specs.Positions.{positions}
use Rattle.cx_fronts.specs.Paths.{Fronts, Goes, Path}
use Rattle.cx_fronts.specs.Logs.{Act, log_own, FitsFrom}

-- whatever fronts the passes show before, they show some after, and this item leads there
abbrev pub PromisesOne : Scene → ℕ → (Fronts → Type 0) → Item → (Fronts → Type 0) → Type 0
PromisesOne s t before x later = (f : Fronts) → before f → (g : Fronts) × later g × ((first last : ℕ → Fronts) → Goes s first last t f g x)

-- whatever fronts the passes show before, they show some after, and a path that makes these items leads there
abbrev pub Promised : Scene → ℕ → (Fronts → Type 0) → List Item → (Fronts → Type 0) → Type 0
Promised s t before xs later = (f : Fronts) → before f → (g : Fronts) × later g × ((first last : ℕ → Fronts) → Path s first last t f xs g)

-- what a call on one object ensures of its pass, by what the pass shows before and after it
abbrev pub Ensured : Scene → ℕ → ObjectNo → (List Entry → Type 0) → List Act → (List Entry → Type 0) → Type 0
Ensured s t q before acts later = (F : List Entry) → before F → (H : List Entry) × later H × IsPrefix F H × FitsFrom s t q H (length F) acts × (positions t 0 H ≡ positions t 0 F ++ log_own acts)

-- each object's pass shows the front of that object
abbrev pub EachShows : (ℕ → List Entry → Type 0) → Fronts → Type 0
EachShows P f = (o : ℕ) → P o (f o)

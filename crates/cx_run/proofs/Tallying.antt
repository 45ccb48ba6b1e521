-- A spawner's counts go on with a run's items.
use Rattle.std.proofs.Common.{◌≡◌, inl, inr, ℕ, zero, suc, ◌+◌, true, false, List, [], ◌∷◌, ◌++◌, map, slice_get, slice_set, Some, refl, sym, ap, subst, arith}
use Rattle.cx_items.specs.declared.item.Control.TheVariants as controls
use Rattle.cx_items.specs.declared.item.Item.{Item}
use Rattle.cx_items.specs.declared.item.Item.TheVariants as items
use Rattle.cx_io.specs.Spawning.{Raised, RaisedAtLeast}
use Rattle.cx_io.proofs.Counts.{raised_none, raised_more, at_least_none}
use Rattle.cx_work.specs.Steps.{is_made_alone}
use Rattle.cx_run.specs.declared.place.Place.{Place}
use Rattle.cx_run.specs.declared.place.Place.TheVariants as places
use Rattle.cx_run.specs.Runs.{starts_in, refusals_in, Tally, IsTallied, steps_at, steps_in, list_at}
use Rattle.cx_run.specs.Results.{changes_in_all}

at_least_more : (a b c m n : ℕ) → RaisedAtLeast a b m → RaisedAtLeast b c n → RaisedAtLeast a c (m + n)
at_least_more a b c m n (inl x) (inl y) = inl (omega arith)
at_least_more a b c m n x (inr y) = inr y
at_least_more a b c m n (inr x) (inl y) = inr (omega arith)

starts_more : (xs ys : List Item) → starts_in (xs ++ ys) ≡ starts_in xs + starts_in ys
starts_more [] ys = omega arith
starts_more (items.Control (controls.Start u true) ∷ xs) ys = omega (arith, starts_more xs ys)
starts_more (items.Control (controls.Start u false) ∷ xs) ys = starts_more xs ys
starts_more (items.Control (controls.Launch u true) ∷ xs) ys = omega (arith, starts_more xs ys)
starts_more (items.Control (controls.Launch u false) ∷ xs) ys = starts_more xs ys
starts_more (items.Control (controls.Join u) ∷ xs) ys = starts_more xs ys
starts_more (items.Change q n e ∷ xs) ys = starts_more xs ys
starts_more (items.Look q l ∷ xs) ys = starts_more xs ys
starts_more (items.Said r ∷ xs) ys = starts_more xs ys

refusals_more : (xs ys : List Item) → refusals_in (xs ++ ys) ≡ refusals_in xs + refusals_in ys
refusals_more [] ys = omega arith
refusals_more (items.Control (controls.Start u true) ∷ xs) ys = refusals_more xs ys
refusals_more (items.Control (controls.Start u false) ∷ xs) ys = omega (arith, refusals_more xs ys)
refusals_more (items.Control (controls.Launch u true) ∷ xs) ys = refusals_more xs ys
refusals_more (items.Control (controls.Launch u false) ∷ xs) ys = omega (arith, refusals_more xs ys)
refusals_more (items.Control (controls.Join u) ∷ xs) ys = refusals_more xs ys
refusals_more (items.Change q n e ∷ xs) ys = refusals_more xs ys
refusals_more (items.Look q l ∷ xs) ys = refusals_more xs ys
refusals_more (items.Said r ∷ xs) ys = refusals_more xs ys

pub tallied_none : (a : Tally) → IsTallied a a [] 0
tallied_none a = record { faults = at_least_none a.faults; started = raised_none a.started; carried = raised_none a.carried }

pub tallied_more : (a b c : Tally) (xs ys : List Item) (m n : ℕ) → IsTallied a b xs m → IsTallied b c ys n → IsTallied a c (xs ++ ys) (m + n)
tallied_more a b c xs ys m n x y = record {
  faults = subst (λ k. RaisedAtLeast a.faults c.faults k) (sym (refusals_more xs ys)) (at_least_more a.faults b.faults c.faults (refusals_in xs) (refusals_in ys) x.faults y.faults);
  started = subst (λ k. Raised a.started c.started k) (sym (starts_more xs ys)) (raised_more a.started b.started c.started (starts_in xs) (starts_in ys) x.started y.started);
  carried = raised_more a.carried b.carried c.carried m n x.carried y.carried;
}

pub tallied_first : (a : Tally) (xs : List Item) (n : ℕ) → xs ≡ [] → n ≡ 0 → IsTallied a a xs n
tallied_first a xs n none_ zero_ = rw (none_, zero_) (tallied_none a)

-- an item that starts nobody
pub tallied_alone : (a : Tally) (x : Item) → is_made_alone x ≡ true → IsTallied a a (x ∷ []) 0
tallied_alone a (items.Change q n e) alone = record { faults = at_least_none a.faults; started = raised_none a.started; carried = raised_none a.carried }
tallied_alone a (items.Look q l) alone = record { faults = at_least_none a.faults; started = raised_none a.started; carried = raised_none a.carried }
tallied_alone a (items.Said r) alone = record { faults = at_least_none a.faults; started = raised_none a.started; carried = raised_none a.carried }
tallied_alone a (items.Control c) alone = cc alone

-- ---- steps of ended threads

pub steps_set : {G : Type 0} (ps : List (Place G)) (i : ℕ) (p q : Place G) → slice_get ps i ≡ Some p → steps_in (slice_set ps i q) + steps_at p ≡ steps_in ps + steps_at q
steps_set [] i p q h = cc h
steps_set (r ∷ ps) zero p q h = let same : r ≡ p = cc in let is : steps_at r ≡ steps_at p = ap steps_at same in omega (arith, is)
steps_set (r ∷ ps) (suc i) p q h = omega (arith, steps_set ps i p q h)

pub steps_are : {G : Type 0} (ps : List (Place G)) → changes_in_all (map list_at ps) ≡ steps_in ps
steps_are [] = refl
steps_are (places.Waiting w ∷ ps) = omega (arith, steps_are ps)
steps_are (places.Running t ∷ ps) = omega (arith, steps_are ps)
steps_are (places.Ended ys ∷ ps) = omega (arith, steps_are ps)
steps_are (places.Idle ∷ ps) = omega (arith, steps_are ps)

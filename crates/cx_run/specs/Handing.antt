-- What accesses show where threads meet, and where one takes another's in.
use Rattle.std.specs.Prelude.{◌≡◌, ℕ, List, length, slice_get, Some}
use mathlib.Core.List.{IsPrefix}
use Rattle.cx_machine.specs.declared.kind.Entry.{Entry}
use Rattle.cx_machine.specs.Machine.{State}
use Rattle.cx_turn.specs.declared.view.View.{View}
use Rattle.cx_turn.specs.declared.view.Gone.{Gone}
use Rattle.cx_turn.specs.Views.{gone_of}
use Rattle.cx_fronts.specs.Positions.{positions}
use Rattle.cx_fronts.specs.Paths.{Fronts}
use Rattle.cx_kinds.specs.declared.access.Access.{Access}
use Rattle.cx_kinds.specs.Accesses.{object_of, kept_of, Knows}
use Rattle.cx_kinds.specs.Sights.{Stays, Met, Joined}

-- ---- the passes that an access's pass has taken in

-- a pass with this number and these positions is among those taken in
abbrev pub IsTaken : List Gone → ℕ → List ℕ → Type 0
IsTaken gs n ps = (i : ℕ) × (slice_get gs i ≡ Some (gone_of n ps))

-- the access has taken in one of thread u with these positions
abbrev pub HasTaken : Access → ℕ → List ℕ → Type 0
HasTaken k u ps = (v : View State) → Knows k v → IsTaken v.taken u ps

-- so many passes were split off the access's pass
abbrev pub IsSplit : Access → ℕ → Type 0
IsSplit k n = (v : View State) → Knows k v → v.splits ≡ n

-- ---- one object

-- the history begins with both, and shows the changes of t that the second shows
pub record IsBoth (t : ℕ) (F H G : List Entry) : Type 0 where
  pub one : IsPrefix F G
  pub two : IsPrefix H G
  pub own : positions t 0 G ≡ positions t 0 H

-- the access goes on as it was
pub record IsAsBefore (k k' : Access) : Type 0 where
  pub object : object_of k' ≡ object_of k
  pub kept : kept_of k' ≡ kept_of k
  pub stays : Stays (Knows k) (Knows k')

-- the access has seen besides what another has seen
pub record HasMet (other k k' : Access) : Type 0 where
  pub object : object_of k' ≡ object_of k
  pub kept : kept_of k' ≡ kept_of k
  pub met : Met (Knows other) (Knows k) (Knows k')

-- the access has taken another in
pub record TakesIn (other k k' : Access) : Type 0 where
  pub object : object_of k' ≡ object_of k
  pub kept : kept_of k' ≡ kept_of k
  pub joined : Joined (Knows other) (Knows k) (Knows k')

-- ---- all objects

-- so many accesses, of which each is so to that at its place before
pub record EachGoes (ks ks' : List Access) (P : ℕ → Access → Access → Type 0) : Type 0 where
  pub count : length ks' ≡ length ks
  pub each : (o : ℕ) (k k' : Access) → slice_get ks o ≡ Some k → slice_get ks' o ≡ Some k' → P o k k'

abbrev pub AllAsBefore : List Access → List Access → Type 0
AllAsBefore ks ks' = EachGoes ks ks' (λ o k k'. IsAsBefore k k')

abbrev pub AllMet : List Access → List Access → List Access → Type 0
AllMet others ks ks' = EachGoes ks ks' (λ o k k'. (other : Access) → slice_get others o ≡ Some other → HasMet other k k')

abbrev pub AllTakeIn : List Access → List Access → List Access → Type 0
AllTakeIn others ks ks' = EachGoes ks ks' (λ o k k'. (other : Access) → slice_get others o ≡ Some other → TakesIn other k k')

-- each access has taken in one of thread u that showed these fronts
abbrev pub HaveTaken : List Access → ℕ → Fronts → Type 0
HaveTaken ks u f = (o : ℕ) (k : Access) → slice_get ks o ≡ Some k → HasTaken k u (positions u 0 (f o))
